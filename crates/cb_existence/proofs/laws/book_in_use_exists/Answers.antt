use Rattle.cb_existence.proofs.Choices.{book_in_use_exists}
use Rattle.cb_existence.proofs.laws.book_in_use_exists.Goals as goal

pub returns : goal.returns
returns c = book_in_use_exists
