use Rattle.cb_existence.proofs.Answering.{cap_book_exists}
use Rattle.cb_existence.proofs.laws.cap_book_exists.Goals as goal

pub returns : goal.returns
returns c = cap_book_exists
