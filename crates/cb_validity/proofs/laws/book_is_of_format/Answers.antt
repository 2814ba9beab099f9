use Rattle.cb_validity.proofs.Formats.{book_is_of_format as proved}
use Rattle.cb_validity.proofs.laws.book_is_of_format.Goals as goal

pub returns : goal.returns
returns c = proved
