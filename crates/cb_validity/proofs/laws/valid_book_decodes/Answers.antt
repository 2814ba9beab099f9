use Rattle.cb_validity.proofs.Wholes.{valid_book_decodes as proved}
use Rattle.cb_validity.proofs.laws.valid_book_decodes.Goals as goal

pub returns : goal.returns
returns c = proved
