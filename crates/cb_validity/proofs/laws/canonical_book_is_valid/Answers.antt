use Rattle.cb_validity.proofs.Canonicals.{canonical_book_is_valid as proved}
use Rattle.cb_validity.proofs.laws.canonical_book_is_valid.Goals as goal

pub returns : goal.returns
returns c = proved
