use Rattle.std.proofs.Common.{refl}
use Rattle.cb_outcome.proofs.laws.file_words_are_read.Goals as goal

pub returns : goal.returns
returns c = λ m t certificate. (refl, refl, refl, refl)
