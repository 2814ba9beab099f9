use Rattle.cb_existence.proofs.Answering.{finding_exists}
use Rattle.cb_existence.proofs.laws.finding_exists.Goals as goal

pub returns : goal.returns
returns c = λ columns groups book_columns used raised some rise. finding_exists columns groups book_columns raised some rise used
