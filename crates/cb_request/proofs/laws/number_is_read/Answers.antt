use Rattle.cb_request.proofs.NumberWords.{number_is_read}
use Rattle.cb_request.proofs.laws.number_is_read.Goals as goal

pub returns : goal.returns
returns c = number_is_read
