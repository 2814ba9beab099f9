use Rattle.cb_cert.proofs.Allowed.{prefixes_may_come}
use Rattle.cb_cert.proofs.Completed.{may_come_begins}
use Rattle.cb_cert.proofs.laws.places_are_exact.Goals as goal

pub returns : goal.returns
returns c = λ ls. (may_come_begins ls, prefixes_may_come ls)
