use Rattle.cb_outcome.proofs.Outcomes.{done_reads_all}
use Rattle.cb_outcome.proofs.laws.done_reads_all.Goals as goal

pub returns : goal.returns
returns c = done_reads_all
