use Rattle.cb_outcome.proofs.Outcomes.{passed_go_to_job}
use Rattle.cb_outcome.proofs.laws.passed_go_to_job.Goals as goal

pub returns : goal.returns
returns c = passed_go_to_job
