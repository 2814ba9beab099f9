use Rattle.cb_instances.proofs.Joining.{parted}
use Rattle.cb_instances.proofs.join.part.Goals as goal

pub returns-clause-parts : goal.returns-clause-parts
returns-clause-parts c = parted _ _ _ _ _ _ _ c.take_away.ensures.rewires c.take_away-2.ensures.rewires
