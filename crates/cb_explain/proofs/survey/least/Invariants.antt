use Rattle.std.proofs.Common.{take}
use Rattle.cb_breadth.specs.Lists.{IsAmong}
use Rattle.cb_explain.specs.Surveyed.{IsLeastIfSome, IsWrongAt, IsNoHigher}
use Rattle.cb_explain.proofs.survey.least.Given as goal

abbrev pub invariant-loop-position : goal.invariant-loop-position
invariant-loop-position l = IsLeastIfSome (λ k. IsAmong (take l.position l.successors) k × IsWrongAt l.levels l.listed.nodes.items l.level l.fault k) (IsNoHigher l.ranks) l.least
