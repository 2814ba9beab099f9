use Rattle.std.proofs.Common.{sym, ◌∙◌}
use Rattle.std.proofs.lemmas.Bool.{false≢true}
use Rattle.cb_topo.proofs.topology.Topology.is_column.Goals as goal

pub returns-else-marks_of : goal.returns-else-marks_of
returns-else-marks_of c = λ name named. (
  λ yes. absurd (false≢true (sym c.if-marks_of.false ∙ yes)),
  λ column. (c.marks_of.ensures.symptom name named).1 column.symptom,
)
