use Rattle.std.proofs.Common.{length, take}
use Rattle.cb_codes.specs.Grouped.{FitsTogether}
use Rattle.cb_matrix.specs.Coded.{AddsCodedProblems, IsCoder}
use Rattle.cb_matrix.proofs.coded.add_by_rows.Given as goal

abbrev pub invariant-loop-node : goal.invariant-loop-node
invariant-loop-node l = record {
  adds : AddsCodedProblems l.topology l.columns (take l.node-index l.nodes) l.initial.grouping l.grouping;
  sound : FitsTogether (length l.columns) l.grouping;
  coder : IsCoder l.rows l.columns l.coder;
}
