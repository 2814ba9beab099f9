use Rattle.std.proofs.Common.{◌≡◌, ◌≤◌, ◌-◌, length, take}
use Rattle.cb_codes.specs.Grouped.{FitsTogether}
use Rattle.cb_matrix.specs.Coded.{AddsCodedProblems}
use Rattle.cb_matrix.specs.Searched.{CostsWithin, IsSearcher}
use Rattle.cb_matrix.proofs.searched.add_searched.Given as goal

abbrev pub invariant-loop-done : goal.invariant-loop-done
invariant-loop-done g l = record {
  same : l.graph ≡ l.initial.graph;
  within : l.done ≤ length l.nodes;
  searcher : IsSearcher l.initial.graph l.searcher;
  adds : AddsCodedProblems l.initial.graph l.columns (take l.done l.nodes) l.initial.grouping l.grouping;
  sound : FitsTogether (length l.columns) l.grouping;
  cost : CostsWithin l.initial.graph (take l.done l.nodes) l.initial.steps l.steps;
}

abbrev pub decreases-loop-done : goal.decreases-loop-done
decreases-loop-done g l = length l.nodes - l.done
