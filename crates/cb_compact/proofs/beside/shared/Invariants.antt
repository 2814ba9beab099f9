use Rattle.std.proofs.Common.{◌≡◌, false, take, slice_index_or}
use Rattle.std.specs.List.{count_by}
use Rattle.cb_compact.proofs.beside.shared.Given as goal

abbrev pub invariant-loop-position : goal.invariant-loop-position
invariant-loop-position l = l.count ≡ count_by (λ k. slice_index_or l.row k false) (take l.position-index l.positions)
