use Rattle.std.proofs.Common.{take}
use Rattle.cb_nodes.specs.Kept.{Frees}
use Rattle.cb_nodes.proofs.lists.free_all.Given as goal

abbrev pub invariant-loop-listed : goal.invariant-loop-listed
invariant-loop-listed l = Frees l.initial.numbers l.numbers (take l.listed-index l.list)
