use Rattle.std.proofs.Common.{◌≡◌, map, take}
use Rattle.cb_topo.specs.Sorted.{id_named}
use Rattle.cb_topo.proofs.sorted.in_name_order.Given as goal

abbrev pub invariant-loop-one : goal.invariant-loop-one
invariant-loop-one g l = l.ids.items ≡ map id_named (take l.one-index l.one-items)
