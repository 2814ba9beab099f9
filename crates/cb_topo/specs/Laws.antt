-- What holds of the bounds on numbers after an edit.
use Rattle.std.specs.Prelude.{◌≡◌, ℕ}
use Rattle.cb_model.specs.WellTyped.{WellTyped}
use Rattle.cb_network.specs.declared.edit.Edit.{Edit}
use Rattle.cb_topo.specs.Applied.{IsNodeCapacityAfter}
use Rattle.cb_topo.specs.Numbered.{Numbered, topology_of}

-- the bound on numbers of nodes after an edit is one number
abbrev pub NodeCapacityIsOne : Type 0
NodeCapacityIsOne = (n : Numbered) (edit : Edit) (capacity other : ℕ) → WellTyped (topology_of n).model → IsNodeCapacityAfter n edit capacity
    → IsNodeCapacityAfter n edit other → capacity ≡ other
