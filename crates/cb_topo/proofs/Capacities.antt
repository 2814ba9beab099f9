-- The capacity of instances after an edit.
use Rattle.std.proofs.Common.{ℕ, ◌<◌, ◌≤◌, arith}
use Rattle.cb_network.specs.declared.edit.Edit.{Edit}
use Rattle.cb_network.specs.declared.edit.Edit.TheVariants.{Create, Delete, Link, Unlink, Mute, Unmute}
use Rattle.cb_topo.specs.Applied.{IsInstanceCapacityAfter, MayGrow}
use Rattle.cb_topo.specs.Numbered.{Numbered}

-- it is that of what the edit makes
pub capacity_fits : (old new : Numbered) (edit : Edit) (capacity : ℕ) → IsInstanceCapacityAfter old edit capacity → IsInstanceCapacityAfter old edit new.net.capacity
    → new.net.capacity ≤ capacity
capacity_fits old new (Create name class) capacity is made = omega arith
capacity_fits old new (Delete name) capacity is made = omega arith
capacity_fits old new (Link a rel b) capacity is made = omega arith
capacity_fits old new (Unlink a rel b) capacity is made = omega arith
capacity_fits old new (Mute event name) capacity is made = omega arith
capacity_fits old new (Unmute event name) capacity is made = omega arith

-- where it is more than before, the edit is one that may need memory
pub capacity_grows : (n : Numbered) (edit : Edit) (capacity : ℕ) → IsInstanceCapacityAfter n edit capacity → n.net.capacity < capacity → MayGrow edit
capacity_grows n (Create name class) capacity is more = tt
capacity_grows n (Delete name) capacity is more = omega arith
capacity_grows n (Link a rel b) capacity is more = tt
capacity_grows n (Unlink a rel b) capacity is more = omega arith
capacity_grows n (Mute event name) capacity is more = omega arith
capacity_grows n (Unmute event name) capacity is more = omega arith
