-- The rows of nodes: each is one, and there is one where a slot is.
use Rattle.std.proofs.Common.{◌≡◌, ℕ, List, Option, slice_index_or, sym, subst, ◌∙◌}
use Rattle.std.specs.List.{All, Contains}
use Rattle.std.specs.List.Sorted.{IsPermutation}
use Rattle.std.proofs.lemmas.List.Elements.{Contains-get_or}
use Rattle.std.proofs.lemmas.List.Sorted.{IsPermutation-sym, Contains-permutation}
use Rattle.cb_nodes.specs.declared.id.NodeId.{NodeId}
use Rattle.cb_pool.specs.declared.slot.Slot.{Slot}
use Rattle.cb_pool.specs.Pool.{SlotHasRow}
use Rattle.cb_topo.specs.Numbered.{Numbered}
use Rattle.cb_graph.specs.Edges.{number}
use Rattle.cb_cache.specs.declared.rows.Rows.{Rows}
use Rattle.cb_cache.specs.Cached.{AreRows, IsReachedRow}
use Rattle.cb_cache.specs.Reached.{HasSlot}
use Rattle.cb_cache.specs.Rows.{HasReachedRow, IsNodeRow}
use Rattle.cb_cache.proofs.Slots.{one_slot}

pub row_of_slot : (n : Numbered) (rows : Rows) (id : NodeId) (slot : Slot) → AreRows n rows.slots.items rows.pool → HasSlot rows.slots.items id.0 slot → HasReachedRow n rows id
row_of_slot n rows id slot are has = let row = are id.0 slot has in (row.0, (slot, has, row.1), row.2)

-- a node's row is one
pub one_row : (rows : Rows) (id : NodeId) (words others : List ℕ) → IsNodeRow rows id words → IsNodeRow rows id others → words ≡ others
one_row rows id words others (slot, has, row) (other, has', row') =
    let same = one_slot rows.slots.items id.0 other slot has' has in
    let here = subst (λ (s : Slot). SlotHasRow rows.pool s others) same row' in
    row.1 ∙ sym here.1

-- what holds of all items holds of them in another order
pub all_permuted : {X : Type 0} (P : X → Type 0) (xs ys : List X) → IsPermutation xs ys → All P xs → All P ys
all_permuted P xs ys moved all k d lt =
    let y = slice_index_or ys k d in
    let has = Contains-permutation ys xs y (IsPermutation-sym xs ys moved) (Contains-get_or ys k d lt) in
    subst P has.2 (all has.0 y has.1)
