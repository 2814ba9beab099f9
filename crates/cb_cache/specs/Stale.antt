-- Rows that were right before an edit, and those of them that it may have made wrong.
use Rattle.std.specs.Prelude.{◌≡◌, ◌↔◌, ◌⊎◌, ◌++◌, ℕ, List, [], ◌∷◌, Bool, Option, None, slice_set}
use Rattle.std.specs.List.{Contains}
use Rattle.cb_network.specs.declared.edit.Edit.{Edit}
use Rattle.cb_network.specs.declared.edit.Edit.TheVariants.{Delete, Unlink}
use Rattle.cb_nodes.specs.declared.id.NodeId.{NodeId}
use Rattle.cb_pool.specs.declared.slot.Slot.{Slot}
use Rattle.cb_pool.specs.Pool.{Pool, SlotHasRow, IsTaken, SameOthers, slot_row}
use Rattle.cb_successors.specs.Rows.{Has}
use Rattle.cb_topo.specs.Numbered.{Numbered, topology_of, IsLiveNode}
use Rattle.cb_graph.specs.Edges.{number}
use Rattle.cb_cache.specs.Extended.{HasTouched}
use Rattle.cb_cache.specs.Kept.{AreRight}
use Rattle.cb_cache.specs.Laws.{IsEdited}
use Rattle.cb_cache.specs.Numbers.{AreOnce}
use Rattle.cb_cache.specs.Reached.{HasSlot}
use Rattle.cb_graph.specs.Touched.{IsTouchedNumber}

-- the edit takes links away
abbrev pub TakesAway : Edit → Type 0
TakesAway (Delete name) = Unit {0}
TakesAway (Unlink a rel b) = Unit {0}
TakesAway edit = ⊥

-- an edit made the new topology of the old one, for which the rows are right, and this is what it touched
pub record FollowsEdit (old : Numbered) (edit : Edit) (new : Numbered) (touched : List Bool) (slots : List (Option Slot)) (p : Pool) : Type 0 where
  pub edited : IsEdited old edit new
  pub right : AreRight old slots p
  pub reported : (k : ℕ) → Has touched k ↔ IsTouchedNumber old (topology_of new) k

-- the number is still that of a node, and the slot's row has no touched one
abbrev pub IsClean : Numbered → List Bool → Pool → ℕ → Slot → Type 0
IsClean n touched p i slot = IsLiveNode n (number i) × ¬ HasTouched touched (slot_row p slot)

-- the number is still that of a node, and its slot's row has a touched one
abbrev pub IsStale : Numbered → List Bool → List (Option Slot) → Pool → NodeId → Type 0
IsStale n touched slots p id = (slot : Slot) × HasSlot slots id.0 slot × IsLiveNode n id × HasTouched touched (slot_row p slot)

-- each slot of a number is taken
abbrev pub AreTaken : List (Option Slot) → Pool → Type 0
AreTaken slots p = (i : ℕ) (slot : Slot) → HasSlot slots i slot → IsTaken p slot

-- what the number has, if it has a row, is clean, and stays
pub record LeavesRow (n : Numbered) (touched : List Bool) (id : NodeId) (slots : List (Option Slot)) (p : Pool) (new_slots : List (Option Slot)) (new : Pool) (ids new_ids : List NodeId) : Type 0 where
  pub clean : (slot : Slot) → HasSlot slots id.0 slot → IsClean n touched p id.0 slot
  pub same_slots : new_slots ≡ slots
  pub same_pool : new ≡ p
  pub same_ids : new_ids ≡ ids

-- the number is listed where it is still that of a node
abbrev pub ListsLive : Numbered → NodeId → List NodeId → List NodeId → Type 0
ListsLive n id ids new_ids = (IsLiveNode n id × (new_ids ≡ ids ++ id ∷ [])) ⊎ ((¬ IsLiveNode n id) × (new_ids ≡ ids))

-- its row is given back, and its slot is free
pub record FreesSlot (n : Numbered) (touched : List Bool) (id : NodeId) (slots : List (Option Slot)) (p : Pool) (new_slots : List (Option Slot)) (new : Pool) (ids new_ids : List NodeId) : Type 0 where
  pub slot : Slot
  pub had : HasSlot slots id.0 slot
  pub stale : IsLiveNode n id → HasTouched touched (slot_row p slot)
  pub emptied : new_slots ≡ slice_set slots id.0 None
  pub free : ¬ IsTaken new slot
  pub others : SameOthers p new slot
  pub lists : ListsLive n id ids new_ids

abbrev pub TakesBackOne : Numbered → List Bool → NodeId → List (Option Slot) → Pool → List (Option Slot) → Pool → List NodeId → List NodeId → Type 0
TakesBackOne n touched id slots p new_slots new ids new_ids =
    LeavesRow n touched id slots p new_slots new ids new_ids ⊎ FreesSlot n touched id slots p new_slots new ids new_ids

-- clean rows stay in their slots, the others are given back, and the numbers that are stale are listed, each once; a slot that is still taken is still that of the number that had it
pub record TakesBack (n : Numbered) (touched : List Bool) (slots : List (Option Slot)) (p : Pool) (new_slots : List (Option Slot)) (new : Pool) (ids : List NodeId) : Type 0 where
  pub clean : (i : ℕ) (slot : Slot) → HasSlot new_slots i slot → HasSlot slots i slot × IsClean n touched p i slot
  pub rows : (i : ℕ) (slot : Slot) → HasSlot new_slots i slot → (row : List ℕ) → SlotHasRow p slot row → SlotHasRow new slot row
  pub taken : (slot : Slot) → IsTaken new slot → IsTaken p slot × ((i : ℕ) → HasSlot slots i slot → HasSlot new_slots i slot)
  pub live : (i : ℕ) (slot : Slot) → HasSlot slots i slot → IsLiveNode n (number i) → HasSlot new_slots i slot ⊎ Contains ids (number i)
  pub listed : (id : NodeId) → Contains ids id ↔ IsStale n touched slots p id
  pub once : AreOnce ids
