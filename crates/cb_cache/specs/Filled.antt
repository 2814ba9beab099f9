-- Rows that are filled one after the other.
use Rattle.std.specs.Prelude.{◌≡◌, ◌⊎◌, ℕ, ◌+◌, ◌≤◌, List, Option, Some, sum, slice_set}
use Rattle.std.specs.List.{AllZip, Contains}
use Rattle.cb_model.specs.declared.node.NodeName.{NodeName}
use Rattle.cb_network.specs.Causes.{Causes}
use Rattle.cb_network.specs.Nodes.{IsCount}
use Rattle.cb_nodes.specs.declared.id.NodeId.{NodeId}
use Rattle.cb_pool.specs.declared.slot.Slot.{Slot}
use Rattle.cb_pool.specs.Pool.{Pool, IsTaken, SameOthers}
use Rattle.cb_topo.specs.Numbered.{Numbered, topology_of, IsNodeNamed}
use Rattle.cb_graph.specs.Edges.{number}
use Rattle.cb_cache.specs.Cached.{IsRowOf, AreRows}
use Rattle.cb_cache.specs.Reached.{HasSlot}
use Rattle.cb_cache.specs.Kept.{OwnSlots}

-- this number has a slot that was free, with its row, and nothing else changed
pub record AddsRow (n : Numbered) (i : ℕ) (slots new_slots : List (Option Slot)) (p new : Pool) : Type 0 where
  pub slot : Slot
  pub free : ¬ IsTaken p slot
  pub listed : new_slots ≡ slice_set slots i (Some slot)
  pub row : IsRowOf n i new slot
  pub others : SameOthers p new slot
  pub width : new.width ≡ p.width
  pub spare : p.spare ≡ new.spare + 1

-- none of these numbers has a slot
abbrev pub HaveNoSlots : List (Option Slot) → List NodeId → Type 0
HaveNoSlots slots ids = (id : NodeId) (slot : Slot) → Contains ids id → ¬ HasSlot slots id.0 slot

-- these numbers have slots now, and the others those that they had; each slot is one number's, with the row of all that it leads to, and no further one is taken
pub record AddsRows (n : Numbered) (ids : List NodeId) (slots new_slots : List (Option Slot)) (p new : Pool) : Type 0 where
  pub rows : AreRows n new_slots new
  pub kept : (i : ℕ) (slot : Slot) → HasSlot slots i slot → HasSlot new_slots i slot
  pub only : (i : ℕ) (slot : Slot) → HasSlot new_slots i slot → HasSlot slots i slot ⊎ Contains ids (number i)
  pub all : (id : NodeId) → Contains ids id → (slot : Slot) × HasSlot new_slots id.0 slot
  pub apart : OwnSlots new_slots
  pub taken : (slot : Slot) → IsTaken new slot → IsTaken p slot ⊎ ((i : ℕ) × HasSlot new_slots i slot)

-- the node of this number causes that many nodes
abbrev pub HasSize : Numbered → NodeId → ℕ → Type 0
HasSize n id size = (name : NodeName) → IsNodeNamed n id name → IsCount (Causes (topology_of n) name) size

-- no more steps were made than the node of this number causes nodes
abbrev pub CostsAtMost : Numbered → NodeId → ℕ → ℕ → Type 0
CostsAtMost n id steps new_steps = (size : ℕ) × HasSize n id size × (new_steps ≤ steps + size)

-- no more steps were made than the nodes of these numbers cause nodes, together
pub record CostAtMost (n : Numbered) (ids : List NodeId) (steps new_steps : ℕ) : Type 0 where
  pub sizes : List ℕ
  pub sized : AllZip (HasSize n) ids sizes
  pub few : new_steps ≤ steps + sum sizes
