-- What holds of the rows of a cache.
use Rattle.std.specs.Prelude.{◌≡◌, ℕ, List, Option, length}
use Rattle.cb_bits.specs.Bits.{words_for}
use Rattle.cb_pool.specs.declared.slot.Slot.{Slot}
use Rattle.cb_pool.specs.Pool.{Pool, IsTaken}
use Rattle.cb_topo.specs.Numbered.{Numbered, IsWhole}
use Rattle.cb_graph.specs.Edges.{number}
use Rattle.cb_cache.specs.declared.rows.Rows.{Rows}
use Rattle.cb_cache.specs.declared.rows.Store.{Store}
use Rattle.cb_cache.specs.declared.scratch.Scratch.{Scratch}
use Rattle.cb_cache.specs.Capacity.{HasCapacityFor, HasAgendaFor}
use Rattle.cb_cache.specs.Cached.{AreRows}
use Rattle.cb_cache.specs.Numbers.{IsProblemNumber}
use Rattle.cb_cache.specs.Reached.{HasSlot}

-- no two numbers have one slot
abbrev pub OwnSlots : List (Option Slot) → Type 0
OwnSlots slots = (i j : ℕ) (slot : Slot) → HasSlot slots i slot → HasSlot slots j slot → i ≡ j

-- each slot that is taken is some number's
abbrev pub AreOwned : List (Option Slot) → Pool → Type 0
AreOwned slots p = (slot : Slot) → IsTaken p slot → (i : ℕ) × HasSlot slots i slot

-- exactly the problems have slots, each its own, with the row of all that the problem leads to, and no other slot is taken
pub record AreRight (n : Numbered) (slots : List (Option Slot)) (p : Pool) : Type 0 where
  pub rows : AreRows n slots p
  pub only : (i : ℕ) (slot : Slot) → HasSlot slots i slot → IsProblemNumber n (number i)
  pub all : (i : ℕ) → IsProblemNumber n (number i) → (slot : Slot) × HasSlot slots i slot
  pub apart : OwnSlots slots
  pub owned : AreOwned slots p

-- a search has positions for all numbers of nodes
abbrev pub ScratchFits : Numbered → Scratch → Type 0
ScratchFits n scratch = HasCapacityFor (length n.nodes) scratch

-- there is a position for each number of a node, and the rows are as wide as the numbers need
pub record HaveCapacity (n : Numbered) (rows : Rows) : Type 0 where
  pub slots : length rows.slots.items ≡ length n.nodes
  pub width : rows.pool.width ≡ words_for (length n.nodes)
  pub scratch : ScratchFits n rows.scratch

-- the topology is whole, the rows are right, and the buffers are large enough for searches and edits
pub record IsCacheOf (n : Numbered) (store : Store) : Type 0 where
  pub whole : IsWhole n
  pub right : AreRight n store.rows.slots.items store.rows.pool
  pub capacity : HaveCapacity n store.rows
  pub agenda : HasAgendaFor (length n.nodes) store.agenda
