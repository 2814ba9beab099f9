-- Rows that grow in place.
use Rattle.std.specs.Prelude.{◌≡◌, ◌↔◌, ◌⊎◌, ◌<◌, ℕ, List, Bool, Option, length, true}
use Rattle.cb_lanes.specs.Words.{bit_of}
use Rattle.cb_network.specs.declared.edit.Edit.{Edit}
use Rattle.cb_network.specs.declared.edit.Edit.TheVariants.{Link}
use Rattle.cb_pool.specs.declared.slot.Slot.{Slot}
use Rattle.cb_pool.specs.Pool.{Pool, SlotHasRow}
use Rattle.cb_successors.specs.Rows.{Has}
use Rattle.cb_successors.specs.Graphs.{LeadsTo}
use Rattle.cb_topo.specs.Numbered.{Numbered, topology_of}
use Rattle.cb_cache.specs.Kept.{AreRight}
use Rattle.cb_cache.specs.Laws.{IsEdited}
use Rattle.cb_cache.specs.Reached.{CountsOnly}
use Rattle.cb_graph.specs.Touched.{IsTouchedNumber}

-- each node of the words that isn't touched has all its successors among them
abbrev pub IsSettledBut : (ℕ → ℕ → Type 0) → List Bool → List ℕ → Type 0
IsSettledBut edge touched words = (k next : ℕ) → bit_of words k ≡ true → ¬ Has touched k → edge k next → bit_of words next ≡ true

-- some node of the words leads to this one
abbrev pub IsLedByWords : (ℕ → ℕ → Type 0) → List ℕ → ℕ → Type 0
IsLedByWords edge words k = (from : ℕ) × (bit_of words from ≡ true) × LeadsTo edge from k

-- the node is touched and one of the words, or the words lead to it and it is none of them
abbrev pub IsExpanded : (ℕ → ℕ → Type 0) → List Bool → List ℕ → ℕ → Type 0
IsExpanded edge touched words k = (Has touched k × (bit_of words k ≡ true)) ⊎ (IsLedByWords edge words k × ¬ (bit_of words k ≡ true))

-- the row has what it had, and the successors of each of these nodes that is one of the words
pub record AddsBelow (edge : ℕ → ℕ → Type 0) (nodes : List Bool) (words : List ℕ) (count : ℕ) (found found' : List Bool) : Type 0 where
  pub next : (k next : ℕ) → k < count → Has nodes k → bit_of words k ≡ true → edge k next → Has found' next
  pub led : (next : ℕ) → Has found' next → Has found next ⊎ ((k : ℕ) × Has nodes k × (bit_of words k ≡ true) × edge k next)

-- some node of the words is touched
abbrev pub HasTouched : List Bool → List ℕ → Type 0
HasTouched touched words = (k : ℕ) × Has touched k × (bit_of words k ≡ true)

-- the slot has exactly the nodes that those of the words lead to
abbrev pub HasLed : (ℕ → ℕ → Type 0) → Pool → Slot → List ℕ → Type 0
HasLed edge p slot words = (row : List ℕ) × SlotHasRow p slot row × ((k : ℕ) → (bit_of row k ≡ true) ↔ IsLedByWords edge words k)

-- where none of the words is touched, no step is counted, and otherwise one for each node that is expanded, or fewer
abbrev pub CountsExpanded : (ℕ → ℕ → Type 0) → List Bool → List ℕ → ℕ → ℕ → ℕ → Type 0
CountsExpanded edge touched words count steps new_steps = ((¬ HasTouched touched words) × (new_steps ≡ steps)) ⊎ (HasTouched touched words × CountsOnly (IsExpanded edge touched words) count steps new_steps)

-- the edit makes a link
abbrev pub MakesLink : Edit → Type 0
MakesLink (Link a rel b) = Unit {0}
MakesLink edit = ⊥

-- a link made the new topology of the old one, in which the rows were right, and exactly the numbers of touched nodes are marked
pub record IsAfterLink (old : Numbered) (edit : Edit) (new : Numbered) (touched : List Bool) (slots : List (Option Slot)) (p : Pool) : Type 0 where
  pub link : MakesLink edit
  pub edited : IsEdited old edit new
  pub right : AreRight old slots p
  pub marked : (k : ℕ) → Has touched k ↔ IsTouchedNumber old (topology_of new) k
  pub capacity : length touched ≡ length new.nodes
