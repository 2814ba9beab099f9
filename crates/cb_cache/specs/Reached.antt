-- What a search has met: nodes of a row, found along edges, and bits of words, taken over from finished rows.
use Rattle.std.specs.Prelude.{◌≡◌, ◌↔◌, ◌⊎◌, ◌+◌, ◌≤◌, ℕ, List, Bool, Option, Some, length, slice_get, true}
use Rattle.cb_lanes.specs.Words.{bit_of}
use Rattle.cb_pool.specs.declared.slot.Slot.{Slot}
use Rattle.cb_pool.specs.Pool.{Pool, SlotHasRow}
use Rattle.cb_successors.specs.Rows.{Has, ones}
use Rattle.cb_successors.specs.Graphs.{LeadsTo}

-- the row of this number is in this slot
abbrev pub HasSlot : List (Option Slot) → ℕ → Slot → Type 0
HasSlot slots i slot = slice_get slots i ≡ Some (Some slot)

-- bit k of the words is one exactly where edges lead from this number to k
abbrev pub IsReached : (ℕ → ℕ → Type 0) → ℕ → List ℕ → Type 0
IsReached edge i words = (k : ℕ) → (bit_of words k ≡ true) ↔ LeadsTo edge i k

-- the slot has the row of all that this number leads to
abbrev pub HoldsReached : (ℕ → ℕ → Type 0) → ℕ → Pool → Slot → Type 0
HoldsReached edge i p slot = (words : List ℕ) × SlotHasRow p slot words × IsReached edge i words

-- each slot has the row of its number
abbrev pub AreReached : (ℕ → ℕ → Type 0) → List (Option Slot) → Pool → Type 0
AreReached edge slots p = (i : ℕ) (slot : Slot) → HasSlot slots i slot → HoldsReached edge i p slot

-- the node is in the row, or is a bit of the words
abbrev pub IsMet : List Bool → List ℕ → ℕ → Type 0
IsMet found joined k = Has found k ⊎ (bit_of joined k ≡ true)

-- of each node of the words all successors are met
abbrev pub AreFollowed : (ℕ → ℕ → Type 0) → List Bool → List ℕ → Type 0
AreFollowed edge found joined = (k next : ℕ) → bit_of joined k ≡ true → edge k next → IsMet found joined next

-- a visit of the node meets its successors, and otherwise nothing but what it leads to
pub record Visits (edge : ℕ → ℕ → Type 0) (node : ℕ) (found found' : List Bool) (joined joined' : List ℕ) : Type 0 where
  pub kept : (k : ℕ) → IsMet found joined k → IsMet found' joined' k
  pub stays : (k : ℕ) → bit_of joined k ≡ true → bit_of joined' k ≡ true
  pub next : (k : ℕ) → edge node k → IsMet found' joined' k
  pub led : (k : ℕ) → IsMet found' joined' k → IsMet found joined k ⊎ LeadsTo edge node k

-- some node that is met leads to this one
abbrev pub IsLedByMet : (ℕ → ℕ → Type 0) → List Bool → List ℕ → ℕ → Type 0
IsLedByMet edge found joined to = (from : ℕ) × IsMet found joined from × LeadsTo edge from to

-- exactly what this number leads to is met
abbrev pub IsAllMet : (ℕ → ℕ → Type 0) → ℕ → List Bool → List ℕ → Type 0
IsAllMet edge from found joined = (k : ℕ) → IsMet found joined k ↔ LeadsTo edge from k

-- no more steps were counted than there are such nodes below the count
pub record CountsOnly (P : ℕ → Type 0) (count steps new_steps : ℕ) : Type 0 where
  pub row : List Bool
  pub long : length row ≡ count
  pub each : (k : ℕ) → Has row k → P k
  pub few : new_steps ≤ steps + ones row
