-- Which visits of a search stand on some chain, and where they are kept.
use Rattle.std.specs.Prelude.{◌≡◌, ℕ, ◌+◌, ◌≤◌, List, [], ◌∷◌, ◌++◌, length, Bool, true, false, Some, slice_get, slice_index_or}
use Rattle.cb_successors.specs.Rows.{Has}
use Rattle.cb_breadth.specs.declared.visit.LevelVisit.{LevelVisit}
use Rattle.cb_breadth.specs.declared.visit.Visit.{Visit}
use Rattle.cb_breadth.specs.Trees.{visit}
use Rattle.cb_chains.specs.Trees.{ComeAfterParents, chain_at}

-- with each visit its parent is marked; a visit is marked by its position, which counts from 1
abbrev pub HasMarkedParents : List Visit → List Bool → Type 0
HasMarkedParents visits marked = (i : ℕ) (v : Visit) → slice_get visits i ≡ Some v → Has marked (i + 1) → Has marked v.parent

-- the place of a position; 0 where it isn't kept
abbrev pub place_at : List ℕ → ℕ → ℕ
place_at places position = slice_index_or places position 0

-- a marked visit is kept after the others, under the place of its parent, and its place is noted; for one that isn't marked 0 is noted
abbrev pub KeepsIfMarked : Bool → LevelVisit → List Visit → List ℕ → List Visit → List ℕ → Type 0
KeepsIfMarked false v kept places kept' places' = (kept' ≡ kept) × (places' ≡ places ++ 0 ∷ [])
KeepsIfMarked true v kept places kept' places' =
    (kept' ≡ kept ++ visit v.node (place_at places v.parent) ∷ []) × (places' ≡ places ++ (length kept + 1) ∷ [])

-- the chain that ends at a position ends at its place too
pub record IsKeptAt (visits kept : List Visit) (position place : ℕ) : Type 0 where
  pub within : place ≤ length kept
  pub same : chain_at kept place ≡ chain_at visits position

-- of the marked visits the chains are kept
pub record KeepsChains (visits : List Visit) (marked : List Bool) (kept : List Visit) (places : List ℕ) : Type 0 where
  pub parents : ComeAfterParents kept
  pub size : length places ≡ length visits + 1
  pub each : (position : ℕ) → position ≤ length visits → Has marked position → IsKeptAt visits kept position (place_at places position)
