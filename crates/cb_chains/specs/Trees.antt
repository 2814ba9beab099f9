-- Chains that share their beginnings: visits, each of which goes on from an earlier one.
use Rattle.std.specs.Prelude.{◌≡◌, ℕ, zero, suc, ◌≤◌, List, [], ◌∷◌, ◌++◌, map, Some, slice_get, slice_index_or}
use Rattle.cb_breadth.specs.declared.visit.LevelVisit.{LevelVisit}
use Rattle.cb_breadth.specs.declared.visit.Visit.{Visit}
use Rattle.cb_breadth.specs.Trees.{visit}

-- the visits of a search by levels, without their levels
abbrev pub without_levels : List LevelVisit → List Visit
without_levels visits = map (λ (v : LevelVisit). visit v.node v.parent) visits

-- the parent of each visit is an earlier one; positions count from 1, and 0 is no parent
abbrev pub ComeAfterParents : List Visit → Type 0
ComeAfterParents visits = (i : ℕ) (v : Visit) → slice_get visits i ≡ Some v → v.parent ≤ i

-- the nodes on the way to a position, which counts from 1: those on the way to its parent, and then its own; no way has more visits than this number
abbrev pub way_to : ℕ → List Visit → ℕ → List ℕ
way_to zero visits position = []
way_to (suc most) visits zero = []
way_to (suc most) visits (suc i) = let v = slice_index_or visits i (visit 0 0) in way_to most visits v.parent ++ v.node ∷ []

-- the chain that ends at a position: since each parent is earlier, no way to it has more visits than its number
abbrev pub chain_at : List Visit → ℕ → List ℕ
chain_at visits position = way_to position visits position

-- the chains that end at these positions
abbrev pub chains_at : List Visit → List ℕ → List (List ℕ)
chains_at visits ends = map (chain_at visits) ends
