-- What following parents gives.
use Rattle.std.specs.Prelude.{◌≡◌, ℕ, ◌+◌, ◌≤◌, ◌<◌, List, [], ◌∷◌, length, reverse, Some, slice_get}
use Rattle.std.specs.List.{AllZip}
use Rattle.cb_model.specs.declared.node.NodeName.{NodeName}
use Rattle.cb_levels.specs.declared.levels.LevelEntry.{LevelEntry}
use Rattle.cb_levels.specs.declared.levels.Levels.{Levels}
use Rattle.cb_levels.specs.Listed.{IsEntryAt}

-- the entry at a position has that parent, whose position counts from 0 here
pub record HasParentAt (levels : Levels) (position parent : ℕ) : Type 0 where
  pub entry : LevelEntry
  pub is : slice_get levels.entries position ≡ Some entry
  pub parent_is : entry.parent ≡ parent + 1

-- these positions lead from one position back to another, each that of the parent of the one before it
abbrev pub PositionsBack : Levels → ℕ → List ℕ → ℕ → Type 0
PositionsBack levels position [] end = position ≡ end
PositionsBack levels position (parent ∷ rest) end = HasParentAt levels position parent × PositionsBack levels parent rest end

-- the entry at the position lists the node
abbrev pub IsNodeAt : Levels → ℕ → NodeName → Type 0
IsNodeAt levels position node = (entry : LevelEntry) × IsEntryAt levels position entry node

-- the nodes that following parents from a position gives, the root first
pub record IsTrail (levels : Levels) (position : ℕ) (nodes : List NodeName) : Type 0 where
  pub positions : List ℕ
  pub back : PositionsBack levels position positions 0
  pub names : List NodeName
  pub names_are : AllZip (IsNodeAt levels) (position ∷ positions) names
  pub is : nodes ≡ reverse names

-- the first entry of the node is at the position
pub record IsFirstOf (levels : Levels) (node : NodeName) (position : ℕ) : Type 0 where
  pub is : IsNodeAt levels position node
  pub first : (before : ℕ) → before < position → ¬ IsNodeAt levels before node

-- the nodes that following parents from the first entry of the node gives
pub record IsChainTo (levels : Levels) (node : NodeName) (nodes : List NodeName) : Type 0 where
  pub position : ℕ
  pub first : IsFirstOf levels node position
  pub trail : IsTrail levels position nodes

-- the first entry has no parent, each later one has an earlier entry as its parent, and each entry lists a node
pub record CanBeFollowed (levels : Levels) : Type 0 where
  pub some : 0 < length levels.entries
  pub first : (entry : LevelEntry) → slice_get levels.entries 0 ≡ Some entry → entry.parent ≡ 0
  pub later : (position : ℕ) (entry : LevelEntry) → 0 < position → slice_get levels.entries position ≡ Some entry → (0 < entry.parent) × (entry.parent ≤ position)
  pub numbers : (position : ℕ) (entry : LevelEntry) → slice_get levels.entries position ≡ Some entry → (0 < entry.node) × (entry.node ≤ length levels.nodes)
