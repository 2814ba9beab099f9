-- What entries of levels list.
use Rattle.std.specs.Prelude.{◌≡◌, ℕ, Some, slice_get}
use Rattle.cb_model.specs.declared.node.NodeName.{NodeName}
use Rattle.cb_validity.specs.Spans.{StandsFor}
use Rattle.cb_levels.specs.declared.levels.LevelEntry.{LevelEntry}
use Rattle.cb_levels.specs.declared.levels.Levels.{Levels}

-- the entry at a position, which counts from 0, is this one, and lists the node
pub record IsEntryAt (levels : Levels) (position : ℕ) (entry : LevelEntry) (node : NodeName) : Type 0 where
  pub is : slice_get levels.entries position ≡ Some entry
  pub names : StandsFor levels.nodes entry.node node

-- some entry lists the node
abbrev pub ListsInLevels : Levels → NodeName → Type 0
ListsInLevels levels node = (position : ℕ) × (entry : LevelEntry) × IsEntryAt levels position entry node
