-- Which levels are valid for a topology.
use Rattle.std.specs.Prelude.{◌≡◌, ℕ, ◌+◌, ◌-◌, ◌<◌, ◌≤◌, Some, slice_get}
use Rattle.cb_model.specs.declared.node.NodeName.{NodeName}
use Rattle.cb_network.specs.Topology.{Topology}
use Rattle.cb_network.specs.Nodes.{IsProblem}
use Rattle.cb_network.specs.Causes.{Edge}
use Rattle.cb_validity.specs.Spans.{AreNodes, StandsFor}
use Rattle.cb_levels.specs.declared.levels.LevelEntry.{LevelEntry}
use Rattle.cb_levels.specs.declared.levels.Levels.{Levels}
use Rattle.cb_levels.specs.Listed.{IsEntryAt}

-- the first entry lists this problem, at level 0 and without a parent
pub record BeginsAtProblem (t : Topology) (levels : Levels) (root : NodeName) : Type 0 where
  pub entry : LevelEntry
  pub first : IsEntryAt levels 0 entry root
  pub problem : IsProblem t root
  pub level : entry.level ≡ 0
  pub alone : entry.parent ≡ 0

-- the entry's parent is earlier and one level below, and has an edge to the entry's node
pub record HasParent (t : Topology) (levels : Levels) (position : ℕ) (entry : LevelEntry) : Type 0 where
  pub from : LevelEntry
  pub source : NodeName
  pub target : NodeName
  pub counted : 0 < entry.parent
  pub earlier : entry.parent ≤ position
  pub from_is : IsEntryAt levels (entry.parent - 1) from source
  pub to_is : StandsFor levels.nodes entry.node target
  pub edge : Edge t source target
  pub level : entry.level ≡ from.level + 1

-- the node is listed, at most one level above this one
pub record IsListedNear (levels : Levels) (level : ℕ) (node : NodeName) : Type 0 where
  pub position : ℕ
  pub entry : LevelEntry
  pub listed : IsEntryAt levels position entry node
  pub near : entry.level ≤ level + 1

-- The nodes are in order, and the root is listed first. Each later entry has a parent. No node is listed twice. With a node each
-- successor is listed, at most one level above it.
pub record AreLevelsOf (t : Topology) (root : NodeName) (levels : Levels) : Type 0 where
  pub nodes_are : AreNodes t levels.nodes
  pub begins : BeginsAtProblem t levels root
  pub parents : (position : ℕ) (entry : LevelEntry) → 0 < position → slice_get levels.entries position ≡ Some entry → HasParent t levels position entry
  pub once : (i j : ℕ) (x y : LevelEntry) (node : NodeName) → IsEntryAt levels i x node → IsEntryAt levels j y node → i ≡ j
  pub closed : (position : ℕ) (entry : LevelEntry) (p q : NodeName) → IsEntryAt levels position entry p → Edge t p q → IsListedNear levels entry.level q

-- they are those of some problem
abbrev pub AreValidLevels : Topology → Levels → Type 0
AreValidLevels t levels = (root : NodeName) × AreLevelsOf t root levels
