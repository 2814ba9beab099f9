-- The canonical levels of a problem: the one way in which they are written.
use Rattle.std.specs.Prelude.{◌≡◌, ◌↔◌, ℕ, ◌+◌, ◌<◌, Some, slice_get}
use Rattle.std.specs.List.{Contains}
use Rattle.std.specs.declared.cmp.Ordering.{Ordering}
use Rattle.std.specs.Ordering.{nat_cmp, on, then_cmp}
use Rattle.cb_model.specs.declared.node.NodeName.{NodeName}
use Rattle.cb_model.specs.Order.{Rises}
use Rattle.cb_model.specs.NodeOrder.{node_cmp}
use Rattle.cb_network.specs.Topology.{Topology}
use Rattle.cb_network.specs.Causes.{Causes}
use Rattle.cb_validity.specs.Spans.{StandsFor}
use Rattle.cb_levels.specs.declared.levels.LevelEntry.{LevelEntry}
use Rattle.cb_levels.specs.declared.levels.Levels.{Levels}
use Rattle.cb_levels.specs.Level.{IsLevel, IsPrevious}
use Rattle.cb_levels.specs.Listed.{IsEntryAt, ListsInLevels}

-- exactly what p causes is listed, each node with its level
pub record ListsLevels (t : Topology) (p : NodeName) (levels : Levels) : Type 0 where
  pub caused : (node : NodeName) → ListsInLevels levels node ↔ Causes t p node
  pub each : (position : ℕ) (entry : LevelEntry) (node : NodeName) → IsEntryAt levels position entry node → IsLevel t p node entry.level

-- by level, and then by node
abbrev pub entry_cmp : LevelEntry → LevelEntry → Ordering
entry_cmp = then_cmp (on (λ e. e.level) nat_cmp) (on (λ e. e.node) nat_cmp)

-- the first entry lists p, without a parent
pub record IsRootEntry (levels : Levels) (p : NodeName) : Type 0 where
  pub entry : LevelEntry
  pub listed : IsEntryAt levels 0 entry p
  pub alone : entry.parent ≡ 0

-- the entry's parent is the position, counted from 1, of the previous one of its node
pub record IsFromPrevious (t : Topology) (p : NodeName) (levels : Levels) (entry : LevelEntry) : Type 0 where
  pub node : NodeName
  pub names : StandsFor levels.nodes entry.node node
  pub previous : NodeName
  pub previous_is : IsPrevious t p node previous
  pub position : ℕ
  pub from : LevelEntry
  pub from_is : IsEntryAt levels position from previous
  pub parent : entry.parent ≡ position + 1

-- the entries by level and then by node, each with the position of its node's previous one, and the nodes of the entries in order
pub record AreCanonicalLevels (t : Topology) (p : NodeName) (levels : Levels) : Type 0 where
  pub lists : ListsLevels t p levels
  pub order : Rises entry_cmp levels.entries
  pub first : IsRootEntry levels p
  pub parents : (position : ℕ) (entry : LevelEntry) → 0 < position → slice_get levels.entries position ≡ Some entry → IsFromPrevious t p levels entry
  pub rise : Rises node_cmp levels.nodes
  pub used : (node : NodeName) → Contains levels.nodes node → ListsInLevels levels node
