-- The levels of a problem that has a number, and how they are written.
use Rattle.std.specs.Prelude.{◌≡◌, ℕ, ◌<◌, List, Some, slice_get}
use Rattle.cb_model.specs.declared.node.NodeName.{NodeName}
use Rattle.cb_nodes.specs.declared.id.NodeId.{NodeId}
use Rattle.cb_breadth.specs.declared.visit.LevelVisit.{LevelVisit}
use Rattle.cb_topo.specs.Numbered.{Numbered, topology_of, IsNodeNamed}
use Rattle.cb_levels.specs.declared.levels.LevelEntry.{LevelEntry}
use Rattle.cb_levels.specs.declared.levels.Levels.{Levels}
use Rattle.cb_levels.specs.Canonical.{AreCanonicalLevels}
use Rattle.cb_levels.specs.Format.{IsLevels}
use Rattle.cb_levels.specs.Trails.{CanBeFollowed}

-- the canonical levels of the problem with this number; they are of the format, and parents can be followed in them
pub record AreLevelsAt (n : Numbered) (id : NodeId) (levels : Levels) : Type 0 where
  pub problem : NodeName
  pub named : IsNodeNamed n id problem
  pub canonical : AreCanonicalLevels (topology_of n) problem levels
  pub of_format : IsLevels levels
  pub followed : CanBeFollowed levels

-- the ranks of all visited nodes are below the bound
abbrev pub AreRanksBelow : ℕ → List LevelVisit → Type 0
AreRanksBelow bound visits = (i : ℕ) (v : LevelVisit) → slice_get visits i ≡ Some v → v.node < bound

-- the node of this rank is visited
pub record IsRankVisited (visits : List LevelVisit) (rank : ℕ) : Type 0 where
  pub position : ℕ
  pub visit : LevelVisit
  pub is : slice_get visits position ≡ Some visit
  pub of : visit.node ≡ rank

-- the entry of a visit, by the numbers that are at ranks
pub record IsNumberedEntry (numbers : List ℕ) (v : LevelVisit) (e : LevelEntry) : Type 0 where
  pub node : slice_get numbers v.node ≡ Some e.node
  pub level : e.level ≡ v.level
  pub parent : e.parent ≡ v.parent
