-- Levels that are made of a search over ranks.
use Rattle.std.specs.Prelude.{◌≡◌, ℕ, ◌<◌, List, Some, slice_get}
use Rattle.std.specs.List.{AllZip, Contains}
use Rattle.std.specs.declared.cmp.Ordering.TheVariants.{Less}
use Rattle.cb_model.specs.declared.node.NodeName.{NodeName}
use Rattle.cb_model.specs.NodeOrder.{node_cmp}
use Rattle.cb_model.specs.Order.{Rises}
use Rattle.cb_network.specs.Topology.{Topology}
use Rattle.cb_network.specs.Causes.{Edge}
use Rattle.cb_breadth.specs.declared.visit.LevelVisit.{LevelVisit}
use Rattle.cb_breadth.specs.Levels.{IsLevelTree}
use Rattle.cb_validity.specs.Spans.{StandsFor}
use Rattle.cb_levels.specs.declared.levels.LevelEntry.{LevelEntry}
use Rattle.cb_levels.specs.declared.levels.Levels.{Levels}
use Rattle.cb_levels.specs.Canonical.{AreCanonicalLevels}

-- an edge between ranks is one between the nodes of these ranks
pub record IsRankEdge (t : Topology) (At : ℕ → NodeName → Type 0) (a b : ℕ) : Type 0 where
  pub from : NodeName
  pub to : NodeName
  pub from_is : At a from
  pub to_is : At b to
  pub edge : Edge t from to

-- the node is that of a rank to which an edge leads
pub record IsLedFrom (edge : ℕ → ℕ → Type 0) (At : ℕ → NodeName → Type 0) (a : ℕ) (node : NodeName) : Type 0 where
  pub rank : ℕ
  pub is : At rank node
  pub leads : edge a rank

-- nodes have ranks, in the order of their names, and the edges between ranks are those between nodes
pub record AreRanks (t : Topology) (edge : ℕ → ℕ → Type 0) (At : ℕ → NodeName → Type 0) : Type 0 where
  pub one : (a : ℕ) (x y : NodeName) → At a x → At a y → x ≡ y
  pub rise : (a b : ℕ) (x y : NodeName) → a < b → At a x → At b y → node_cmp x y ≡ Less
  pub leads : (a b : ℕ) → edge a b → IsRankEdge t At a b
  pub led : (a : ℕ) (x y : NodeName) → At a x → Edge t x y → IsLedFrom edge At a y

-- the entry of a visit, by the number of its node
pub record IsEntryFor (At : ℕ → NodeName → Type 0) (nodes : List NodeName) (v : LevelVisit) (e : LevelEntry) : Type 0 where
  pub node : NodeName
  pub at : At v.node node
  pub names : StandsFor nodes e.node node
  pub level : e.level ≡ v.level
  pub parent : e.parent ≡ v.parent

-- a visit of the node
pub record IsVisitOf (At : ℕ → NodeName → Type 0) (visits : List LevelVisit) (node : NodeName) : Type 0 where
  pub position : ℕ
  pub visit : LevelVisit
  pub is : slice_get visits position ≡ Some visit
  pub at : At visit.node node

-- the nodes that are visited, in order, and an entry for each visit
pub record AreLevelsFor (At : ℕ → NodeName → Type 0) (visits : List LevelVisit) (levels : Levels) : Type 0 where
  pub rise : Rises node_cmp levels.nodes
  pub used : (node : NodeName) → Contains levels.nodes node → IsVisitOf At visits node
  pub entries : AllZip (IsEntryFor At levels.nodes) visits levels.entries

-- the node is the one at that position of the list
abbrev pub IsNthName : List NodeName → ℕ → NodeName → Type 0
IsNthName names rank node = slice_get names rank ≡ Some node

-- all nodes to which edges lead from these are among them
abbrev pub HaveSuccessors : Topology → List NodeName → Type 0
HaveSuccessors t names = (rank : ℕ) (x y : NodeName) → IsNthName names rank x → Edge t x y → (other : ℕ) × IsNthName names other y

-- If nodes in order are numbered by their positions, a search by levels from one of them, with an entry for each visit, gives the canonical
-- levels of that node.
abbrev pub LevelTreeIsCanonical : Type 0
LevelTreeIsCanonical = (t : Topology) (names : List NodeName) (root : ℕ) (p : NodeName) (visits : List LevelVisit) (levels : Levels)
    → Rises node_cmp names → HaveSuccessors t names → IsNthName names root p
    → IsLevelTree (IsRankEdge t (IsNthName names)) root visits → AreLevelsFor (IsNthName names) visits levels → AreCanonicalLevels t p levels
