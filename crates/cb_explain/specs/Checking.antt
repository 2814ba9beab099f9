-- Levels by the numbers that their nodes have in a topology.
use Rattle.std.specs.Prelude.{◌≡◌, ◌<◌, ◌≤◌, ◌+◌, ◌⊎◌, ℕ, List, Bool, Option, None, Some, length, slice_get}
use Rattle.cb_model.specs.declared.node.NodeName.{NodeName}
use Rattle.cb_network.specs.Topology.{Topology}
use Rattle.cb_validity.specs.Checks.{IsGoodNode}
use Rattle.cb_nodes.specs.declared.id.NodeId.{NodeId}
use Rattle.cb_successors.specs.Rows.{Has}
use Rattle.cb_topo.specs.Numbered.{Numbered, topology_of, IsNodeNamed, IsWhole}
use Rattle.cb_graph.specs.Edges.{number}
use Rattle.cb_levels.specs.declared.levels.LevelEntry.{LevelEntry}
use Rattle.cb_levels.specs.declared.levels.Levels.{Levels}
use Rattle.cb_levels.specs.Listed.{IsEntryAt}
use Rattle.cb_levels.specs.Valid.{BeginsAtProblem}
use Rattle.cb_levels.specs.Checks.{LevelEntryIs, IsParentEarlier, HasEdgeFromParent, IsFirstListed, IsOneAbove}
use Rattle.cb_levels.specs.declared.verdict.LevelFault.{LevelFault}
use Rattle.cb_levels.specs.declared.verdict.LevelFault.TheVariants.{BadParent, NoEdge, Repeated, BadLevel}
use Rattle.cb_explain.specs.declared.listed.ListedNodes.{ListedNodes}
use Rattle.cb_explain.specs.declared.entries.EntryFault.{EntryFault}
use Rattle.cb_explain.specs.declared.entries.EntryFault.TheVariants as fault

-- the nodes before a position are good
abbrev pub AreGoodNodes : Topology → List NodeName → ℕ → Type 0
AreGoodNodes t nodes to = (position : ℕ) → position < to → IsGoodNode t nodes position

-- the first node that isn't good
pub record IsFirstBadNode (t : Topology) (nodes : List NodeName) (position : ℕ) : Type 0 where
  pub within : position < length nodes
  pub before : AreGoodNodes t nodes position
  pub bad : ¬ IsGoodNode t nodes position

-- the levels begin at the problem with this number
pub record IsRootNumber (n : Numbered) (levels : Levels) (id : NodeId) : Type 0 where
  pub root : NodeName
  pub begins : BeginsAtProblem (topology_of n) levels root
  pub named : IsNodeNamed n id root

-- the entry at the position lists the node with this number
pub record ListsNumber (n : Numbered) (levels : Levels) (position : ℕ) (id : NodeId) : Type 0 where
  pub entry : LevelEntry
  pub node : NodeName
  pub is : IsEntryAt levels position entry node
  pub named : IsNodeNamed n id node

-- each listed node has its position at its number, and nothing else stands at numbers
pub record HavePositions (nodes : List NodeId) (positions : List (Option ℕ)) : Type 0 where
  pub each : (position : ℕ) (id : NodeId) → slice_get nodes position ≡ Some id → slice_get positions id.0 ≡ Some (Some position)
  pub only : (k position : ℕ) → slice_get positions k ≡ Some (Some position) → slice_get nodes position ≡ Some (number k)

-- the first entries list these nodes, one by one
pub record AreListedNodes (n : Numbered) (levels : Levels) (listed : ListedNodes) : Type 0 where
  pub whole : IsWhole n
  pub within : length listed.nodes.items ≤ length levels.entries
  pub capacity : length listed.positions.items ≡ length n.nodes
  pub each : (position : ℕ) (id : NodeId) → slice_get listed.nodes.items position ≡ Some id → ListsNumber n levels position id
  pub table : HavePositions listed.nodes.items listed.positions.items

-- each entry before a position, but the first one, has an earlier parent, one level below
abbrev pub HaveParents : Levels → ℕ → Type 0
HaveParents levels to = (position : ℕ) → 0 < position → position < to
    → LevelEntryIs levels position (IsParentEarlier position) × LevelEntryIs levels position (IsOneAbove levels)

-- the next entry lists this node, which isn't listed, and has an earlier parent, one level below
pub record IsRightNode (n : Numbered) (levels : Levels) (listed : ListedNodes) (id : NodeId) : Type 0 where
  pub lists : ListsNumber n levels (length listed.nodes.items) id
  pub new : slice_get listed.positions.items id.0 ≡ Some None
  pub parent : LevelEntryIs levels (length listed.nodes.items) (IsParentEarlier (length listed.nodes.items))
  pub level : LevelEntryIs levels (length listed.nodes.items) (IsOneAbove levels)

-- this is wrong with the entry at the position, and nothing that is checked before but perhaps its edge
abbrev pub HasEntryFault : Numbered → Levels → ℕ → EntryFault → Type 0
HasEntryFault n levels position fault.Parent = ¬ LevelEntryIs levels position (IsParentEarlier position)
HasEntryFault n levels position fault.Node = LevelEntryIs levels position (IsParentEarlier position) × ((entry : LevelEntry) (node : NodeName) → ¬ IsEntryAt levels position entry node)
HasEntryFault n levels position (fault.Repeated id) =
    LevelEntryIs levels position (IsParentEarlier position) × ListsNumber n levels position id × (¬ IsFirstListed levels position)
HasEntryFault n levels position (fault.Level id) =
    LevelEntryIs levels position (IsParentEarlier position) × ListsNumber n levels position id × IsFirstListed levels position
    × (¬ LevelEntryIs levels position (IsOneAbove levels))

-- all entries are listed, or the next one has this fault
abbrev pub ListsAll : Numbered → Levels → ℕ → Option EntryFault → Type 0
ListsAll n levels to None = length levels.entries ≤ to
ListsAll n levels to (Some why) = (to < length levels.entries) × HasEntryFault n levels to why

-- the entries before a position, but the first one, are marked
abbrev pub AreMarkedLed : List Bool → ℕ → Type 0
AreMarkedLed led to = (position : ℕ) → 0 < position → position < to → Has led position

-- the first entry after the first one that isn't marked
pub record IsFirstNotLed (led : List Bool) (position : ℕ) : Type 0 where
  pub later : 0 < position
  pub within : position < length led
  pub before : AreMarkedLed led position
  pub lacks : ¬ Has led position

-- this is reported of the entry at the position, unless no edge leads to it from its parent
abbrev pub IsUnlessUnled : Topology → Levels → ℕ → LevelFault → LevelFault → Type 0
IsUnlessUnled t levels position other why =
    (LevelEntryIs levels position (HasEdgeFromParent t levels) × (why ≡ other)) ⊎ ((¬ LevelEntryIs levels position (HasEdgeFromParent t levels)) × (why ≡ NoEdge (position + 1)))

-- what is reported of an entry with a fault
abbrev pub FaultOf : Topology → Levels → ℕ → EntryFault → LevelFault → Type 0
FaultOf t levels position fault.Parent why = why ≡ BadParent (position + 1)
FaultOf t levels position fault.Node why = why ≡ NoEdge (position + 1)
FaultOf t levels position (fault.Repeated id) why = IsUnlessUnled t levels position (Repeated (position + 1)) why
FaultOf t levels position (fault.Level id) why = IsUnlessUnled t levels position (BadLevel (position + 1)) why

-- the greatest level of an entry
pub record IsDeepest (levels : Levels) (deepest : ℕ) : Type 0 where
  pub position : ℕ
  pub entry : LevelEntry
  pub is : slice_get levels.entries position ≡ Some entry
  pub level : entry.level ≡ deepest
  pub most : (other : ℕ) (e : LevelEntry) → slice_get levels.entries other ≡ Some e → e.level ≤ deepest
