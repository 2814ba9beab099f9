-- The checks of levels, in order, and what the first one that fails reports.
use Rattle.std.specs.Prelude.{◌≡◌, ◌≢◌, ⊤, ℕ, ◌+◌, ◌-◌, ◌<◌, ◌≤◌, List, [], ◌∷◌, ◌++◌, length, map, Some, slice_get}
use Rattle.std.specs.List.{All, flat_map, range_with_len}
use Rattle.std.specs.declared.cmp.Ordering.TheVariants.{Less}
use Rattle.cb_model.specs.declared.node.NodeName.{NodeName}
use Rattle.cb_model.specs.NodeOrder.{node_cmp}
use Rattle.cb_network.specs.Topology.{Topology}
use Rattle.cb_network.specs.Causes.{Edge}
use Rattle.cb_validity.specs.Checks.{IsGoodNode, places}
use Rattle.cb_validity.specs.Spans.{StandsFor}
use Rattle.cb_levels.specs.declared.levels.LevelEntry.{LevelEntry}
use Rattle.cb_levels.specs.declared.levels.Levels.{Levels}
use Rattle.cb_levels.specs.declared.verdict.LevelFault.{LevelFault}
use Rattle.cb_levels.specs.declared.verdict.LevelFault.TheVariants.{BadNode, BadRoot, BadParent, NoEdge, Repeated, BadLevel, NotClosed, NotShort, NoMemory}
use Rattle.cb_levels.specs.declared.verdict.Proved.{Proved}
use Rattle.cb_levels.specs.Listed.{IsEntryAt, ListsInLevels}
use Rattle.cb_levels.specs.Valid.{BeginsAtProblem}

-- the checks, with positions that count from 0
pub data LevelCheck : Type 0 where
  node_check : ℕ → LevelCheck
  root_check : LevelCheck
  parent_check : ℕ → LevelCheck
  edge_check : ℕ → LevelCheck
  new_check : ℕ → LevelCheck
  level_check : ℕ → LevelCheck
  closed_check : ℕ → LevelCheck
  short_check : ℕ → LevelCheck

-- the checks of an entry after the first one
abbrev pub checks_of_entry : ℕ → List LevelCheck
checks_of_entry k = parent_check k ∷ edge_check k ∷ new_check k ∷ level_check k ∷ []

-- the checks of the successors of an entry's node
abbrev pub checks_of_successors : ℕ → List LevelCheck
checks_of_successors k = closed_check k ∷ short_check k ∷ []

-- the checks of the nodes, of the later entries, and of all successors
abbrev pub node_checks : Levels → List LevelCheck
node_checks levels = map node_check (places levels.nodes)

abbrev pub later_checks : Levels → List LevelCheck
later_checks levels = flat_map checks_of_entry (range_with_len 1 (length levels.entries - 1))

abbrev pub closing_checks : Levels → List LevelCheck
closing_checks levels = flat_map checks_of_successors (places levels.entries)

-- nodes; the first entry; each later entry; and the successors of each
abbrev pub level_checks : Levels → List LevelCheck
level_checks levels = node_checks levels ++ root_check ∷ (later_checks levels ++ closing_checks levels)

-- there is an entry at the position, such that P
abbrev pub LevelEntryIs : Levels → ℕ → (LevelEntry → Type 0) → Type 0
LevelEntryIs levels position P = (entry : LevelEntry) × (slice_get levels.entries position ≡ Some entry) × P entry

-- the parent is the position, counted from 1, of an entry before this position, which counts from 0
abbrev pub IsParentEarlier : ℕ → LevelEntry → Type 0
IsParentEarlier position entry = (0 < entry.parent) × (entry.parent ≤ position)

-- an edge leads from the node of the entry's parent to the entry's node
pub record HasEdgeFromParent (t : Topology) (levels : Levels) (entry : LevelEntry) : Type 0 where
  pub from : LevelEntry
  pub source : NodeName
  pub target : NodeName
  pub from_is : IsEntryAt levels (entry.parent - 1) from source
  pub to_is : StandsFor levels.nodes entry.node target
  pub edge : Edge t source target

-- no entry before the position lists its node
abbrev pub IsFirstListed : Levels → ℕ → Type 0
IsFirstListed levels position = (before : ℕ) (x y : LevelEntry) (node : NodeName) → before < position → IsEntryAt levels before x node → ¬ IsEntryAt levels position y node

-- the entry is one level above its parent
abbrev pub IsOneAbove : Levels → LevelEntry → Type 0
IsOneAbove levels entry = (from : LevelEntry) × (slice_get levels.entries (entry.parent - 1) ≡ Some from) × (entry.level ≡ from.level + 1)

-- q is listed more than one level above
abbrev pub IsTooFar : Levels → ℕ → NodeName → Type 0
IsTooFar levels level q = (position : ℕ) × (entry : LevelEntry) × IsEntryAt levels position entry q × (level + 1 < entry.level)

-- all successors of the node of the entry at the position are listed
abbrev pub AreLevelsClosedAt : Topology → Levels → ℕ → Type 0
AreLevelsClosedAt t levels position = (entry : LevelEntry) (p q : NodeName) → IsEntryAt levels position entry p → Edge t p q → ListsInLevels levels q

-- none of them is listed more than one level above it
abbrev pub IsShortAt : Topology → Levels → ℕ → Type 0
IsShortAt t levels position = (entry : LevelEntry) (p q : NodeName) → IsEntryAt levels position entry p → Edge t p q → ¬ IsTooFar levels entry.level q

-- the levels pass the check
abbrev pub PassesCheck : Topology → Levels → LevelCheck → Type 0
PassesCheck t levels (node_check position) = IsGoodNode t levels.nodes position
PassesCheck t levels root_check = (root : NodeName) × BeginsAtProblem t levels root
PassesCheck t levels (parent_check position) = LevelEntryIs levels position (IsParentEarlier position)
PassesCheck t levels (edge_check position) = LevelEntryIs levels position (HasEdgeFromParent t levels)
PassesCheck t levels (new_check position) = IsFirstListed levels position
PassesCheck t levels (level_check position) = LevelEntryIs levels position (IsOneAbove levels)
PassesCheck t levels (closed_check position) = AreLevelsClosedAt t levels position
PassesCheck t levels (short_check position) = IsShortAt t levels position

-- the least successor of the entry's node such that P
pub record IsLeastSuccessor (t : Topology) (levels : Levels) (position : ℕ) (P : LevelEntry → NodeName → Type 0) (successor : NodeName) : Type 0 where
  pub entry : LevelEntry
  pub node : NodeName
  pub is : IsEntryAt levels position entry node
  pub edge : Edge t node successor
  pub such : P entry successor
  pub least : (other : NodeName) → Edge t node other → P entry other → node_cmp other successor ≢ Less

-- what is reported where a check fails: the position of a node or of an entry, which count from 1
abbrev pub ReportsLevelCheck : Topology → Levels → LevelCheck → LevelFault → Type 0
ReportsLevelCheck t levels (node_check position) why = why ≡ BadNode (position + 1)
ReportsLevelCheck t levels root_check why = why ≡ BadRoot 1
ReportsLevelCheck t levels (parent_check position) why = why ≡ BadParent (position + 1)
ReportsLevelCheck t levels (edge_check position) why = why ≡ NoEdge (position + 1)
ReportsLevelCheck t levels (new_check position) why = why ≡ Repeated (position + 1)
ReportsLevelCheck t levels (level_check position) why = why ≡ BadLevel (position + 1)
ReportsLevelCheck t levels (closed_check position) why =
    (successor : NodeName) × IsLeastSuccessor t levels position (λ entry q. ¬ ListsInLevels levels q) successor × (why ≡ NotClosed (position + 1) successor)
ReportsLevelCheck t levels (short_check position) why =
    (successor : NodeName) × IsLeastSuccessor t levels position (λ entry q. IsTooFar levels entry.level q) successor × (why ≡ NotShort (position + 1) successor)

-- of these checks all before one are passed, and that one fails and reports this
pub record FailsFirstOf (t : Topology) (levels : Levels) (checks : List LevelCheck) (why : LevelFault) : Type 0 where
  pub before : List LevelCheck
  pub check : LevelCheck
  pub after : List LevelCheck
  pub are : checks ≡ before ++ check ∷ after
  pub passed : All (PassesCheck t levels) before
  pub fails : ¬ PassesCheck t levels check
  pub tells : ReportsLevelCheck t levels check why

-- the levels are rejected for this
abbrev pub IsRejectedFor : Topology → Levels → LevelFault → Type 0
IsRejectedFor t levels why = FailsFirstOf t levels (level_checks levels) why

-- these checks report this, or memory ran out
abbrev pub StopsChecks : Topology → Levels → List LevelCheck → LevelFault → Type 0
StopsChecks t levels checks NoMemory = ⊤
StopsChecks t levels checks why = FailsFirstOf t levels checks why

-- the levels are rejected for this, or memory ran out
abbrev pub TellsLevelFault : Topology → Levels → LevelFault → Type 0
TellsLevelFault t levels why = StopsChecks t levels (level_checks levels) why

-- what accepted levels show: their problem, how many entries there are, and the greatest of their levels
pub record ShowsReach (t : Topology) (levels : Levels) (proved : Proved) : Type 0 where
  pub root : BeginsAtProblem t levels proved.root
  pub reached : proved.reached ≡ length levels.entries
  pub attained : (position : ℕ) × (entry : LevelEntry) × (slice_get levels.entries position ≡ Some entry) × (entry.level ≡ proved.deepest)
  pub deepest : (position : ℕ) (entry : LevelEntry) → slice_get levels.entries position ≡ Some entry → entry.level ≤ proved.deepest

-- all positions have numbers below 2^32
pub record HasSmallNumbers (levels : Levels) : Type 0 where
  pub nodes : length levels.nodes < 4294967295
  pub entries : length levels.entries < 4294967295
