-- Breadth-first trees by levels: all that a node leads to, level by level, each level in order.
use Rattle.std.specs.Prelude.{◌≡◌, ◌↔◌, ◌⊎◌, ℕ, ◌+◌, ◌-◌, ◌<◌, ◌≤◌, List, Bool, false, Some, length, slice_get, slice_index_or}
use Rattle.std.specs.List.{Contains}
use Rattle.cb_successors.specs.Rows.{Has}
use Rattle.cb_breadth.specs.declared.visit.LevelVisit.{LevelVisit}
use Rattle.cb_breadth.specs.Lists.{IsListOf}
use Rattle.cb_breadth.specs.Visiting.{IsNew}

-- the visit of a node at a level from a parent
abbrev pub level_visit : ℕ → ℕ → ℕ → LevelVisit
level_visit node level parent = record { node = node; level = level; parent = parent }

-- an edge leads to the node of this visit from that of its parent, which is one level below
pub record HasEdgeBelow (edge : ℕ → ℕ → Type 0) (visits : List LevelVisit) (v : LevelVisit) : Type 0 where
  pub from : LevelVisit
  pub from_is : slice_get visits (v.parent - 1) ≡ Some from
  pub leads : edge from.node v.node
  pub above : v.level ≡ from.level + 1

-- the node is visited, at most one level above
pub record IsNear (visits : List LevelVisit) (level node : ℕ) : Type 0 where
  pub place : ℕ
  pub visit : LevelVisit
  pub is : slice_get visits place ≡ Some visit
  pub of : visit.node ≡ node
  pub near : visit.level ≤ level + 1

-- by level, and then by node
abbrev pub StandsBefore : LevelVisit → LevelVisit → Type 0
StandsBefore v w = (v.level < w.level) ⊎ ((v.level ≡ w.level) × (v.node < w.node))

-- The root is visited first, and each later node from an earlier one, along an edge and one level above it; none is visited twice, and with a node all that
-- its edges lead to, at most one level above it. Visits stand by level and then by node, and each parent is the first of its level with an edge to the node.
pub record IsLevelTree (edge : ℕ → ℕ → Type 0) (root : ℕ) (visits : List LevelVisit) : Type 0 where
  pub begins : slice_get visits 0 ≡ Some (level_visit root 0 0)
  pub earlier : (i : ℕ) (v : LevelVisit) → 0 < i → slice_get visits i ≡ Some v → (0 < v.parent) × (v.parent ≤ i)
  pub edges : (i : ℕ) (v : LevelVisit) → 0 < i → slice_get visits i ≡ Some v → HasEdgeBelow edge visits v
  pub once : (i j : ℕ) (v w : LevelVisit) → slice_get visits i ≡ Some v → slice_get visits j ≡ Some w → v.node ≡ w.node → i ≡ j
  pub closed : (i : ℕ) (v : LevelVisit) (node : ℕ) → slice_get visits i ≡ Some v → edge v.node node → IsNear visits v.level node
  pub order : (i j : ℕ) (v w : LevelVisit) → i < j → slice_get visits i ≡ Some v → slice_get visits j ≡ Some w → StandsBefore v w
  pub first : (i j : ℕ) (v w : LevelVisit) → 0 < j → slice_get visits i ≡ Some v → slice_get visits j ≡ Some w → v.level + 1 ≡ w.level
      → edge v.node w.node → w.parent ≤ i + 1

-- a part of such a tree that begins with the root: each later node is visited from an earlier one, along an edge and one level above it, and none twice
pub record IsLevelTreePart (edge : ℕ → ℕ → Type 0) (root : ℕ) (visits : List LevelVisit) : Type 0 where
  pub begins : slice_get visits 0 ≡ Some (level_visit root 0 0)
  pub earlier : (i : ℕ) (v : LevelVisit) → 0 < i → slice_get visits i ≡ Some v → (0 < v.parent) × (v.parent ≤ i)
  pub edges : (i : ℕ) (v : LevelVisit) → 0 < i → slice_get visits i ≡ Some v → HasEdgeBelow edge visits v
  pub once : (i j : ℕ) (v w : LevelVisit) → slice_get visits i ≡ Some v → slice_get visits j ≡ Some w → v.node ≡ w.node → i ≡ j

-- no more steps are counted than some part of such a tree has visits
abbrev pub CountsVisits : (ℕ → ℕ → Type 0) → ℕ → ℕ → ℕ → Type 0
CountsVisits edge root old new = (visits : List LevelVisit) × IsLevelTreePart edge root visits × (new ≤ old + length visits)

-- an edge leads to the node from one of the visits between two positions
pub record IsLedTo (edge : ℕ → ℕ → Type 0) (visits : List LevelVisit) (from to node : ℕ) : Type 0 where
  pub place : ℕ
  pub visit : LevelVisit
  pub low : from ≤ place
  pub high : place < to
  pub is : slice_get visits place ≡ Some visit
  pub leads : edge visit.node node

-- the position, counted from 1, is that of the first of these visits with an edge to the node
pub record IsFirstFrom (edge : ℕ → ℕ → Type 0) (visits : List LevelVisit) (from to node parent : ℕ) : Type 0 where
  pub led : IsLedTo edge visits from to node
  pub is : parent ≡ led.place + 1
  pub first : (other : IsLedTo edge visits from to node) → led.place ≤ other.place

-- a node that wasn't found, to which an edge leads from one of these visits
pub record IsNextNode (edge : ℕ → ℕ → Type 0) (visits : List LevelVisit) (from to : ℕ) (found : List Bool) (node : ℕ) : Type 0 where
  pub lacks : slice_index_or found node false ≡ false
  pub led : IsLedTo edge visits from to node

-- these are found now besides, and each has its parent
pub record AreFoundUpto (edge : ℕ → ℕ → Type 0) (visits : List LevelVisit) (from to : ℕ) (before found : List Bool) (parents : List ℕ) : Type 0 where
  pub found_are : (node : ℕ) → Has found node ↔ (Has before node ⊎ IsNextNode edge visits from to before node)
  pub parents_are : (node : ℕ) → IsNextNode edge visits from to before node → IsFirstFrom edge visits from to node (slice_index_or parents node 0)
  pub capacity : length found ≡ length before
  pub parents_capacity : length parents ≡ length found

-- what edges lead to from the visits from a position on, and wasn't found before, in order
pub record IsTier (edge : ℕ → ℕ → Type 0) (visits : List LevelVisit) (from : ℕ) (before found : List Bool) (parents tier : List ℕ) : Type 0 where
  pub upto : AreFoundUpto edge visits from (length visits) before found parents
  pub list : IsListOf (IsNextNode edge visits from (length visits) before) tier

-- the visit of a node at a level from the parent that stands at its position
abbrev pub levelled : ℕ → List ℕ → ℕ → LevelVisit
levelled level parents node = level_visit node level (slice_index_or parents node 0)

-- the nodes that the list has before the bound, and that weren't found, are found and listed, and have that parent; the others are as they were
pub record MarksNewNodes (parent : ℕ) (next : List ℕ) (bound : ℕ) (found : List Bool) (parents tier : List ℕ) (found' : List Bool) (parents' tier' : List ℕ) : Type 0
  where
    pub found_are : (node : ℕ) → Has found' node ↔ (Has found node ⊎ IsNew next bound found node)
    pub listed : (node : ℕ) → Contains tier' node ↔ (Contains tier node ⊎ IsNew next bound found node)
    pub new_parent : (node : ℕ) → IsNew next bound found node → slice_index_or parents' node 0 ≡ parent
    pub old_parent : (node : ℕ) → Has found node → slice_index_or parents' node 0 ≡ slice_index_or parents node 0
    pub capacity : length found' ≡ length found
    pub parents_capacity : length parents' ≡ length found'
