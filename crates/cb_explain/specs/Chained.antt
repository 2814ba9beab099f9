-- Visits by levels, and where the chains to nodes end among them.
use Rattle.std.specs.Prelude.{◌≡◌, ℕ, ◌+◌, List, Option, None, Some, slice_get}
use Rattle.std.specs.List.{AllZip, filter_map}
use Rattle.cb_breadth.specs.declared.visit.LevelVisit.{LevelVisit}
use Rattle.cb_breadth.specs.declared.visit.Order.{Order}
use Rattle.cb_nodes.specs.declared.id.NodeId.{NodeId}
use Rattle.cb_span.specs.Orders.{IsRank}
use Rattle.cb_explain.specs.Levelled.{IsRankVisited}

-- for the rank of each visited node the position of its visit
abbrev pub HavePositions : List LevelVisit → List ℕ → Type 0
HavePositions visits positions = (i : ℕ) (v : LevelVisit) → slice_get visits i ≡ Some v → slice_get positions v.node ≡ Some i

-- no node is visited twice
abbrev pub AreVisitedOnce : List LevelVisit → Type 0
AreVisitedOnce visits = (i j : ℕ) (v w : LevelVisit) → slice_get visits i ≡ Some v → slice_get visits j ≡ Some w → v.node ≡ w.node → i ≡ j

-- the visit of the rank's node has this position, counted from 1
pub record IsEndOf (visits : List LevelVisit) (rank end : ℕ) : Type 0 where
  pub position : ℕ
  pub visit : LevelVisit
  pub end_is : end ≡ position + 1
  pub is : slice_get visits position ≡ Some visit
  pub of : visit.node ≡ rank

-- where the node of this number is visited, or that it isn't
abbrev pub IsEndIfVisited : Order → List LevelVisit → NodeId → Option ℕ → Type 0
IsEndIfVisited order visits id (Some end) = (rank : ℕ) × IsRank order id rank × IsEndOf visits rank end
IsEndIfVisited order visits id None = (rank : ℕ) × IsRank order id rank × (¬ IsRankVisited visits rank)

-- the ends that there are
abbrev pub ends_in : List (Option ℕ) → List ℕ
ends_in found = filter_map (λ end. end) found

-- where those of these nodes that are visited end, in their order
pub record AreEndsOf (order : Order) (visits : List LevelVisit) (ids : List NodeId) (ends : List ℕ) : Type 0 where
  pub found : List (Option ℕ)
  pub each : AllZip (IsEndIfVisited order visits) ids found
  pub are : ends ≡ ends_in found
