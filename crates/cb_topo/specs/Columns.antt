-- Numbers of nodes in a list, and the position of each.
use Rattle.std.specs.Prelude.{◌≡◌, ◌≢◌, ◌↔◌, ◌<◌, ℕ, List, Option, None, Some, slice_get}
use Rattle.cb_model.specs.declared.node.NodeName.{NodeName}
use Rattle.cb_network.specs.Nodes.{AreColumns}
use Rattle.cb_nodes.specs.declared.id.NodeId.{NodeId}
use Rattle.cb_topo.specs.Numbered.{Numbered, topology_of, AreNamed}

-- the numbers of all columns, in order
pub record AreAllColumns (n : Numbered) (ids : List NodeId) : Type 0 where
  pub names : List NodeName
  pub are : AreColumns (topology_of n) names
  pub named : AreNamed n ids names

-- no number is there twice
abbrev pub AreDistinctIds : List NodeId → Type 0
AreDistinctIds ids = (i j : ℕ) (id : NodeId) → slice_get ids i ≡ Some id → slice_get ids j ≡ Some id → i ≡ j

-- all numbers are below the bound
abbrev pub AreIdsBelow : ℕ → List NodeId → Type 0
AreIdsBelow capacity ids = (i : ℕ) (id : NodeId) → slice_get ids i ≡ Some id → id.0 < capacity

-- the node is at this position alone; without one it is at none
abbrev pub IsPositionOf : List NodeId → NodeId → Option ℕ → Type 0
IsPositionOf ids id None = (i : ℕ) → slice_get ids i ≢ Some id
IsPositionOf ids id (Some position) = (i : ℕ) → (slice_get ids i ≡ Some id) ↔ (i ≡ position)

-- for the number of each node its one position among these, if it is one of them
pub record IsPositionTable (ids : List NodeId) (positions : List (Option ℕ)) : Type 0 where
  pub each : (id : NodeId) (i : ℕ) → slice_get positions id.0 ≡ Some (Some i) → slice_get ids i ≡ Some id
  pub all : (id : NodeId) (i : ℕ) → slice_get ids i ≡ Some id → slice_get positions id.0 ≡ Some (Some i)
