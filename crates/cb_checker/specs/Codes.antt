-- Codes over the columns of a topology, by numbers.
use Rattle.std.specs.Prelude.{◌≡◌, ◌↔◌, ◌<◌, false, ℕ, List, Bool, Some, length, slice_get, slice_index_or}
use Rattle.std.specs.List.{All, Contains}
use Rattle.cb_compact.specs.Compact.{AreRising}
use Rattle.cb_nodes.specs.declared.id.NodeId.{NodeId}
use Rattle.cb_checker.specs.Listed.{IsAmongPlaced}

-- for each column, whether the row has it
pub record IsCodeOfListed (columns : List NodeId) (listed code : List Bool) : Type 0 where
  pub width : length code ≡ length columns
  pub each : (place : ℕ) (id : NodeId) → slice_get columns place ≡ Some id → slice_index_or code place false ≡ slice_index_or listed id.0 false

-- the positions of the columns among the placed nodes, in order
pub record AreColumnsListed (columns placed : List NodeId) (positions : List ℕ) : Type 0 where
  pub rising : AreRising positions
  pub within : All (λ place. place < length columns) positions
  pub each : (place : ℕ) (id : NodeId) → slice_get columns place ≡ Some id → Contains positions place ↔ IsAmongPlaced placed id.0
