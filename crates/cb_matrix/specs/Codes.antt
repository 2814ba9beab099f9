-- Codes over numbers of nodes.
use Rattle.std.specs.Prelude.{◌≡◌, ◌<◌, ◌↔◌, ◌⊎◌, ◌*◌, ℕ, List, Bool, Some, length, slice_get}
use Rattle.std.specs.List.{All, Contains}
use Rattle.cb_bits.specs.Bits.{values}
use Rattle.cb_compact.specs.Compact.{AreRising}
use Rattle.cb_nodes.specs.declared.id.NodeId.{NodeId}
use Rattle.cb_successors.specs.Rows.{Has}
use Rattle.cb_graph.specs.Edges.{number}

-- for each column, whether this holds of its node
pub record IsCodeWhere (columns : List NodeId) (P : ℕ → Type 0) (code : List Bool) : Type 0 where
  pub width : length code ≡ length columns
  pub each : (place node : ℕ) → slice_get columns place ≡ Some (number node) → Has code place ↔ P node

-- for each column, whether the set of nodes has it
abbrev pub IsCodeOf : List NodeId → List Bool → List Bool → Type 0
IsCodeOf columns reached code = IsCodeWhere columns (Has reached) code

-- for each column, whether one of two sets of nodes has it
pub record IsCodeOfEither (columns : List NodeId) (one other code : List Bool) : Type 0 where
  pub width : length code ≡ length columns
  pub each : (place node : ℕ) → slice_get columns place ≡ Some (number node) → Has code place ↔ (Has one node ⊎ Has other node)

-- the positions of the columns of which this holds, in order
pub record AreColumnsIn (columns : List NodeId) (P : ℕ → Type 0) (positions : List ℕ) : Type 0 where
  pub rising : AreRising positions
  pub within : All (λ place. place < length columns) positions
  pub each : (place node : ℕ) → slice_get columns place ≡ Some (number node) → Contains positions place ↔ P node

-- those that the set of nodes has
abbrev pub AreColumnsOf : List NodeId → List Bool → List ℕ → Type 0
AreColumnsOf columns reached positions = AreColumnsIn columns (Has reached) positions

-- the bits of words, one by one
abbrev pub bits : List ℕ → List Bool
bits words = values words (64 * length words)
