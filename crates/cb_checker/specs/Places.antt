-- The positions of columns among all columns, by numbers.
use Rattle.std.specs.Prelude.{◌≡◌, ℕ, List, Some, slice_get}
use Rattle.std.specs.List.{AllZip}
use Rattle.cb_nodes.specs.declared.id.NodeId.{NodeId}
use Rattle.cb_checker.specs.Known.{IsIdAt}
use Rattle.cb_checker.specs.Listed.{IsAmongPlaced}

-- the number is that of one of these nodes
abbrev pub IsThere : List NodeId → List NodeId → ℕ → Type 0
IsThere all ids number = (id : NodeId) × IsIdAt ids number id × IsAmongPlaced all id.0

-- all numbers are those of these nodes
abbrev pub AreThere : List NodeId → List NodeId → List ℕ → Type 0
AreThere all ids numbers = (i number : ℕ) → slice_get numbers i ≡ Some number → IsThere all ids number

-- the node with this number has this position among them
abbrev pub IsPlaceOf : List NodeId → List NodeId → ℕ → ℕ → Type 0
IsPlaceOf all ids number place = (id : NodeId) × IsIdAt ids number id × (slice_get all place ≡ Some id)

abbrev pub ArePlacesOf : List NodeId → List NodeId → List ℕ → List ℕ → Type 0
ArePlacesOf all ids numbers places = AllZip (IsPlaceOf all ids) numbers places
