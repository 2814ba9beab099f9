-- Columns by their positions among all columns.
use Rattle.std.specs.Prelude.{◌≡◌, ℕ, List, Some, slice_get}
use Rattle.std.specs.List.{AllZip}
use Rattle.cb_model.specs.declared.node.NodeName.{NodeName}
use Rattle.cb_validity.specs.Laws.{HavePlaces}
use Rattle.cb_nodes.specs.declared.id.NodeId.{NodeId}
use Rattle.cb_topo.specs.Numbered.{Numbered, AreNamed}

-- the numbers at these positions
abbrev pub AreAt : List NodeId → List ℕ → List NodeId → Type 0
AreAt all places ids = AllZip (λ place id. slice_get all place ≡ Some id) places ids

-- the columns of these numbers have these positions
abbrev pub HaveColumnPlaces : Numbered → List NodeName → List ℕ → List NodeId → Type 0
HaveColumnPlaces n all places ids = (columns : List NodeName) × AreNamed n ids columns × HavePlaces all columns places
