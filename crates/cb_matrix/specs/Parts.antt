-- The parts of a matrix.
use Rattle.std.specs.Prelude.{◌≡◌, ◌<◌, ℕ, List, length, map, Bool}
use Rattle.std.specs.List.{All}
use Rattle.cb_coding.specs.declared.group.Group.{Group}
use Rattle.cb_coding.specs.Distance.{code_at}
use Rattle.cb_codes.specs.Groups.{Grouped}
use Rattle.cb_codes.specs.declared.grouping.Grouping.{Grouping}
use Rattle.cb_nodes.specs.declared.id.NodeId.{NodeId}

-- the numbers of the columns, the numbers of the problems with their codes, and the groups
pub record Parts : Type 0 where
  pub columns : List NodeId
  pub problems : List NodeId
  pub codes : List (List Bool)
  pub groups : List Group

-- the codes at these positions
abbrev pub codes_at : List (List Bool) → List ℕ → List (List Bool)
codes_at codes places = map (code_at codes) places

-- each problem has the position of a group, and codes are as wide as there are columns
pub record AreParts (columns problems : List NodeId) (places : List ℕ) (groups : Grouped) : Type 0 where
  pub wide : groups.width ≡ length columns
  pub all : length places ≡ length problems
  pub within : All (λ place. place < length groups.groups) places

-- each problem has the position of a code
pub record HaveCodePlaces (problems : List NodeId) (grouping : Grouping) : Type 0 where
  pub all : length grouping.places ≡ length problems
  pub within : All (λ place. place < length grouping.codes.codes.rows) grouping.places
