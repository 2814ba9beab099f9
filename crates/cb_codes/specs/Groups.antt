-- Groups, each by its code and its members.
use Rattle.std.specs.Prelude.{◌≡◌, ◌==◌, ℕ, List, [], ◌∷◌, length, map, Bool, true, false, Some, slice_get}
use Rattle.cb_model.specs.declared.node.NamedGroup.{NamedGroup}
use Rattle.cb_coding.specs.declared.group.Group.{Group}

-- how many columns the codes have, and the groups in order
pub record Grouped : Type 0 where
  pub width : ℕ
  pub groups : List Group

-- a code with the members of a group
abbrev pub group_with : List Bool → NamedGroup → Group
group_with code group = record { code = code; members = group.members }

-- these codes with the members of these groups, one by one
abbrev pub groups_of : List (List Bool) → List NamedGroup → List Group
groups_of [] groups = []
groups_of (code ∷ codes) [] = []
groups_of (code ∷ codes) (group ∷ groups) = group_with code group ∷ groups_of codes groups

-- there are as many groups as codes, and the first one alone is said to be quiet
pub record Fit (codes : List (List Bool)) (groups : List NamedGroup) : Type 0 where
  pub as_many : length groups ≡ length codes
  pub quiet : (i : ℕ) (group : NamedGroup) → slice_get groups i ≡ Some group → group.quiet ≡ (i == 0)

-- a group by its members, and whether it is the quiet one
abbrev pub named : Bool → Group → NamedGroup
named quiet group = record { quiet = quiet; members = group.members }

-- groups by their members, the first of which is the quiet one
abbrev pub named_of : List Group → List NamedGroup
named_of [] = []
named_of (quiet ∷ groups) = named true quiet ∷ map (named false) groups
