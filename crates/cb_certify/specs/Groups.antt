-- The groups of a topology's problems, by the columns that their trees have.
use Rattle.std.specs.Prelude.{◌≡◌, ◌+◌, ◌-◌, ◌<◌, ◌≤◌, ℕ, List, [], ◌∷◌, ◌++◌, Option, None, Some, length, slice_get}
use Rattle.cb_model.specs.declared.node.NodeName.{NodeName}
use Rattle.cb_nodes.specs.declared.id.NodeId.{NodeId}
use Rattle.cb_coding.specs.declared.group.Group.{Group}
use Rattle.cb_coding.specs.Groups.{codes_of, zeros}
use Rattle.cb_codes.specs.declared.each_once.EachOnce.{EachOnce}
use Rattle.cb_codes.specs.EachOnce.{HaveMarks}
use Rattle.cb_codes.specs.Groups.{Grouped}
use Rattle.cb_network.specs.Topology.{Topology}
use Rattle.cb_network.specs.Sound.{problem_limit, symptom_limit}
use Rattle.cb_graph.specs.Edges.{number}
use Rattle.cb_finding.specs.Matrix.{IsMatrix}
use Rattle.cb_topo.specs.Numbered.{Numbered, topology_of, IsNodeNamed}
use Rattle.cb_certify.specs.declared.groups.CodedGroups.{CodedGroups}

-- the groups of the topology, with codes over its columns
pub record AreGroupsOf (t : Topology) (made : Grouped) : Type 0 where
  pub columns : List NodeName
  pub matrix : IsMatrix t columns made.groups
  pub wide : made.width ≡ length columns
  pub few_columns : length columns ≤ symptom_limit
  pub few_groups : length made.groups ≤ problem_limit + 1

-- the code of the quiet group alone, with its mark
pub record IsQuietAlone (width : ℕ) (codes : EachOnce) : Type 0 where
  pub width_is : codes.codes.width ≡ width
  pub quiet : codes.codes.rows ≡ zeros width ∷ []
  pub marks : HaveMarks codes.codes.rows codes.firsts

-- the number of the group's least member
pub record IsLeastOf (n : Numbered) (group : Group) (id : NodeId) : Type 0 where
  pub node : NodeName
  pub named : IsNodeNamed n id node
  pub first : slice_get group.members 0 ≡ Some node

-- the numbers of the least members of all groups but the first
pub record AreLeast (n : Numbered) (groups : List Group) (ids : List NodeId) : Type 0 where
  pub count : length groups ≡ length ids + 1
  pub each : (k : ℕ) (group : Group) → slice_get groups (k + 1) ≡ Some group → (id : NodeId) × (slice_get ids k ≡ Some id) × IsLeastOf n group id

-- the codes of the topology's groups, and their least members
pub record AreGroupsIn (n : Numbered) (made : CodedGroups) : Type 0 where
  pub groups : Grouped
  pub are : AreGroupsOf (topology_of n) groups
  pub width : made.codes.width ≡ groups.width
  pub codes : made.codes.rows ≡ codes_of groups.groups
  pub least : AreLeast n groups.groups made.least

-- the number at a position after the first; the first has none
abbrev pub IsLeastAt : List NodeId → ℕ → Option NodeId → Type 0
IsLeastAt least place None = place ≡ 0
IsLeastAt least place (Some id) = (0 < place) × (slice_get least (place - 1) ≡ Some id)

-- a problem's number goes after the others where its group is new
pub record TakesLeast (group : ℕ) (id : NodeId) (old new : List NodeId) : Type 0 where
  pub opens : length old < group → new ≡ old ++ id ∷ []
  pub joins : group ≤ length old → new ≡ old
