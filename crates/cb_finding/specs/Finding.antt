-- What is found for a set of raised nodes. The set is given as its list in order.
use Rattle.std.specs.Prelude.{◌≡◌, ℕ, ◌<◌, ◌==◌, List, [], length, map, Bool, not, Option, Some, slice_get, slice_index_or}
use Rattle.std.specs.List.{count_by, list_any}
use Rattle.std.specs.Ordering.{eq_by_cmp}
use Rattle.cb_model.specs.declared.node.GroupName.{GroupName}
use Rattle.cb_model.specs.declared.node.GroupName.TheVariants.{Quiet, Least}
use Rattle.cb_model.specs.declared.node.NamedGroup.{NamedGroup}
use Rattle.cb_model.specs.declared.node.NodeName.{NodeName}
use Rattle.cb_model.specs.Order.{Rises}
use Rattle.cb_model.specs.NodeOrder.{node_cmp}
use Rattle.cb_coding.specs.declared.book.Answer.{Answer}
use Rattle.cb_coding.specs.declared.book.Pair.{Pair}
use Rattle.cb_coding.specs.declared.group.Group.{Group}
use Rattle.cb_model.specs.declared.wish.Wish.{Wish}
use Rattle.cb_coding.specs.Answers.{IsAnswerWhere, IsWithinRadius, SomeReach, radius}
use Rattle.cb_coding.specs.Distance.{all_columns}
use Rattle.cb_coding.specs.Groups.{codes_of}
use Rattle.cb_coding.specs.Pairs.{IsClosestPair, least_or_one}
use Rattle.cb_coding.specs.Used.{HaveRadii}
use Rattle.cb_finding.specs.declared.finding.Finding.{Finding}
use Rattle.cb_network.specs.Topology.{Topology}
use Rattle.cb_finding.specs.Matrix.{IsMatrix}

-- whether the node is one of these
abbrev pub is_among : List NodeName → NodeName → Bool
is_among nodes n = list_any (eq_by_cmp node_cmp n) nodes

-- for each column, whether it is raised
abbrev pub word_of : List NodeName → List NodeName → List Bool
word_of columns raised = map (is_among raised) columns

-- how many of the raised nodes are no column
abbrev pub unknown_of : List NodeName → List NodeName → ℕ
unknown_of columns raised = count_by (λ n. not (is_among columns n)) raised

-- the group at a position, by its members; the first is the quiet one
abbrev pub named_group : List Group → ℕ → NamedGroup
named_group groups i = record { quiet = i == 0; members = slice_index_or (map (λ g. g.members) groups) i [] }

-- the groups at these positions
abbrev pub named_groups : List Group → List ℕ → List NamedGroup
named_groups groups places = map (named_group groups) places

-- what the group at a position is called: the first one is the quiet one, and any other is called by its least problem
abbrev pub IsCalled : List Group → ℕ → GroupName → Type 0
IsCalled groups i Quiet = i ≡ 0
IsCalled groups i (Least node) = (0 < i) × (g : Group) × (slice_get groups i ≡ Some g) × (slice_get g.members 0 ≡ Some node)

-- The answer to the raised nodes over the columns of a book, with the numbers of raised and of unknown nodes: which radius is reported, and when
-- it is sure.
pub record IsFindingWhere (Reported : Answer → ℕ → Type 0) (Sure : Answer → Type 0) (columns : List NodeName) (groups : List Group)
    (book_columns : List ℕ) (raised : List NodeName) (finding : Finding) : Type 0 where
  pub rise : Rises node_cmp raised
  pub raised_are : finding.raised ≡ length raised
  pub unknown_are : finding.unknown ≡ unknown_of columns raised
  pub answer : Answer
  pub radius_is : Reported answer finding.radius
  pub answered : IsAnswerWhere Sure book_columns (codes_of groups) (word_of columns raised) answer
  pub distance_is : finding.distance ≡ answer.distance
  pub sure_is : finding.sure ≡ answer.sure
  pub groups_are : finding.groups ≡ named_groups groups answer.groups

-- the radius of codes that are d apart
abbrev pub ReportsRadius : ℕ → Answer → ℕ → Type 0
ReportsRadius d answer r = r ≡ radius d

-- the radius of the first listed group
abbrev pub ReportsFirst : (ℕ → ℕ) → Answer → ℕ → Type 0
ReportsFirst radius_of answer r = (i : ℕ) × (slice_get answer.groups 0 ≡ Some i) × (r ≡ radius_of i)

-- the finding over columns at which the codes are d apart
abbrev pub IsFinding : List NodeName → List Group → List ℕ → ℕ → List NodeName → Finding → Type 0
IsFinding columns groups book_columns d raised finding = IsFindingWhere (ReportsRadius d) (IsWithinRadius d) columns groups book_columns raised finding

-- the finding where each group has a radius of its own
abbrev pub IsFindingBy : List NodeName → List Group → List ℕ → (ℕ → ℕ) → List NodeName → Finding → Type 0
IsFindingBy columns groups book_columns radius_of raised finding =
    IsFindingWhere (ReportsFirst radius_of) (SomeReach radius_of) columns groups book_columns raised finding

-- the finding over the columns in use, by the wish that they meet
pub record IsFindingFor (columns : List NodeName) (groups : List Group) (book_columns : List ℕ) (used : Wish) (raised : List NodeName)
    (finding : Finding) : Type 0 where
  pub radius_of : ℕ → ℕ
  pub radii : HaveRadii (length columns) (codes_of groups) used radius_of
  pub found : IsFindingBy columns groups book_columns radius_of raised finding

-- what is found over all columns of the topology, whose codes are the least distance apart
pub record IsBurst (t : Topology) (raised : List NodeName) (finding : Finding) : Type 0 where
  pub columns : List NodeName
  pub groups : List Group
  pub matrix : IsMatrix t columns groups
  pub least : Option Pair
  pub least_is : IsClosestPair (length columns) (codes_of groups) least
  pub found : IsFinding columns groups (all_columns (length columns)) (least_or_one least) raised finding
