-- Codes and groups that are read off spans.
use Rattle.std.specs.Prelude.{◌≡◌, ◌↔◌, ℕ, List, length, map, Bool, IsTrue, Some, slice_get}
use Rattle.std.specs.List.{AllZip}
use Rattle.cb_model.specs.declared.node.NodeName.{NodeName}
use Rattle.cb_model.specs.declared.wish.Wish.{Wish}
use Rattle.cb_coding.specs.declared.group.Group.{Group}
use Rattle.cb_coding.specs.declared.group.Problem.{Problem}
use Rattle.cb_coding.specs.Distance.{distance, all_columns}
use Rattle.cb_coding.specs.Groups.{AreGroups, codes_of, zeros}
use Rattle.cb_coding.specs.Needs.{need_of}
use Rattle.cb_coding.specs.Pairs.{GoodFor}
use Rattle.cb_coding.specs.Radii.{AreRadii}
use Rattle.cb_network.specs.Topology.{Topology}
use Rattle.cb_network.specs.Nodes.{AreColumns, AreProblems}
use Rattle.cb_cert.specs.declared.certificate.Span.{Span}
use Rattle.cb_cert.specs.declared.certificate.Side.{Side}
use Rattle.cb_cert.specs.declared.certificate.Side.TheVariants.{Quiet, Root}
use Rattle.cb_validity.specs.Spans.{StandsFor, ListsNode}

-- for each column, whether the span lists it
abbrev pub IsSpanCode : List NodeName → List NodeName → Span → List Bool → Type 0
IsSpanCode nodes columns span code = AllZip (λ column bit. IsTrue bit ↔ ListsNode nodes span column) columns code

-- the code of the quiet group has no symptom; that of another is read off its span
abbrev pub IsSideCode : List NodeName → List NodeName → Side → List Bool → Type 0
IsSideCode nodes columns Quiet code = code ≡ zeros (length columns)
IsSideCode nodes columns (Root span) code = IsSpanCode nodes columns span code

-- all columns of the topology, and the groups that the codes of the spans make, one span for each problem
pub record MakeGroups (t : Topology) (nodes : List NodeName) (spans : List Span) (columns : List NodeName) (groups : List Group) : Type 0
  where
    pub problems : List Problem
    pub columns_are : AreColumns t columns
    pub problems_are : AreProblems t (map (λ p. p.name) problems)
    pub codes_are : AllZip (λ span p. IsSpanCode nodes columns span p.code) spans problems
    pub groups_are : AreGroups (length columns) problems groups

-- the column with this number has this position among all columns
pub record IsColumnPlace (nodes columns : List NodeName) (number place : ℕ) : Type 0 where
  pub column : NodeName
  pub names : StandsFor nodes number column
  pub is : slice_get columns place ≡ Some column

-- the columns with these numbers have these positions among all columns
abbrev pub ArePlaces : List NodeName → List NodeName → List ℕ → List ℕ → Type 0
ArePlaces nodes columns numbers places = AllZip (IsColumnPlace nodes columns) numbers places

-- over the columns with these numbers, the groups that the spans make are as far apart as the wish asks
pub record AreApart (t : Topology) (nodes : List NodeName) (numbers : List ℕ) (spans : List Span) (wish : Wish) : Type 0 where
  pub columns : List NodeName
  pub groups : List Group
  pub places : List ℕ
  pub made : MakeGroups t nodes spans columns groups
  pub places_are : ArePlaces nodes columns numbers places
  pub good : GoodFor (codes_of groups) places (need_of (length columns) (codes_of groups) wish)

-- the groups that the spans make have these radii for the cap, in order
pub record MakeRadii (t : Topology) (nodes : List NodeName) (spans : List Span) (cap : ℕ) (radii : List ℕ) : Type 0 where
  pub columns : List NodeName
  pub groups : List Group
  pub made : MakeGroups t nodes spans columns groups
  pub are : AreRadii (length columns) (codes_of groups) cap radii

-- over all columns, the codes that are read off the two sides are so far apart
pub record AreSidesApart (t : Topology) (nodes : List NodeName) (first : Side) (second : Span) (far : ℕ) : Type 0 where
  pub columns : List NodeName
  pub columns_are : AreColumns t columns
  pub v : List Bool
  pub w : List Bool
  pub first_is : IsSideCode nodes columns first v
  pub second_is : IsSpanCode nodes columns second w
  pub far_is : far ≡ distance (all_columns (length columns)) v w
