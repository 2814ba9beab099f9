-- What the claim of a book comes to.
use Rattle.std.specs.Prelude.{◌≡◌, ℕ, ◌<◌, List, length, Result, Ok, Err, Some, slice_get}
use Rattle.cb_coding.specs.declared.book.Pair.{Pair}
use Rattle.cb_coding.specs.declared.group.Group.{Group}
use Rattle.cb_coding.specs.Groups.{codes_of}
use Rattle.cb_coding.specs.Needs.{need_of}
use Rattle.cb_coding.specs.Pairs.{GoodFor, IsFirstShort}
use Rattle.cb_codes.specs.Groups.{Grouped}
use Rattle.cb_finding.specs.Finding.{IsCalled}
use Rattle.cb_model.specs.declared.node.GroupName.{GroupName}
use Rattle.cb_model.specs.declared.node.NodeName.{NodeName}
use Rattle.cb_model.specs.declared.wish.Wish.{Wish}
use Rattle.cb_model.specs.declared.wish.Wish.TheVariants.{Plain, Cap}
use Rattle.cb_cert.specs.declared.certificate.Certificate.{Certificate}
use Rattle.cb_cert.specs.declared.certificate.Certificate.TheVariants.{Book, Capped}
use Rattle.cb_cert.specs.declared.certificate.Span.{Span}
use Rattle.cb_validity.specs.declared.verdict.Rejected.{Rejected}
use Rattle.cb_validity.specs.declared.verdict.Rejected.TheVariants.{TooClose}
use Rattle.cb_nodes.specs.declared.id.NodeId.{NodeId}
use Rattle.cb_checker.specs.Places.{ArePlacesOf}

-- each group but the first has a problem
abbrev pub HaveMembers : List Group → Type 0
HaveMembers groups = (i : ℕ) (g : Group) → 0 < i → slice_get groups i ≡ Some g → 0 < length g.members

-- this is reported of the two groups
pub record ReportsTooClose (groups : List Group) (pair : Pair) (why : Rejected) : Type 0 where
  pub first : GroupName
  pub second : GroupName
  pub is : why ≡ TooClose first second pair.distance
  pub first_is : IsCalled groups pair.first first
  pub second_is : IsCalled groups pair.second second

-- the book that claims of these parts what the wish asks; for a cap it states these radii
abbrev pub book_of : Wish → List NodeName → List ℕ → List ℕ → List Span → Certificate
book_of (Plain d) nodes numbers radii spans = Book d nodes numbers spans
book_of (Cap cap) nodes numbers radii spans = Capped cap nodes numbers radii spans

-- over the columns the groups are as far apart as the wish asks
pub record AreFarApart (columns ids : List NodeId) (numbers : List ℕ) (groups : Grouped) (wish : Wish) : Type 0 where
  pub places : List ℕ
  pub places_are : ArePlacesOf columns ids numbers places
  pub good : GoodFor (codes_of groups.groups) places (need_of groups.width (codes_of groups.groups) wish)

-- two groups are too close, and these are the first
pub record TwoAreTooClose (columns ids : List NodeId) (numbers : List ℕ) (groups : Grouped) (wish : Wish) (why : Rejected) : Type 0 where
  pub places : List ℕ
  pub pair : Pair
  pub places_are : ArePlacesOf columns ids numbers places
  pub close : IsFirstShort places (codes_of groups.groups) (need_of groups.width (codes_of groups.groups) wish) pair
  pub reported : ReportsTooClose groups.groups pair why

abbrev pub JudgesClaim : List NodeId → List NodeId → List ℕ → Grouped → Wish → Result (Unit {0}) Rejected → Type 0
JudgesClaim columns ids numbers groups wish (Ok done) = AreFarApart columns ids numbers groups wish
JudgesClaim columns ids numbers groups wish (Err why) = TwoAreTooClose columns ids numbers groups wish why
