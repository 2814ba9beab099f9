-- What is reported of a certificate that is checked.
use Rattle.std.specs.Prelude.{◌≡◌, ⊤, ℕ, ◌+◌, ◌<◌, List, length}
use Rattle.std.specs.List.{sum_by}
use Rattle.cb_model.specs.declared.node.NodeName.{NodeName}
use Rattle.cb_model.specs.declared.node.GroupName.{GroupName}
use Rattle.cb_model.specs.declared.node.GroupName.TheVariants as group
use Rattle.cb_model.specs.declared.wish.Wish.TheVariants.{Cap}
use Rattle.cb_coding.specs.declared.group.Group.{Group}
use Rattle.cb_coding.specs.Answers.{radius as radius_of}
use Rattle.cb_coding.specs.Groups.{codes_of}
use Rattle.cb_coding.specs.Used.{AreLeastAndGreatest}
use Rattle.cb_network.specs.Topology.{Topology}
use Rattle.cb_cert.specs.declared.certificate.Span.{Span}
use Rattle.cb_cert.specs.declared.certificate.Side.{Side}
use Rattle.cb_cert.specs.declared.certificate.Side.TheVariants.{Quiet, Root}
use Rattle.cb_cert.specs.declared.certificate.Certificate.{Certificate}
use Rattle.cb_cert.specs.declared.certificate.Certificate.TheVariants.{Book, Capped, Thin}
use Rattle.cb_validity.specs.declared.verdict.Accepted.{Accepted}
use Rattle.cb_validity.specs.declared.verdict.Accepted.TheVariants as accepted
use Rattle.cb_validity.specs.declared.verdict.Rejected.{Rejected}
use Rattle.cb_validity.specs.declared.verdict.Rejected.TheVariants.{NoMemory}
use Rattle.cb_validity.specs.Spans.{BeginsWithRoot}
use Rattle.cb_validity.specs.Reading.{MakeGroups}
use Rattle.cb_validity.specs.Canonical.{side_spans}
use Rattle.cb_validity.specs.Checks.{IsFirstFail}

-- a side is called quiet, or by its root
abbrev pub IsSideName : List NodeName → Side → GroupName → Type 0
IsSideName nodes Quiet name = name ≡ group.Quiet
IsSideName nodes (Root span) name = (root : NodeName) × BeginsWithRoot nodes span root × (name ≡ group.Least root)

-- a book's distance with its radius, and the numbers of groups and of columns
pub record ShowsBook (t : Topology) (nodes : List NodeName) (numbers : List ℕ) (spans : List Span) (distance radius groups columns : ℕ) : Type 0
  where
    pub all : List NodeName
    pub made : List Group
    pub made_are : MakeGroups t nodes spans all made
    pub radius_is : radius ≡ radius_of distance
    pub groups_are : groups ≡ length made
    pub columns_are : columns ≡ length numbers

-- the least and the greatest radius of the groups for a cap, and the numbers of groups and of columns
pub record ShowsCapped (t : Topology) (nodes : List NodeName) (numbers : List ℕ) (spans : List Span) (cap least greatest groups columns : ℕ)
    : Type 0 where
  pub all : List NodeName
  pub made : List Group
  pub made_are : MakeGroups t nodes spans all made
  pub radii_are : AreLeastAndGreatest (length all) (codes_of made) (Cap cap) least greatest
  pub groups_are : groups ≡ length made
  pub columns_are : columns ≡ length numbers

-- what an accepted certificate shows
abbrev pub CertificateShows : Topology → Certificate → Accepted → Type 0
CertificateShows t (Book distance nodes columns spans) (accepted.Book d r g k) = (d ≡ distance) × ShowsBook t nodes columns spans distance r g k
CertificateShows t (Capped cap nodes columns radii spans) (accepted.Capped n a b g k) = (n ≡ cap) × ShowsCapped t nodes columns spans cap a b g k
CertificateShows t (Thin wanted distance nodes first second) (accepted.Thin w f s x) =
    (w ≡ wanted) × IsSideName nodes first f × IsSideName nodes (Root second) s × (x ≡ distance)
CertificateShows t c shown = ⊥

-- how many entries some spans have
abbrev pub entries_of : List Span → ℕ
entries_of spans = sum_by (λ span. length span.entries) spans

-- the distance or the cap of a book is not 0, and all that has a number in a refusal has one below 2^32
abbrev pub IsCheckable : Certificate → Type 0
IsCheckable (Book distance nodes columns spans) =
    (0 < distance) × (length nodes + length columns + length spans + entries_of spans + 1 < 4294967296)
IsCheckable (Capped cap nodes columns radii spans) =
    (0 < cap) × (length radii + 1 < 4294967296) × (length nodes + length columns + length spans + entries_of spans + 1 < 4294967296)
IsCheckable (Thin wanted distance nodes first second) =
    length nodes + entries_of (side_spans first) + length second.entries + 1 < 4294967296

-- the certificate is rejected for this, or memory ran out
abbrev pub TellsWhy : Topology → Certificate → Rejected → Type 0
TellsWhy t c NoMemory = ⊤
TellsWhy t c why = IsFirstFail t c why
