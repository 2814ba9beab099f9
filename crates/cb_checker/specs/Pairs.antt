-- Codes that are read off the two sides of a thin certificate.
use Rattle.std.specs.Prelude.{◌≡◌, List, Bool, [], ◌∷◌, length, Result, None}
use Rattle.std.specs.List.{flat_map}
use Rattle.cb_coding.specs.Groups.{zeros}
use Rattle.cb_cert.specs.declared.certificate.Certificate.{Certificate}
use Rattle.cb_cert.specs.declared.certificate.Side.{Side}
use Rattle.cb_cert.specs.declared.certificate.Side.TheVariants.{Quiet, Root}
use Rattle.cb_cert.specs.declared.certificate.Span.{Span}
use Rattle.cb_validity.specs.declared.verdict.Rejected.{Rejected}
use Rattle.cb_validity.specs.Checks.{Asked, Judges, asked_sides, span_checks}
use Rattle.cb_nodes.specs.declared.id.NodeId.{NodeId}
use Rattle.cb_topo.specs.Numbered.{Numbered, topology_of}
use Rattle.cb_checker.specs.Known.{IsKnown}
use Rattle.cb_checker.specs.Books.{IsListing}
use Rattle.cb_checker.specs.Codes.{IsCodeOfListed}
use Rattle.cb_checker.specs.Spans.{asked}

-- the code is read off the span
pub record IsRead (ids columns : List NodeId) (span : Span) (code : List Bool) : Type 0 where
  pub listed : List Bool
  pub lists : IsListing ids span listed
  pub coded : IsCodeOfListed columns listed code

-- the code is the quiet group's, or it is read off the span
abbrev pub IsSideRead : List NodeId → List NodeId → Side → List Bool → Type 0
IsSideRead ids columns Quiet code = code ≡ zeros (length columns)
IsSideRead ids columns (Root span) code = IsRead ids columns span code

-- the span of the side, if it has one, as it is asked for
abbrev pub asked_side : Side → List Asked
asked_side Quiet = []
asked_side (Root span) = asked 0 None span ∷ []

-- whatever the certificate claims, this is what the checks of the first side come to
abbrev pub JudgesSide : Numbered → List NodeId → Side → Result (Unit {0}) Rejected → Type 0
JudgesSide n ids side result = (c : Certificate) → IsKnown n ids c → Judges (topology_of n) c (flat_map span_checks (asked_side side)) result

-- and this is what those of both sides come to
abbrev pub JudgesSides : Numbered → List NodeId → Side → Span → Result (Unit {0}) Rejected → Type 0
JudgesSides n ids first second result = (c : Certificate) → IsKnown n ids c
    → Judges (topology_of n) c (flat_map span_checks (asked_sides first second)) result
