-- What the checks of a whole thin certificate come to.
use Rattle.std.specs.Prelude.{◌≡◌, ◌<◌, ⊤, ℕ, List, Result}
use Rattle.cb_model.specs.declared.node.NodeName.{NodeName}
use Rattle.cb_cert.specs.declared.certificate.Certificate.TheVariants.{Thin}
use Rattle.cb_cert.specs.declared.certificate.Side.{Side}
use Rattle.cb_cert.specs.declared.certificate.Side.TheVariants.{Quiet, Root}
use Rattle.cb_cert.specs.declared.certificate.Span.{Span}
use Rattle.cb_validity.specs.declared.verdict.Accepted.{Accepted}
use Rattle.cb_validity.specs.declared.verdict.Rejected.{Rejected}
use Rattle.cb_validity.specs.Checks.{Judges, thin_checks}
use Rattle.cb_validity.specs.Spans.{BeginsWithRoot}
use Rattle.cb_validity.specs.declared.verdict.Accepted.TheVariants as accepted
use Rattle.cb_validity.specs.Verdicts.{CertificateShows, IsSideName}
use Rattle.cb_checker.specs.declared.thin.Closeness.{Closeness}
use Rattle.cb_topo.specs.Numbered.{Numbered, topology_of}

-- the span of the side, if it has one, begins with some root
abbrev pub IsBegun : List NodeName → Side → Type 0
IsBegun nodes Quiet = ⊤
IsBegun nodes (Root span) = (root : NodeName) × BeginsWithRoot nodes span root

-- this is what all checks of the thin certificate come to
abbrev pub JudgesThinOver : Numbered → List NodeName → Side → Span → ℕ → ℕ → Result (Unit {0}) Rejected → Type 0
JudgesThinOver n nodes first second wanted distance result =
    Judges (topology_of n) (Thin wanted distance nodes first second) (thin_checks nodes first second) result

-- this is what it shows
abbrev pub ShowsThinOver : Numbered → List NodeName → Side → Span → ℕ → ℕ → Accepted → Type 0
ShowsThinOver n nodes first second wanted distance shown = CertificateShows (topology_of n) (Thin wanted distance nodes first second) shown

-- this is what is shown of the two sides
abbrev pub IsThinShown : List NodeName → Side → Span → Closeness → Accepted → Type 0
IsThinShown nodes first second claim (accepted.Book d r g k) = ⊥
IsThinShown nodes first second claim (accepted.Capped n a b g k) = ⊥
IsThinShown nodes first second claim (accepted.Thin w f s x) =
    (w ≡ claim.wanted) × IsSideName nodes first f × IsSideName nodes (Root second) s × (x ≡ claim.distance)

-- two groups at this distance are as close as is claimed
abbrev pub IsAsClaimed : Closeness → ℕ → Type 0
IsAsClaimed claim far = (far ≡ claim.distance) × (0 < far) × (far < claim.wanted)
