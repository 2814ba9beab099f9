-- What results from a log, and from its first bytes.
use Rattle.std.specs.Prelude.{◌≡◌, ◌⊎◌, ℕ, suc, ◌^◌, ◌<◌, ◌≤◌, ◌++◌, List, [], take, length}
use Rattle.cb_model.specs.declared.node.NodeName.{NodeName}
use Rattle.cb_model.specs.declared.wish.Wish.{Wish}
use Rattle.cb_model.specs.declared.wish.Wish.TheVariants.{Plain, Cap}
use Rattle.cb_network.specs.Nodes.{AreColumns}
use Rattle.cb_network.specs.Topology.{Topology}
use Rattle.cb_cert.specs.declared.certificate.Certificate.{Certificate}
use Rattle.cb_cert.specs.declared.certificate.Certificate.TheVariants.{Book as BookClaim, Capped as CapClaim, Thin as ThinClaim}
use Rattle.cb_validity.specs.declared.verdict.Accepted.{Accepted}
use Rattle.cb_validity.specs.Reading.{ArePlaces}
use Rattle.cb_validity.specs.Verdicts.{CertificateShows}
use Rattle.cb_log.specs.declared.event.Event.{Event}
use Rattle.cb_log.specs.Basis.{Mode, wanted, fixed}
use Rattle.cb_alarm.specs.Lines.{LogGives, PrefixGives}
use Rattle.cb_report.specs.declared.fault.Fault.TheVariants as faults
use Rattle.cb_report.specs.CertificateTexts.{accepted_text}
use Rattle.cb_report.specs.EventTexts.{events_text}
use Rattle.cb_outcome.specs.Outcome.{Outcome, done, done_with}

-- the most bytes that a log may have
abbrev pub log_limit : ℕ
log_limit = 2 ^ 40

-- how a log is followed: from a topology, in a mode, by windows of a length, after some bytes of the output
pub record Watch : Type 0 where
  pub opening : List ℕ
  pub from : Topology
  pub mode : Mode
  pub window : ℕ

-- the columns that a certificate states, by their positions among all
pub record StatesColumns (t : Topology) (nodes : List NodeName) (numbers kept : List ℕ) : Type 0 where
  pub columns : List NodeName
  pub columns_are : AreColumns t columns
  pub places : ArePlaces nodes columns numbers kept

-- the codebook that a certificate states, by its columns and the wish that they meet; a thin one states none
abbrev pub States : Topology → Certificate → List ℕ → Wish → Type 0
States t (BookClaim distance nodes numbers spans) kept used = StatesColumns t nodes numbers kept × (used ≡ Plain distance)
States t (CapClaim cap nodes numbers radii spans) kept used = StatesColumns t nodes numbers kept × (used ≡ Cap cap)
States t (ThinClaim close distance nodes first second) kept used = ⊥

-- by the codebook of a certificate, after the line that accepts it
pub record IsFixedWatch (t : Topology) (c : Certificate) (window : ℕ) (watch : Watch) : Type 0 where
  pub accepted : Accepted
  pub shows : CertificateShows t c accepted
  pub kept : List ℕ
  pub used : Wish
  pub states : States t c kept used
  pub is : watch ≡ record { opening = accepted_text accepted; from = t; mode = fixed kept used; window = window }

-- by codebooks for a wish
abbrev pub IsWantedWatch : Topology → Wish → ℕ → Watch → Type 0
IsWantedWatch t wish window watch = watch ≡ record { opening = []; from = t; mode = wanted wish; window = window }

-- the output of a whole log
abbrev pub WholeTells : Watch → List ℕ → List ℕ → Type 0
WholeTells watch log out =
    (events : List Event) × LogGives watch.from watch.mode watch.window log events × (out ≡ watch.opening ++ events_text events)

-- the output of the lines that ended within the first bytes of a log
abbrev pub PrefixTells : Watch → List ℕ → List ℕ → Type 0
PrefixTells watch prefix out =
    (events : List Event) × PrefixGives watch.from watch.mode watch.window prefix events × (out ≡ watch.opening ++ events_text events)

-- a log that isn't too long gives its whole output
pub record GivesWhole (watch : Watch) (log : List ℕ) (whole : ℕ) (outcome : Outcome) : Type 0 where
  pub short : length log ≤ log_limit
  pub out : List ℕ
  pub tells : WholeTells watch log out
  pub gives : outcome ≡ done out (suc whole)

-- and one that is gives the output of the lines before the first byte too many
pub record GivesPrefix (watch : Watch) (name log : List ℕ) (whole : ℕ) (outcome : Outcome) : Type 0 where
  pub long : log_limit < length log
  pub out : List ℕ
  pub tells : PrefixTells watch (take log_limit log) out
  pub gives : outcome ≡ done_with out (faults.LimitBytes name) whole

-- what a log of this name gives that is followed so
abbrev pub LogTells : Watch → List ℕ → List ℕ → ℕ → Outcome → Type 0
LogTells watch name log whole outcome = GivesWhole watch log whole outcome ⊎ GivesPrefix watch name log whole outcome
