-- The command `codebook`: a certificate of the codebook for a wanted distance or a cap, or that there is none for the distance.
use Rattle.std.specs.Prelude.{ℕ, List, [], ◌∷◌}
use Rattle.cb_model.specs.declared.wish.Wish.{Wish}
use Rattle.cb_model.specs.declared.wish.Wish.TheVariants.{Plain}
use Rattle.cb_outcome.specs.Roles.{Role}
use Rattle.cb_outcome.specs.Command.{IsWishWithin, Command, Making, makes}
use Rattle.cb_report.specs.declared.fault.Fault.{Fault}
use Rattle.cb_report.specs.declared.fault.Fault.TheVariants as faults
use Rattle.cb_report.specs.declared.status.Status.{Status}
use Rattle.cb_report.specs.declared.status.Status.TheVariants.{Done, Distance}
use Rattle.cb_outcome.specs.Outcome.{Outcome}
use Rattle.cb_outcome.specs.Judged.{Known, network}
use Rattle.cb_outcome.specs.Jobs.{CodebookGives}
use Rattle.cb_outcome.specs.Prints.{PrintsValid, RefusesDistance}
use Rattle.cb_outcome.specs.Seen.{Seen}

-- after a topology, a certificate
abbrev pub CodebookAfter : Wish → Known → ℕ → Outcome → Type 0
CodebookAfter wish (network t) whole outcome = CodebookGives t wish whole outcome
CodebookAfter wish known whole outcome = ⊥

-- there may be too many entries; for a wanted distance two groups may be too close
abbrev pub CodebookFaults : Wish → Fault → Type 0
CodebookFaults wish faults.LimitEntries = Unit {0}
CodebookFaults (Plain d) (faults.Distance wanted first second distance) = Unit {0}
CodebookFaults wish fault = ⊥

-- a valid certificate is printed, at 6 that of the two groups that the line names
abbrev pub CodebookFinds : Wish → Known → Status → Seen → Type 0
CodebookFinds wish (network t) Done s = PrintsValid t s.out s.out_after
CodebookFinds (Plain d) (network t) Distance s = RefusesDistance t d s
CodebookFinds wish known status s = ⊥

-- its output is made before it is written
abbrev pub codebook_making : Wish → Making
codebook_making wish = record { gives = CodebookAfter wish; faults = CodebookFaults wish; finds = CodebookFinds wish }

-- the whole command; nothing is said of its steps
abbrev pub codebook : List ℕ → List ℕ → Wish → Command
codebook model topology wish = record {
  files = (Role.model, model) ∷ (Role.topology, topology) ∷ [];
  task = makes (codebook_making wish);
  range = IsWishWithin 1 9999 wish;
  counts = λ files after old new. Unit {0};
}
