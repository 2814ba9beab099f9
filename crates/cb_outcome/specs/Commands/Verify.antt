-- The command `verify`: what a certificate shows.
use Rattle.std.specs.Prelude.{ℕ, List, [], ◌∷◌}
use Rattle.cb_outcome.specs.Roles.{Wanted, Role}
use Rattle.cb_outcome.specs.Outcome.{Outcome}
use Rattle.cb_outcome.specs.Judged.{Known, certified}
use Rattle.cb_outcome.specs.Jobs.{VerifyGives}
use Rattle.cb_outcome.specs.Command.{Command, Making, makes, FindsNothing}

-- after a topology and a certificate, what it shows
abbrev pub VerifyAfter : Known → ℕ → Outcome → Type 0
VerifyAfter (certified t c) whole outcome = VerifyGives t c whole outcome
VerifyAfter known whole outcome = ⊥

-- its output is made before it is written
abbrev pub verify_making : Making
verify_making = record { gives = VerifyAfter; faults = λ fault. ⊥; finds = FindsNothing }

-- the whole command; nothing is said of its steps
abbrev pub verify : List ℕ → List ℕ → List ℕ → Command
verify model topology certificate = record {
  files = (Role.model, model) ∷ (Role.topology, topology) ∷ (Role.certificate Wanted.any, certificate) ∷ [];
  task = makes verify_making;
  range = Unit {0};
  counts = λ files after old new. Unit {0};
}
