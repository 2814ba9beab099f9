-- The command `decode`: the events of a log, by the codebook of a certificate.
use Rattle.std.specs.Prelude.{ℕ, List, [], ◌∷◌}
use Rattle.cb_outcome.specs.Roles.{Wanted, Role}
use Rattle.cb_outcome.specs.Command.{IsWithin, Command, follows}
use Rattle.cb_outcome.specs.Judged.{Known, certified}
use Rattle.cb_outcome.specs.LogJobs.{Watch, IsFixedWatch}

-- after a topology and a certificate, by the codebook that it states
abbrev pub DecodeWatches : ℕ → Known → Watch → Type 0
DecodeWatches window (certified t c) watch = IsFixedWatch t c window watch
DecodeWatches window known watch = ⊥

-- the whole command; nothing is said of its steps
abbrev pub decode : List ℕ → List ℕ → List ℕ → List ℕ → ℕ → Command
decode model topology certificate log window = record {
  files = (Role.model, model) ∷ (Role.topology, topology) ∷ (Role.certificate Wanted.book, certificate) ∷ [];
  task = follows log (DecodeWatches window);
  range = IsWithin 1 1000000000000 window;
  counts = λ files after old new. Unit {0};
}
