-- The command `model`: the canonical text of a model.
use Rattle.std.specs.Prelude.{◌≡◌, ℕ, List, [], ◌∷◌}
use Rattle.cb_syntax.specs.Canonical.{canonical_text}
use Rattle.cb_outcome.specs.Roles.{Role}
use Rattle.cb_outcome.specs.Outcome.{Outcome, done}
use Rattle.cb_outcome.specs.Judged.{Known, parsed}
use Rattle.cb_outcome.specs.Command.{Command, Making, makes, FindsNothing}

-- after the tree of a model, its canonical text
abbrev pub ModelAfter : Known → ℕ → Outcome → Type 0
ModelAfter (parsed tree) whole outcome = outcome ≡ done (canonical_text tree) whole
ModelAfter known whole outcome = ⊥

-- its output is made before it is written
abbrev pub model_making : Making
model_making = record { gives = ModelAfter; faults = λ fault. ⊥; finds = FindsNothing }

-- the whole command; no step is counted
abbrev pub model : List ℕ → Command
model name = record {
  files = (Role.model, name) ∷ [];
  task = makes model_making;
  range = Unit {0};
  counts = λ files after old new. new ≡ old;
}
