-- What `model` keeps.
use Rattle.std.proofs.Common.{◌≡◌, ◌∙◌, ℕ, List, sym, ap}
use Rattle.cb_outcome.specs.Outcome.{Outcome}
use Rattle.cb_outcome.specs.Judged.{Known, parsed}
use Rattle.cb_outcome.specs.Seen.{Seen}
use Rattle.cb_outcome.specs.Command.{FindsNothing}
use Rattle.cb_outcome.specs.Commands.Model.{model_making, ModelAfter, model}
use Rattle.cb_outcome.proofs.Lawful.{MakingEnds, well, IsShown, shown_done, IsLawful}
use Rattle.cb_outcome.proofs.Once.{IsSound}

one : (known : Known) (whole : ℕ) (a b : Outcome) → IsSound known → ModelAfter known whole a → ModelAfter known whole b → a ≡ b
one (parsed tree) whole a b sound p q = p ∙ sym q
one known whole a b sound p q = absurd p

ends : (known : Known) (whole : ℕ) (a : Outcome) → ModelAfter known whole a
    → MakingEnds model_making whole a
ends (parsed tree) whole a e = well (ap (λ (o : Outcome). o.fault) e) (ap (λ (o : Outcome). o.whole) e)
ends known whole a p = absurd p

finds : (known : Known) (whole : ℕ) (a : Outcome) (s : Seen) → ModelAfter known whole a → IsShown FindsNothing known s a
finds (parsed tree) whole a s e = shown_done (parsed tree) s a (ap (λ (o : Outcome). o.fault) e)
finds known whole a s p = absurd p

pub lawful : (name : List ℕ) → IsLawful (model name)
lawful name = record { one = one; ends = ends; own = λ fault has. absurd has; finds = finds }
