-- What `explain` keeps.
use Rattle.std.proofs.Common.{◌≡◌, ℕ, List, ap, sym, subst}
use Rattle.cb_outcome.specs.Seen.{Seen}
use Rattle.cb_outcome.specs.Outcome.{Outcome}
use Rattle.cb_outcome.specs.Judged.{Known, raised}
use Rattle.cb_outcome.specs.Commands.Explain.{explain_making, ExplainAfter, ExplainFinds, explain}
use Rattle.cb_outcome.proofs.ChainsOne.{explain_one}
use Rattle.cb_outcome.proofs.Finding.{lists_the_nearest}
use Rattle.cb_outcome.proofs.Lawful.{MakingEnds, well, IsShown, IsLawful}
use Rattle.cb_outcome.proofs.Once.{IsSound}

one : (known : Known) (whole : ℕ) (a b : Outcome) → IsSound known → ExplainAfter known whole a → ExplainAfter known whole b → a ≡ b
one (raised t nodes) whole a b sound p q = explain_one t nodes whole a b p q
one known whole a b sound p q = absurd p

ends : (known : Known) (whole : ℕ) (a : Outcome) → ExplainAfter known whole a → MakingEnds explain_making whole a
ends (raised t nodes) whole a p = well (ap (λ (o : Outcome). o.fault) p.gives) (ap (λ (o : Outcome). o.whole) p.gives)
ends known whole a p = absurd p

finds : (known : Known) (whole : ℕ) (a : Outcome) (s : Seen) → ExplainAfter known whole a → IsShown ExplainFinds known s a
finds (raised t nodes) whole a s p =
    subst (IsShown ExplainFinds (raised t nodes) s) (sym p.gives) (λ written says. record {
      finding = p.finding;
      burst = p.burst;
      lists = lists_the_nearest t nodes p.finding p.burst;
      chains = p.chains;
      explains = p.explains;
      printed = written;
    })
finds known whole a s p = absurd p

pub lawful : (model topology symptoms : List ℕ) → IsLawful (explain model topology symptoms)
lawful model topology symptoms = record { one = one; ends = ends; own = λ fault has. absurd has; finds = finds }
