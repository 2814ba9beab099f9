-- What `prove` keeps.
use Rattle.std.proofs.Common.{◌≡◌, ℕ, List, ap, sym, subst}
use Rattle.cb_levels.proofs.Lists.{valid_lists_levels}
use Rattle.cb_outcome.specs.Seen.{Seen}
use Rattle.cb_outcome.specs.Outcome.{Outcome}
use Rattle.cb_outcome.specs.Judged.{Known, levelled}
use Rattle.cb_outcome.specs.Commands.Prove.{prove_making, ProveAfter, ProveFinds, prove}
use Rattle.cb_outcome.proofs.ChainsOne.{prove_one}
use Rattle.cb_outcome.proofs.Lawful.{MakingEnds, well, IsShown, IsLawful}
use Rattle.cb_outcome.proofs.Once.{IsSound}

one : (known : Known) (whole : ℕ) (a b : Outcome) → IsSound known → ProveAfter known whole a → ProveAfter known whole b → a ≡ b
one (levelled t levels) whole a b sound p q = prove_one t levels whole a b p q
one known whole a b sound p q = absurd p

ends : (known : Known) (whole : ℕ) (a : Outcome) → ProveAfter known whole a → MakingEnds prove_making whole a
ends (levelled t levels) whole a p = well (ap (λ (o : Outcome). o.fault) p.gives) (ap (λ (o : Outcome). o.whole) p.gives)
ends known whole a p = absurd p

finds : (known : Known) (whole : ℕ) (a : Outcome) (s : Seen) → ProveAfter known whole a → IsShown ProveFinds known s a
finds (levelled t levels) whole a s p =
    subst (IsShown ProveFinds (levelled t levels) s) (sym p.gives) (λ written says. record {
      proved = p.proved;
      lists = valid_lists_levels t p.proved.root levels p.valid;
      shows = p.shows;
      printed = written;
    })
finds known whole a s p = absurd p

pub lawful : (model topology levels : List ℕ) → IsLawful (prove model topology levels)
lawful model topology levels = record { one = one; ends = ends; own = λ fault has. absurd has; finds = finds }
