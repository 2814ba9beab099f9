-- What `burst` keeps.
use Rattle.std.proofs.Common.{◌≡◌, ℕ, List, ap, sym, subst}
use Rattle.cb_outcome.specs.Seen.{Seen}
use Rattle.cb_outcome.specs.Outcome.{Outcome}
use Rattle.cb_outcome.specs.Judged.{Known, raised}
use Rattle.cb_outcome.specs.Commands.Burst.{burst_making, BurstAfter, BurstFinds, burst}
use Rattle.cb_outcome.proofs.Finding.{lists_the_nearest}
use Rattle.cb_outcome.proofs.JobsOne.{burst_one}
use Rattle.cb_outcome.proofs.Lawful.{MakingEnds, well, IsShown, IsLawful}
use Rattle.cb_outcome.proofs.Once.{IsSound}

one : (known : Known) (whole : ℕ) (a b : Outcome) → IsSound known → BurstAfter known whole a → BurstAfter known whole b → a ≡ b
one (raised t nodes) whole a b sound p q = burst_one t nodes whole a b p q
one known whole a b sound p q = absurd p

ends : (known : Known) (whole : ℕ) (a : Outcome) → BurstAfter known whole a
    → MakingEnds burst_making whole a
ends (raised t nodes) whole a (finding, found, e) = well (ap (λ (o : Outcome). o.fault) e) (ap (λ (o : Outcome). o.whole) e)
ends known whole a p = absurd p

finds : (known : Known) (whole : ℕ) (a : Outcome) (s : Seen) → BurstAfter known whole a → IsShown BurstFinds known s a
finds (raised t nodes) whole a s (finding, found, e) =
    subst (IsShown BurstFinds (raised t nodes) s) (sym e) (λ written says. record {
      finding = finding;
      burst = found;
      printed = written;
      lists = lists_the_nearest t nodes finding found;
    })
finds known whole a s p = absurd p

pub lawful : (one two three : List ℕ) → IsLawful (burst one two three)
lawful one_name two three = record { one = one; ends = ends; own = λ fault has. absurd has; finds = finds }
