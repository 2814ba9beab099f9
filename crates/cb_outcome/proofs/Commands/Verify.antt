-- What `verify` keeps.
use Rattle.std.proofs.Common.{◌≡◌, ℕ, List, ap}
use Rattle.cb_outcome.specs.Outcome.{Outcome}
use Rattle.cb_outcome.specs.Judged.{Known, certified}
use Rattle.cb_outcome.specs.Seen.{Seen}
use Rattle.cb_outcome.specs.Command.{FindsNothing}
use Rattle.cb_outcome.specs.Commands.Verify.{verify_making, VerifyAfter, verify}
use Rattle.cb_outcome.proofs.JobsOne.{verify_one}
use Rattle.cb_outcome.proofs.Lawful.{MakingEnds, well, IsShown, shown_done, IsLawful}
use Rattle.cb_outcome.proofs.Once.{IsSound}

one : (known : Known) (whole : ℕ) (a b : Outcome) → IsSound known → VerifyAfter known whole a → VerifyAfter known whole b → a ≡ b
one (certified t c) whole a b sound p q = verify_one t c whole a b p q
one known whole a b sound p q = absurd p

ends : (known : Known) (whole : ℕ) (a : Outcome) → VerifyAfter known whole a
    → MakingEnds verify_making whole a
ends (certified t c) whole a (accepted, shows, e) = well (ap (λ (o : Outcome). o.fault) e) (ap (λ (o : Outcome). o.whole) e)
ends known whole a p = absurd p

finds : (known : Known) (whole : ℕ) (a : Outcome) (s : Seen) → VerifyAfter known whole a → IsShown FindsNothing known s a
finds (certified t c) whole a s (accepted, shows, e) = shown_done (certified t c) s a (ap (λ (o : Outcome). o.fault) e)
finds known whole a s p = absurd p

pub lawful : (model topology certificate : List ℕ) → IsLawful (verify model topology certificate)
lawful model topology certificate = record { one = one; ends = ends; own = λ fault has. absurd has; finds = finds }
