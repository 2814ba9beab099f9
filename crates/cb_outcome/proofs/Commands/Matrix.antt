-- What `matrix` keeps.
use Rattle.std.proofs.Common.{◌≡◌, ℕ, List, ap}
use Rattle.cb_outcome.specs.Outcome.{Outcome}
use Rattle.cb_outcome.specs.Judged.{Known, network}
use Rattle.cb_outcome.specs.Seen.{Seen}
use Rattle.cb_outcome.specs.Command.{FindsNothing}
use Rattle.cb_outcome.specs.Commands.Matrix.{matrix_making, MatrixAfter, matrix}
use Rattle.cb_outcome.proofs.JobsOne.{matrix_one}
use Rattle.cb_outcome.proofs.Lawful.{MakingEnds, well, IsShown, shown_done, IsLawful}
use Rattle.cb_outcome.proofs.Once.{IsSound}

one : (known : Known) (whole : ℕ) (a b : Outcome) → IsSound known → MatrixAfter known whole a → MatrixAfter known whole b → a ≡ b
one (network t) whole a b sound p q = matrix_one t whole a b p q
one known whole a b sound p q = absurd p

ends : (known : Known) (whole : ℕ) (a : Outcome) → MatrixAfter known whole a
    → MakingEnds matrix_making whole a
ends (network t) whole a p = well (ap (λ (o : Outcome). o.fault) p.gives) (ap (λ (o : Outcome). o.whole) p.gives)
ends known whole a p = absurd p

finds : (known : Known) (whole : ℕ) (a : Outcome) (s : Seen) → MatrixAfter known whole a → IsShown FindsNothing known s a
finds (network t) whole a s p = shown_done (network t) s a (ap (λ (o : Outcome). o.fault) p.gives)
finds known whole a s p = absurd p

pub lawful : (model topology : List ℕ) → IsLawful (matrix model topology)
lawful model topology = record { one = one; ends = ends; own = λ fault has. absurd has; finds = finds }
