-- What `levels` keeps.
use Rattle.std.proofs.Common.{◌≡◌, ℕ, List, ap, sym, subst, refl, inl, inr}
use Rattle.cb_network.specs.Topology.{Topology}
use Rattle.cb_levels.specs.Text.{levels_text}
use Rattle.cb_report.specs.declared.fault.Fault.{Fault}
use Rattle.cb_report.specs.declared.fault.Fault.TheVariants as faults
use Rattle.cb_outcome.specs.Seen.{Seen}
use Rattle.cb_outcome.specs.Outcome.{Outcome}
use Rattle.cb_outcome.specs.Judged.{Known, network}
use Rattle.cb_outcome.specs.Jobs.{LevelsGives}
use Rattle.cb_outcome.specs.Commands.Levels.{levels_making, LevelsAfter, LevelsFaults, LevelsFinds, levels}
use Rattle.cb_outcome.proofs.ChainsOne.{levels_one}
use Rattle.cb_outcome.proofs.Lawful.{IsOwnFault, MakingEnds, well, wrong, IsShown, IsLawful}
use Rattle.cb_outcome.proofs.LevelTexts.{canonical_text_is_valid, level_text_fits}
use Rattle.cb_outcome.proofs.Once.{IsSound}

module _ (word : List ℕ) where
  own : (fault : Fault) → LevelsFaults word fault → IsOwnFault fault
  own fault is = subst IsOwnFault (sym is) (record { nameless = tt; status = tt })

  one : (known : Known) (whole : ℕ) (a b : Outcome) → IsSound known → LevelsAfter word known whole a → LevelsAfter word known whole b → a ≡ b
  one (network t) whole a b sound p q = levels_one t word whole a b p q
  one known whole a b sound p q = absurd p

  made_ends : (t : Topology) (whole : ℕ) (a : Outcome) → LevelsGives t word whole a → MakingEnds (levels_making word) whole a
  made_ends t whole a (inl p) = well (ap (λ (o : Outcome). o.fault) p.gives) (ap (λ (o : Outcome). o.whole) p.gives)
  made_ends t whole a (inr p) = wrong (faults.NoProblem word) (ap (λ (o : Outcome). o.fault) p.gives) refl (ap (λ (o : Outcome). o.out) p.gives)

  ends : (known : Known) (whole : ℕ) (a : Outcome) → LevelsAfter word known whole a → MakingEnds (levels_making word) whole a
  ends (network t) whole a p = made_ends t whole a p
  ends known whole a p = absurd p

  shown : (t : Topology) (whole : ℕ) (a : Outcome) (s : Seen) → LevelsGives t word whole a → IsShown (LevelsFinds word) (network t) s a
  shown t whole a s (inl p) =
      subst (IsShown (LevelsFinds word) (network t) s) (sym p.gives) (λ written says. record {
        problem = p.problem;
        named = p.named;
        is = p.is;
        levels = p.levels;
        lists = p.canonical.lists;
        text = levels_text p.levels;
        valid = canonical_text_is_valid t p.problem p.levels p.is p.canonical p.of_format;
        short = level_text_fits p.levels p.of_format;
        printed = written;
      })
  shown t whole a s (inr p) = subst (IsShown (LevelsFinds word) (network t) s) (sym p.gives) (λ written says. tt)

  finds : (known : Known) (whole : ℕ) (a : Outcome) (s : Seen) → LevelsAfter word known whole a → IsShown (LevelsFinds word) known s a
  finds (network t) whole a s p = shown t whole a s p
  finds known whole a s p = absurd p

pub lawful : (model topology word : List ℕ) → IsLawful (levels model topology word)
lawful model topology word = record { one = one word; ends = ends word; own = own word; finds = finds word }
