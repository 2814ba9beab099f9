-- What `rewind` keeps.
use Rattle.std.proofs.Common.{◌≡◌, ℕ, List, ap, sym, subst}
use Rattle.cb_outcome.specs.Seen.{Seen}
use Rattle.cb_outcome.specs.Outcome.{Outcome}
use Rattle.cb_outcome.specs.Judged.{Known, scripted}
use Rattle.cb_outcome.specs.Commands.Rewind.{rewind_making, RewindAfter, RewindFinds, rewind}
use Rattle.cb_outcome.proofs.RewindOne.{rewind_one, prints_rewound}
use Rattle.cb_outcome.proofs.Lawful.{MakingEnds, well, IsShown, IsLawful}
use Rattle.cb_outcome.proofs.Once.{IsSound}

module _ (depth : ℕ) where
  one : (known : Known) (whole : ℕ) (a b : Outcome) → IsSound known → RewindAfter depth known whole a → RewindAfter depth known whole b → a ≡ b
  one (scripted t script) whole a b sound p q = rewind_one t script depth sound whole a b p q
  one known whole a b sound p q = absurd p

  ends : (known : Known) (whole : ℕ) (a : Outcome) → RewindAfter depth known whole a → MakingEnds (rewind_making depth) whole a
  ends (scripted t script) whole a (rewound, e) = well (ap (λ (o : Outcome). o.fault) e) (ap (λ (o : Outcome). o.whole) e)
  ends known whole a p = absurd p

  finds : (known : Known) (whole : ℕ) (a : Outcome) (s : Seen) → RewindAfter depth known whole a → IsShown (RewindFinds depth) known s a
  finds (scripted t script) whole a s (rewound, e) =
      subst (IsShown (RewindFinds depth) (scripted t script) s) (sym e) (λ written says. prints_rewound t script depth rewound s.out s.out_after written)
  finds known whole a s p = absurd p

pub lawful : (model topology script : List ℕ) (depth : ℕ) → IsLawful (rewind model topology script depth)
lawful model topology script depth = record { one = one depth; ends = ends depth; own = λ fault has. absurd has; finds = finds depth }
