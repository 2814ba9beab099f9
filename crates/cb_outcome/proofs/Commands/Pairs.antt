-- What `pairs` keeps.
use Rattle.std.proofs.Common.{◌≡◌, ℕ, List, length, ap, sym, subst, inl, inr}
use Rattle.cb_model.specs.declared.node.NodeName.{NodeName}
use Rattle.cb_network.specs.Topology.{Topology}
use Rattle.cb_report.specs.declared.fault.Fault.{Fault}
use Rattle.cb_report.specs.declared.fault.Fault.TheVariants as faults
use Rattle.cb_outcome.specs.Seen.{Seen}
use Rattle.cb_outcome.specs.Outcome.{Outcome}
use Rattle.cb_outcome.specs.Judged.{Known, raised}
use Rattle.cb_outcome.specs.Jobs.{PairsGives}
use Rattle.cb_outcome.specs.Commands.Pairs.{pairs_making, PairsAfter, PairsFaults, PairsFinds, pairs}
use Rattle.cb_outcome.proofs.FitsOne.{within_is_known}
use Rattle.cb_outcome.proofs.JobsOne.{pairs_one}
use Rattle.cb_outcome.proofs.Lawful.{IsOwnFault, MakingEnds, well, wrong, IsShown, IsLawful}
use Rattle.cb_outcome.proofs.Once.{IsSound}

own : (fault : Fault) → PairsFaults fault → IsOwnFault fault
own (faults.Groups groups) has = record { nameless = tt; status = tt }
own fault has = absurd has

one : (known : Known) (whole : ℕ) (a b : Outcome) → IsSound known → PairsAfter known whole a → PairsAfter known whole b → a ≡ b
one (raised t nodes) whole a b sound p q = pairs_one t nodes whole a b p q
one known whole a b sound p q = absurd p

made_ends : (t : Topology) (nodes : List NodeName) (whole : ℕ) (a : Outcome) → PairsGives t nodes whole a → MakingEnds pairs_making whole a
made_ends t nodes whole a (inl p) = well (ap (λ (o : Outcome). o.fault) p.gives) (ap (λ (o : Outcome). o.whole) p.gives)
made_ends t nodes whole a (inr p) =
    wrong (faults.Groups (length p.groups)) (ap (λ (o : Outcome). o.fault) p.gives) tt (ap (λ (o : Outcome). o.out) p.gives)

ends : (known : Known) (whole : ℕ) (a : Outcome) → PairsAfter known whole a → MakingEnds pairs_making whole a
ends (raised t nodes) whole a p = made_ends t nodes whole a p
ends known whole a p = absurd p

shown : (t : Topology) (nodes : List NodeName) (whole : ℕ) (a : Outcome) (s : Seen) → PairsGives t nodes whole a → IsShown PairsFinds (raised t nodes) s a
shown t nodes whole a s (inl p) =
    subst (IsShown PairsFinds (raised t nodes) s) (sym p.gives) (λ written says. record {
      columns = p.columns;
      groups = p.groups;
      matrix = p.matrix;
      found = p.found;
      is_found = p.is_found;
      printed = written;
      within = within_is_known t p.columns p.groups nodes p.matrix p.found p.is_found;
    })
shown t nodes whole a s (inr p) = subst (IsShown PairsFinds (raised t nodes) s) (sym p.gives) (λ written says. tt)

finds : (known : Known) (whole : ℕ) (a : Outcome) (s : Seen) → PairsAfter known whole a → IsShown PairsFinds known s a
finds (raised t nodes) whole a s p = shown t nodes whole a s p
finds known whole a s p = absurd p

pub lawful : (one two three : List ℕ) → IsLawful (pairs one two three)
lawful one_name two three = record { one = one; ends = ends; own = own; finds = finds }
