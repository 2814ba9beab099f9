-- What `codebook` keeps.
use Rattle.std.proofs.Common.{◌≡◌, ℕ, List, ap, sym, subst, inl, inr}
use Rattle.std.specs.Prelude.{Option}
use Rattle.cb_model.specs.declared.node.GroupName.TheVariants.{Least}
use Rattle.cb_model.specs.declared.wish.Wish.{Wish}
use Rattle.cb_model.specs.declared.wish.Wish.TheVariants.{Plain, Cap}
use Rattle.cb_network.specs.Topology.{Topology}
use Rattle.cb_cert.specs.Lines.{text_of}
use Rattle.cb_validity.proofs.Codebooks.{codebook_is_valid}
use Rattle.cb_report.specs.declared.fault.Fault.{Fault}
use Rattle.cb_report.specs.declared.fault.Fault.TheVariants as faults
use Rattle.cb_report.specs.Faults.{ending}
use Rattle.cb_outcome.specs.Finds.{OnOutput}
use Rattle.cb_outcome.specs.Seen.{Seen}
use Rattle.cb_outcome.specs.Outcome.{Outcome}
use Rattle.cb_outcome.specs.Judged.{Known, network}
use Rattle.cb_outcome.specs.Jobs.{WritesCodebook, RefusesWish, CodebookGives}
use Rattle.cb_outcome.specs.Commands.Codebook.{codebook_making, CodebookAfter, CodebookFaults, CodebookFinds, codebook}
use Rattle.cb_outcome.proofs.Acceptable.{text_is_valid, text_fits}
use Rattle.cb_outcome.proofs.Finding.{refuses_distance}
use Rattle.cb_outcome.proofs.JobsOne.{codebook_one}
use Rattle.cb_outcome.proofs.Lawful.{IsOwnFault, MakingEnds, well, wrong, IsShown, IsLawful}
use Rattle.cb_outcome.proofs.Once.{IsSound}

own : (wish : Wish) (fault : Fault) → CodebookFaults wish fault → IsOwnFault fault
own wish faults.LimitEntries has = record { nameless = tt; status = tt }
own (Plain d) (faults.Distance wanted first second distance) has = record { nameless = tt; status = tt }
own wish fault has = absurd has

one : (wish : Wish) (known : Known) (whole : ℕ) (a b : Outcome) → IsSound known → CodebookAfter wish known whole a → CodebookAfter wish known whole b → a ≡ b
one wish (network t) whole a b sound p q = codebook_one t wish whole a b p q
one wish known whole a b sound p q = absurd p

-- ---- how it ends

refused_ends : (t : Topology) (wish : Wish) (whole : ℕ) (a : Outcome) → RefusesWish t wish whole a → MakingEnds (codebook_making wish) whole a
refused_ends t (Plain d) whole a p =
    wrong (faults.Distance d p.first (Least p.second) p.distance) (ap (λ (o : Outcome). o.fault) p.gives) tt tt
refused_ends t (Cap cap) whole a p = absurd p

made_ends : (t : Topology) (wish : Wish) (whole : ℕ) (a : Outcome) → CodebookGives t wish whole a → MakingEnds (codebook_making wish) whole a
made_ends t wish whole a (inl w) = well (ap (λ (o : Outcome). o.fault) w.gives) (ap (λ (o : Outcome). o.whole) w.gives)
made_ends t wish whole a (inr (inl w)) = wrong faults.LimitEntries (ap (λ (o : Outcome). o.fault) w.gives) tt (ap (λ (o : Outcome). o.out) w.gives)
made_ends t wish whole a (inr (inr p)) = refused_ends t wish whole a p

ends : (wish : Wish) (known : Known) (whole : ℕ) (a : Outcome) → CodebookAfter wish known whole a → MakingEnds (codebook_making wish) whole a
ends wish (network t) whole a p = made_ends t wish whole a p
ends wish known whole a p = absurd p

-- ---- what is shown

certified_shown : (t : Topology) (wish : Wish) (whole : ℕ) (a : Outcome) (s : Seen) → WritesCodebook t wish whole a
    → IsShown (CodebookFinds wish) (network t) s a
certified_shown t wish whole a s w =
    let valid = codebook_is_valid t wish w.certificate w.is in
    subst (IsShown (CodebookFinds wish) (network t) s) (sym w.gives) (λ written says. record {
      text = text_of w.certificate;
      certificate = w.certificate;
      valid = text_is_valid t w.certificate w.of_format valid;
      short = text_fits w.certificate w.of_format;
      printed = written;
    })

refused_shown : (t : Topology) (wish : Wish) (whole : ℕ) (a : Outcome) (s : Seen) → RefusesWish t wish whole a → IsShown (CodebookFinds wish) (network t) s a
refused_shown t (Plain d) whole a s p = λ written says.
    subst (λ (fault : Option Fault). OnOutput (ending fault) (CodebookFinds (Plain d) (network t) (ending fault) s)) (sym (ap (λ (o : Outcome). o.fault) p.gives))
    (refuses_distance t d whole s a written says p)
refused_shown t (Cap cap) whole a s p = absurd p

shown : (t : Topology) (wish : Wish) (whole : ℕ) (a : Outcome) (s : Seen) → CodebookGives t wish whole a → IsShown (CodebookFinds wish) (network t) s a
shown t wish whole a s (inl w) = certified_shown t wish whole a s w
shown t wish whole a s (inr (inl w)) = subst (IsShown (CodebookFinds wish) (network t) s) (sym w.gives) (λ written says. tt)
shown t wish whole a s (inr (inr p)) = refused_shown t wish whole a s p

finds : (wish : Wish) (known : Known) (whole : ℕ) (a : Outcome) (s : Seen) → CodebookAfter wish known whole a → IsShown (CodebookFinds wish) known s a
finds wish (network t) whole a s p = shown t wish whole a s p
finds wish known whole a s p = absurd p

pub lawful : (model topology : List ℕ) (wish : Wish) → IsLawful (codebook model topology wish)
lawful model topology wish = record { one = one wish; ends = ends wish; own = own wish; finds = finds wish }
