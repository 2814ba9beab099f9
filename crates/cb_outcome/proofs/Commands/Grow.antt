-- What `grow` keeps.
use Rattle.std.proofs.Common.{◌≡◌, ℕ, sym, ap, subst, inl, inr}
use Rattle.cb_gen.specs.Model.{model_text}
use Rattle.cb_gen.specs.Topology.{topology_text}
use Rattle.cb_report.specs.declared.fault.Fault.{Fault}
use Rattle.cb_report.specs.declared.status.Status.{Status}
use Rattle.cb_report.specs.Faults.{status_of}
use Rattle.cb_outcome.specs.Roles.{Role}
use Rattle.cb_outcome.specs.Outcome.{Outcome}
use Rattle.cb_outcome.specs.Judged.{Known, nothing}
use Rattle.cb_outcome.specs.Grown.{GrowGives, HasMadeUpFault}
use Rattle.cb_outcome.specs.Finds.{OnOutput}
use Rattle.cb_outcome.specs.Seen.{Seen}
use Rattle.cb_outcome.specs.Command.{FindsNothing}
use Rattle.cb_outcome.specs.Commands.Grow.{grow_making, GrowAfter, grow}
use Rattle.cb_outcome.proofs.GrownOne.{grow_one}
use Rattle.cb_outcome.proofs.Lawful.{IsOwnFault, MakingEnds, well, wrong, IsShown, shown_done, IsLawful}
use Rattle.cb_outcome.proofs.Owned.{IsStatusFor, text_fault, has_own, refused_quietly}
use Rattle.cb_outcome.proofs.Once.{IsSound}

module _ (sites start : ℕ) where
  one : (known : Known) (whole : ℕ) (a b : Outcome) → IsSound known → GrowAfter sites start known whole a → GrowAfter sites start known whole b → a ≡ b
  one nothing whole a b sound p q = grow_one sites start whole a b p q
  one known whole a b sound p q = absurd p

  made_ends : (whole : ℕ) (a : Outcome) → GrowGives sites start whole a → MakingEnds (grow_making sites start) whole a
  made_ends whole a (inl p) = well (ap (λ (o : Outcome). o.fault) p.gives) (ap (λ (o : Outcome). o.whole) p.gives)
  made_ends whole a (inr p) = wrong p.fault (ap (λ (o : Outcome). o.fault) p.gives) p.has (refused_quietly p.fault whole a p.gives)

  ends : (known : Known) (whole : ℕ) (a : Outcome) → GrowAfter sites start known whole a → MakingEnds (grow_making sites start) whole a
  ends nothing whole a p = made_ends whole a p
  ends known whole a p = absurd p

  own : (fault : Fault) → HasMadeUpFault sites fault → IsOwnFault fault
  own fault (inl has) = has_own Role.model nothing model_text fault has
  own fault (inr (known, means, has)) = has_own Role.topology known (topology_text sites) fault has

  -- a fault of what is made up leaves no output
  shows_none : (role : Role) (known : Known) (status : Status) (s : Seen) → IsStatusFor role status → OnOutput status (FindsNothing known status s)
  shows_none Role.model known status s e = subst (λ (x : Status). OnOutput x (FindsNothing known x s)) (sym e) tt
  shows_none Role.topology known status s e = subst (λ (x : Status). OnOutput x (FindsNothing known x s)) (sym e) tt
  shows_none Role.symptoms known status s e = subst (λ (x : Status). OnOutput x (FindsNothing known x s)) (sym e) tt
  shows_none (Role.certificate wanted) known status s e = subst (λ (x : Status). OnOutput x (FindsNothing known x s)) (sym e) tt
  shows_none Role.levels known status s e = subst (λ (x : Status). OnOutput x (FindsNothing known x s)) (sym e) tt
  shows_none Role.script known status s e = subst (λ (x : Status). OnOutput x (FindsNothing known x s)) (sym e) tt

  no_output : (known : Known) (fault : Fault) (s : Seen) → HasMadeUpFault sites fault
      → OnOutput (status_of fault) (FindsNothing known (status_of fault) s)
  no_output known fault s (inl has) =
      shows_none Role.model known (status_of fault) s (text_fault Role.model nothing model_text fault has).status
  no_output known fault s (inr (tree, means, has)) =
      shows_none Role.topology known (status_of fault) s (text_fault Role.topology tree (topology_text sites) fault has).status

  shown : (known : Known) (whole : ℕ) (a : Outcome) (s : Seen) → GrowGives sites start whole a → IsShown FindsNothing known s a
  shown known whole a s (inl p) = shown_done known s a (ap (λ (o : Outcome). o.fault) p.gives)
  shown known whole a s (inr p) = subst (IsShown FindsNothing known s) (sym p.gives) (λ written says. no_output known p.fault s p.has)

  finds : (known : Known) (whole : ℕ) (a : Outcome) (s : Seen) → GrowAfter sites start known whole a → IsShown FindsNothing known s a
  finds nothing whole a s p = shown nothing whole a s p
  finds known whole a s p = absurd p

pub lawful : (sites start : ℕ) → IsLawful (grow sites start)
lawful sites start = record { one = one sites start; ends = ends sites start; own = own sites start; finds = finds sites start }
