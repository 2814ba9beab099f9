-- What `codebook` writes, `verify` accepts.
use Rattle.std.proofs.Common.{◌≡◌, ◌≢◌, ℕ, List, [], ◌∷◌, refl, sym, ap, subst, inl, inr, Some}
use Rattle.std.specs.Prelude.{None}
use Rattle.cb_io.specs.Outside.{contents}
use Rattle.cb_model.specs.declared.wish.Wish.{Wish}
use Rattle.cb_network.specs.Topology.{Topology}
use Rattle.cb_request.specs.declared.request.Request.TheVariants.{Verify}
use Rattle.cb_outcome.specs.Roles.{Wanted, Role}
use Rattle.cb_outcome.specs.Outcome.{Outcome}
use Rattle.cb_outcome.specs.Judged.{File, Known, nothing, network, certified, Says, PassFrom}
use Rattle.cb_outcome.specs.Contents.{Left, files_from}
use Rattle.cb_outcome.specs.Command.{reads_of, JobGives}
use Rattle.cb_outcome.specs.Commands.Codebook.{codebook}
use Rattle.cb_outcome.specs.Commands.Verify.{verify}
use Rattle.cb_outcome.specs.Answer.{IsOutcome}
use Rattle.cb_outcome.specs.Laws.{HaveSameNetwork, WrittenIsAccepted}
use Rattle.cb_outcome.proofs.Acceptable.{IsAcceptable, codebook_spells}
use Rattle.cb_outcome.proofs.Outcomes.{passed_go_to_job}

module _ (left left' : Left) (model topology certificate : List ℕ) (wish : Wish) (same : HaveSameNetwork left left' model topology) (a b : Outcome)
    (some : a.out ≢ []) (written : contents left' (model ∷ topology ∷ []) certificate ≡ a.out) where
  abbrev File_of : Role → List ℕ → List ℕ → File
  File_of role name text = record { role = role; name = name; text = text }

  -- the certificate passes after the model and the topology
  accepted_after : (first : Known) (t : Topology) → Says nothing (File_of Role.model model (contents left [] model)) first
      → Says first (File_of Role.topology topology (contents left (model ∷ []) topology)) (network t) → IsAcceptable t a.out
      → IsOutcome (verify model topology certificate) left' b → b.fault ≡ None
  accepted_after first t says_model says_topology is answers =
      let text = contents left' (model ∷ topology ∷ []) certificate in
      let here = subst (IsAcceptable t) (sym written) is in
      let says : Says (network t) (File_of (Role.certificate Wanted.any) certificate text) (certified t here.certificate) =
      record { short = here.short; means = (here.certificate, here.valid, tt, refl) } in
      let pass : PassFrom nothing (files_from left' (reads_of (verify model topology certificate))) (certified t here.certificate) = (
        first,
        subst (λ (bytes : List ℕ). Says nothing (File_of Role.model model bytes) first) (sym same.model_is) says_model,
        (
          network t,
          subst (λ (bytes : List ℕ). Says first (File_of Role.topology topology bytes) (network t)) (sym same.topology_is) says_topology,
          (certified t here.certificate, says, refl),
        ),
      ) in
      let (whole, job) = passed_go_to_job (Some (Verify model topology certificate)) left' (certified t here.certificate) b pass answers in
      let (accepted, shows, gives) = job in
      ap (λ (o : Outcome). o.fault) gives

  -- what the job gives is of a network
  of_network : (first known : Known) → Says nothing (File_of Role.model model (contents left [] model)) first
      → Says first (File_of Role.topology topology (contents left (model ∷ []) topology)) known → JobGives left (codebook model topology wish) known 2 a
      → IsOutcome (verify model topology certificate) left' b → b.fault ≡ None
  of_network first (network t) says_model says_topology gives answers =
      elim (codebook_spells t wish 2 a gives) [
        | inl is ↦ accepted_after first t says_model says_topology is answers
        | inr none ↦ absurd (some (ap (λ (o : Outcome). o.out) none))
      ]
  of_network first known says_model says_topology gives answers = absurd gives

  accepted : IsOutcome (codebook model topology wish) left a → IsOutcome (verify model topology certificate) left' b → b.fault ≡ None
  accepted (inl (fault, refuses, e)) answers = absurd (some (ap (λ (o : Outcome). o.out) e))
  accepted (inr (first, says_model, inl (fault, refuses, e))) answers = absurd (some (ap (λ (o : Outcome). o.out) e))
  accepted (inr (first, says_model, inr (known, says_topology, gives))) answers = of_network first known says_model says_topology gives answers

pub written_is_accepted : WrittenIsAccepted
written_is_accepted left left' model topology certificate wish a b same answer some written verdict =
    accepted left left' model topology certificate wish same a b some written answer verdict
