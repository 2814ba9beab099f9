-- What `levels` writes, `prove` accepts.
use Rattle.std.proofs.Common.{◌≡◌, ◌≢◌, ℕ, List, [], ◌∷◌, refl, sym, ap, subst, inl, inr, Some}
use Rattle.std.specs.Prelude.{None}
use Rattle.cb_io.specs.Outside.{contents}
use Rattle.cb_network.specs.Topology.{Topology}
use Rattle.cb_levels.specs.declared.levels.Levels.{Levels}
use Rattle.cb_levels.specs.Text.{levels_text}
use Rattle.cb_request.specs.declared.request.Request.TheVariants.{Prove}
use Rattle.cb_outcome.specs.Roles.{Role}
use Rattle.cb_outcome.specs.Outcome.{Outcome}
use Rattle.cb_outcome.specs.Texts.{IsLevelText}
use Rattle.cb_outcome.specs.Judged.{File, Known, nothing, network, levelled, IsShortFor, Says, PassFrom}
use Rattle.cb_outcome.specs.Contents.{Left, files_from}
use Rattle.cb_outcome.specs.Command.{reads_of, JobGives}
use Rattle.cb_outcome.specs.Commands.Levels.{levels}
use Rattle.cb_outcome.specs.Commands.Prove.{prove}
use Rattle.cb_outcome.specs.Answer.{IsOutcome}
use Rattle.cb_outcome.specs.Laws.{HaveSameNetwork, LevelsAreAccepted}
use Rattle.cb_outcome.proofs.LevelTexts.{canonical_text_is_valid, level_text_fits}
use Rattle.cb_outcome.proofs.Outcomes.{passed_go_to_job}

module _ (left left' : Left) (model topology word name : List ℕ) (same : HaveSameNetwork left left' model topology) (a b : Outcome) (some : a.out ≢ [])
    (written : contents left' (model ∷ topology ∷ []) name ≡ a.out) where
  abbrev File_of : Role → List ℕ → List ℕ → File
  File_of role name text = record { role = role; name = name; text = text }

  -- the text of a file of levels that is accepted
  record IsProvable (t : Topology) (text : List ℕ) : Type 0 where
    pub of : Levels
    pub valid : IsLevelText t text of
    pub short : IsShortFor Role.levels text

  -- the levels pass after the model and the topology
  accepted_after : (first : Known) (t : Topology) → Says nothing (File_of Role.model model (contents left [] model)) first
      → Says first (File_of Role.topology topology (contents left (model ∷ []) topology)) (network t) → IsProvable t a.out
      → IsOutcome (prove model topology name) left' b → b.fault ≡ None
  accepted_after first t says_model says_topology is answers =
      let text = contents left' (model ∷ topology ∷ []) name in
      let here = subst (IsProvable t) (sym written) is in
      let says : Says (network t) (File_of Role.levels name text) (levelled t here.of) = record { short = here.short; means = (here.of, here.valid, refl) } in
      let pass : PassFrom nothing (files_from left' (reads_of (prove model topology name))) (levelled t here.of) = (
        first,
        subst (λ (bytes : List ℕ). Says nothing (File_of Role.model model bytes) first) (sym same.model_is) says_model,
        (
          network t,
          subst (λ (bytes : List ℕ). Says first (File_of Role.topology topology bytes) (network t)) (sym same.topology_is) says_topology,
          (levelled t here.of, says, refl),
        ),
      ) in
      let (whole, job) = passed_go_to_job (Some (Prove model topology name)) left' (levelled t here.of) b pass answers in
      ap (λ (o : Outcome). o.fault) job.gives

  -- what the job gives is of a network
  of_network : (first known : Known) → Says nothing (File_of Role.model model (contents left [] model)) first
      → Says first (File_of Role.topology topology (contents left (model ∷ []) topology)) known → JobGives left (levels model topology word) known 2 a
      → IsOutcome (prove model topology name) left' b → b.fault ≡ None
  of_network first (network t) says_model says_topology (inl p) answers =
      let text : a.out ≡ levels_text p.levels = ap (λ (o : Outcome). o.out) p.gives in
      let is : IsProvable t (levels_text p.levels) = record {
        of = p.levels;
        valid = canonical_text_is_valid t p.problem p.levels p.is p.canonical p.of_format;
        short = level_text_fits p.levels p.of_format;
      } in
      accepted_after first t says_model says_topology (subst (IsProvable t) (sym text) is) answers
  of_network first (network t) says_model says_topology (inr none) answers = absurd (some (ap (λ (o : Outcome). o.out) none.gives))
  of_network first known says_model says_topology gives answers = absurd gives

  accepted : IsOutcome (levels model topology word) left a → IsOutcome (prove model topology name) left' b → b.fault ≡ None
  accepted (inl (fault, refuses, e)) answers = absurd (some (ap (λ (o : Outcome). o.out) e))
  accepted (inr (first, says_model, inl (fault, refuses, e))) answers = absurd (some (ap (λ (o : Outcome). o.out) e))
  accepted (inr (first, says_model, inr (known, says_topology, gives))) answers = of_network first known says_model says_topology gives answers

pub levels_are_accepted : LevelsAreAccepted
levels_are_accepted left left' model topology word name a b same answer some written verdict =
    accepted left left' model topology word name same a b some written answer verdict
