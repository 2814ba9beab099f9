-- Relations that lead home, and the first place of a path that can't repeat.
use Rattle.std.proofs.Common.{◌≡◌, ◌≢◌, ℕ, suc, ◌+◌, ◌-◌, ◌<◌, ◌≤◌, Bool, true, false, not, List, [], ◌∷◌, length, take, Option, Some, None, refl, sym, ap, subst, ◌∙◌, inl, inr, arith}
use Rattle.std.specs.Prelude.{◌⊎◌, ◌↔◌, IsTrue, slice_get}
use Rattle.std.proofs.lemmas.Bool.{cases_lt}
use Rattle.std.proofs.lemmas.Option.{slice_get_within}
use Rattle.cb_grammar.specs.declared.tree.PlaceToken.{PlaceToken}
use Rattle.cb_grammar.specs.declared.tree.Tree.{Tree}
use Rattle.cb_rules.specs.declared.rule.TypeRule.TheVariants.{TwoClasses, TwoNames}
use Rattle.cb_rules.specs.Classes.{Extends, IsAbove, HasAt, HasSomeMember, Declares, IsClassNamed, IsRelationNamed, IsRelationTo, LeadsAlong}
use Rattle.cb_rules.specs.Rules.{LeadsHome, CannotRepeatAt, CannotRepeat}
use Rattle.cb_rules.specs.Fault.{Keeps}
use Rattle.cb_rules.specs.Finds.{RelationLeads}
use Rattle.cb_rules.specs.Least.{IsLeast}
use Rattle.cb_rules.proofs.Walks.{below_or_same, steps_are, above_split, above_first, one_above, one_named}
use Rattle.cb_rules.proofs.Unique.{leads_past, one_place, one_way, one_reached, to_named}

-- what is asked beside a test that fails
pub not_home : (r : Bool) (H P : Type 0) → IsTrue r ↔ H → P → IsTrue (not r) ↔ (P × (¬ H))
not_home true H P iff p = (λ never. absurd (cc), λ both. absurd (both.1 (iff.0 refl)))
not_home false H P iff p = (λ _. (p, λ h. let never : IsTrue false = iff.1 h in absurd (cc)), λ _. refl)

-- a relation that leads home is declared
pub home_declared : (tree : Tree) (k : ℕ) (name : List ℕ) → LeadsHome tree k name → HasSomeMember tree k (Declares name)
home_declared tree k name (home, i, to, next, n, has, leads, named, above) = (home, i, has)

module _ (tree : Tree) (classes : Keeps tree TwoClasses) where
  -- none of the classes below that step is this one
  abbrev HasPassed : ℕ → ℕ → ℕ → Type 0
  HasPassed of k n = (s j : ℕ) → s < n → IsAbove tree k s j → j ≢ of

  pub passed_one : (of k n at : ℕ) → IsAbove tree k n at → HasPassed of k n → at ≢ of → HasPassed of k (n + 1)
  passed_one of k n at walk passed here s j below above is = elim (cases_lt s n) [
    | inl early ↦ passed s j early above is
    | inr late ↦
        let same : s ≡ n = omega arith in
        here (one_above tree classes n k at j walk (subst (λ (s : ℕ). IsAbove tree k s j) same above) ∙ is)
  ]

  -- where the walk ends, no class is above
  pub no_heir : (of k n at : ℕ) → IsAbove tree k n at → HasPassed of k n → at ≢ of → ((j : ℕ) → ¬ Extends tree at j) → ¬ ((s : ℕ) × IsAbove tree k s of)
  no_heir of k n at walk passed here ends (s, above) = elim (below_or_same s n) [
    | inl below ↦ passed s of below above refl
    | inr rest ↦ elim rest [
      | inl beyond ↦
          let split = above_split tree n (suc (s - suc n)) k of (steps_are tree s (n + suc (s - suc n)) k of (omega arith) above) in
          let first = above_first tree (s - suc n) split.0 of split.2 in
          ends first.0 (subst (λ (i : ℕ). Extends tree i first.0) (one_above tree classes n k split.0 at split.1 walk) first.1)
      | inr same ↦ here (one_above tree classes n k at of walk (subst (λ (m : ℕ). IsAbove tree k m of) same above))
    ]
  ]

  module _ (names : Keeps tree TwoNames) where
    -- of a relation whose target and declaring class are known, whether it leads home is whether the one descends from the other
    pub home_reported : (k : ℕ) (name : List ℕ) (next home i : ℕ) → RelationLeads tree k name next → HasAt tree k (Declares name) home i
        → ((n : ℕ) × IsAbove tree next n home) ↔ LeadsHome tree k name
    home_reported k name next home i on has = (
      λ (n, above). (home, i, on.0, next, n, has, on.1, on.2, above),
      λ (home', i', to, next', n, has', leads, named, above).
          let place = one_place tree classes names name k home' i' home i has' has in
          let way = one_way tree classes names k name to on.0 leads on.1 in
          let there = one_named tree classes on.0 next' next (subst (λ (t : List ℕ). IsClassNamed tree t next') way named) on.2 in
          (n, subst (λ (h : ℕ). IsAbove tree next n h) place.0 (subst (λ (x : ℕ). IsAbove tree x n home') there above)),
    )

    pub never_home : (k : ℕ) (name : List ℕ) → ¬ HasSomeMember tree k (IsRelationNamed name) → ¬ LeadsHome tree k name
    never_home k name none (home, i, to, next, n, has, leads, named, above) =
        let at = leads.2 in
        none (leads.0, leads.1, (at.0, at.1, at.2, at.3, to_named name to at.1 at.4))

    -- at a place that is reached
    pub cannot_here : (k m at : ℕ) (path : List PlaceToken) (step : PlaceToken) → slice_get path m ≡ Some step → LeadsAlong tree k (take m path) at → CannotRepeatAt tree k path m
        → (step.plus ≡ true) × (¬ LeadsHome tree at step.name.name)
    cannot_here k m at path step is leads (step', j, is', leads', plus, none) =
        let same : step' ≡ step = cc (sym is' ∙ is) in
        let here = one_reached tree classes names (take m path) k j at leads' leads in
        (ap (λ (s : PlaceToken). s.plus) (sym same) ∙ plus, subst (λ (s : PlaceToken). ¬ LeadsHome tree at s.name.name) same (subst (λ (p : ℕ). ¬ LeadsHome tree p step'.name.name) here none))

    abbrev MayAllBefore : ℕ → List PlaceToken → ℕ → Type 0
    MayAllBefore k path n = (m : ℕ) → m < n → ¬ CannotRepeatAt tree k path m

    pub first_line : (k m at : ℕ) (path : List PlaceToken) (step : PlaceToken) → slice_get path m ≡ Some step → LeadsAlong tree k (take m path) at → MayAllBefore k path m
        → (step.plus ≡ true) → (¬ LeadsHome tree at step.name.name) → IsLeast (CannotRepeat tree k path) (Some step.name.line)
    first_line k m at path step is leads before plus none =
        let here : CannotRepeatAt tree k path m = (step, at, is, leads, plus, none) in (
          (m, step, is, refl, here, before),
          λ line (m', step', is', line_is, here', before'). elim (below_or_same m m') [
            | inl below ↦ absurd (before' m below here)
            | inr rest ↦ elim rest [
              | inl above ↦ absurd (before m' above here')
              | inr same ↦
                  let one : step ≡ step' = cc (sym is ∙ (ap (slice_get path) same ∙ is')) in
                  omega (arith, line_is, ap (λ (s : PlaceToken). s.name.line) one)
            ]
          ],
        )

    pub may_more : (k m at : ℕ) (path : List PlaceToken) (step : PlaceToken) → slice_get path m ≡ Some step → LeadsAlong tree k (take m path) at → MayAllBefore k path m
        → ¬ ((step.plus ≡ true) × (¬ LeadsHome tree at step.name.name)) → MayAllBefore k path (m + 1)
    may_more k m at path step is leads before may n below here = elim (cases_lt n m) [
      | inl early ↦ before n early here
      | inr late ↦
          let same : n ≡ m = omega arith in
          may (cannot_here k m at path step is leads (subst (CannotRepeatAt tree k path) same here))
    ]

    pub no_line_at_end : (k n : ℕ) (path : List PlaceToken) → length path ≤ n → MayAllBefore k path n → IsLeast (CannotRepeat tree k path) None
    no_line_at_end k n path all before line (m, step, is, _, here, _) = before m (omega (arith, slice_get_within path m step is)) here

    -- after a place without a relation no class is reached
    pub no_line_where_stopped : (k m at : ℕ) (path : List PlaceToken) (step : PlaceToken) → slice_get path m ≡ Some step → LeadsAlong tree k (take m path) at → MayAllBefore k path (m + 1)
        → ¬ HasSomeMember tree at (IsRelationNamed step.name.name) → IsLeast (CannotRepeat tree k path) None
    no_line_where_stopped k m at path step is leads before none line (m', step', is', _, here, _) = elim (cases_lt m' (m + 1)) [
      | inl early ↦ before m' early here
      | inr late ↦
          let on = leads_past tree path k m m' here.1 step (omega arith) here.3 is in
          let reached = one_reached tree classes names (take m path) k on.0 at on.2 leads in
          let has = on.3.1 in
          let found = has.2 in
          none (subst (λ (p : ℕ). HasSomeMember tree p (IsRelationNamed step.name.name)) reached (has.0, has.1, (found.0, found.1, found.2, found.3, to_named step.name.name on.3.0 found.1 found.4)))
    ]
