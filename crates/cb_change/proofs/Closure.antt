-- Whether steps lead from one item to another can be decided where there are finitely many to come to.
use Rattle.std.proofs.Common.{◌≡◌, ◌⊎◌, List, [], ◌∷◌, ◌++◌, Bool, true, false, refl, sym, subst, inl, inr}
use Rattle.std.specs.List.{Contains}
use Rattle.cb_model.proofs.Rising.{contains_cases, contains_head, contains_tail, nothing_in_empty}
use Rattle.cb_network.specs.Causes.{Run, Ahead}
use Rattle.cb_network.proofs.Decided.{Decision, decide_both, decide_same}
use Rattle.cb_network.proofs.Runs.{joined, ahead_along}

pub decide_or : (P Q : Type 0) → Decision P → Decision Q → Decision (P ⊎ Q)
decide_or P Q (inl p) q = inl (inl p)
decide_or P Q (inr never) (inl q) = inl (inr q)
decide_or P Q (inr never) (inr none) = inr (λ h. elim h [ inl p ↦ never p | inr q ↦ none q ])

pub decide_not : (P : Type 0) → Decision P → Decision (¬ P)
decide_not P (inl p) = inr (λ never. never p)
decide_not P (inr never) = inl never

-- some item of the list is such that P
pub decide_any : {X : Type 0} (P : X → Type 0) → ((x : X) → Decision (P x)) → (xs : List X) → Decision ((x : X) × Contains xs x × P x)
decide_any P decide [] = inr (λ h. nothing_in_empty h.0 h.1)
decide_any P decide (x ∷ xs) = elim (decide x) [
  | inl p ↦ inl (x, contains_head x xs, p)
  | inr never ↦ elim (decide_any P decide xs) [
    | inl found ↦ inl (found.0, contains_tail x xs found.0 found.1, found.2)
    | inr none ↦ inr (λ h. elim (contains_cases x xs h.0 h.1) [
      | inl same ↦ never (subst P (sym same) h.2)
      | inr later ↦ none (h.0, later, h.2)
    ])
  ]
]

-- the two are one, or a step leads from the first to the second, or a run whose places between are in the list
abbrev Over : {X : Type 0} → (X → X → Type 0) → List X → X → X → Type 0
Over Step [] a b = (a ≡ b) ⊎ Step a b
Over Step (v ∷ vs) a b = Over Step vs a b ⊎ (Over Step vs a v × Over Step vs v b)

module _ {X : Type 0} (Step : X → X → Type 0) where
  over_run : (vs : List X) (a b : X) → Over Step vs a b → (xs : List X) × Run Step a xs b
  over_run [] a b (inl same) = ([], same)
  over_run [] a b (inr step) = (b ∷ [], (step, refl))
  over_run (v ∷ vs) a b (inl over) = over_run vs a b over
  over_run (v ∷ vs) a b (inr (to, from)) =
      let first = over_run vs a v to in
      let second = over_run vs v b from in
      (first.0 ++ second.0, joined Step a first.0 v second.0 b first.1 second.1)

  over_same : (vs : List X) (a : X) → Over Step vs a a
  over_same [] a = inl refl
  over_same (v ∷ vs) a = inl (over_same vs a)

  over_step : (vs : List X) (a b : X) → Step a b → Over Step vs a b
  over_step [] a b step = inr step
  over_step (v ∷ vs) a b step = inl (over_step vs a b step)

  to_first : (v : X) (vs : List X) (a : X) → Over Step (v ∷ vs) a v → Over Step vs a v
  to_first v vs a (inl over) = over
  to_first v vs a (inr (to, from)) = to

  from_first : (v : X) (vs : List X) (b : X) → Over Step (v ∷ vs) v b → Over Step vs v b
  from_first v vs b (inl over) = over
  from_first v vs b (inr (to, from)) = from

  over_joined : (vs : List X) (a m b : X) → Contains vs m → Over Step vs a m → Over Step vs m b → Over Step vs a b
  over_joined [] a m b has to from = absurd (nothing_in_empty m has)
  over_joined (v ∷ vs) a m b has to from = elim (contains_cases v vs m has) [
    | inl same ↦ inr (
      to_first v vs a (subst (λ k. Over Step (v ∷ vs) a k) (sym same) to),
      from_first v vs b (subst (λ k. Over Step (v ∷ vs) k b) (sym same) from),
    )
    | inr later ↦ by_ways (λ x y z. over_joined vs x y z) later to from
  ]
    where
      by_ways : ((x y z : X) → Contains vs y → Over Step vs x y → Over Step vs y z → Over Step vs x z) → Contains vs m → Over Step (v ∷ vs) a m → Over Step (v ∷ vs) m b → Over Step (v ∷ vs) a b
      by_ways join later (inl p) (inl q) = inl (join a m b later p q)
      by_ways join later (inl p) (inr (q, r)) = inr (join a m v later p q, r)
      by_ways join later (inr (p, q)) (inl r) = inr (p, join v m b later q r)
      by_ways join later (inr (p, q)) (inr (r, s)) = inr (p, s)

  module _ (vs : List X) (into : (x y : X) → Step x y → Contains vs y) where
    run_over : (a : X) (xs : List X) (b : X) → Run Step a xs b → Over Step vs a b
    run_over a [] b same = subst (λ k. Over Step vs a k) same (over_same vs a)
    run_over a (x ∷ xs) b run = over_joined vs a x b (into a x run.0) (over_step vs a x run.0) (run_over x xs b run.1)

    -- what a run comes to is its start or in the list
    pub ahead_within : (plus : Bool) (a b : X) → Ahead Step plus a b → Contains (a ∷ vs) b
    ahead_within plus a b ahead =
        ahead_along Step (Contains (a ∷ vs)) (λ x y has step. contains_tail a vs y (into x y step)) plus a b (contains_head a vs) ahead

    module _ (decide : (x y : X) → Decision (x ≡ y)) (decide_step : (x y : X) → Decision (Step x y)) where
      decide_over : (ws : List X) (a b : X) → Decision (Over Step ws a b)
      decide_over [] a b = decide_or _ _ (decide a b) (decide_step a b)
      decide_over (w ∷ ws) a b = decide_or _ _ (decide_over ws a b) (decide_both _ _ (decide_over ws a w) (decide_over ws w b))

      pub decide_run : (a b : X) → Decision ((xs : List X) × Run Step a xs b)
      decide_run a b = decide_same (Over Step vs a b) _ (over_run vs a b) (λ (xs, run). run_over a xs b run) (decide_over vs a b)

      pub decide_ahead : (plus : Bool) (a b : X) → Decision (Ahead Step plus a b)
      decide_ahead true a b = decide_run a b
      decide_ahead false a b = decide a b
