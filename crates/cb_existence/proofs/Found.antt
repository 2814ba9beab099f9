-- What can be decided of one item can be decided of those in an option, a table, a map or a set.
use Rattle.std.proofs.Common.{◌≡◌, ◌<◌, ◌≤◌, ℕ, zero, suc, List, [], ◌∷◌, true, Option, None, Some, refl, sym, subst, ◌∙◌, inl, inr, arith}
use Rattle.std.specs.FinMap as map
use Rattle.std.specs.List.{Contains, list_any, slice_get}
use Rattle.std.specs.Ordering.{eq_by_cmp}
use Rattle.std.proofs.lemmas.Bool.{cases_lt}
use Rattle.cb_model.specs.declared.id.ClassId.{ClassId}
use Rattle.cb_model.specs.Order.{name_cmp}
use Rattle.cb_model.proofs.Rising.{name_cmp_total, name_cmp_exact, contains_head, contains_tail}
use Rattle.cb_network.specs.Topology.{Topology, HasClass, IsLive}
use Rattle.cb_network.specs.Words.{InstanceName}
use Rattle.cb_network.proofs.Decided.{Decision, decide_same}
use Rattle.cb_network.proofs.Sets.{or_cases, tied}

pub decide_less : (m n : ℕ) → Decision (m < n)
decide_less m n = elim (cases_lt m n) [
  | inl less ↦ inl less
  | inr more ↦ inr (λ less. absurd (omega arith))
]

pub decide_at_most : (m n : ℕ) → Decision (m ≤ n)
decide_at_most m n = elim (cases_lt n m) [
  | inl less ↦ inr (λ le. absurd (omega arith))
  | inr more ↦ inl more
]

pub decide_empty : {X : Type 0} (xs : List X) → Decision (xs ≡ [])
decide_empty [] = inl refl
decide_empty (x ∷ xs) = inr (λ e. absurd (cc))

pub decide_got : {X : Type 0} (o : Option X) (P : X → Type 0) → ((x : X) → Decision (P x)) → Decision ((x : X) × (o ≡ Some x) × P x)
decide_got None P decide = inr (λ h. let e = h.1 in absurd (cc))
decide_got (Some y) P decide =
    decide_same (P y) _ (λ p. (y, refl, p)) (λ (x, e, p). subst P (let f : y ≡ x = cc in sym f) p) (decide y)

no_row : {X : Type 0} (y : X) (ys : List X) (P : X → Type 0) → (¬ P y) → (¬ ((k : ℕ) × (x : X) × (slice_get ys k ≡ Some x) × P x))
    → (k : ℕ) (x : X) → slice_get (y ∷ ys) k ≡ Some x → P x → ⊥
no_row y ys P none never zero x is p = none (subst P (let f : y ≡ x = cc in sym f) p)
no_row y ys P none never (suc k) x is p = never (k, x, is, p)

-- whether some row is such that P
pub decide_row : {X : Type 0} (rows : List X) (P : X → Type 0) → ((x : X) → Decision (P x)) → Decision ((k : ℕ) × (x : X) × (slice_get rows k ≡ Some x) × P x)
decide_row [] P decide = inr (λ (k, x, is, p). absurd (cc))
decide_row (y ∷ ys) P decide = elim (decide y) [
  | inl p ↦ inl (0, y, refl, p)
  | inr none ↦ elim (decide_row ys P decide) [
    | inl (k, x, is, p) ↦ inl (suc k, x, is, p)
    | inr never ↦ inr (λ (k, x, is, p). no_row y ys P none never k x is p)
  ]
]

pub decide_live : (t : Topology) (a : InstanceName) → Decision ((c : ClassId) × HasClass t a c)
decide_live t a = elim (map.get t.instances a) as (λ o. map.get t.instances a ≡ o → Decision ((c : ClassId) × HasClass t a c)) [
  | None ↦ λ none. inr (λ h. let is = h.1 in absurd (cc))
  | Some c ↦ λ is. inl (c, is)
] refl

among_names : (name : List ℕ) (names : List (List ℕ)) → list_any (eq_by_cmp name_cmp name) names ≡ true → Contains names name
among_names name [] e = absurd (cc)
among_names name (x ∷ names) e = elim (or_cases _ _ e) [
  | inl here ↦ subst (Contains (x ∷ names)) (sym (tied name_cmp_total name_cmp_exact name x here)) (contains_head x names)
  | inr later ↦ contains_tail x names name (among_names name names later)
]

-- the names of the live instances
pub live_names : Topology → List InstanceName
live_names t = map.keys t.instances

pub is_among_live : (t : Topology) (a : InstanceName) → IsLive t a → Contains (live_names t) a
unfolding live_names
is_among_live t a live = among_names a (map.keys t.instances) (sym (map.contains_key-keys t.instances a) ∙ live)
