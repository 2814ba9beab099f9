-- Pairs that wait, as lists grow and columns are kept.
use Rattle.std.proofs.Common.{◌≡◌, ℕ, ◌+◌, ◌<◌, List, [], ◌∷◌, ◌++◌, length, get_or, slice_get, slice_set, Some, Bool, true, refl, sym, ap, subst, ◌∙◌, inl, inr, arith}
use Rattle.std.specs.List.{Contains}
use Rattle.std.proofs.lemmas.Bool.{cases_eq}
use Rattle.std.proofs.lemmas.List.{get_or-set_same, get_or-set_other, length-set, get_or_default}
use Rattle.std.proofs.lemmas.List.Elements.{Contains-append_left, Contains-append_right, Contains-append_cases}
use Rattle.cb_model.proofs.Rising.{contains_cases, contains_head, nothing_in_empty}
use Rattle.cb_coding.specs.Distance.{differ, bit, distance, all_columns, code_at, apart}
use Rattle.cb_coding.specs.Pairs.{IsPair}
use Rattle.cb_reduce.specs.declared.moves.Waiter.{Waiter}
use Rattle.cb_reduce.specs.declared.place.WaitingPlace.{WaitingPlace}
use Rattle.cb_reduce.specs.declared.place.WaitingPlace.TheVariants.{Nowhere, At, Close}
use Rattle.cb_reduce.specs.Places.{IsWaitingPlace, kept_of}
use Rattle.cb_reduce.specs.Moves.{waiter, at_column, IsSafe, IsHeld, IsCovered, Grows}
use Rattle.cb_reduce.proofs.Forcing.{more_marked}
use Rattle.cb_reduce.proofs.Places.{code_at_is}
use Rattle.cb_reduce.proofs.Prefixes.{prefix, prefix_more, prefix_rises, step_where}

-- the list that a column gives
pub list_is : (lists : List (List Waiter)) (c : ℕ) (pairs : List Waiter) → c < length lists → pairs ≡ get_or lists c pairs → pairs ≡ at_column lists c
list_is lists c pairs lt at = at ∙ get_or_default lists c pairs [] lt

-- lists that grow
module _ (codes : List (List Bool)) where
  pub none_grow : (a : List (List Waiter)) → Grows codes a a
  none_grow a = record { all = refl; stay = λ k pair there. there; come = λ k pair there. inl there }

  pub grows_on : (a b c : List (List Waiter)) → Grows codes a b → Grows codes b c → Grows codes a c
  grows_on a b c one two = record {
    all = two.all ∙ one.all;
    stay = λ k pair there. two.stay k pair (one.stay k pair there);
    come = λ k pair there. elim (two.come k pair there) [
      | inl before ↦ one.come k pair before
      | inr is_pair ↦ inr is_pair
    ];
  }

  pub still_held : (kept : List ℕ) (d : ℕ) (old new : List (List Waiter)) → Grows codes old new → (c i j : ℕ)
      → IsHeld codes kept d old c i j → IsHeld codes kept d new c i j
  still_held kept d old new grows c i j held = elim held [
    | inl safe ↦ inl safe
    | inr waits ↦ inr (record { place = waits.place; before = waits.before; waits = grows.stay waits.place (waiter i j) waits.waits; safe = waits.safe })
  ]

  module _ (old : List (List Waiter)) (p : ℕ) (lt : p < length old) (pair : Waiter) (pairs : List Waiter) (is : pairs ≡ at_column old p ++ pair ∷ []) where
    abbrev new : List (List Waiter)
    new = slice_set old p pairs

    here : at_column new p ≡ at_column old p ++ pair ∷ []
    here = get_or-set_same old p pairs [] lt ∙ is

    elsewhere : (c : ℕ) → (c ≡ p → ⊥) → at_column new c ≡ at_column old c
    elsewhere c other = get_or-set_other old p c pairs [] other

    pub now_waits : Contains (at_column (slice_set old p pairs) p) pair
    now_waits = subst (λ ws. Contains ws pair) (sym here) (Contains-append_right (at_column old p) (pair ∷ []) pair (contains_head pair []))

    pub one_more_waits : IsPair codes pair.first pair.second → Grows codes old (slice_set old p pairs)
    one_more_waits is_pair = record {
      all = length-set old p pairs;
      stay = λ c w there. elim (cases_eq c p) [
        | inl e ↦
            let at : at_column old p ≡ at_column old c = ap (at_column old) (sym e) in
            subst (λ k. Contains (at_column new k) w) (sym e)
            (subst (λ ws. Contains ws w) (sym here) (Contains-append_left (at_column old p) (pair ∷ []) w (subst (λ ws. Contains ws w) (sym at) there)))
        | inr other ↦ subst (λ ws. Contains ws w) (sym (elsewhere c other)) there
      ];
      come = λ c w there. elim (cases_eq c p) [
        | inl e ↦
            let at_p : Contains (at_column new p) w = subst (λ k. Contains (at_column new k) w) e there in
            elim (Contains-append_cases (at_column old p) (pair ∷ []) w (subst (λ ws. Contains ws w) here at_p)) [
              | inl before ↦ inl (subst (λ k. Contains (at_column old k) w) (sym e) before)
              | inr last ↦ elim (contains_cases pair [] w last) [
                | inl same ↦ inr (subst (λ (v : Waiter). IsPair codes v.first v.second) same is_pair)
                | inr none ↦ absurd (nothing_in_empty w none)
              ]
            ]
        | inr other ↦ inl (subst (λ ws. Contains ws w) (elsewhere c other) there)
      ];
    }

-- what a place says of a pair
module _ (codes : List (List Bool)) (i j : ℕ) (v w : List Bool) (at : slice_get codes i ≡ Some v) (at' : slice_get codes j ≡ Some w) (kept : List ℕ) (d before : ℕ) where
  after : distance kept v w ≡ apart kept codes i j
  after = rw (← code_at_is codes i v at, ← code_at_is codes j w at') refl

  before_is : (c : ℕ) → distance (all_columns c) v w ≡ prefix codes i j c
  before_is c = rw (← code_at_is codes i v at, ← code_at_is codes j w at') refl

  differs : (c : ℕ) → differ (bit v c) (bit w c) ≡ true → differ (bit (code_at codes i) c) (bit (code_at codes j) c) ≡ true
  differs c is = rw (code_at_is codes i v at, code_at_is codes j w at') is

  pub nowhere_is_safe : IsWaitingPlace v w kept before d Nowhere → IsSafe codes kept d 0 i j
  nowhere_is_safe far = let same = after in let none : prefix codes i j 0 ≡ 0 = refl in omega arith

  pub at_is_safe : (c : ℕ) → IsWaitingPlace v w kept before d (At c) → IsSafe codes kept d (c + 1) i j
  at_is_safe c place =
      let same = after in
      let sum = place.2 in
      let prefix_is = before_is c in
      let more = prefix_more codes i j c in
      let one = step_where codes i j c (differs c place.1) in
      omega arith

  pub close_isnt_safe : IsWaitingPlace v w kept before d Close → IsSafe codes kept d before i j → ⊥
  close_isnt_safe close safe = let same = after in let prefix_is = before_is before in omega arith

  pub others_are_safe : (place : WaitingPlace) → (place ≡ Close → ⊥) → IsWaitingPlace v w kept before d place → IsSafe codes kept d before i j
  others_are_safe Nowhere other far = let same = after in omega arith
  others_are_safe (At c) other place =
      let safe = at_is_safe c place in
      let rise = prefix_rises codes i j (c + 1) before (let lt = place.0 in omega arith) in
      omega arith
  others_are_safe Close other far = absurd (other refl)

-- a pair is held, or safe, as far apart as it needs to be
abbrev pub IsPairHeld : List (List Bool) → List ℕ → (ℕ → ℕ → ℕ) → List (List Waiter) → ℕ → Waiter → Type 0
IsPairHeld codes kept need lists c w = IsHeld codes kept (need w.first w.second) lists c w.first w.second

abbrev pub IsPairSafe : List (List Bool) → List ℕ → (ℕ → ℕ → ℕ) → ℕ → Waiter → Type 0
IsPairSafe codes kept need c w = IsSafe codes kept (need w.first w.second) c w.first w.second

-- what is covered stays so, as lists grow and more columns are forced
pub still_covered : (codes : List (List Bool)) (old_forced new_forced : List Bool) (kept : List ℕ) (d : ℕ) (old new : List (List Waiter))
    → length new_forced ≡ length old_forced → ((k : ℕ) → bit old_forced k ≡ true → bit new_forced k ≡ true) → Grows codes old new → (c i j : ℕ)
    → IsCovered codes (kept_of old_forced) kept d old c i j → IsCovered codes (kept_of new_forced) kept d new c i j
still_covered codes old_forced new_forced kept d old new long stay grows c i j covered = elim covered [
  | inl settled ↦ inl (let more = more_marked codes i j old_forced new_forced long stay in omega arith)
  | inr held ↦ inr (still_held codes kept d old new grows c i j held)
]

-- an item is the same whatever stands for items past the end
pub item_is : (items : List Waiter) (a b : ℕ) (v w : Waiter) → a ≡ b → a < length items → get_or items a v ≡ get_or items b w
item_is items a b v w e lt = ap (λ k. get_or items k v) e ∙ get_or_default items b v w (omega arith)

pub number_is : (items : List ℕ) (a b d e : ℕ) → a ≡ b → a < length items → get_or items a d ≡ get_or items b e
number_is items a b d e same lt = ap (λ k. get_or items k d) same ∙ get_or_default items b d e (omega arith)
