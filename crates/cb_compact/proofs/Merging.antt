-- Two lists of positions that are gone through together, one step further.
use Rattle.std.proofs.Common.{◌≡◌, ℕ, ◌+◌, ◌<◌, ◌≤◌, Bool, true, false, not, List, length, slice_index_or, refl, sym, ap, subst, ◌∙◌, inl, inr, arith}
use mathlib.Core.Bool.{beq}
use Rattle.std.specs.Prelude.{◌^◌, ◌≢◌, ◌⊎◌, leb, min}
use Rattle.std.specs.Int.{from_bool}
use Rattle.std.proofs.lemmas.Bool.{cases_lt, cases_eq, le-leb, lt-leb}
use Rattle.cb_compact.specs.Compact.{ones_of, AreBefore, differs, IsNextDiffering, DifferNowhereFrom}
use Rattle.cb_compact.proofs.Counting.{both_false}
use Rattle.cb_compact.proofs.Ones.{one_within, one_at, ones_rise, none_until, none_is}

-- this is the position at an index, or the end
pub record IsHead (places : List ℕ) (at x : ℕ) : Type 0 where
  pub there : at < length places → x ≡ slice_index_or places at 0
  pub before_end : at < length places → x < 2 ^ 32
  pub end : length places ≤ at → x ≡ 18446744073709551615

pub head_of : (places ones : List ℕ) (at x : ℕ) → places ≡ ones → (at < length places → x ≡ slice_index_or places at 0) → (at < length places → x < 2 ^ 32)
    → (length places ≤ at → x ≡ 18446744073709551615) → IsHead ones at x
head_of places ones at x are there before_end end = subst (λ ps. IsHead ps at x) are (record { there = there; before_end = before_end; end = end })

within_end : (places : List ℕ) (at x : ℕ) → IsHead places at x → x ≤ 18446744073709551615
within_end places at x head = elim (cases_lt at (length places)) [
  | inl lt ↦ let low = head.before_end lt in omega arith
  | inr past ↦ let end = head.end past in omega arith
]

is_one : (b : Bool) (n : ℕ) → n ≡ from_bool b → b ≡ true → n ≡ 1
is_one true n e is = e
is_one false n e is = absurd (cc)

is_none : (b : Bool) (n : ℕ) → n ≡ from_bool b → b ≡ false → n ≡ 0
is_none false n e is = e
is_none true n e is = absurd (cc)

module _ (row : List Bool) (from at x : ℕ) (passed : AreBefore (ones_of row) from at) (head : IsHead (ones_of row) at x) where
  abbrev bit : ℕ → Bool
  bit k = slice_index_or row k false

  -- no one stands before it
  pub none_below : (k : ℕ) → from ≤ k → k < x → bit k ≡ false
  none_below k low high = none_until (ones_of row) row refl from at passed k low (λ lt. let here = head.there lt in omega arith)

  -- before the end a one stands there
  pub stands : at < length (ones_of row) → bit x ≡ true
  stands lt = ap bit (head.there lt) ∙ one_at row at lt

  pub inside : x < 18446744073709551615 → at < length (ones_of row)
  inside low = elim (cases_lt at (length (ones_of row))) [
    | inl lt ↦ lt
    | inr past ↦ let end = head.end past in absurd (omega arith)
  ]

  pub no_later : at < length (ones_of row) → from ≤ x
  no_later lt = let here = head.there lt in let low = passed.after at (omega arith) lt in omega arith

  -- past a lower position as many come before
  pub stays_at : (place : ℕ) → from ≤ place → place < x → AreBefore (ones_of row) (place + 1) at
  stays_at place low high = record {
    within = passed.within;
    before = λ k lt. let early = passed.before k lt in omega arith;
    after = λ k late lt.
        let here = head.there (omega arith) in
        elim (cases_eq at k) [
          | inl e ↦ let same = ap (λ i. slice_index_or (ones_of row) i 0) e in omega arith
          | inr other ↦ let later = ones_rise row at k 0 (omega arith) lt in omega arith
        ];
  }

  -- and past it one more
  pub one_more : at < length (ones_of row) → AreBefore (ones_of row) (x + 1) (at + 1)
  one_more lt =
      let here = head.there lt in
      let low = no_later lt in
      record {
        within = omega arith;
        before = λ k early. elim (cases_eq k at) [
          | inl e ↦ let same = ap (λ i. slice_index_or (ones_of row) i 0) e in omega arith
          | inr other ↦ let before = passed.before k (omega arith) in omega arith
        ];
        after = λ k late within. let later = ones_rise row at k 0 (omega arith) within in omega arith;
      }

-- past a position at which the two don't differ further
pub record IsStep (v w : List Bool) (from i j place : ℕ) (both : Bool) : Type 0 where
  pub on : from ≤ place
  pub within : place < length v
  pub left : AreBefore (ones_of v) (place + 1) i
  pub right : AreBefore (ones_of w) (place + 1) j
  pub is : differs v w place ≡ not both
  pub none : (k : ℕ) → from ≤ k → k < place → differs v w k ≡ false

differ_by : (v w : List Bool) (k : ℕ) (a b : Bool) → slice_index_or v k false ≡ a → slice_index_or w k false ≡ b → differs v w k ≡ not (beq a b)
differ_by v w k a b is too = rw (is, too) refl

module _ (v w : List Bool) (from i j x y : ℕ) (same : length v ≡ length w)
    (left : AreBefore (ones_of v) from i) (right : AreBefore (ones_of w) from j) (one : IsHead (ones_of v) i x) (other : IsHead (ones_of w) j y) where
  -- the left list has the lower position
  pub left_first : x < y → y ≤ 18446744073709551615 → IsStep v w from (i + 1) j x false
  left_first lt end =
      let there = inside v from i x left one (omega arith) in
      let low = no_later v from i x left one there in
      let is = stands v from i x left one there in
      record {
        on = low;
        within = one_within v x is;
        left = one_more v from i x left one there;
        right = stays_at w from j y right other x low lt;
        is = differ_by v w x true false is (none_below w from j y right other x low lt);
        none = λ k late early. both_false v w k (none_below v from i x left one k late early) (none_below w from j y right other k late (omega arith));
      }

  -- the right list has it
  pub right_first : y < x → x ≤ 18446744073709551615 → IsStep v w from i (j + 1) y false
  right_first lt end =
      let there = inside w from j y right other (omega arith) in
      let low = no_later w from j y right other there in
      let is = stands w from j y right other there in
      record {
        on = low;
        within = let within = one_within w y is in omega arith;
        left = stays_at v from i x left one y low lt;
        right = one_more w from j y right other there;
        is = differ_by v w y false true (none_below v from i x left one y low lt) is;
        none = λ k late early. both_false v w k (none_below v from i x left one k late (omega arith)) (none_below w from j y right other k late early);
      }

  -- both have it
  pub both_first : x ≡ y → x < 18446744073709551615 → IsStep v w from (i + 1) (j + 1) x true
  both_first e before_end =
      let there = inside v from i x left one before_end in
      let there' = inside w from j y right other (omega arith) in
      let low = no_later v from i x left one there in
      let is = stands v from i x left one there in
      record {
        on = low;
        within = one_within v x is;
        left = one_more v from i x left one there;
        right = subst (λ z. AreBefore (ones_of w) (z + 1) (j + 1)) (sym e) (one_more w from j y right other there');
        is = differ_by v w x true true is (ap (λ k. slice_index_or w k false) e ∙ stands w from j y right other there');
        none = λ k late early. both_false v w k (none_below v from i x left one k late early) (none_below w from j y right other k late (omega arith));
      }

  moved : (i' j' place i'' j'' place' : ℕ) (both : Bool) → i' ≡ i'' → j' ≡ j'' → place ≡ place' → IsStep v w from i' j' place both → IsStep v w from i'' j'' place' both
  moved i' j' place i'' j'' place' both e e' e'' step =
      subst (λ n. IsStep v w from n j'' place' both) e (subst (λ n. IsStep v w from i' n place' both) e' (subst (λ n. IsStep v w from i' j' n both) e'' step))

  module _ (place more more' : ℕ) (lower : place ≡ min x y) (adds : more ≡ from_bool (leb x y)) (adds' : more' ≡ from_bool (leb y x)) where
    -- one list alone has the lower position
    pub step_apart : x ≢ y → IsStep v w from (i + more) (j + more') place false
    step_apart ne = elim (cases_lt x y) [
      | inl lt ↦
          let one_more = is_one (leb x y) more adds (le-leb x y (omega arith)) in
          let none_more = is_none (leb y x) more' adds' (lt-leb y x lt) in
          moved (i + 1) j x (i + more) (j + more') place false (omega arith) (omega arith) (omega arith) (left_first lt (within_end (ones_of w) j y other))
      | inr le ↦
          let lt : y < x = omega arith in
          let none_more = is_none (leb x y) more adds (lt-leb x y lt) in
          let one_more = is_one (leb y x) more' adds' (le-leb y x le) in
          moved i (j + 1) y (i + more) (j + more') place false (omega arith) (omega arith) (omega arith) (right_first lt (within_end (ones_of v) i x one))
    ]

    -- both have it
    pub step_together : x ≡ y → (i < length (ones_of v)) ⊎ (j < length (ones_of w)) → IsStep v w from (i + more) (j + more') place true
    step_together e some =
        let before_end : x < 18446744073709551615 = elim some [
          | inl lt ↦ let low = one.before_end lt in omega arith
          | inr lt ↦ let low = other.before_end lt in omega arith
        ]
        in
        let one_more = is_one (leb x y) more adds (le-leb x y (omega arith)) in
        let one_more' = is_one (leb y x) more' adds' (le-leb y x (omega arith)) in
        moved (i + 1) (j + 1) x (i + more) (j + more') place true (omega arith) (omega arith) (omega arith) (both_first e before_end)

-- after both lists they differ nowhere
pub none_after : (v w : List Bool) (a b : List ℕ) (from i j : ℕ) → a ≡ ones_of v → b ≡ ones_of w → AreBefore (ones_of v) from i → AreBefore (ones_of w) from j
    → length a ≤ i → length b ≤ j → DifferNowhereFrom v w from
none_after v w a b from i j are are' left right past past' k low =
    let long = ap length are in
    let long' = ap length are' in
    both_false v w k (none_is (ones_of v) v refl from i left (omega arith) k low) (none_is (ones_of w) w refl from j right (omega arith) k low)

-- a step up to which they don't differ is the next at which they do
pub next_at : (v w : List Bool) (start from i j place : ℕ) → start ≤ from → ((k : ℕ) → start ≤ k → k < from → differs v w k ≡ false)
    → IsStep v w from i j place false → IsNextDiffering v w start place
next_at v w start from i j place le none step = record {
  on = let on = step.on in omega arith;
  is = step.is;
  first = λ k low high. elim (cases_lt k from) [
    | inl early ↦ none k low early
    | inr late ↦ step.none k late high
  ];
}

-- and one at which they don't is passed
pub none_through : (v w : List Bool) (start from i j place : ℕ) → ((k : ℕ) → start ≤ k → k < from → differs v w k ≡ false)
    → IsStep v w from i j place true → (k : ℕ) → start ≤ k → k < place + 1 → differs v w k ≡ false
none_through v w start from i j place none step k low high = elim (cases_lt k from) [
  | inl early ↦ none k low early
  | inr late ↦ elim (cases_eq k place) [
    | inl e ↦ ap (differs v w) e ∙ step.is
    | inr other ↦ step.none k late (omega arith)
  ]
]
