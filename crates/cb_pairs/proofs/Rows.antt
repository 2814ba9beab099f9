-- Rows that are united.
use Rattle.std.proofs.Common.{◌≡◌, ◌||◌, ℕ, ◌+◌, ◌<◌, ◌≤◌, List, length, replicate, Bool, true, false, slice_index_or, refl, sym, ap, ◌∙◌, inl, inr, arith}
use Rattle.std.specs.Prelude.{slice_set}
use Rattle.std.proofs.lemmas.Bool.{cases_lt, cases_order}
use Rattle.std.proofs.lemmas.List.{ext_get_or, get_or_past, get_or-replicate, length-replicate, get_or-set_same, get_or-set_other, length-set}
use Rattle.std.proofs.lemmas.Simd.{length-zip2, get_or-zip2}
use Rattle.cb_bits.specs.Bits.{IsNextOne, HasNoneFrom}
use Rattle.cb_pairs.specs.Guesses.{united}

-- a row to which a code is added, up to a column

-- below a column the row has what it had and what the code has, and from there on what it had
pub record AddsUpto (code old new : List Bool) (from : ℕ) : Type 0 where
  pub long : length new ≡ length old
  pub below : (k : ℕ) → k < from → slice_index_or new k false ≡ (slice_index_or old k false || slice_index_or code k false)
  pub after : (k : ℕ) → from ≤ k → slice_index_or new k false ≡ slice_index_or old k false

pub adds_none : (code row : List Bool) → AddsUpto code row row 0
adds_none code row = record { long = refl; below = λ k low. absurd (omega arith); after = λ k low. refl }

or_false : (b : Bool) → (b || false) ≡ b
or_false true = refl
or_false false = refl

or_true : (b : Bool) → (b || true) ≡ true
or_true true = refl
or_true false = refl

-- a position that is true is one of the list
pub true_within : (code : List Bool) (k : ℕ) → slice_index_or code k false ≡ true → k < length code
true_within code k is = elim (cases_lt k (length code)) [
  | inl low ↦ low
  | inr past ↦ absurd (let none = get_or_past code k false past in cc)
]

pub adds_next : (code old new : List Bool) (from k : ℕ) → length old ≡ length code → AddsUpto code old new from → IsNextOne code from k
    → AddsUpto code old (slice_set new k true) (k + 1)
adds_next code old new from k same adds next =
    let on = next.on in
    let low = true_within code k next.is in
    let long = adds.long in
    record {
      long = length-set new k true ∙ long;
      below = λ j lt. elim (cases_order j k) [
        | inl e ↦
            let set_is : slice_index_or (slice_set new k true) j false ≡ true = ap (λ i. slice_index_or (slice_set new k true) i false) e ∙ get_or-set_same new k true false (omega arith) in
            let has : slice_index_or code j false ≡ true = ap (λ i. slice_index_or code i false) e ∙ next.is in
            set_is ∙ sym (ap (λ b. slice_index_or old j false || b) has ∙ or_true (slice_index_or old j false))
        | inr (inl before) ↦
            let other = get_or-set_other new k j true false (omega arith) in
            elim (cases_lt j from) [
              | inl early ↦ other ∙ adds.below j early
              | inr late ↦ other ∙ (adds.after j late ∙ sym (ap (λ b. slice_index_or old j false || b) (next.first j late before) ∙ or_false (slice_index_or old j false)))
            ]
        | inr (inr after) ↦ absurd (omega arith)
      ];
      after = λ j le. get_or-set_other new k j true false (omega arith) ∙ adds.after j (omega arith);
    }

pub adds_all : (code old new : List Bool) (from : ℕ) → length old ≡ length code → AddsUpto code old new from → HasNoneFrom code from → new ≡ united old code
adds_all code old new from same adds none =
    let long = adds.long in
    let both = length-zip2 (λ one other. one || other) old code same in
    ext_get_or false new (united old code) (long ∙ sym both) (λ k low.
    let pair = get_or-zip2 (λ one other. one || other) old code k false false false (omega arith) (omega arith) in
    elim (cases_lt k from) [
      | inl early ↦ adds.below k early ∙ sym pair
      | inr late ↦ adds.after k late ∙ sym (pair ∙ (ap (λ b. slice_index_or old k false || b) (none k late) ∙ or_false (slice_index_or old k false)))
    ])

-- a united row is as long
pub united_long : (v w : List Bool) → length v ≡ length w → length (united v w) ≡ length v
united_long v w same = length-zip2 (λ one other. one || other) v w same

-- with the empty row a code is itself
pub united_none : (code : List Bool) (n : ℕ) → n ≡ length code → united (replicate n false) code ≡ code
united_none code n same =
    let long = length-replicate n false in
    let both = length-zip2 (λ one other. one || other) (replicate n false) code (long ∙ same) in
    ext_get_or false (united (replicate n false) code) code (both ∙ (long ∙ same)) (λ k low.
    let pair = get_or-zip2 (λ one other. one || other) (replicate n false) code k false false false (omega arith) (omega arith) in
    let empty = get_or-replicate n k false false (omega arith) in
    pair ∙ ap (λ b. b || slice_index_or code k false) empty)
