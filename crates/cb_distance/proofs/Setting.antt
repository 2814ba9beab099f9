-- Codes over some columns, which are set column by column.
use Rattle.std.proofs.Common.{◌≡◌, ◌↔◌, ℕ, ◌+◌, ◌<◌, ◌≤◌, ◌⊎◌, List, [], ◌∷◌, ◌++◌, Bool, true, false, length, take, replicate, get_or, slice_get, slice_set, slice_index_or, Some, refl, sym, ap, subst, ◌∙◌, inl, inr, arith}
use Rattle.std.specs.List.{Contains}
use Rattle.std.proofs.lemmas.Bool.{cases_lt, cases_eq, both_ways}
use Rattle.std.proofs.lemmas.List.{length-set, length-replicate, get_or-set_other, get_or-set_same, get_or-replicate, get_or_default, get_or_past}
use Rattle.std.proofs.lemmas.List.Elements.{Contains-push, Contains-push_cases, Contains-append_left}
use Rattle.cb_bits.specs.Bits.{IsNextOne, HasNoneFrom}
use Rattle.cb_model.proofs.Numbers.{take_more}
use Rattle.cb_model.proofs.Rising.{nothing_in_empty}
use Rattle.cb_coding.specs.Distance.{bit}
use Rattle.cb_distance.specs.Chosen.{IsOver, ArePlacesBelow, Sets}

-- nothing is set at no place
pub none_set : (row : List Bool) → Sets [] row row
none_set row = record { width = refl; each = λ k. (λ is. inl is, λ is. elim is [ inl was ↦ was | inr among ↦ absurd (nothing_in_empty k among) ]) }

-- one place more
module _ (places : List ℕ) (i p : ℕ) (at : slice_get places i ≡ Some p) where
  more : (k : ℕ) → Contains (take i places) k → Contains (take (i + 1) places) k
  more k among = subst (λ ps. Contains ps k) (sym (take_more places i p at)) (Contains-append_left (take i places) (p ∷ []) k among)

  here : Contains (take (i + 1) places) p
  here = subst (λ ps. Contains ps p) (sym (take_more places i p at)) (Contains-push (take i places) p)

  fewer : (k : ℕ) → Contains (take (i + 1) places) k → Contains (take i places) k ⊎ (p ≡ k)
  fewer k among = Contains-push_cases (take i places) p k (subst (λ ps. Contains ps k) (take_more places i p at) among)

  pub one_set : (old new : List Bool) → p < length new → Sets (take i places) old new → Sets (take (i + 1) places) old (slice_set new p true)
  one_set old new low sets = record {
    width = length-set new p true ∙ sets.width;
    each = λ k. elim (cases_eq p k) [
      | inl same ↦ (
        λ is. inr (subst (Contains (take (i + 1) places)) same here),
        λ is. subst (λ j. bit (slice_set new p true) j ≡ true) same (get_or-set_same new p true false low),
      )
      | inr other ↦
          let keeps : bit (slice_set new p true) k ≡ bit new k = get_or-set_other new p k true false (λ e. other (sym e)) in (
            λ is. elim ((sets.each k).0 (sym keeps ∙ is)) [ inl was ↦ inl was | inr among ↦ inr (more k among) ],
            λ is. keeps ∙ (sets.each k).1 (elim is [
              | inl was ↦ inl was
              | inr among ↦ elim (fewer k among) [ inl before ↦ inr before | inr same ↦ absurd (other same) ]
            ]),
          )
    ];
  }

-- the columns below one are set
pub record IsOverBelow (columns : List ℕ) (code row : List Bool) (below : ℕ) : Type 0 where
  pub width : length row ≡ length columns
  pub each : (k : ℕ) → (bit row k ≡ true)
      ↔ ((k < length columns) × (slice_index_or columns k 0 < below) × (bit code (slice_index_or columns k 0) ≡ true))

none_true : (n k : ℕ) → bit (replicate n false) k ≡ false
none_true n k = elim (cases_lt k n) [
  | inl low ↦ get_or-replicate n k false false low
  | inr past ↦ get_or_past (replicate n false) k false (let long = length-replicate n false in omega arith)
]

same_truth : (a b : Bool) → (a ≡ true → b ≡ true) → (b ≡ true → a ≡ true) → a ≡ b
same_truth true true on back = refl
same_truth true false on back = sym (on refl)
same_truth false true on back = back refl
same_truth false false on back = refl

module _ (columns : List ℕ) (code : List Bool) where
  abbrev pub column_at : ℕ → ℕ
  column_at k = slice_index_or columns k 0

  pub none_over : IsOverBelow columns code (replicate (length columns) false) 0
  none_over = record {
    width = length-replicate (length columns) false;
    each = λ k. (λ is. absurd (both_ways _ (none_true (length columns) k) is), λ is. let low = is.1 in absurd (omega arith));
  }

  pub column_over : (row new : List Bool) (from column : ℕ) (places : List ℕ) → IsOverBelow columns code row from → IsNextOne code from column
      → ((k : ℕ) → Contains places k ↔ ((k < length columns) × (column_at k ≡ column))) → Sets places row new
      → IsOverBelow columns code new (column + 1)
  column_over row new from column places old next are sets = record {
    width = sets.width ∙ old.width;
    each = λ k. (
      λ is. elim ((sets.each k).0 is) [
        | inl was ↦ let o = (old.each k).0 was in (o.0, let low = o.1 in let on = next.on in omega arith, o.2)
        | inr among ↦ let a = (are k).0 among in let e = a.1 in (a.0, omega arith, subst (λ c. bit code c ≡ true) (sym e) next.is)
      ],
      λ is. (sets.each k).1 (elim (cases_lt (column_at k) from) [
        | inl early ↦ inl ((old.each k).1 (is.0, early, is.2))
        | inr late ↦ elim (cases_eq (column_at k) column) [
          | inl same ↦ inr ((are k).1 (is.0, same))
          | inr other ↦ absurd (both_ways _ (next.first (column_at k) late (let low = is.1 in omega arith)) is.2)
        ]
      ]),
    );
  }

  pub all_over : (row : List Bool) (from : ℕ) → IsOverBelow columns code row from → HasNoneFrom code from → IsOver columns code row
  all_over row from old none = record {
    width = old.width;
    each = λ k low. same_truth (bit row k) (bit code (column_at k)) (λ is. ((old.each k).0 is).2)
        (λ is. (old.each k).1 (
          low,
          elim (cases_lt (column_at k) from) [
            | inl early ↦ early
            | inr late ↦ absurd (both_ways _ (none (column_at k) late) is)
          ],
          is,
        ));
  }

  -- where columns stand among these

  pub none_placed : (width : ℕ) → ArePlacesBelow columns 0 (replicate width [])
  none_placed width = λ column place low. (
    λ among. absurd (nothing_in_empty place (subst (λ ps. Contains ps place)
        (get_or-replicate width column [] [] (subst (λ n. column < n) (length-replicate width []) low)) among)),
    λ is. let none = is.0 in absurd (omega arith),
  )

  module _ (lists : List (List ℕ)) (below : ℕ) (old : ArePlacesBelow columns below lists) where
    -- a column without a list
    pub place_passed : length lists ≤ column_at below → ArePlacesBelow columns (below + 1) lists
    place_passed past = λ column place low. (
      λ among. let is = (old column place low).0 among in let early = is.0 in (omega arith, is.1),
      λ is. (old column place low).1 (
        elim (cases_eq place below) [
          | inl same ↦ absurd (let e = ap column_at same in let f = is.1 in omega arith)
          | inr other ↦ let early = is.0 in omega arith
        ],
        is.1,
      ),
    )

    -- a column with one, to which its place is added

    put : column_at below < length lists
        → ArePlacesBelow columns (below + 1) (slice_set lists (column_at below) (slice_index_or lists (column_at below) [] ++ below ∷ []))
    put within = λ column place low.
        let here = column_at below in
        let list = slice_index_or lists here [] in
        let new = list ++ below ∷ [] in
        let low : column < length lists = let long = length-set lists here new in omega arith in
        elim (cases_eq here column) [
          | inl same ↦
              let is_new : slice_index_or (slice_set lists here new) column [] ≡ new =
              subst (λ c. slice_index_or (slice_set lists here new) c [] ≡ new) same (get_or-set_same lists here new [] within)
              in (
                λ among. elim (Contains-push_cases list below place (subst (λ ps. Contains ps place) is_new among)) [
                  | inl before ↦ let is = (old here place within).0 before in let early = is.0 in (omega arith, is.1 ∙ same)
                  | inr last ↦ (omega arith, ap column_at (sym last) ∙ same)
                ],
                λ is. subst (λ ps. Contains ps place) (sym is_new) (elim (cases_eq below place) [
                  | inl last ↦ subst (Contains new) last (Contains-push list below)
                  | inr other ↦ Contains-append_left list (below ∷ []) place
                      ((old here place within).1 (let early = is.0 in omega arith, is.1 ∙ sym same))
                ]),
              )
          | inr other ↦
              let as_old : slice_index_or (slice_set lists here new) column [] ≡ slice_index_or lists column [] =
              get_or-set_other lists here column new [] (λ e. other (sym e))
              in (
                λ among. let is = (old column place low).0 (subst (λ ps. Contains ps place) as_old among) in let early = is.0 in (omega arith, is.1),
                λ is. subst (λ ps. Contains ps place) (sym as_old) ((old column place low).1 (
                  elim (cases_eq place below) [
                    | inl same ↦ absurd (other (ap column_at (sym same) ∙ is.1))
                    | inr before ↦ let early = is.0 in omega arith
                  ],
                  is.1,
                )),
              )
        ]

    pub place_put : (list new : List ℕ) → column_at below < length lists → list ≡ slice_index_or lists (column_at below) list
        → new ≡ list ++ below ∷ [] → ArePlacesBelow columns (below + 1) (slice_set lists (column_at below) new)
    place_put list new within at is_more = subst (λ ps. ArePlacesBelow columns (below + 1) (slice_set lists (column_at below) ps)) (sym is_more)
        (subst (λ ps. ArePlacesBelow columns (below + 1) (slice_set lists (column_at below) (ps ++ below ∷ [])))
        (sym (at ∙ get_or_default lists (column_at below) list [] within)) (put within))

  -- what a list of the columns' places has
  pub listed : (lists : List (List ℕ)) (column : ℕ) (list : List ℕ) → ArePlacesBelow columns (length columns) lists → column < length lists
      → list ≡ get_or lists column list → (k : ℕ) → Contains list k ↔ ((k < length columns) × (column_at k ≡ column))
  listed lists column list are low is = subst (λ ps. (k : ℕ) → Contains ps k ↔ ((k < length columns) × (column_at k ≡ column)))
      (sym (is ∙ get_or_default lists column list [] low)) (λ k. are column k low)
