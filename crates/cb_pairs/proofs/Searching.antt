-- The least distance of two codes that differ, looked for pair by pair.
use Rattle.std.proofs.Common.{◌≡◌, ◌≢◌, ◌⊎◌, ℕ, ◌+◌, ◌<◌, ◌≤◌, List, length, Bool, refl, sym, ap, subst, ◌∙◌, inl, inr, arith}
use Rattle.std.proofs.lemmas.Bool.{cases_eq, cases_lt, cases_order}
use Rattle.cb_coding.specs.Distance.{distance, all_columns, code_at, apart, HaveWidth}
use Rattle.cb_coding.specs.Pairs.{IsPair}
use Rattle.cb_coding.proofs.Distances.{same_where_zero}
use Rattle.cb_pairs.proofs.Lists.{at_most_all}
use Rattle.cb_pairs.specs.declared.guess.Guess.{Guess}
use Rattle.cb_pairs.specs.Guesses.{guess_code}
use Rattle.cb_pairs.specs.Separation.{guesses_apart, DifferInCode, IsSeparation}
use Rattle.cb_pairs.specs.Kept.{IsDifferingPair, AreSomeApart, IsLeastApart, IsLeastUpto, IsCloser}
use Rattle.cb_pairs.proofs.Apart.{own_distance, turned, guess_wide}
use Rattle.cb_pairs.proofs.Coded.{AreCodes, place_of, guess_at}

-- no pair was looked at yet
pub least_none : (width : ℕ) (codes : List (List Bool)) → IsLeastUpto width codes 0 1 (width + 1)
least_none width codes = record {
  least = λ i j upto differ. elim upto [
    | inl low ↦ absurd (omega arith)
    | inr here ↦ let is_pair = differ.is_pair in let first = here.0 in let low = here.1 in let below = is_pair.0 in absurd (omega arith)
  ];
  attained = inr refl;
}

module _ (width : ℕ) (codes : List (List Bool)) (wide : HaveWidth width codes) where
  -- codes that differ are apart
  pub some_apart : (i j : ℕ) → IsDifferingPair codes i j → 0 < apart (all_columns width) codes i j
  some_apart i j differ =
      let is_pair = differ.is_pair in
      let below = is_pair.0 in
      let low = is_pair.1 in
      elim (cases_eq (apart (all_columns width) codes i j) 0) [
        | inl none ↦ absurd (differ.differ (same_where_zero width (code_at codes i) (code_at codes j) (wide i _ (omega arith)) (wide j _ low) none))
        | inr some ↦ omega arith
      ]

  -- one pair more
  pub least_more : (first second best closer : ℕ) → IsPair codes first second → IsLeastUpto width codes first second best
      → IsCloser (apart (all_columns width) codes first second) best closer → IsLeastUpto width codes first (second + 1) closer
  least_more first second best closer is_pair so_far (inl less) =
      let some = less.0 in
      let below = less.1 in
      let is = less.2 in
      let far = apart (all_columns width) codes first second in
      record {
        least = λ i j upto differ. elim upto [
          | inl early ↦ let most = so_far.least i j (inl early) differ in omega arith
          | inr here ↦ elim (cases_lt j second) [
            | inl before ↦ let most = so_far.least i j (inr (here.0, before)) differ in omega arith
            | inr late ↦
                let same : i ≡ first = here.0 in
                let to = here.1 in
                let last : j ≡ second = omega arith in
                let there : apart (all_columns width) codes i j ≡ far =
                ap (λ k. apart (all_columns width) codes k j) same ∙ ap (apart (all_columns width) codes first) last
                in
                omega arith
          ]
        ];
        attained = inl (record {
          first = first;
          second = second;
          differ = record {
            is_pair = is_pair;
            differ = λ same. let none = own_distance width (code_at codes first) (code_at codes second) same in omega arith;
          };
          is = is;
        });
      }
  least_more first second best closer is_pair so_far (inr stays) =
      let is : closer ≡ best = stays.1 in
      record {
        least = λ i j upto differ. elim upto [
          | inl early ↦ let most = so_far.least i j (inl early) differ in omega arith
          | inr here ↦ elim (cases_lt j second) [
            | inl before ↦ let most = so_far.least i j (inr (here.0, before)) differ in omega arith
            | inr late ↦
                let same : i ≡ first = here.0 in
                let to = here.1 in
                let last : j ≡ second = omega arith in
                let there : apart (all_columns width) codes i j ≡ apart (all_columns width) codes first second =
                ap (λ k. apart (all_columns width) codes k j) same ∙ ap (apart (all_columns width) codes first) last
                in
                let some = some_apart i j differ in
                elim (stays.0) [
                  | inl none ↦ absurd (omega arith)
                  | inr most ↦ omega arith
                ]
          ]
        ];
        attained = subst (λ d. AreSomeApart width codes d ⊎ (d ≡ width + 1)) (sym is) so_far.attained;
      }

  -- all pairs with a first position
  pub least_next : (first to best : ℕ) → length codes ≤ to → IsLeastUpto width codes first to best → IsLeastUpto width codes (first + 1) (first + 1 + 1) best
  least_next first to best all so_far = record {
    least = λ i j upto differ.
        let is_pair = differ.is_pair in
        let below = is_pair.0 in
        let within = is_pair.1 in
        elim (cases_lt i first) [
          | inl early ↦ so_far.least i j (inl early) differ
          | inr late ↦ elim upto [
            | inl low ↦ so_far.least i j (inr (omega arith, omega arith)) differ
            | inr here ↦ let same = here.0 in let low = here.1 in absurd (omega arith)
          ]
        ];
    attained = so_far.attained;
  }

  -- none is closer than 1
  pub least_is_one : (first to best : ℕ) → best ≤ 1 → best ≤ width → IsLeastUpto width codes first to best → IsLeastApart width codes 1
  least_is_one first to best low within so_far = record {
    least = λ i j differ. let some = some_apart i j differ in omega arith;
    attained = elim so_far.attained [
      | inl x ↦
          let some = some_apart x.first x.second x.differ in
          let is = x.is in
          inl (record { first = x.first; second = x.second; differ = x.differ; is = omega arith })
      | inr none ↦ absurd (omega arith)
    ];
  }

  -- all pairs
  pub least_of_all : (first best s : ℕ) → length codes ≤ first → IsLeastUpto width codes first (first + 1) best → (best ≤ width → s ≡ best)
      → (width < best → s ≡ 1) → IsLeastApart width codes s
  least_of_all first best s all so_far some none =
      let before : (i j : ℕ) → IsDifferingPair codes i j → best ≤ apart (all_columns width) codes i j =
      λ i j differ.
      let is_pair = differ.is_pair in
      let below = is_pair.0 in
      let within = is_pair.1 in
      so_far.least i j (inl (omega arith)) differ
      in
      elim so_far.attained [
        | inl x ↦
            let is = x.is in
            let most = at_most_all width (code_at codes x.first) (code_at codes x.second) in
            let same : s ≡ best = some (omega arith) in
            record {
              least = λ i j differ. let far = before i j differ in omega arith;
              attained = inl (record { first = x.first; second = x.second; differ = x.differ; is = same ∙ is });
            }
        | inr more ↦
            let alone : (i j : ℕ) → ¬ IsDifferingPair codes i j =
            λ i j differ.
            let far = before i j differ in
            let most = at_most_all width (code_at codes i) (code_at codes j) in
            omega arith
            in
            record {
              least = λ i j differ. absurd (alone i j differ);
              attained = inr (record { none = alone; is = none (omega arith) });
            }
      ]

-- the separation of guesses is that of their codes

module _ (width : ℕ) (groups : List (List Bool)) (codes : List (List Bool)) (wide : HaveWidth width groups) (are : AreCodes groups codes) where
  apart_at : (i j : ℕ) (g h : Guess) → code_at codes i ≡ guess_code groups g → code_at codes j ≡ guess_code groups h
      → apart (all_columns width) codes i j ≡ guesses_apart width groups g h
  apart_at i j g h e f = ap (λ v. distance (all_columns width) v (code_at codes j)) e ∙ ap (distance (all_columns width) (guess_code groups g)) f

  pub separation_is : (s : ℕ) → IsLeastApart width codes s → IsSeparation width groups s
  separation_is s is =
      let far : (g h : Guess) → DifferInCode groups g h → (d : ℕ) → ((i j : ℕ) → IsDifferingPair codes i j → d ≤ apart (all_columns width) codes i j)
      → d ≤ guesses_apart width groups g h =
      λ g h differ d least.
      let p = place_of groups codes are g differ.first in
      let q = place_of groups codes are h differ.second in
      let i = p.0 in
      let j = q.0 in
      let i_low = p.1 in
      let j_low = q.1 in
      let unlike : code_at codes i ≢ code_at codes j = λ same. differ.differ (sym p.2 ∙ (same ∙ q.2)) in
      elim (cases_order i j) [
        | inl same ↦ absurd (unlike (ap (code_at codes) same))
        | inr (inl before) ↦
            let most = least i j (record { is_pair = (before, j_low); differ = unlike }) in
            let e = apart_at i j g h p.2 q.2 in
            omega arith
        | inr (inr after) ↦
            let most = least j i (record { is_pair = (after, i_low); differ = λ same. unlike (sym same) }) in
            let e = apart_at i j g h p.2 q.2 in
            let f = turned (all_columns width) (code_at codes i) (code_at codes j) in
            omega arith
      ]
      in
      record {
        least = λ g h differ. far g h differ s is.least;
        attained = elim is.attained [
          | inl x ↦
              let is_pair = x.differ.is_pair in
              let below = is_pair.0 in
              let low = is_pair.1 in
              let g = guess_at groups codes are x.first (omega arith) in
              let h = guess_at groups codes are x.second low in
              inl (record {
                one = g.0;
                other = h.0;
                differ = record { first = g.1; second = h.1; differ = λ same. x.differ.differ (sym g.2 ∙ (same ∙ h.2)) };
                is = x.is ∙ apart_at x.first x.second g.0 h.0 (sym g.2) (sym h.2);
              })
          | inr x ↦ inr (record {
            same = λ g h is_g is_h. elim (cases_eq (guesses_apart width groups g h) 0) [
              | inl none ↦
                  same_where_zero width (guess_code groups g) (guess_code groups h) (guess_wide width groups wide g is_g) (guess_wide width groups wide h is_h) none
              | inr some ↦
                  let unlike : guess_code groups g ≢ guess_code groups h =
                  λ same. some (own_distance width (guess_code groups g) (guess_code groups h) same) in
                  let d = guesses_apart width groups g h in
                  let most = far g h (record { first = is_g; second = is_h; differ = unlike }) (d + 1) (λ i j differ. absurd (x.none i j differ)) in
                  absurd (omega arith)
            ];
            is = x.is;
          })
        ];
      }
