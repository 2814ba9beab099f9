-- What fits a word.
use Rattle.std.proofs.Common.{◌≡◌, ◌↔◌, ◌==◌, ℕ, ◌+◌, ◌<◌, ◌≤◌, List, [], ◌∷◌, ◌++◌, length, min, take, get_or, Bool, cond, Some, inl, inr, true, false, IsTrue, refl, sym, ap, subst, ◌∙◌, arith}
use Rattle.std.specs.List.{All, Contains, filter}
use Rattle.std.proofs.lemmas.Bool.Decides.{nat_tests}
use Rattle.std.specs.Prelude.{slice_get, leb}
use Rattle.std.proofs.lemmas.Bool.{cases_lt}
use Rattle.std.proofs.lemmas.List.{take_all}
use Rattle.std.proofs.lemmas.List.Elements.{filter-append, Contains-get_or}
use Rattle.cb_model.proofs.Numbers.{take_more}
use Rattle.cb_coding.specs.Distance.{distance, all_columns, code_at, HaveWidth}
use Rattle.cb_coding.specs.Answers.{radius}
use Rattle.cb_coding.proofs.Distances.{triangle}
use Rattle.cb_pairs.proofs.Lists.{at_most_all}
use Rattle.cb_pairs.specs.declared.guess.Guess.{Guess}
use Rattle.cb_pairs.specs.declared.guess.Fits.{Fits}
use Rattle.cb_pairs.specs.Guesses.{guesses_of, IsGuess, guess_code, IsOfGroups}
use Rattle.cb_pairs.specs.Separation.{IsSeparation}
use Rattle.cb_pairs.specs.Fits.{AreFits, from_guess}
use Rattle.cb_pairs.specs.Kept.{IsNearestDistance}
use Rattle.cb_pairs.proofs.Guessing.{guess_of_groups}
use Rattle.cb_pairs.proofs.Lists.{from_filtered, filtered_has}
use Rattle.cb_pairs.proofs.Apart.{separation_is_one, separation_is_positive, same_within}
use Rattle.cb_pairs.proofs.Coded.{AreCodes, place_of, guess_at, code_beside}

-- two truth values of one meaning
same_truth : (P : Type 0) (a b : Bool) → IsTrue a ↔ P → IsTrue b ↔ P → a ≡ b
same_truth P true true p q = refl
same_truth P true false p q = sym (q.1 (p.0 refl))
same_truth P false true p q = p.1 (q.0 refl)
same_truth P false false p q = refl

pub fits_are_one : (width : ℕ) (codes : List (List Bool)) (word : List Bool) (a b : Fits) → AreFits width codes word a → AreFits width codes word b → a ≡ b
fits_are_one width codes word a b p q =
    let here = p.attained in
    let there = q.attained in
    let down = q.least here.0 here.1 in
    let up = p.least there.0 there.1 in
    let at = here.2 in
    let at' = there.2 in
    let far : a.distance ≡ b.distance = omega arith in
    let guesses : a.guesses ≡ b.guesses =
    p.nearest ∙ (ap (λ d. filter (λ g. from_guess width codes word g == d) (guesses_of (length codes))) far ∙ sym q.nearest)
    in
    let separation = separation_is_one width codes p.separation q.separation p.separation_is q.separation_is in
    let sure : IsTrue a.sure ↔ (b.distance ≤ radius q.separation) =
    subst (λ s. IsTrue a.sure ↔ (b.distance ≤ radius s)) separation (subst (λ d. IsTrue a.sure ↔ (d ≤ radius p.separation)) far p.sure)
    in
    let same = same_truth _ a.sure b.sure sure q.sure in
    λ i. record { distance = far i; guesses = guesses i; sure = same i }

within : (d r s : ℕ) → r ≡ s → IsTrue (leb d r) → d ≤ s
within d r s same holds = grind (arith, nat_tests)

is_within : (d r s : ℕ) → r ≡ s → d ≤ s → IsTrue (leb d r)
is_within d r s same le = grind (arith, nat_tests)

is_equal : (m n : ℕ) → (m == n) ≡ true → m ≡ n
is_equal m n e = grind (arith, nat_tests)

equal_is : (m n : ℕ) → m ≡ n → (m == n) ≡ true
equal_is m n e = grind (arith, nat_tests)

module _ (width : ℕ) (codes : List (List Bool)) (word : List Bool) (s : ℕ) (fits : Fits) (wide : HaveWidth width codes) (apart : IsSeparation width codes s)
    (are : AreFits width codes word fits) where
  abbrev from : Guess → ℕ
  from g = from_guess width codes word g

  -- two guesses within the radius have one code
  one_code : (g h : Guess) → IsGuess codes g → IsGuess codes h → from g ≤ radius s → from h ≤ radius s → guess_code codes g ≡ guess_code codes h
  one_code g h is_g is_h near near' =
      let some = separation_is_positive width codes s wide apart in
      let way = triangle (all_columns width) (guess_code codes g) (guess_code codes h) word in
      same_within width codes s wide apart g h is_g is_h (omega arith)

  pub listed : (g : Guess) → IsGuess codes g → from g ≤ radius s
      → IsTrue fits.sure × ((h : Guess) → Contains fits.guesses h ↔ (IsGuess codes h × (guess_code codes h ≡ guess_code codes g)))
  listed g is near =
      let least = are.least g is in
      let nearest = are.attained in
      let at = nearest.2 in
      let same = one_code nearest.0 g nearest.1 is (omega arith) near in
      let here : from g ≡ fits.distance = ap (distance (all_columns width) word) (sym same) ∙ at in
      let separation = separation_is_one width codes are.separation s are.separation_is apart in
      let within : fits.distance ≤ radius are.separation = subst (λ r. fits.distance ≤ radius r) (sym separation) (omega arith) in
      let test : Guess → Bool = λ h. from h == fits.distance in (
        are.sure.1 within,
        λ h. (
          λ has.
              let passed = from_filtered test (guesses_of (length codes)) h (subst (λ hs. Contains hs h) are.nearest has) in
              let far = is_equal (from h) fits.distance passed.1 in
              (passed.0, one_code h g passed.0 is (omega arith) near),
          λ both.
              let far : from h ≡ fits.distance = ap (distance (all_columns width) word) both.1 ∙ here in
              subst (λ hs. Contains hs h) (sym are.nearest) (filtered_has test (guesses_of (length codes)) h both.0 (equal_is (from h) fits.distance far)),
        ),
      )

pub within_radius_is_listed : (width : ℕ) (codes : List (List Bool)) (word : List Bool) (s : ℕ) (fits : Fits) → HaveWidth width codes
    → IsSeparation width codes s → AreFits width codes word fits → (g : Guess) → IsGuess codes g
    → from_guess width codes word g ≤ radius s
    → IsTrue fits.sure × ((h : Guess) → Contains fits.guesses h ↔ (IsGuess codes h × (guess_code codes h ≡ guess_code codes g)))
within_radius_is_listed width codes word s fits wide apart are g is near = listed width codes word s fits wide apart are g is near

-- of the codes before a position none is nearer, and one is so near
pub record IsNearestBefore (codes : List (List Bool)) (word : List Bool) (near place : ℕ) : Type 0 where
  pub attained : (i : ℕ) × (i < length codes) × (distance (all_columns (length word)) word (code_at codes i) ≡ near)
  pub least : (i : ℕ) → i < place → near ≤ distance (all_columns (length word)) word (code_at codes i)

pub nearest_first : (codes : List (List Bool)) (word : List Bool) (near : ℕ) → 0 < length codes
    → near ≡ distance (all_columns (length word)) word (code_at codes 0) → IsNearestBefore codes word near 1
nearest_first codes word near some is = record {
  attained = (0, some, sym is);
  least = λ i low. let first : i ≡ 0 = omega arith in let same = ap (λ k. distance (all_columns (length word)) word (code_at codes k)) first in omega arith;
}

pub nearest_more : (codes : List (List Bool)) (word : List Bool) (near place next : ℕ) → IsNearestBefore codes word near place → place < length codes
    → next ≡ min near (distance (all_columns (length word)) word (code_at codes place)) → IsNearestBefore codes word next (place + 1)
nearest_more codes word near place next before low is =
    let from : ℕ → ℕ = λ i. distance (all_columns (length word)) word (code_at codes i) in
    let here = from place in
    let least : (i : ℕ) → i < place + 1 → next ≤ from i =
    λ i lt. elim (cases_lt i place) [
      | inl early ↦ let most = before.least i early in omega arith
      | inr late ↦ let last : i ≡ place = omega arith in let same = ap from last in omega arith
    ]
    in
    elim (cases_lt here near) [
      | inl less ↦ record { attained = (place, low, omega arith); least = least }
      | inr most ↦ let at = before.attained in let far = at.2 in record { attained = (at.0, at.1, omega arith); least = least }
    ]

pub nearest_all : (codes : List (List Bool)) (word : List Bool) (near place : ℕ) → length codes ≤ place → IsNearestBefore codes word near place
    → IsNearestDistance codes word near
nearest_all codes word near place all before = record { attained = before.attained; least = λ i low. before.least i (omega arith) }

-- what is nearest among the codes is nearest among the guesses

module _ (groups : List (List Bool)) (codes : List (List Bool)) (are : AreCodes groups codes) (word : List Bool) (near : ℕ) (nearest : IsNearestDistance codes word near) where
  abbrev from_code : List Bool → ℕ
  from_code code = distance (all_columns (length word)) word code

  nearest_least : (g : Guess) → IsGuess groups g → near ≤ from_code (guess_code groups g)
  nearest_least g is =
      let at = place_of groups codes are g is in
      let least = nearest.least at.0 at.1 in
      let same = ap from_code at.2 in
      omega arith

  nearest_attained : (g : Guess) × IsGuess groups g × (from_code (guess_code groups g) ≡ near)
  nearest_attained =
      let at = nearest.attained in
      let g = guess_at groups codes are at.0 at.1 in
      (g.0, g.1, ap from_code g.2 ∙ at.2)

  pub near_fits : length word < 4294967296 → near < 4294967296
  near_fits narrow =
      let at = nearest.attained in
      let is = at.2 in
      let most = at_most_all (length word) word (code_at codes at.0) in
      omega arith

  pub listed_more : (guesses : List Guess) → guesses ≡ guesses_of (length groups) → (k : ℕ) (g : Guess) (code : List Bool) → slice_get guesses k ≡ Some g
      → slice_get codes k ≡ Some code → (keep : Bool) → keep ≡ (from_code code == near) → (listed listed' : List Guess)
      → listed ≡ filter (λ h. from_code (guess_code groups h) == near) (take k guesses) → listed' ≡ listed ++ cond keep (g ∷ []) []
      → listed' ≡ filter (λ h. from_code (guess_code groups h) == near) (take (k + 1) guesses)
  listed_more guesses same k g code at_g at_code keep keep_is listed listed' before after =
      let test : Guess → Bool = λ h. from_code (guess_code groups h) == near in
      let code_is = code_beside groups codes are guesses same k g code at_g at_code in
      let test_is : keep ≡ test g = keep_is ∙ ap (λ c. from_code c == near) code_is in
      after ∙ (ap (λ gs. gs ++ cond keep (g ∷ []) []) before ∙ (ap (λ b. filter test (take k guesses) ++ cond b (g ∷ []) []) test_is
      ∙ (sym (filter-append test (take k guesses) (g ∷ [])) ∙ ap (filter test) (sym (take_more guesses k g at_g)))))

  pub fits_of : (width : ℕ) → length word ≡ width → (separation : ℕ) → IsSeparation width groups separation → (guesses : List Guess)
      → guesses ≡ guesses_of (length groups) → (listed : List Guess) (k : ℕ)
      → listed ≡ filter (λ h. from_code (guess_code groups h) == near) (take k guesses) → length guesses ≤ k → (r : ℕ) → r ≡ radius separation
      → AreFits width groups word (record { distance = near; guesses = listed; sure = leb near r })
  fits_of width long separation apart guesses same listed k is all r r_is =
      let whole : take k guesses ≡ guesses_of (length groups) = take_all k guesses all ∙ same in
      subst (λ n. AreFits n groups word (record { distance = near; guesses = listed; sure = leb near r })) long (record {
        attained = nearest_attained;
        least = nearest_least;
        nearest = is ∙ ap (filter (λ h. from_code (guess_code groups h) == near)) whole;
        separation = separation;
        separation_is = subst (λ n. IsSeparation n groups separation) (sym long) apart;
        sure = (λ so. within near r (radius separation) r_is so, λ le. is_within near r (radius separation) r_is le);
      })

-- what is listed is made of the groups
pub listed_of_groups : (width : ℕ) (codes : List (List Bool)) (word : List Bool) (fits : Fits) → AreFits width codes word fits
    → All (IsOfGroups (length codes)) fits.guesses
listed_of_groups width codes word fits are k d low =
    let g = get_or fits.guesses k d in
    let has : Contains fits.guesses g = Contains-get_or fits.guesses k d low in
    let from = from_filtered (λ h. from_guess width codes word h == fits.distance) (guesses_of (length codes)) g (subst (λ gs. Contains gs g) are.nearest has) in
    guess_of_groups (length codes) g from.0
