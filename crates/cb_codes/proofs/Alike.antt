-- Codes that differ nowhere are one.
use Rattle.std.proofs.Common.{◌≡◌, ◌↔◌, ℕ, ◌+◌, ◌<◌, List, [], ◌∷◌, length, cond, slice_get, Option, Some, None, SomeIff, is_some, IsTrue, Bool, true, false, refl, sym, ap, subst, ◌∙◌, arith}
use Rattle.std.specs.List.{range_with_len}
use Rattle.std.proofs.lemmas.List.Sums.{sum_by-cons}
use Rattle.std.proofs.lemmas.Option.{same_Some}
use Rattle.cb_bits.specs.Bits.{differing}
use Rattle.cb_coding.specs.Distance.{HaveWidth, bit, differ, distance}
use Rattle.cb_coding.proofs.Distances.{same_where_zero}
use Rattle.cb_model.proofs.Numbers.{all_at}

-- once for two that differ
abbrev once : Bool → ℕ
once b = cond b 1 0

never_apart : (b : Bool) → once (differ b b) ≡ 0
never_apart true = refl
never_apart false = refl

none_differ : (v : List Bool) (ks : List ℕ) → distance ks v v ≡ 0
none_differ v [] = refl
none_differ v (k ∷ ks) =
    let test : ℕ → ℕ = λ k. once (differ (bit v k) (bit v k)) in
    let whole : distance (k ∷ ks) v v ≡ test k + distance ks v v = sum_by-cons test k ks in
    let first : test k ≡ 0 = never_apart (bit v k) in
    let rest = none_differ v ks in
    omega arith

-- two codes of one width are the same exactly if they are less than one column apart
module _ (row code : List Bool) (wide : length row ≡ length code) where
  alike_is : differing row code < 1 → row ≡ code
  alike_is low = same_where_zero (length row) row code refl (sym wide) (let zero : differing row code ≡ 0 = omega arith in zero)

  is_alike : row ≡ code → differing row code < 1
  is_alike same =
      let none = none_differ row (range_with_len 0 (length row)) in
      subst (λ v. differing row v < 1) same (let zero : differing row row ≡ 0 = none in omega arith)

-- whether a code is at a position, by how far it is from what is there
module _ (codes : List (List Bool)) (place : ℕ) (row code : List Bool) (wide : HaveWidth (length code) codes) (at : slice_get codes place ≡ Some row) where
  same_width : length row ≡ length code
  same_width = all_at (λ (v : List Bool). length v ≡ length code) codes place row at wide

  there_if : (found : Option ℕ) → SomeIff found (differing row code < 1) (differing row code) → is_some found ≡ true → slice_get codes place ≡ Some code
  there_if None far is = absurd (cc)
  there_if (Some d) near is = at ∙ ap Some (alike_is row code same_width near.0)

  if_there : (found : Option ℕ) → SomeIff found (differing row code < 1) (differing row code) → slice_get codes place ≡ Some code → is_some found ≡ true
  if_there None far is = absurd (far (is_alike row code same_width (same_Some row code (sym at ∙ is))))
  if_there (Some d) near is = refl

  pub alike_there : (found : Option ℕ) → SomeIff found (differing row code < 1) (differing row code) → (is : Bool) → is ≡ is_some found
      → IsTrue is ↔ (slice_get codes place ≡ Some code)
  alike_there found near is same = (λ t. there_if found near (sym same ∙ t), λ there. same ∙ if_there found near there)
