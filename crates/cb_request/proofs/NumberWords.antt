-- A number word is read as the number that is written so.
use Rattle.std.proofs.Common.{◌≡◌, ℕ, ◌<◌, ◌≤◌, ◌^◌, List, Bool, true, false, ◌&&◌, refl, sym, ap, ◌∙◌, subst, Some, arith}
use Rattle.std.proofs.lemmas.Fmt.{digits_decimal, digits_value-decimal}
use Rattle.std.proofs.lemmas.Slice.Eq.{bytes_eq-Decides}
use Rattle.std.proofs.lemmas.Str.Parse.{IsNumeralModel}
use Rattle.std.specs.Prelude.{nat_le, decimal, Option, None, IsSome, T, if◌then◌else◌}
use Rattle.std.proofs.Math.Facts.{leb_yes, yes_leb}
use Rattle.std.specs.Str.{bytes_eq}
use Rattle.std.specs.Str.Parse.{AllDigits, digits_value}
use Rattle.cb_text.specs.Decimals.{IsDecimal}
use Rattle.cb_request.specs.Laws.{NumberIsRead}
use Rattle.cb_request.specs.Numbers.{is_written, number_in}

own : IsNumeralModel (AllDigits 10) (digits_value 10)
own = record { to = λ ds h. h; from = λ ds h. h; same = λ ds h. refl }

pub all_digits : (number : ℕ) → number < 2 ^ 64 → AllDigits 10 (decimal number)
all_digits number small = digits_decimal own number small

both : (a b : Bool) → (a && b) ≡ true → (a ≡ true) × (b ≡ true)
both true b e = (refl, e)
both false b e = absurd (subst T (sym e) tt)

is_true : (b : Bool) → T b → b ≡ true
is_true true t = refl
is_true false t = absurd t

pub le_of : (a b : ℕ) → nat_le a b ≡ true → a ≤ b
le_of a b e = leb_yes (subst T (sym e) tt)

pub of_le : (a b : ℕ) → a ≤ b → nat_le a b ≡ true
of_le a b h = is_true (nat_le a b) (yes_leb h)

module _ (least most : ℕ) (word : List ℕ) (number : ℕ) (small : most < 2 ^ 64) where
  abbrev value : ℕ
  value = digits_value 10 word

  read : (b : Bool) → is_written least most word value ≡ b → (if b then Some value else None) ≡ Some number
      → IsDecimal word number × (least ≤ number) × (number ≤ most)
  read true e h =
      let same : value ≡ number = search (h) in
      let parts = both (bytes_eq word (decimal value)) (nat_le least value && nat_le value most) e in
      let bounds = both (nat_le least value) (nat_le value most) (parts.1) in
      let written : word ≡ decimal value = (bytes_eq-Decides word (decimal value)).0 (parts.0) in
      let low = le_of least value (bounds.0) in
      let high = le_of value most (bounds.1) in
      subst (λ (n : ℕ). IsDecimal word n × (least ≤ n) × (n ≤ most)) same (record { small = omega arith; written = written }, low, high)
  read false e h = absurd (subst T (sym (subst (λ (o : Option ℕ). IsSome o) (sym h) refl)) tt)

  written : IsDecimal word number → least ≤ number → number ≤ most → number_in least most word ≡ Some number
  written d low high =
      let same : value ≡ number = ap (digits_value 10) d.written ∙ digits_value-decimal own number d.small in
      let text : bytes_eq word (decimal value) ≡ true = (bytes_eq-Decides word (decimal value)).1 (d.written ∙ ap decimal (sym same)) in
      let low_is : nat_le least value ≡ true = of_le least value (subst (λ (n : ℕ). least ≤ n) (sym same) low) in
      let high_is : nat_le value most ≡ true = of_le value most (subst (λ (n : ℕ). n ≤ most) (sym same) high) in
      rw (text, low_is, high_is) (ap (λ (n : ℕ). Some n) same)

number_is_read_of : (least most : ℕ) (word : List ℕ) (number : ℕ) (small : most < 2 ^ 64) → number_in least most word ≡ Some number
    → IsDecimal word number × (least ≤ number) × (number ≤ most)
number_is_read_of least most word number small h = read least most word number small (is_written least most word (digits_value 10 word)) refl h

pub number_is_read : NumberIsRead
number_is_read least most word number small =
    (number_is_read_of least most word number small, λ (d, low, high). written least most word number small d low high)

-- a word that is the decimal of no number in the range is read as none
pub no_number_is_read : (least most : ℕ) (word : List ℕ) → most < 2 ^ 64 → ((n : ℕ) → IsDecimal word n → least ≤ n → n ≤ most → ⊥) → None ≡ number_in least most word
no_number_is_read least most word small none = by_case (number_in least most word) refl
  where
    by_case : (o : Option ℕ) → number_in least most word ≡ o → None ≡ o
    by_case None e = refl
    by_case (Some n) e = let (d, low, high) = number_is_read_of least most word n small e in absurd (none n d low high)
