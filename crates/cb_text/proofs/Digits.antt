-- What the digits of a number say.
use Rattle.std.proofs.Common.{◌≡◌, ℕ, ◌+◌, ◌-◌, ◌*◌, ◌<◌, ◌≤◌, ◌^◌, List, [], ◌∷◌, length, get_or, drop, decimal, true, false, Option, Some, None, refl, sym, ap, subst, ◌∙◌, inl, inr, arith, rules}
use Rattle.std.specs.Prelude.{IfNone}
use Rattle.std.specs.Char.{is_ascii_digit}
use Rattle.std.specs.Str.{all_ascii_digits}
use Rattle.std.proofs.lemmas.Bool.{cases_lt, cases_Bool, false≢true}
use Rattle.std.proofs.lemmas.Fmt.{decimal-digits_value, digits_decimal, digits_value-decimal, decimal_nonempty, decimal_digit, first_decimal}
use Rattle.std.proofs.lemmas.List.{drop_more, drop_all}
use Rattle.std.proofs.lemmas.Str.Parse.{IsNumeralModel, numerals_by_fold}
use Rattle.cb_text.specs.Decimals.{IsDecimal, AreDigits, HasLeadingZero, number_after, number_of}

own : IsNumeralModel AreDigits number_of
own = numerals_by_fold AreDigits (search rules) number_after (search rules)

-- a number grows by its digits
number_grows : (n : ℕ) (bytes : List ℕ) → n ≤ number_after n bytes
number_grows n [] = omega arith
number_grows n (b ∷ bs) = let more = number_grows (n * 10 + (b - 48)) bs in omega (arith, more)

-- the digits before k are read, and n is their number
pub record IsReadTo (bytes : List ℕ) (k n : ℕ) : Type 0 where
  pub value : number_after n (drop k bytes) ≡ number_of bytes
  pub digits : all_ascii_digits (drop k bytes) ≡ all_ascii_digits bytes
  pub small : n < 2 ^ 64

pub read_none : (bytes : List ℕ) → IsReadTo bytes 0 0
read_none bytes = record { value = refl; digits = refl; small = omega arith }

module _ (bytes : List ℕ) (k n : ℕ) (low : k < length bytes) (read : IsReadTo bytes k n) where
  abbrev byte : ℕ
  byte = get_or bytes k 0

  abbrev rest : List ℕ
  rest = drop (k + 1) bytes

  value_here : number_after (n * 10 + (byte - 48)) rest ≡ number_of bytes
  value_here = ap (number_after n) (sym (drop_more bytes k 0 low)) ∙ read.value

  digits_here : all_ascii_digits (byte ∷ rest) ≡ all_ascii_digits bytes
  digits_here = ap all_ascii_digits (sym (drop_more bytes k 0 low)) ∙ read.digits

  -- where the next byte is no digit, or the number is too large with it, the bytes have no number
  pub read_stops : ¬ ((is_ascii_digit byte ≡ true) × (n * 10 + (byte - 48) < 2 ^ 64)) → AreDigits bytes → ¬ (number_of bytes < 2 ^ 64)
  read_stops none are small =
      let both : all_ascii_digits (byte ∷ rest) ≡ true = digits_here ∙ are in
      let grows = number_grows (n * 10 + (byte - 48)) rest in
      elim (cases_Bool (is_ascii_digit byte)) [
        | inl digit ↦ none (digit, omega (arith, grows, value_here, small))
        | inr other ↦ let bad : false ≡ true = rw other at both in absurd (false≢true bad)
      ]

  -- and else it is read
  pub read_more : (m : ℕ) → ((is_ascii_digit byte ≡ true) × (n * 10 + (byte - 48) < 2 ^ 64)) × (m ≡ n * 10 + (byte - 48)) → IsReadTo bytes (k + 1) m
  read_more m ((digit, small), is) =
      let same : all_ascii_digits (byte ∷ rest) ≡ all_ascii_digits rest = rw digit refl in
      record {
        value = ap (λ x. number_after x rest) is ∙ value_here;
        digits = sym same ∙ digits_here;
        small = subst (λ x. x < 2 ^ 64) (sym is) small;
      }

-- once all are read, n is the number
pub all_read : (bytes : List ℕ) (k n : ℕ) → length bytes ≤ k → IsReadTo bytes k n → AreDigits bytes × (number_of bytes ≡ n) × (n < 2 ^ 64)
all_read bytes k n high read =
    let none : drop k bytes ≡ [] = drop_all k bytes high in (
      sym read.digits ∙ ap all_ascii_digits none,
      sym read.value ∙ ap (number_after n) none,
      read.small,
    )

-- digits without a leading zero are what their number is written with
pub written : (bytes : List ℕ) (n : ℕ) → 0 < length bytes → ¬ HasLeadingZero bytes → AreDigits bytes × (number_of bytes ≡ n) × (n < 2 ^ 64) → IsDecimal bytes n
written bytes n some unpadded (are, is, small) =
    let prefix : get_or bytes 0 0 ≡ 48 → length bytes ≡ 1 = λ zero. elim (cases_lt 1 (length bytes)) [
      | inl more ↦ absurd (unpadded (more, zero))
      | inr one ↦ omega (arith, some)
    ] in
    record {
      small = small;
      written = sym (decimal-digits_value own bytes are some prefix (omega (arith, is, small))) ∙ ap decimal is;
    }

module _ (bytes : List ℕ) (n : ℕ) (is : IsDecimal bytes n) where
  -- a number is written with digits, which are those of it
  pub digits_of : AreDigits bytes
  digits_of = subst AreDigits (sym is.written) (digits_decimal own n is.small)

  pub small_of : number_of bytes < 2 ^ 64
  small_of =
      let same : number_of bytes ≡ n = ap number_of is.written ∙ digits_value-decimal own n is.small in
      subst (λ x. x < 2 ^ 64) (sym same) is.small

  -- there is one at least, and no zero stands before others
  pub some_bytes : 0 < length bytes
  some_bytes = let some = decimal_nonempty n is.small in omega (arith, some, ap length is.written)

  pub unpadded : ¬ HasLeadingZero bytes
  unpadded (more, zero) = elim (cases_lt 0 n) [
    | inl some ↦
        let first = first_decimal n some is.small in
        let same : get_or bytes 0 0 ≡ get_or (decimal n) 0 0 = ap (λ (l : List ℕ). get_or l 0 0) is.written in
        absurd (omega (arith, first, zero, same))
    | inr none ↦
        let e : n ≡ 0 = omega arith in
        let one : length bytes ≡ 1 = ap length (is.written ∙ (ap decimal e ∙ decimal_digit 0 (omega arith))) in
        absurd (omega (arith, one, more))
  ]

pub none_then : {X : Type 0} {P Q : Type 0} (o : Option X) → (P → Q) → IfNone o P → IfNone o Q
none_then None then none = then none
none_then (Some x) then none = tt
