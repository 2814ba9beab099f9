-- A word is read as a wish exactly where it is the word of that wish.
use Rattle.std.proofs.Common.{◌≡◌, ℕ, List, ◌++◌, take, drop, Bool, true, false, refl, sym, ap, ◌∙◌, subst, Some, arith}
use Rattle.std.proofs.lemmas.List.{take-append-drop}
use Rattle.std.proofs.lemmas.Slice.Eq.{bytes_eq-Decides}
use Rattle.std.proofs.lemmas.Str.Parse.{digit_from_value}
use Rattle.std.specs.Option.{option_map}
use Rattle.std.specs.Prelude.{Option, None, if◌then◌else◌}
use Rattle.std.specs.Str.Parse.{AllDigits}
use Rattle.cb_model.specs.declared.wish.Wish.{Wish}
use Rattle.cb_model.specs.declared.wish.Wish.TheVariants.{Plain, Cap}
use Rattle.cb_request.specs.Laws.{IsDistanceWord, IsWishWord, WishIsRead}
use Rattle.cb_request.specs.Numbers.{cap_sign, distance_in, is_cap, wish_in}
use Rattle.cb_request.proofs.NumberWords.{all_digits, number_is_read}

-- ---- a distance

distance_of : (word : List ℕ) (d : ℕ) → distance_in word ≡ Some d → IsDistanceWord word d
distance_of word d e =
    let (decimal, low, high) = (number_is_read 1 9999 word d (omega arith)).0 e in record { decimal_is = decimal; some = low; few = high }

of_distance : (word : List ℕ) (d : ℕ) → IsDistanceWord word d → distance_in word ≡ Some d
of_distance word d is = (number_is_read 1 9999 word d (omega arith)).1 (is.decimal_is, is.some, is.few)

-- ---- the sign of a cap

pub signed : (word : List ℕ) → is_cap word ≡ true → word ≡ cap_sign ++ drop 3 word
signed word e =
    sym (take-append-drop 3 word) ∙ ap (λ (bytes : List ℕ). bytes ++ drop 3 word) ((bytes_eq-Decides (take 3 word) cap_sign).0 e)

pub sign_is_seen : (word number : List ℕ) → word ≡ cap_sign ++ number → is_cap word ≡ true
sign_is_seen word number e = (bytes_eq-Decides (take 3 word) cap_sign).1 (ap (take 3) e)

-- the digits of a number don't begin with it, since `c` is 99
no_digits : (number : List ℕ) → AllDigits 10 (cap_sign ++ number) → ⊥
no_digits number digits = omega (arith, digit_from_value 99 digits.0)

no_distance : (word : List ℕ) (d : ℕ) → IsDistanceWord word d → is_cap word ≡ true → ⊥
no_distance word d is e =
    let written = sym (signed word e) ∙ is.decimal_is.written in
    no_digits (drop 3 word) (subst (AllDigits 10) (sym written) (all_digits d is.decimal_is.small))

-- ---- the wish

module _ (word : List ℕ) where
  cap_read : (found : Option ℕ) → distance_in (drop 3 word) ≡ found → word ≡ cap_sign ++ drop 3 word → (wish : Wish) → option_map Cap found ≡ Some wish
      → IsWishWord word wish
  cap_read None is signed wish e = cc
  cap_read (Some cap) is signed wish e =
      let same : Cap cap ≡ wish = cc in subst (IsWishWord word) same (drop 3 word, signed, distance_of (drop 3 word) cap is)

  distance_read : (found : Option ℕ) → distance_in word ≡ found → (wish : Wish) → option_map Plain found ≡ Some wish → IsWishWord word wish
  distance_read None is wish e = cc
  distance_read (Some d) is wish e = let same : Plain d ≡ wish = cc in subst (IsWishWord word) same (distance_of word d is)

  read : (b : Bool) → is_cap word ≡ b → (wish : Wish)
      → (if b then option_map Cap (distance_in (drop 3 word)) else option_map Plain (distance_in word)) ≡ Some wish → IsWishWord word wish
  read true sign wish e = cap_read (distance_in (drop 3 word)) refl (signed word sign) wish e
  read false sign wish e = distance_read (distance_in word) refl wish e

  unsigned : (d : ℕ) → IsDistanceWord word d → (b : Bool) → is_cap word ≡ b → b ≡ false
  unsigned d is true sign = absurd (no_distance word d is sign)
  unsigned d is false sign = refl

  pub written : (wish : Wish) → IsWishWord word wish → wish_in word ≡ Some wish
  written (Plain d) is = rw (unsigned d is (is_cap word) refl) (ap (option_map Plain) (of_distance word d is))
  written (Cap cap) (number, e, is) =
      let rest : drop 3 word ≡ number = ap (drop 3) e in
      rw (sign_is_seen word number e) (ap (λ (bytes : List ℕ). option_map Cap (distance_in bytes)) rest ∙ ap (option_map Cap) (of_distance number cap is))

pub wish_is_read : WishIsRead
wish_is_read word wish = (read word (is_cap word) refl wish, written word wish)
