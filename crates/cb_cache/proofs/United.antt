-- Bits of two rows of words that are united.
use Rattle.std.proofs.Common.{◌≡◌, ◌↔◌, ◌⊎◌, ℕ, ◌||◌, List, Bool, true, false, length, bit_or, refl, sym, ap, ◌∙◌, inl, inr}
use Rattle.std.specs.Simd.Lanes.{zip2}
use Rattle.cb_lanes.specs.Words.{bit_of}
use Rattle.cb_lanes.proofs.Zipped.{zip_bit, or_bits}

either : (a b : Bool) → (a || b) ≡ true → (a ≡ true) ⊎ (b ≡ true)
either true b is = inl refl
either false b is = inr is

from_left : (a b : Bool) → a ≡ true → (a || b) ≡ true
from_left a b is = ap (λ x. x || b) is

from_right : (a b : Bool) → b ≡ true → (a || b) ≡ true
from_right true b is = refl
from_right false b is = is

-- a bit of two rows united is a bit of one of them
module _ (a b : List ℕ) (same : length a ≡ length b) where
  united_bit : (k : ℕ) → bit_of (zip2 bit_or a b) k ≡ (bit_of a k || bit_of b k)
  united_bit k = zip_bit bit_or (λ x y. x || y) refl or_bits a b same k

  pub united_cases : (k : ℕ) → (bit_of (zip2 bit_or a b) k ≡ true) ↔ ((bit_of a k ≡ true) ⊎ (bit_of b k ≡ true))
  united_cases k = (
    λ bit. either (bit_of a k) (bit_of b k) (sym (united_bit k) ∙ bit),
    λ one. united_bit k ∙ elim one [ inl left ↦ from_left (bit_of a k) (bit_of b k) left | inr right ↦ from_right (bit_of a k) (bit_of b k) right ],
  )
