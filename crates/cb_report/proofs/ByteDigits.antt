-- The digits of words, byte by byte.
use Rattle.std.proofs.Common.{◌≡◌, ℕ, ◌+◌, ◌-◌, ◌*◌, ◌/◌, ◌%◌, ◌^◌, ◌<◌, ◌≤◌, ◌==◌, List, [], ◌∷◌, ◌++◌, length, slice_index_or, slice_set, sym, ap, subst, ◌∙◌, inl, inr, arith}
use borrow.Rule.Slice.PartMut.{put_mid}
use Rattle.std.proofs.lemmas.List.{get_or_append_left, get_or_push, get_or-set_same, get_or-set_other}
use Rattle.std.proofs.lemmas.Simd.{get_or-put_chunk_at, put_chunk_is}
use Rattle.std.specs.Int.{bit_at}
use Rattle.std.proofs.lemmas.Bool.{cases_eq, cases_lt}
use Rattle.std.proofs.lemmas.Nat.{shr-shr}
use Rattle.std.proofs.lemmas.Nat.Bits.{bit_at_cat_low}
use Rattle.cb_lanes.specs.Words.{bit_of}
use Rattle.cb_report.specs.ByteDigits.{AreDigitsOfByte, HasDigits, KeepsDigitsBefore, digit_byte}

-- a bit of byte i of a word is one of the word
byte_bit : (word i k : ℕ) → k < 8 → bit_at (word / 2 ^ (8 * i) % 256) k ≡ bit_at word (8 * i + k)
byte_bit word i k lt =
    let rest : ℕ = word / 2 ^ (8 * i) in
    let whole : rest / 256 * 2 ^ 8 + rest % 256 ≡ rest = omega arith in
    sym (bit_at_cat_low (rest / 256) 8 (rest % 256) k lt) ∙ ap (λ n. bit_at n k) whole ∙ ap (λ n. n % 2) (shr-shr word (8 * i) k)

-- one byte more of a word
pub byte_more : (word at i : ℕ) (old new : List ℕ) → HasDigits old at (8 * i) word → KeepsDigitsBefore (at + 8 * i) old new
    → HasDigits new (at + 8 * i) 8 (word / 2 ^ (8 * i) % 256) → HasDigits new at (8 * (i + 1)) word
byte_more word at i old new was keeps here k lt = elim (cases_lt k (8 * i)) [
  | inl low ↦ keeps (at + k) (omega arith) ∙ was k low
  | inr le ↦ let place : at + k ≡ at + 8 * i + (k - 8 * i) = omega arith in
      let bit : 8 * i + (k - 8 * i) ≡ k = omega arith in
      ap (λ p. slice_index_or new p 0) place ∙ here (k - 8 * i) (omega arith)
      ∙ ap (λ b. digit_byte (b == 1)) (byte_bit word i (k - 8 * i) (omega arith) ∙ ap (λ b. bit_at word b) bit)
]

pub keeps_more : (at n : ℕ) (old mid new : List ℕ) → KeepsDigitsBefore at old mid → KeepsDigitsBefore (at + n) mid new → KeepsDigitsBefore at old new
keeps_more at n old mid new first second k lt = second k (omega arith) ∙ first k lt

-- one word more
pub word_more : (words : List ℕ) (i : ℕ) (old new : List ℕ) → ((k : ℕ) → k < 64 * i → slice_index_or old k 0 ≡ digit_byte (bit_of words k))
    → KeepsDigitsBefore (64 * i) old new → HasDigits new (64 * i) 64 (slice_index_or words i 0)
    → (k : ℕ) → k < 64 * (i + 1) → slice_index_or new k 0 ≡ digit_byte (bit_of words k)
word_more words i old new was keeps here k lt = elim (cases_lt k (64 * i)) [
  | inl low ↦ keeps k low ∙ was k low
  | inr le ↦ let place : k ≡ 64 * i + k % 64 = omega arith in
      let word : i ≡ k / 64 = omega arith in
      ap (λ p. slice_index_or new p 0) place ∙ here (k % 64) (omega arith)
      ∙ ap (λ w. digit_byte (bit_at (slice_index_or words w 0) (k % 64) == 1)) word
]

-- the digits of a byte, copied to a position
pub byte_there : (digits part : List ℕ) (at wide byte : ℕ) → at + 8 ≤ length digits → wide ≡ 8 → AreDigitsOfByte part byte
    → HasDigits (put_mid at wide digits part) at 8 byte
byte_there digits part at wide byte room eight is k low =
    let long = is.eight in
    ap (λ w. slice_index_or (put_mid at w digits part) (at + k) 0) (eight ∙ sym long)
    ∙ ap (λ l. slice_index_or l (at + k) 0) (sym (put_chunk_is at digits part (omega arith)))
    ∙ get_or-put_chunk_at at digits part k 0 (omega arith) (omega arith)
    ∙ ap (λ i. slice_index_or part i 0) (omega arith) ∙ is.each k low

below : (k c : ℕ) → k < c + 1 → (k ≡ c → ⊥) → k < c
below k c lt other = elim (cases_lt k c) [
  | inl low ↦ low
  | inr le ↦ absurd (other (omega arith))
]

-- one digit more of a byte
pub digit_more : (digits : List ℕ) (bit byte next : ℕ) → length digits ≡ 8 → bit < 8 → HasDigits digits 0 bit byte → next ≡ digit_byte (bit_at byte bit == 1)
    → HasDigits (slice_set digits bit next) 0 (bit + 1) byte
digit_more digits bit byte next long within was is k lt = elim (cases_eq k bit) [
  | inl same ↦ ap (λ i. slice_index_or (slice_set digits bit next) i 0) (omega (arith, same)) ∙ get_or-set_same digits bit next 0 (omega arith) ∙ is
      ∙ ap (λ i. digit_byte (bit_at byte i == 1)) (sym same)
  | inr other ↦ get_or-set_other digits bit (0 + k) next 0 (λ e. other (omega (arith, e))) ∙ was k (below k bit lt other)
]

-- one byte more of the table
pub table_more : (old new : List (List ℕ)) (count : ℕ) (next : List ℕ) → length old ≡ count → new ≡ old ++ next ∷ [] → AreDigitsOfByte next count
    → ((byte : ℕ) → byte < count → AreDigitsOfByte (slice_index_or old byte []) byte)
    → (byte : ℕ) → byte < count + 1 → AreDigitsOfByte (slice_index_or new byte []) byte
table_more old new count next long is last was byte lt = elim (cases_lt byte count) [
  | inl low ↦ subst (λ digits. AreDigitsOfByte digits byte) (sym (ap (λ l. slice_index_or l byte []) is ∙ get_or_append_left old (next ∷ []) [] byte (omega arith))) (was byte low)
  | inr le ↦ let here : count ≡ byte = omega arith in
      subst (λ digits. AreDigitsOfByte digits byte) (sym (ap (λ l. slice_index_or l byte []) is ∙ get_or_push old next [] byte (long ∙ here)))
      (subst (λ i. AreDigitsOfByte next i) here last)
]
