-- A word of a slice that is written, and the bits of the slice then.
use Rattle.std.proofs.Common.{◌≡◌, ◌≢◌, ℕ, ◌*◌, ◌/◌, ◌%◌, ◌<◌, ◌==◌, List, length, slice_index_or, slice_set, inl, inr, sym, ap, ◌∙◌, arith}
use Rattle.std.specs.Int.{bit_at}
use Rattle.std.proofs.lemmas.Bool.{cases_eq}
use Rattle.std.proofs.lemmas.List.{get_or-set_same, get_or-set_other}
use Rattle.std.proofs.lemmas.Grind.{get_or-set_at}
use Rattle.cb_lanes.specs.Words.{bit_of}
use Rattle.cb_bits.proofs.Places.{word_within, bits_apart}

-- a new word in the place of that of bit k, which leaves its other bits
module _ (words : List ℕ) (k word : ℕ) (within : k < 64 * length words)
    (keeps : (i : ℕ) → i < 64 → i ≢ k % 64 → bit_at word i ≡ bit_at (slice_index_or words (k / 64) 0) i) where
  written : List ℕ
  written = slice_set words (k / 64) word

  pub bit_there : bit_of (slice_set words (k / 64) word) k ≡ bit_at word (k % 64) == 1
  bit_there = ap (λ w. bit_at w (k % 64) == 1) (get_or-set_same words (k / 64) word 0 (word_within k (length words) within))

  pub bit_elsewhere : (i : ℕ) → i ≢ k → bit_of (slice_set words (k / 64) word) i ≡ bit_of words i
  bit_elsewhere i differ = elim (cases_eq (i / 64) (k / 64)) [
    | inl same ↦ ap (λ w. bit_at w (i % 64) == 1) (get_or-set_at words (k / 64) (i / 64) word 0 same (word_within k (length words) within))
        ∙ ap (λ b. b == 1) (keeps (i % 64) (omega arith) (bits_apart i k differ same))
        ∙ ap (λ n. bit_at (slice_index_or words n 0) (i % 64) == 1) (sym same)
    | inr other ↦ ap (λ w. bit_at w (i % 64) == 1) (get_or-set_other words (k / 64) (i / 64) word 0 other)
  ]
