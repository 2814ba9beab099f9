-- The place of a value: its word, and its bit there.
use Rattle.std.proofs.Common.{◌≡◌, ◌≢◌, ℕ, ◌*◌, ◌/◌, ◌%◌, ◌<◌, arith}

-- a value has a word, where the words are enough
pub word_within : (k words : ℕ) → k < 64 * words → k / 64 < words
word_within k words lt = omega arith

-- two values of one word differ in their bit
pub bits_apart : (j k : ℕ) → j ≢ k → j / 64 ≡ k / 64 → j % 64 ≢ k % 64
bits_apart j k differ word bit = differ (omega arith)
