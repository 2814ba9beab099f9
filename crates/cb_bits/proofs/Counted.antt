-- The ones of words are the true values that they hold.
use Rattle.std.proofs.Common.{◌≡◌, ℕ, ◌+◌, ◌-◌, ◌*◌, ◌^◌, ◌<◌, cond, Bool, List, length, sym, ap, ◌∙◌, arith}
use Rattle.std.specs.List.{count_by, range_with_len}
use Rattle.std.proofs.lemmas.List.Sums.{count_by-le-length}
use Rattle.cb_lanes.specs.Words.{bit_of, count_bits}
use Rattle.cb_lanes.proofs.Ones.{digit}
use Rattle.cb_lanes.proofs.Totals.{total, total_parts, total_nothing}
use Rattle.cb_bits.specs.Bits.{values, Holds}
use Rattle.cb_bits.proofs.Values.{row_len}
use Rattle.cb_bits.proofs.Totals.{sum_by-map}

-- no bit past the values is one
pub ones_of_values : (words : List ℕ) (n : ℕ) → Holds words n → total (digit words) 0 (64 * length words) ≡ total (digit words) 0 n
ones_of_values words n holds =
    let enough = holds.enough in
    let length_is : 64 * length words ≡ n + (64 * length words - n) = omega arith in
    let split = ap (total (digit words) 0) length_is ∙ total_parts (digit words) 0 n (64 * length words - n) in
    let rest = total_nothing (digit words) (0 + n) (64 * length words - n) (λ i lt. ap (λ b. cond b 1 0) (holds.rest (0 + n + i) (omega arith))) in
    omega arith

pub true_values : (words : List ℕ) (n : ℕ) (row : List Bool) → values words n ≡ row → Holds words n → total (digit words) 0 (64 * length words) ≡ count_by (λ b. b) row
true_values words n row is holds =
    ones_of_values words n holds ∙ sym (sum_by-map (λ b. cond b 1 0) (bit_of words) (range_with_len 0 n)) ∙ ap (count_by (λ b. b)) is

-- a row has no more true values than values
pub few_bits : (words : List ℕ) (n : ℕ) (row : List Bool) → values words n ≡ row → Holds words n → count_bits words < 2 ^ 64
few_bits words n row is holds =
    let count = true_values words n row is holds in
    let most = count_by-le-length (λ b. b) row in
    let long = row_len words n row is in
    let fits = holds.fits in
    omega arith
