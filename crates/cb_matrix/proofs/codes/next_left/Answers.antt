use Rattle.std.proofs.Common.{arith}
use Rattle.cb_bits.specs.Bits.{difference}
use Rattle.cb_bits.proofs.NextOnes.{without_length, next_found, none_found}
use Rattle.cb_matrix.specs.Codes.{bits}
use Rattle.cb_matrix.proofs.WordBits.{length-bits, same_length, left_bit, found_below}
use Rattle.cb_matrix.proofs.codes.next_left.Goals as goal

pub returns-clause-next : goal.returns-clause-next
returns-clause-next c =
    let row = c.args.row.now in
    let other = c.args.other.now in
    next_found (difference (bits row) (bits other)) row other (left_bit row other c.requires.same) c.args.from c.next_in_a_not_b.result c.next_in_a_not_b.ensures.next

pub returns-clause-none : goal.returns-clause-none
returns-clause-none c =
    let row = c.args.row.now in
    let other = c.args.other.now in
    let long = length-bits row in
    let wide = without_length (bits row) (bits other) (same_length row other c.requires.same) in
    none_found (difference (bits row) (bits other)) row other (left_bit row other c.requires.same) c.args.from c.next_in_a_not_b.result (omega arith) c.next_in_a_not_b.ensures.none

pub returns-clause-below : goal.returns-clause-below
returns-clause-below c =
    let row = c.args.row.now in
    let other = c.args.other.now in
    found_below row other c.requires.same c.args.from c.next_in_a_not_b.result
    (next_found (difference (bits row) (bits other)) row other (left_bit row other c.requires.same) c.args.from c.next_in_a_not_b.result c.next_in_a_not_b.ensures.next)
