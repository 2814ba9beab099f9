use Rattle.std.proofs.Common.{◌≡◌, ◌+◌, ◌*◌, ◌/◌, ◌%◌, ◌^◌, ◌<◌, ℕ, [], slice_index_or, bit_and, w64, refl, sym, ap, subst, ◌∙◌, arith}
use Rattle.std.specs.Int.{bit_not, trailing_zeros}
use Rattle.cb_lanes.specs.Words.{IsNextBit}
use Rattle.cb_lanes.proofs.NextBits.{none_here, first_here, in_word}
use Rattle.cb_bits.proofs.NextOnes.{all_left}
use Rattle.cb_bits.proofs.words.next_bit.Goals as goal

-- the bits of a word from the start on, with none taken away
left : (word start : ℕ) → word < 2 ^ 64 → bit_and word (bit_not w64 0) / 2 ^ (start % 64) ≡ word / 2 ^ (start % 64)
left word start fits = ap (λ w. w / 2 ^ (start % 64)) (all_left word fits)

pub overflow_add-result : goal.overflow_add-result
overflow_add-result c =
    let same = left (slice_index_or c.args.words.now c.loop-i.i 0) c.max-start.result (let f = c.type_inv.words c.loop-i.i in omega arith) in
    let within = subst (λ v. c.max-start.result + trailing_zeros w64 v < 64 * (c.loop-i.i + 1)) same
    (in_word c.args.words.now [] c.args.from c.loop-i.i c.max-start.result 0 (c.type_inv.words c.loop-i.i) (omega arith) refl c.loop-i.auto.i c.max-start.ensures c.loop-i.invariant (λ e. c.if-left-ne0.true (sym same ∙ e))) in
    let few = c.requires in
    let lt = c.loop-i-test.true in
    omega arith

pub returns-then-left-ne0-clause-next : goal.returns-then-left-ne0-clause-next
returns-then-left-ne0-clause-next c =
    let same = left (slice_index_or c.args.words.now c.loop-i.i 0) c.max-start.result (let f = c.type_inv.words c.loop-i.i in omega arith) in
    subst (λ v. IsNextBit c.args.words.now [] c.args.from (c.max-start.result + trailing_zeros w64 v)) same
    (first_here c.args.words.now [] c.args.from c.loop-i.i c.max-start.result 0 (c.type_inv.words c.loop-i.i) (omega arith) refl c.loop-i.auto.i c.max-start.ensures c.loop-i.invariant (λ e. c.if-left-ne0.true (sym same ∙ e)))

pub loop-i-preserved : goal.loop-i-preserved
loop-i-preserved c =
    let same = left (slice_index_or c.args.words.now c.loop-i.i 0) c.max-start.result (let f = c.type_inv.words c.loop-i.i in omega arith) in
    none_here c.args.words.now [] c.args.from c.loop-i.i c.max-start.result 0 (c.type_inv.words c.loop-i.i) (omega arith) refl c.loop-i.auto.i c.max-start.ensures c.loop-i.invariant (same ∙ c.if-left-ne0.false)
