use Rattle.std.proofs.Common.{◌+◌, ◌*◌, ◌^◌, ◌<◌, [], slice_index_or, bit_xor, w64, refl, sym, subst, ◌∙◌, arith}
use Rattle.std.specs.Int.{trailing_zeros}
use Rattle.std.specs.Simd.Lanes.{zip2}
use Rattle.cb_lanes.specs.Words.{IsNextBit}
use Rattle.cb_lanes.proofs.NextBits.{none_here, first_here, in_word}
use Rattle.cb_compact.proofs.Words.{xor_fits, left_is}
use Rattle.cb_compact.proofs.apart.next_difference.Goals as goal

pub overflow_add-result : goal.overflow_add-result
overflow_add-result c =
    let a = c.args.a.now in
    let b = c.args.b.now in
    let i = c.loop-i.i in
    let start = c.max-start.result in
    let one : slice_index_or a i 0 < 2 ^ 64 = let f = c.type_inv.a i in omega arith in
    let other : slice_index_or b i 0 < 2 ^ 64 = let f = c.type_inv.b i in omega arith in
    let fits = xor_fits a b c.requires.same i c.loop-i-test.true one other in
    let same = left_is a b c.requires.same i start c.loop-i-test.true one other in
    let within = subst (λ v. start + trailing_zeros w64 v < 64 * (i + 1)) same
    (in_word (zip2 bit_xor a b) [] c.args.from i start 0 (omega arith) (omega arith) refl c.loop-i.auto.i c.max-start.ensures c.loop-i.invariant (λ e. c.if-left-ne0.true (sym same ∙ e))) in
    let few = c.requires.few in
    let lt = c.loop-i-test.true in
    omega arith

pub returns-then-left-ne0-clause-next : goal.returns-then-left-ne0-clause-next
returns-then-left-ne0-clause-next c =
    let a = c.args.a.now in
    let b = c.args.b.now in
    let i = c.loop-i.i in
    let start = c.max-start.result in
    let one : slice_index_or a i 0 < 2 ^ 64 = let f = c.type_inv.a i in omega arith in
    let other : slice_index_or b i 0 < 2 ^ 64 = let f = c.type_inv.b i in omega arith in
    let fits = xor_fits a b c.requires.same i c.loop-i-test.true one other in
    let same = left_is a b c.requires.same i start c.loop-i-test.true one other in
    subst (λ v. IsNextBit (zip2 bit_xor a b) [] c.args.from (start + trailing_zeros w64 v)) same
    (first_here (zip2 bit_xor a b) [] c.args.from i start 0 (omega arith) (omega arith) refl c.loop-i.auto.i c.max-start.ensures c.loop-i.invariant (λ e. c.if-left-ne0.true (sym same ∙ e)))

pub loop-i-preserved : goal.loop-i-preserved
loop-i-preserved c =
    let a = c.args.a.now in
    let b = c.args.b.now in
    let i = c.loop-i.i in
    let start = c.max-start.result in
    let one : slice_index_or a i 0 < 2 ^ 64 = let f = c.type_inv.a i in omega arith in
    let other : slice_index_or b i 0 < 2 ^ 64 = let f = c.type_inv.b i in omega arith in
    let fits = xor_fits a b c.requires.same i c.loop-i-test.true one other in
    let same = left_is a b c.requires.same i start c.loop-i-test.true one other in
    none_here (zip2 bit_xor a b) [] c.args.from i start 0 (omega arith) (omega arith) refl c.loop-i.auto.i c.max-start.ensures c.loop-i.invariant (same ∙ c.if-left-ne0.false)
