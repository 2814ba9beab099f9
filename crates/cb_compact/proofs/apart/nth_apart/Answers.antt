use Rattle.std.proofs.Common.{◌+◌, ◌-◌, ◌*◌, ◌^◌, ◌<◌, ◌==◌, slice_index_or, ap, ◌∙◌, arith}
use Rattle.std.proofs.lemmas.Nat.{ones_le_self, xor_lt}
use Rattle.cb_compact.proofs.Counting.{no_fewer}
use Rattle.cb_compact.proofs.Nth.{word_of, differs_at, counted, word_further, all_counted}
use Rattle.cb_compact.proofs.apart.nth_apart.Goals as goal

pub returns-then-before-i-clause-none : goal.returns-then-before-i-clause-none
returns-then-before-i-clause-none c =
    let i = c.loop-i.i in
    let was = c.loop-i.invariant.0 in
    let some = c.loop-i.invariant.1 in
    let le = c.if-before-i.true in
    let rise = no_fewer c.args.one.now c.args.other.now (64 * i - c.args.before) c.args.before (64 * i) (omega arith) in
    omega arith

pub overflow_cast-ones : goal.overflow_cast-ones
overflow_cast-ones c =
    let a = c.words-a.result.now in
    let b = c.words-b.result.now in
    let i = c.loop-i.i in
    let one : slice_index_or a i 0 < 2 ^ 64 = let f = c.type_inv.a i in omega arith in
    let other : slice_index_or b i 0 < 2 ^ 64 = let f = c.type_inv.b i in omega arith in
    let fits = xor_lt 64 (slice_index_or a i 0) (slice_index_or b i 0) one other in
    let few = ones_le_self (word_of c.args.one.now c.args.other.now a b c.words-a.ensures c.words-b.ensures i) in
    omega arith

pub returns-then-place-before-clause-differ : goal.returns-then-place-before-clause-differ
returns-then-place-before-clause-differ c =
    let nth = c.nth_one.ensures in
    differs_at c.args.one.now c.args.other.now c.words-a.result.now c.words-b.result.now c.words-a.ensures c.words-b.ensures c.loop-i.i c.nth_one.result nth.within
    ∙ ap (λ bit. bit == 1) nth.is

pub returns-then-place-before-clause-nth : goal.returns-then-place-before-clause-nth
returns-then-place-before-clause-nth c =
    let was = c.loop-i.invariant.0 in
    let within = c.nth_one.ensures.within in
    let nth = c.nth_one.ensures.nth in
    let here = counted c.args.one.now c.args.other.now c.words-a.result.now c.words-b.result.now c.words-a.ensures c.words-b.ensures c.loop-i.i c.nth_one.result (omega arith) in
    omega arith

pub returns-else-place-before-clause-none : goal.returns-else-place-before-clause-none
returns-else-place-before-clause-none c =
    let was = c.loop-i.invariant.0 in
    let within = c.nth_one.ensures.within in
    let nth = c.nth_one.ensures.nth in
    let place = 64 * c.loop-i.i + c.nth_one.result in
    let late = c.if-place-before.false in
    let here = counted c.args.one.now c.args.other.now c.words-a.result.now c.words-b.result.now c.words-a.ensures c.words-b.ensures c.loop-i.i c.nth_one.result (omega arith) in
    let rise = no_fewer c.args.one.now c.args.other.now (place - c.args.before) c.args.before place (omega arith) in
    omega arith

pub loop-i-preserved : goal.loop-i-preserved
loop-i-preserved c =
    let a = c.words-a.result.now in
    let b = c.words-b.result.now in
    let i = c.loop-i.i in
    let was = c.loop-i.invariant.0 in
    let fewer = c.if-left-ones.false in
    let one : slice_index_or a i 0 < 2 ^ 64 = let f = c.type_inv.a i in omega arith in
    let other : slice_index_or b i 0 < 2 ^ 64 = let f = c.type_inv.b i in omega arith in
    let further = word_further c.args.one.now c.args.other.now a b c.words-a.ensures c.words-b.ensures i (xor_lt 64 (slice_index_or a i 0) (slice_index_or b i 0) one other) in
    (omega arith, omega arith)

pub returns-clause-none : goal.returns-clause-none
returns-clause-none c =
    let was = c.loop-i.invariant.0 in
    let some = c.loop-i.invariant.1 in
    let all = all_counted c.args.one.now c.args.other.now c.words-a.result.now c.words-b.result.now c.words-a.ensures c.words-b.ensures c.loop-i.i c.requires.same c.loop-i-test.false c.args.before in
    omega arith
