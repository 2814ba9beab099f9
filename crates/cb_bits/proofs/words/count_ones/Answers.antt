use Rattle.std.proofs.Common.{◌+◌, slice_index_or, sym, ap, ◌∙◌, arith}
use Rattle.std.specs.Prelude.{count_ones}
use Rattle.std.specs.List.{sum_by}
use Rattle.std.proofs.lemmas.List.{take_all}
use Rattle.std.proofs.lemmas.List.Sums.{sum_by_more, sum_by_more_le}
use Rattle.cb_lanes.proofs.Ones.{ones_of_words}
use Rattle.cb_bits.proofs.words.count_ones.Goals as goal

pub overflow_add-count : goal.overflow_add-count
overflow_add-count c =
    let so_far = c.loop-i.invariant in
    let within = sum_by_more_le count_ones c.args.words.now c.loop-i.i 0 c.loop-i-test.true in
    let all = ones_of_words c.args.words.now (λ k lt. let f = c.type_inv.words k in omega arith) in
    let fits = c.requires in
    omega arith

pub loop-i-preserved : goal.loop-i-preserved
loop-i-preserved c =
    ap (λ n. n + count_ones (slice_index_or c.args.words.now c.loop-i.i 0)) c.loop-i.invariant
    ∙ sym (sum_by_more count_ones c.args.words.now c.loop-i.i 0 c.loop-i-test.true)

pub returns : goal.returns
returns c =
    let end = c.loop-i-test.false in
    c.loop-i.invariant ∙ ap (sum_by count_ones) (take_all c.loop-i.i c.args.words.now (omega arith))
    ∙ ones_of_words c.args.words.now (λ k lt. let f = c.type_inv.words k in omega arith)
