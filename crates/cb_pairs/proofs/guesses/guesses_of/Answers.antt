use Rattle.std.proofs.Common.{◌≡◌, ◌+◌, ◌-◌, ◌++◌, [], ◌∷◌, map, sym, ap, ◌∙◌, arith, append_assoc}
use Rattle.std.specs.List.{flat_map, range_with_len}
use Rattle.cb_pairs.specs.Guesses.{alone, with_later}
use Rattle.cb_pairs.proofs.Guessing.{mapped_more, joined_more}
use Rattle.cb_pairs.proofs.guesses.guesses_of.Goals as goal

pub loop-group-preserved : goal.loop-group-preserved
loop-group-preserved c =
    c.in_ok-push.ensures.items ∙ (ap (λ gs. gs ++ alone c.loop-group.group ∷ []) c.loop-group.invariant
    ∙ sym (mapped_more alone 0 c.loop-group.group c.loop-group.group (omega arith)))

pub loop-first-preserved : goal.loop-first-preserved
loop-first-preserved c =
    let count = c.args.count in
    let first = c.loop-first.first in
    let ones = map alone (range_with_len 0 count) in
    let from = c.loop-first.auto.first in
    let step = joined_more (with_later count) 1 (first - 1) first (omega arith) in
    let shift : first + 1 - 1 ≡ first - 1 + 1 = omega arith in
    c.in_ok-add_later.ensures ∙ (ap (λ gs. gs ++ with_later count first) c.loop-first.invariant
    ∙ (append_assoc ones (flat_map (with_later count) (range_with_len 1 (first - 1))) (with_later count first)
    ∙ ap (λ gs. ones ++ gs) (sym step ∙ ap (λ n. flat_map (with_later count) (range_with_len 1 n)) (sym shift))))

pub returns : goal.returns
returns c =
    let count = c.args.count in
    let first = c.loop-first.first in
    let ones = map alone (range_with_len 0 count) in
    let done = c.loop-first-test.false in
    let from = c.loop-first.auto.first in
    let to = c.loop-first.auto.first-end in
    let end : first - 1 ≡ count - 1 = omega arith in
    c.of.ensures ∙ (c.loop-first.invariant ∙ ap (λ n. ones ++ flat_map (with_later count) (range_with_len 1 n)) end)
