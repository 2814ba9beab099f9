use Rattle.std.proofs.Common.{◌≡◌, ◌+◌, ◌-◌, ◌++◌, [], ◌∷◌, map, sym, ap, ◌∙◌, arith, append_assoc}
use Rattle.std.specs.List.{range_with_len}
use Rattle.cb_pairs.specs.Guesses.{both}
use Rattle.cb_pairs.proofs.Guessing.{mapped_more}
use Rattle.cb_pairs.proofs.guesses.add_later.Goals as goal

pub loop-second-preserved : goal.loop-second-preserved
loop-second-preserved c =
    let first = c.args.first in
    let second = c.loop-second.second in
    let old = c.args.guesses.now.items in
    let from = c.loop-second.auto.second in
    let bound = c.requires in
    let step = mapped_more (both first) (first + 1) (second - (first + 1)) second (omega arith) in
    let shift : second + 1 - (first + 1) ≡ second - (first + 1) + 1 = omega arith in
    c.in_ok-push.ensures.items ∙ (ap (λ gs. gs ++ both first second ∷ []) c.loop-second.invariant
    ∙ (append_assoc old (map (both first) (range_with_len (first + 1) (second - (first + 1)))) (both first second ∷ [])
    ∙ ap (λ gs. old ++ gs) (sym step ∙ ap (λ n. map (both first) (range_with_len (first + 1) n)) (sym shift))))
