use Rattle.std.proofs.Common.{◌≡◌, ◌<◌, ◌^◌, ◌++◌, [], ◌∷◌, ap, ◌∙◌, arith}
use Rattle.std.specs.List.{range_with_len}
use Rattle.cb_breadth.proofs.ByNumber.{all_numbers}
use Rattle.cb_breadth.proofs.visit.Order.by_number.Goals as goal

pub loop-node-preserved : goal.loop-node-preserved
loop-node-preserved c =
    let node = c.loop-node.node in
    let few : node < 2 ^ 32 = omega (arith, c.loop-node-test.true, c.requires) in
    c.in_ok-push.ensures.items ∙ ap (λ xs. xs ++ node ∷ []) c.loop-node.invariant ∙ all_numbers node

pub returns : goal.returns
returns c =
    let all : c.loop-node.node ≡ c.args.count = (let past = c.loop-node-test.false in let within = c.loop-node.auto.node-end in omega arith) in
    let nodes = c.loop-node.invariant ∙ ap (range_with_len 0) all in
    record { nodes = nodes; ranks = c.in_ok-ranks.ensures.items ∙ c.deref.ensures.value ∙ nodes }
