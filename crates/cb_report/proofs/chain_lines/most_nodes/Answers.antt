use Rattle.std.proofs.Common.{◌≤◌, ℕ, List, length, take, sym, ap, subst, arith}
use Rattle.std.specs.List.{All}
use Rattle.std.proofs.lemmas.List.{take_all}
use Rattle.std.proofs.lemmas.List.Elements.{All-nil, All-push, All-weaker}
use Rattle.cb_model.proofs.Numbers.{read_at, take_more}
use Rattle.cb_report.proofs.Chained.{still_fit}
use Rattle.cb_report.proofs.chain_lines.most_nodes.Goals as goal

pub loop-tree-init : goal.loop-tree-init
loop-tree-init c = (All-nil (All (λ (chain : List ℕ). length chain ≤ c.args.least)), omega arith)

pub loop-tree-preserved : goal.loop-tree-preserved
loop-tree-preserved c =
    let trees = c.args.trees.now in
    let i = c.loop-tree.tree-index in
    let tree = c.tree-item.result in
    let at = read_at trees c.as_slice-tree-items.result.now i tree c.as_slice-tree-items.ensures c.loop-tree-test.true c.tree-item.is in
    let most = c.max-most.result in
    let is = c.max-most.ensures in
    let more : c.loop-tree.most ≤ most = omega (arith, is) in
    let count : c.node_count.result ≤ most = omega (arith, is) in
    let here : All (λ (chain : List ℕ). length chain ≤ most) tree =
    All-weaker (λ (chain : List ℕ). length chain ≤ c.node_count.result) (λ (chain : List ℕ). length chain ≤ most) (λ chain short. omega (arith, short, count)) tree c.node_count.ensures
    in (
      subst (All (All (λ (chain : List ℕ). length chain ≤ most))) (sym (take_more trees i tree at))
          (All-push (All (λ (chain : List ℕ). length chain ≤ most)) (take i trees) tree (still_fit c.loop-tree.most most more (take i trees) c.loop-tree.invariant.0) here),
      let low = c.loop-tree.invariant.1 in omega (arith, low, more),
    )

pub returns-clause-chains : goal.returns-clause-chains
returns-clause-chains c =
    let same = ap length c.as_slice-tree-items.ensures in
    let past = c.loop-tree-test.false in
    subst (All (All (λ (chain : List ℕ). length chain ≤ c.loop-tree.most))) (take_all c.loop-tree.tree-index c.args.trees.now (omega (arith, same, past)))
    c.loop-tree.invariant.0
