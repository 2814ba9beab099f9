use Rattle.std.proofs.Common.{◌≤◌, ℕ, List, length, take, sym, ap, subst, arith}
use Rattle.std.specs.List.{All}
use Rattle.std.proofs.lemmas.List.{take_all}
use Rattle.std.proofs.lemmas.List.Elements.{All-nil, All-push}
use Rattle.cb_model.proofs.Numbers.{read_at, take_more}
use Rattle.cb_report.proofs.Chained.{groups_still_fit}
use Rattle.cb_report.proofs.chain_lines.path_for.Goals as goal

pub loop-group-init : goal.loop-group-init
loop-group-init c = All-nil (All (All (λ (chain : List ℕ). length chain ≤ 0)))

pub loop-group-preserved : goal.loop-group-preserved
loop-group-preserved c =
    let groups = c.args.trees.now in
    let i = c.loop-group.group-index in
    let group = c.group-item.result in
    let at = read_at groups c.as_slice-group-items.result.now i group c.as_slice-group-items.ensures c.loop-group-test.true c.group-item.is in
    let most = c.most_nodes-most.result in
    subst (All (All (All (λ (chain : List ℕ). length chain ≤ most)))) (sym (take_more groups i group at))
    (All-push (All (All (λ (chain : List ℕ). length chain ≤ most))) (take i groups) group
    (groups_still_fit c.loop-group.most most c.most_nodes-most.ensures.least (take i groups) c.loop-group.invariant) c.most_nodes-most.ensures.chains)

pub returns : goal.returns
returns c =
    let groups = c.args.trees.now in
    let same = ap length c.as_slice-group-items.ensures in
    let past = c.loop-group-test.false in
    let long = c.in_ok-vec.ensures.len in
    let all = subst (All (All (All (λ (chain : List ℕ). length chain ≤ c.loop-group.most)))) (take_all c.loop-group.group-index groups (omega (arith, same, past)))
    c.loop-group.invariant
    in
    groups_still_fit c.loop-group.most (length c.in_ok-vec.field-0.items) (omega (arith, long, c.in_ok-vec.field-0.ok.0)) groups all
