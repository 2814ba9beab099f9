use Rattle.std.proofs.Common.{◌≡◌, rules, sym, subst}
use Rattle.cb_model.specs.Order.{Rises}
use Rattle.cb_model.specs.NodeOrder.{node_cmp}
use Rattle.cb_line_files.proofs.Trees.{rises_of_sorted}
use Rattle.cb_line_files.proofs.nodes.in_order.Goals as goal

pub returns-clause-rise : goal.returns-clause-rise
returns-clause-rise c =
    let all : c.of.result ≡ c.args.nodes.keys = search rules in
    subst (Rises node_cmp) (sym all) (rises_of_sorted c.args.nodes.keys c.into_iter.ensures.into_iter_gives.4)
