use Rattle.std.proofs.Common.{sym, subst, rules}
use Rattle.std.proofs.lemmas.Fn.{filter_same}
use Rattle.cb_topo.specs.Settled.{IsSettled, has_node}
use Rattle.cb_topo.proofs.Following.{gone_settled}
use Rattle.cb_topo.proofs.topology.Topology.without_gone.Goals as goal

pub returns : goal.returns
returns c =
    let n = c.args.self.now in
    let kept = filter_same _ (has_node n.nodes) _ (λ x b f' k. search rules) _ _ c.retain.ensures.filtered in
    subst (IsSettled n) (sym kept) (gone_settled n c.args.order.items c.requires.whole c.requires.gone)
