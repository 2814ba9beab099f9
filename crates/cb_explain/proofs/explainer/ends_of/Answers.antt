use Rattle.cb_explain.proofs.Ending.{ends_more}
use Rattle.cb_explain.proofs.explainer.ends_of.Goals as goal

pub loop-at-preserved : goal.loop-at-preserved
loop-at-preserved c =
    ends_more c.args.order.now c.args.visits.now c.args.nodes.now c.loop-at.at c.at.result.now c.rank_of-rank.result c.end_of.result c.loop-at.ends.items
    c.push_end.new.ends.items c.at.ensures c.rank_of-rank.ensures c.end_of.ensures.found c.end_of.ensures.none c.loop-at.invariant c.in_ok-push_end.ensures
