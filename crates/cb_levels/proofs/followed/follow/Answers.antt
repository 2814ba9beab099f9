use Rattle.cb_levels.proofs.Following.{followed_more}
use Rattle.cb_levels.proofs.followed.follow.Goals as goal

pub loop-at-preserved : goal.loop-at-preserved
loop-at-preserved c =
    let pushed = c.in_ok-push_node-2.ensures in
    followed_more c.args.levels.now c.args.position c.loop-at.at c.parent_of-at.result c.loop-at.names.items c.push_node-in-loop-at.new.names.items pushed.0
    c.loop-at.invariant c.parent_of-at.ensures.parent c.parent_of-at.ensures.earlier pushed.1 pushed.2
