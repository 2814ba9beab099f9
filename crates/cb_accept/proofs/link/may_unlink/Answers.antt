use Rattle.cb_accept.proofs.Answered.{refuted}
use Rattle.cb_accept.proofs.Firsts.{unlink_allowed, not_linked}
use Rattle.cb_accept.proofs.link.may_unlink.Goals as goal

pub returns-then-is_linked-clause-allowed : goal.returns-then-is_linked-clause-allowed
returns-then-is_linked-clause-allowed c =
    unlink_allowed c.args.net.now c.of.ensures.typed c.of.ensures.whole c.args.a.now c.args.rel.now c.args.b.now c.in_ok-from.field-0 c.in_ok-from.ensures.found
    (c.is_linked.ensures.0 c.if-is_linked.true)

pub returns-else-is_linked-clause-refused : goal.returns-else-is_linked-clause-refused
returns-else-is_linked-clause-refused c =
    not_linked c.args.net.now c.of.ensures.typed c.of.ensures.whole c.args.a.now c.args.rel.now c.args.b.now c.in_ok-from.field-0 c.in_ok-from.ensures.found
    (λ link. refuted c.is_linked.result c.if-is_linked.false (c.is_linked.ensures.1 link))
