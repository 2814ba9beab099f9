use Rattle.cb_accept.proofs.Answered.{refuted}
use Rattle.cb_accept.proofs.Firsts.{unmute_allowed, not_muted}
use Rattle.cb_accept.proofs.mute.may_unmute.Goals as goal

pub returns-then-is_muted-clause-allowed : goal.returns-then-is_muted-clause-allowed
returns-then-is_muted-clause-allowed c =
    unmute_allowed c.args.net.now c.of.ensures.whole c.args.event.now c.args.name.now c.in_ok-id.field-0 c.in_ok-id.ensures.found
    (c.is_muted.ensures.0 c.if-is_muted.true)

pub returns-else-is_muted-clause-refused : goal.returns-else-is_muted-clause-refused
returns-else-is_muted-clause-refused c =
    not_muted c.args.net.now c.of.ensures.whole c.args.event.now c.args.name.now c.in_ok-id.field-0 c.in_ok-id.ensures.found
    (λ is. refuted c.is_muted.result c.if-is_muted.false (c.is_muted.ensures.1 is))
