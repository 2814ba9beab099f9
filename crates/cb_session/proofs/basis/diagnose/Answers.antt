use Rattle.std.proofs.Common.{List, ◌+◌, take, sym, subst, arith}
use Rattle.cb_log.specs.declared.closed.Closed.{Closed}
use Rattle.cb_log.specs.declared.event.Event.{Event}
use Rattle.cb_model.proofs.Fill.{take_whole}
use Rattle.cb_session.proofs.Bases.{Diagnosed, one_more}
use Rattle.cb_session.proofs.basis.diagnose.Goals as goal

pub loop-k-preserved : goal.loop-k-preserved
loop-k-preserved c =
    let ready = c.args.ready.now in
    let closing = c.args.closing.now in
    let before = c.args.events.now in
    let k = c.loop-k.k in
    subst (λ (events : List Event). Diagnosed c.args.topology.now ready (take (k + 1) closing) before events) (sym c.in_ok-push.ensures.ok)
    (one_more c.args.topology.now ready closing before c.loop-k.events k c.at.result.now c.in_ok-diagnosis.field-0 c.at.ensures c.in_ok-diagnosis.ensures c.loop-k.invariant)

pub returns : goal.returns
returns c =
    let ready = c.args.ready.now in
    let closing = c.args.closing.now in
    let all = c.len-k-end.ensures in
    subst (λ (cs : List Closed). Diagnosed c.args.topology.now ready cs c.args.events.now c.loop-k.events) (take_whole closing c.loop-k.k (omega arith)) c.loop-k.invariant
