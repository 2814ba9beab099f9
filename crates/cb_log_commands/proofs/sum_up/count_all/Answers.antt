use Rattle.std.proofs.Common.{◌≡◌, ◌++◌, ◌∙◌, ℕ, List, take, length, subst, ap, arith}
use Rattle.cb_log.specs.declared.event.Event.{Event}
use Rattle.cb_model.proofs.Numbers.{read_at}
use Rattle.cb_report.specs.SummaryText.{CountsEvents}
use Rattle.cb_file_kinds.proofs.Chain.{take_whole}
use Rattle.cb_log_commands.proofs.Summing.{counted_more}
use Rattle.cb_log_commands.proofs.sum_up.count_all.Goals as goal

pub loop-event-preserved : goal.loop-event-preserved
loop-event-preserved c =
    let at = read_at c.args.events.now c.as_slice-event-items.result.now c.loop-event.event-index c.event-item.result c.as_slice-event-items.ensures
    c.loop-event-test.true c.event-item.is in
    counted_more c.args.events.now c.loop-event.event-index c.event-item.result c.args.summary.now c.loop-event.summary c.count.new.self at
    c.loop-event.invariant c.in_ok-count.ensures.same c.in_ok-count.ensures.counts

pub returns-clause-counts : goal.returns-clause-counts
returns-clause-counts c =
    let all = ap length c.as_slice-event-items.ensures in
    let within = c.loop-event.auto.event-index-end in
    let past = c.loop-event-test.false in
    let at : c.loop-event.event-index ≡ length c.args.events.now = omega (arith, all, within, past) in
    subst (λ (es : List Event). (before : List Event) → CountsEvents before c.args.summary.now → CountsEvents (before ++ es) c.loop-event.summary)
    (ap (λ (i : ℕ). take i c.args.events.now) at ∙ take_whole c.args.events.now) c.loop-event.invariant.1
