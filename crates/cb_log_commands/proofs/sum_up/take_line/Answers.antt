use Rattle.std.proofs.Common.{◌∙◌, subst, inl, inr}
use Rattle.cb_alarm.specs.Lines.{NumberedLine, ComesTo}
use Rattle.cb_gen.proofs.Going.{on_ok_more}
use Rattle.cb_session.specs.State.{network_of}
use Rattle.cb_log_commands.proofs.LineCosts.{every_line_cost}
use Rattle.cb_log_commands.specs.Counting.{CountsLine}
use Rattle.cb_log_commands.proofs.Summing.{CountsRecord, one_more_summed, record_keeps, record_one, record_none}
use Rattle.cb_log_commands.proofs.sum_up.take_line.Goals as goal
use Rattle.cb_log_commands.proofs.sum_up.take_line.Goals.{then-is_record+in_ok-count_record, else-is_record}

pub returns-clause-takes : goal.returns-clause-takes
returns-clause-takes g c =
    let events = c.in_ok-events.events in
    let bytes = c.args.bytes.now in
    let old = c.args.summary.now in
    let mid = c.if-is_record.summary in
    let way : CountsRecord bytes events old mid = elim c.if-is_record.branch [
      | then-is_record+in_ok-count_record w ↦ inl (c.is_record.ensures.0 w.if-is_record.true, w.summary-is ∙ w.in_ok-count_record.ensures.counts)
      | else-is_record w ↦ inr (λ is. let yes = c.is_record.ensures.1 is in let not = w.if-is_record.false in cc, w.summary-is)
    ] in
    let counted = c.count_all.ensures.alone.records in
    let (entry, comes) = c.in_ok-events.ensures.comes in
    on_ok_more c.count_all.result _ _ (λ counts opening before regular has.
    one_more_summed opening before c.args.number bytes c.args.session.now c.step.new.self old c.count_all.new.summary has c.in_ok-events.ensures.mode
    c.in_ok-events.ensures.length entry (subst (λ (l : NumberedLine). ComesTo l entry) c.log_line.ensures.line comes) events
    (λ entries stands. c.in_ok-events.ensures.gives opening entries entry regular comes stands)
    (λ entries stands. c.in_ok-events.ensures.stands opening entries entry regular comes stands)
    (λ earlier is. counts earlier (record_keeps bytes events old mid way earlier is))
    (λ is. counted ∙ record_one bytes events old mid way is)
    (λ none. counted ∙ record_none bytes events old mid way none)) c.count_all.ensures.counts

pub returns-in_err-events-clause-counts : goal.returns-in_err-events-clause-counts
returns-in_err-events-clause-counts g c =
    subst (λ (l : NumberedLine). CountsLine (network_of c.args.session.now) l c.args.steps.now c.step.new.steps) c.log_line.ensures.line
    (every_line_cost c.step.result _ c.args.session.now.mode (network_of c.args.session.now) c.args.steps.now c.step.new.steps c.step.ensures.cost c.step.ensures.steps c.step.ensures.regular)

pub returns-in_err-count_record-clause-counts : goal.returns-in_err-count_record-clause-counts
returns-in_err-count_record-clause-counts g c =
    subst (λ (l : NumberedLine). CountsLine (network_of c.args.session.now) l c.args.steps.now c.step.new.steps) c.log_line.ensures.line
    (every_line_cost c.step.result _ c.args.session.now.mode (network_of c.args.session.now) c.args.steps.now c.step.new.steps c.step.ensures.cost c.step.ensures.steps c.step.ensures.regular)

pub returns-clause-counts : goal.returns-clause-counts
returns-clause-counts g c =
    subst (λ (l : NumberedLine). CountsLine (network_of c.args.session.now) l c.args.steps.now c.step.new.steps) c.log_line.ensures.line
    (every_line_cost c.step.result _ c.args.session.now.mode (network_of c.args.session.now) c.args.steps.now c.step.new.steps c.step.ensures.cost c.step.ensures.steps c.step.ensures.regular)
