use Rattle.std.proofs.Common.{◌≡◌, ◌∙◌, ℕ, List, refl, ap, subst}
use Rattle.cb_gen.specs.Log.{log_text}
use Rattle.cb_log.specs.Basis.{Mode, wanted}
use Rattle.cb_report.specs.declared.summary.Summary.{Summary}
use Rattle.cb_outcome.specs.Grown.{SumsUpLog, grow_wish}
use Rattle.cb_topo.specs.Numbered.{topology_of}
use Rattle.cb_outcome.specs.Costs.{CountsLog}
use Rattle.cb_alarm.specs.Lines.{log_lines}
use Rattle.cb_file_kinds.proofs.Chain.{if_ok_more}
use Rattle.cb_log_commands.proofs.Counted.{none_counts, log_counts}
use Rattle.cb_log_commands.proofs.Summing.{none_summed}
use Rattle.cb_log_commands.proofs.grow.summary_of.Goals as goal

pub returns-clause-gives : goal.returns-clause-gives
returns-clause-gives g c =
    let t = topology_of c.args.topology in
    let session = c.in_ok-session.session in
    let new = c.sum_up-end.new.summary in
    let made = c.new-summary.ensures.fields in
    let asked = c.in_ok-end.ensures.asked in
    let log : c.deref.result.now ≡ log_text c.args.sites c.args.start = c.deref.ensures.value ∙ c.in_ok-log.ensures in
    let sums = c.in_ok-end.ensures.sums t c.in_ok-session.ensures.regular c.in_ok-session.ensures.stands c.new-summary.ensures.none
    (ap (λ (s : Summary). s.records) made) in
    let by_mode = subst (λ (m : Mode). SumsUpLog t m session.windows.length c.deref.result.now new) c.in_ok-session.ensures.mode sums in
    let by_length = subst (λ (w : ℕ). SumsUpLog t (wanted grow_wish) w c.deref.result.now new) c.in_ok-session.ensures.length by_mode in
    if_ok_more c.grow_text.result _ _ (λ text is. (
      new,
      record {
        sites_are = asked.sites ∙ ap (λ (s : Summary). s.sites) made;
        start_is = asked.start ∙ ap (λ (s : Summary). s.start) made;
        log = subst (λ (l : List ℕ). SumsUpLog t (wanted grow_wish) 40 l new) log by_length;
      },
      is,
    )) c.grow_text.ensures

pub returns-in_err-session-clause-steps : goal.returns-in_err-session-clause-steps
returns-in_err-session-clause-steps g c =
    let t = topology_of c.args.topology in
    let log = log_text c.args.sites c.args.start in
    log_counts t log c.args.steps.now c.open_session.new.steps c.open_session.new.steps c.open_session.ensures.cost
    (none_counts t (log_lines log) c.open_session.new.steps c.open_session.new.steps refl)

pub returns-in_err-end-clause-steps : goal.returns-in_err-end-clause-steps
returns-in_err-end-clause-steps g c =
    let t = topology_of c.args.topology in
    let session = c.in_ok-session.session in
    let made = c.new-summary.ensures.fields in
    let log : c.deref.result.now ≡ log_text c.args.sites c.args.start = c.deref.ensures.value ∙ c.in_ok-log.ensures in
    let none = none_summed t session c.new-summary.result c.in_ok-session.ensures.stands c.new-summary.ensures.none (ap (λ (s : Summary). s.records) made) in
    let counts = c.sum_up-end.ensures.counts t grow_wish c.in_ok-session.ensures.regular c.in_ok-session.ensures.mode none in
    subst (λ (l : List ℕ). CountsLog t l c.args.steps.now c.sum_up-end.new.steps) log
    (log_counts t c.deref.result.now c.args.steps.now c.open_session.new.steps c.sum_up-end.new.steps c.open_session.ensures.cost counts)

pub returns-clause-steps : goal.returns-clause-steps
returns-clause-steps g c =
    let t = topology_of c.args.topology in
    let session = c.in_ok-session.session in
    let made = c.new-summary.ensures.fields in
    let log : c.deref.result.now ≡ log_text c.args.sites c.args.start = c.deref.ensures.value ∙ c.in_ok-log.ensures in
    let none = none_summed t session c.new-summary.result c.in_ok-session.ensures.stands c.new-summary.ensures.none (ap (λ (s : Summary). s.records) made) in
    let counts = c.sum_up-end.ensures.counts t grow_wish c.in_ok-session.ensures.regular c.in_ok-session.ensures.mode none in
    subst (λ (l : List ℕ). CountsLog t l c.args.steps.now c.sum_up-end.new.steps) log
    (log_counts t c.deref.result.now c.args.steps.now c.open_session.new.steps c.sum_up-end.new.steps c.open_session.ensures.cost counts)
