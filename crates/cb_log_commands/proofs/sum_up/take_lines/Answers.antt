use Rattle.std.proofs.Common.{◌≡◌, ◌∙◌, ◌+◌, ◌++◌, ◌∷◌, [], ℕ, List, append_assoc, length, arith, sym, subst, ap}
use Rattle.cb_alarm.specs.Lines.{numbered_line}
use Rattle.cb_text.proofs.LinesRead.{ReadTo, read_all, read_more, number_within}
use Rattle.cb_session.specs.State.{network_of}
use Rattle.cb_log_commands.specs.Counting.{CountsLine}
use Rattle.cb_log_commands.specs.Summing.{HasSummedUp}
use Rattle.cb_log_commands.proofs.Counted.{StepsSoFar, steps_more, steps_prefix, steps_all}
use Rattle.cb_log_commands.proofs.Summing.{SumsSoFar, so_far_more}
use Rattle.cb_log_commands.proofs.sum_up.take_lines.Goals as goal

pub overflow_add-number : goal.overflow_add-number
overflow_add-number g c =
    let within = number_within c.args.log.now _ c.loop-line.number _ c.loop-line.invariant c.in-Some.line.now _ c.in-Some.ensures.steps in
    omega (arith, within, c.well_formed)

pub loop-line-preserved : goal.loop-line-preserved
loop-line-preserved g c =
    let read = c.loop-line.invariant in
    let line = c.in-Some.line.now in
    let old = c.args.session.now in
    let mid = c.loop-line.session in
    let new = c.take_line.new.session in
    let summary = c.take_line.new.summary in
    let number : c.loop-line.number + 1 ≡ length read.before + 1 = ap (λ (n : ℕ). n + 1) read.number_is in
    read_more c.args.log.now _ c.loop-line.number _ read line _ c.in-Some.ensures.steps
    (λ before. SumsSoFar old c.args.summary.now new summary before × StepsSoFar old c.args.summary.now c.args.steps.now c.take_line.new.steps before)
    (λ so. (
      so_far_more old mid new c.args.summary.now c.loop-line.summary summary read.before line so.0
          c.in_ok-take_line.ensures.asked c.in_ok-take_line.ensures.mode c.in_ok-take_line.ensures.length
          (λ opening earlier regular has.
          let taken = c.in_ok-take_line.ensures.takes opening earlier regular has in
          subst (λ (n : ℕ). HasSummedUp opening (earlier ++ numbered_line (n, line) ∷ []) new summary) number taken),
      steps_more old mid c.args.summary.now c.loop-line.summary c.args.steps.now c.loop-line.steps c.take_line.new.steps read.before line so.1 so.0.mode so.0.takes
          (subst (λ (n : ℕ). CountsLine (network_of mid) (numbered_line (n, line)) c.loop-line.steps c.take_line.new.steps) number c.in_ok-take_line.ensures.counts),
    ))

pub returns-in_err-take_line-clause-counts : goal.returns-in_err-take_line-clause-counts
returns-in_err-take_line-clause-counts g c =
    let read = c.loop-line.invariant in
    let so = read.holds in
    let line = c.in-Some.line.now in
    let old = c.args.session.now in
    let mid = c.loop-line.session in
    let number : c.loop-line.number + 1 ≡ length read.before + 1 = ap (λ (n : ℕ). n + 1) read.number_is in
    let counts = subst (λ (n : ℕ). CountsLine (network_of mid) (numbered_line (n, line)) c.loop-line.steps c.take_line.new.steps) number c.take_line.ensures.counts in
    let more = steps_more old mid c.args.summary.now c.loop-line.summary c.args.steps.now c.loop-line.steps c.take_line.new.steps read.before line so.1 so.0.mode
    so.0.takes counts in
    let whole = ap (λ (ls : List (List ℕ)). read.before ++ ls) (sym c.in-Some.ensures.steps) ∙ read.whole in
    steps_prefix old c.args.summary.now c.args.steps.now c.take_line.new.steps c.args.log.now (read.before ++ line ∷ []) _
    (append_assoc read.before (line ∷ []) _ ∙ whole) more

pub returns-clause-counts : goal.returns-clause-counts
returns-clause-counts g c =
    let old = c.args.session.now in
    let summary = c.args.summary.now in
    let read = subst (λ (ls : List (List ℕ)). ReadTo c.args.log.now
    (λ before. SumsSoFar old summary c.loop-line.session c.loop-line.summary before × StepsSoFar old summary c.args.steps.now c.loop-line.steps before) ls
    c.loop-line.number) c.in-None.ensures.steps.0 c.loop-line.invariant in
    steps_all old summary c.args.steps.now c.loop-line.steps c.args.log.now
    (read_all c.args.log.now (λ before. SumsSoFar old summary c.loop-line.session c.loop-line.summary before
    × StepsSoFar old summary c.args.steps.now c.loop-line.steps before) c.loop-line.number read).1
