use Rattle.std.proofs.Common.{List, ℕ, refl, sym, ap, subst}
use Rattle.cb_io.specs.LineReading.{Reading, unread}
use Rattle.cb_alarm.specs.Lines.{log_line_limit}
use Rattle.cb_outcome.specs.LogJobs.{log_limit}
use Rattle.cb_log_commands.specs.Counting.{HasCounted, CountsTaken}
use Rattle.cb_log_commands.specs.Following.{EndsLog}
use Rattle.cb_log_commands.specs.Telling.{Going, wrong_of}
use Rattle.cb_log_commands.specs.declared.stop.LogStop.TheVariants as stops
use Rattle.cb_file_kinds.proofs.Chain.{err_is}
use Rattle.cb_log_commands.proofs.Counted.{counts_begin, takes_nothing}
use Rattle.cb_log_commands.proofs.Following.{reads_nothing, begins, no_memory}
use Rattle.cb_log_commands.proofs.follow.follow_lines.Goals as goal

pub returns-in_err-reader-clause-ends : goal.returns-in_err-reader-clause-ends
returns-in_err-reader-clause-ends g c =
    λ watch before opens.
    let now = g.F.Files.tells c.args.files.now in
    let out = g.O.Sink.tells c.args.out.now in
    let reader = unread c.args.log.now log_line_limit log_limit in
    rw (err_is c.from_residual.result stops.NoMemory c.from_residual.ensures.1)
    (no_memory watch now before reader now out c.args.session.now (begins watch c.args.session.now before out now c.args.log.now opens)
    (record { line_most = refl; total_most = refl; going = refl }) reader now c.args.session.now (record { name = refl; line_most = refl; total_most = refl })
    (reads_nothing now c.args.log.now))

pub returns-clause-ends : goal.returns-clause-ends
returns-clause-ends g c =
    λ watch before opens.
    let now = g.F.Files.tells c.args.files.now in
    let out = g.O.Sink.tells c.args.out.now in
    let going = subst (λ (r : Reading). Going watch now before r now out c.args.session.now) (sym c.in_ok-reader.ensures)
    (begins watch c.args.session.now before out now c.args.log.now opens) in
    subst (λ (n : List ℕ). EndsLog watch n now (g.F.Files.tells c.tell_all-end.new.files) before (g.O.Sink.tells c.tell_all-end.new.out) (wrong_of n c.tell_all-end.result))
    (ap (λ (r : Reading). r.name) c.in_ok-reader.ensures) (c.tell_all-end.ensures.ends watch now before going)

pub returns-in_err-reader-clause-steps : goal.returns-in_err-reader-clause-steps
returns-in_err-reader-clause-steps g c =
    λ watch before wish mode opens.
    let now = g.F.Files.tells c.args.files.now in
    takes_nothing watch.from now now c.args.log.now c.args.steps.now

pub returns-clause-steps : goal.returns-clause-steps
returns-clause-steps g c =
    λ watch before wish mode opens.
    let now = g.F.Files.tells c.args.files.now in
    let out = g.O.Sink.tells c.args.out.now in
    let after = g.F.Files.tells c.tell_all-end.new.files in
    let steps = c.args.steps.now in
    let going = subst (λ (r : Reading). Going watch now before r now out c.args.session.now) (sym c.in_ok-reader.ensures)
    (begins watch c.args.session.now before out now c.args.log.now opens) in
    let counted = subst (λ (r : Reading). HasCounted watch now r steps steps) (sym c.in_ok-reader.ensures) (counts_begin watch wish mode now c.args.log.now steps) in
    subst (λ (n : List ℕ). CountsTaken watch.from n now after steps c.tell_all-end.new.steps) (ap (λ (r : Reading). r.name) c.in_ok-reader.ensures)
    (c.tell_all-end.ensures.steps watch now before steps going counted)
