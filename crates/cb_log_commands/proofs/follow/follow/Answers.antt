use Rattle.std.proofs.Common.{List, ℕ, subst}
use Rattle.cb_log_commands.specs.Counting.{CountsTaken}
use Rattle.cb_log_commands.proofs.follow.follow.Goals as goal

pub returns-in-Err-clause-steps : goal.returns-in-Err-clause-steps
returns-in-Err-clause-steps g c = λ watch before wish mode opens.
    subst (λ (n : List ℕ). CountsTaken watch.from n (g.F.Files.tells c.args.files.now) (g.F.Files.tells c.follow_lines.new.files) c.args.steps.now c.follow_lines.new.steps)
    c.as_str.ensures (c.follow_lines.ensures.steps watch before wish mode opens)
