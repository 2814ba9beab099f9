use Rattle.std.proofs.Common.{arith}
use Rattle.std.proofs.KnownBytes.{Appends-trans}
use Rattle.cb_io.proofs.Reported.{WritesPrefix-first, WritesPrefix-second}
use Rattle.cb_report.proofs.Writing.{on_ok_more, on_err_more}
use Rattle.cb_report.proofs.text.write_both.Goals as goal

pub returns-in-Ok-clause-all : goal.returns-in-Ok-clause-all
returns-in-Ok-clause-all g c =
    on_ok_more c.write.result _ _ (λ second. Appends-trans _ _ _ c.args.bytes.now c.args.matrix c.in-Ok.ensures.all second) c.write.ensures.all

pub returns-in-Ok-clause-prefix : goal.returns-in-Ok-clause-prefix
returns-in-Ok-clause-prefix g c =
    WritesPrefix-second (g.O.Sink.tells c.args.out.now) (g.O.Sink.tells c.write_all.new.sink) (g.O.Sink.tells c.write.new.out) c.args.bytes.now c.args.matrix
    c.in-Ok.ensures.all c.write.ensures.prefix

pub returns-in-Ok-clause-counts : goal.returns-in-Ok-clause-counts
returns-in-Ok-clause-counts g c = let first = c.in-Ok.ensures.counts in let second = c.write.ensures.counts in omega (arith, first, second)

pub returns-in-Ok-clause-failed : goal.returns-in-Ok-clause-failed
returns-in-Ok-clause-failed g c =
    let first = c.in-Ok.ensures.counts in
    on_err_more c.write.result _ _ (λ second. omega (arith, first, second)) c.write.ensures.failed

pub returns-in-Err-clause-prefix : goal.returns-in-Err-clause-prefix
returns-in-Err-clause-prefix g c =
    WritesPrefix-first (g.O.Sink.tells c.args.out.now) (g.O.Sink.tells c.write_all.new.sink) c.args.bytes.now c.args.matrix c.in-Err.ensures.prefix
