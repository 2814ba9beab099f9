use Rattle.std.proofs.Common.{arith}
use Rattle.cb_cert.specs.Format.{IsBetween}
use Rattle.cb_cert.proofs.Cutting.{other_number}
use Rattle.cb_cert.proofs.Moved.{is_bad}
use Rattle.cb_cert.proofs.reader.Reader.number.Goals as goal

pub returns-then-not-is_between : goal.returns-then-not-is_between
returns-then-not-is_between c =
    let k = c.in-Some.number in
    let out : ¬ IsBetween c.args.least c.args.most k = λ within. let is = c.is_between.ensures.1 within in let not = c.if-not-is_between.true in cc in
    is_bad c.args.self.now c.next.new.self c.in_ok-line.line.now _ c.in_ok-line.ensures.line
    (other_number c.args.word.now c.in_ok-line.line.now k c.args.least c.args.most (omega arith) (omega arith) c.in-Some.ensures.some out) _ c.bad-then-not-is_between.ensures
