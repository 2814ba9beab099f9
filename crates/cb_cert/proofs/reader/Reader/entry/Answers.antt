use Rattle.std.proofs.Common.{arith}
use Rattle.cb_cert.specs.Format.{IsEntry}
use Rattle.cb_cert.proofs.Cutting.{other_entry}
use Rattle.cb_cert.proofs.Moved.{is_bad}
use Rattle.cb_cert.proofs.reader.Reader.entry.Goals as goal

pub returns-then-not-is_between : goal.returns-then-not-is_between
returns-then-not-is_between c =
    let k = c.in-Some.entry in
    let out : ¬ IsEntry c.args.nodes k = λ within. let is = c.is_between.ensures.1 within.0 in let not = c.if-not-is_between.true in cc in
    is_bad c.args.self.now c.next.new.self c.in_ok-line.line.now _ c.in_ok-line.ensures.line
    (other_entry c.in_ok-line.line.now k c.args.nodes ((omega arith), (omega arith)) (omega arith) c.in-Some.ensures.some out) _ c.bad-then-not-is_between.ensures

pub returns-then-entry-gt-MOST_NODES : goal.returns-then-entry-gt-MOST_NODES
returns-then-entry-gt-MOST_NODES c =
    let k = c.in-Some.entry in
    let out : ¬ IsEntry c.args.nodes k = λ within. let low = within.1 in omega (arith, low, c.if-entry-gt-MOST_NODES.true) in
    is_bad c.args.self.now c.next.new.self c.in_ok-line.line.now _ c.in_ok-line.ensures.line
    (other_entry c.in_ok-line.line.now k c.args.nodes ((omega arith), (omega arith)) (omega arith) c.in-Some.ensures.some out) _ c.bad-then-entry-gt-MOST_NODES.ensures
