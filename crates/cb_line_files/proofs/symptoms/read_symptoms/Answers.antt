use Rattle.std.proofs.Common.{arith, subst, sym}
use Rattle.cb_text.specs.Lines.{lines_of}
use Rattle.cb_line_files.proofs.Listed.{AreNodesOf, one_more, all_listed}
use Rattle.cb_text.proofs.LinesRead.{ReadTo, read_more, read_all, number_within}
use Rattle.cb_line_files.proofs.symptoms.read_symptoms.Goals as goal

pub overflow_add-number : goal.overflow_add-number
overflow_add-number c =
    let within = number_within c.args.text.now _ c.loop-line.number _ c.loop-line.invariant c.in-Some-line.line.now _ c.in-Some-line.ensures.steps in
    omega (arith, within, c.well_formed)

pub loop-line-preserved : goal.loop-line-preserved
loop-line-preserved c =
    let added = c.in_ok-read_line.ensures in
    read_more c.args.text.now _ c.loop-line.number _ c.loop-line.invariant c.in-Some-line.line.now _ c.in-Some-line.ensures.steps
    (AreNodesOf c.read_line.new.raised.keys) (one_more c.loop-line.invariant.before _ _ c.in-Some-line.line.now added.good added.added)

pub returns-clause-listed : goal.returns-clause-listed
returns-clause-listed c =
    let nodes = c.loop-line.raised.keys in
    let read = subst (λ rest. ReadTo c.args.text.now (AreNodesOf nodes) rest c.loop-line.number) c.in-None.ensures.steps.0 c.loop-line.invariant in
    let listed = c.in_ok-in_order.ensures in
    let are = subst (λ ns. AreNodesOf ns (lines_of c.args.text.now)) (sym listed.list) (read_all c.args.text.now (AreNodesOf nodes) c.loop-line.number read) in
    all_listed c.args.text.now c.in_ok-in_order.field-0 c.in_default.ensures.short listed.rise are
