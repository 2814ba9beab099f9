use Rattle.std.proofs.Common.{arith}
use Rattle.std.specs.List.{All}
use Rattle.std.proofs.lemmas.List.Elements.{All-push}
use Rattle.cb_text.specs.Lines.{IsShort}
use Rattle.cb_text.proofs.LinesRead.{read_more, number_within}
use Rattle.cb_text.proofs.line.first_long.Goals as goal

pub overflow_add-number : goal.overflow_add-number
overflow_add-number c =
    let within = number_within c.args.text.now _ c.loop-line.number _ c.loop-line.invariant c.in-Some.line.now _ c.in-Some.ensures.steps in
    omega (arith, within, c.well_formed)

pub loop-line-preserved : goal.loop-line-preserved
loop-line-preserved c =
    read_more c.args.text.now _ c.loop-line.number _ c.loop-line.invariant c.in-Some.line.now _ c.in-Some.ensures.steps (All IsShort)
    (λ short. All-push IsShort c.loop-line.invariant.before c.in-Some.line.now short c.if-line-gt-LONGEST_LINE.false)
