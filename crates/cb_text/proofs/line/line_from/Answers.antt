use Rattle.std.proofs.Common.{arith}
use Rattle.std.proofs.lemmas.List.{take_rest}
use Rattle.cb_text.proofs.LineLemmas.{lines_of-line, line_to_lf, line_to_end}
use Rattle.cb_text.proofs.line.line_from.Goals as goal

pub returns-in-Some-clause-first : goal.returns-in-Some-clause-first
returns-in-Some-clause-first c =
    let found = rw take_rest at c.in-Some.ensures in
    lines_of-line c.args.text.now c.args.from (omega arith) _ (line_to_lf c.args.text.now c.args.from c.in-Some.length found)

pub returns-in-None-clause-line : goal.returns-in-None-clause-line
returns-in-None-clause-line c = line_to_end c.args.text.now c.args.from c.requires (rw take_rest at c.in-None.ensures)

pub returns-in-None-clause-first : goal.returns-in-None-clause-first
returns-in-None-clause-first c =
    let found = rw take_rest at c.in-None.ensures in
    lines_of-line c.args.text.now c.args.from (omega arith) _ (line_to_end c.args.text.now c.args.from c.requires found)
