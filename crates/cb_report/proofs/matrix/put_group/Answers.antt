use Rattle.std.proofs.Common.{◌++◌, codes, List, ℕ, subst}
use Rattle.std.specs.List.{flat_map}
use Rattle.cb_report.specs.Gathered.{Gathers}
use Rattle.cb_report.specs.Lines.{spaced_text}
use Rattle.cb_report.specs.MatrixText.{code_text, quiet_word}
use Rattle.cb_report.proofs.Gathers.{gathers_more}
use Rattle.cb_report.proofs.matrix.put_group.Goals as goal

pub returns-clause-text : goal.returns-clause-text
returns-clause-text g c =
    let start = g.O.Sink.tells c.args.out.now in
    let begun = g.O.Sink.tells c.put.new.out in
    let coded = g.O.Sink.tells c.put_code.new.out in
    let worded = g.O.Sink.tells c.put-2.new.out in
    let listed = g.O.Sink.tells c.put_members.new.out in
    let old = c.args.gathering.now in
    let code = code_text c.args.code.now in
    let word = quiet_word c.args.group.now.quiet in
    let members = flat_map spaced_text c.args.group.now.members in
    let a = gathers_more start begun coded old c.put.new.self c.put_code.new.gathering (codes "  group ") code c.put.ensures c.put_code.ensures.text in
    let b = gathers_more start coded worded old c.put_code.new.gathering c.put-2.new.self (codes "  group " ++ code) word a
    (subst (λ (w : List ℕ). Gathers coded worded c.put_code.new.gathering c.put-2.new.self w) c.quiet_word.ensures c.put-2.ensures)
    in
    let d = gathers_more start worded listed old c.put-2.new.self c.put_members.new.gathering (codes "  group " ++ code ++ word) members b c.put_members.ensures in
    gathers_more start listed (g.O.Sink.tells c.put-3.new.out) old c.put_members.new.gathering c.put-3.new.self (codes "  group " ++ code ++ word ++ members) (codes "\n") d
    c.put-3.ensures
