use Rattle.std.proofs.Common.{sym, subst}
use Rattle.cb_codes.specs.Grouped.{FitsTogether}
use Rattle.cb_checker.proofs.Grouping.{adds_coded}
use Rattle.cb_checker.proofs.spans.add_problem.Goals as goal

pub add-requires : goal.add-requires
add-requires c = record { sound = subst (λ w. FitsTogether w c.args.grouping.now) (sym c.in_ok-code.ensures.width) c.requires.sound }

pub returns : goal.returns
returns c =
    adds_coded c.args.topology.now c.args.columns.now c.args.node c.args.marks.now.listed c.args.grouping.now c.add.new.self
    (record { name = c.in_ok-name.name; code = c.in_ok-code.code }) c.add.result
    (record { named = c.in_ok-name.ensures; code = c.in_ok-code.ensures })
    c.add.ensures.added c.add.ensures.sound
