use Rattle.cb_reduce.proofs.Forcing.{both_suffice}
use Rattle.cb_reduce.proofs.force.force_apart.Goals as goal

pub returns-clause-enough : goal.returns-clause-enough
returns-clause-enough c =
    both_suffice c.args.codes.now.rows c.args.first c.args.second c.row-a.result.now c.row-b.result.now c.row-a.ensures c.row-b.ensures
    c.args.forced.now c.mark_alone.new.marked c.mark_alone-2.new.marked c.mark_alone.ensures c.mark_alone-2.ensures c.args.distance c.requires.distance
