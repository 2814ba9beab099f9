use Rattle.cb_checker.proofs.Observed.{bad_column, good_columns}
use Rattle.cb_checker.proofs.columns.check_columns.Goals as goal

pub returns-in-Some-clause-judges : goal.returns-in-Some-clause-judges
returns-in-Some-clause-judges c = λ whole known same.
    bad_column c.args.topology.now c.args.ids.now whole known c.args.columns.now same c.in-Some.place c.in-Some.ensures.bad

pub returns-in-None-clause-judges : goal.returns-in-None-clause-judges
returns-in-None-clause-judges c = λ whole known same.
    good_columns c.args.topology.now c.args.ids.now whole known c.args.columns.now same c.in-None.ensures.good
