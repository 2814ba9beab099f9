use Rattle.std.proofs.Common.{arith}
use Rattle.cb_distance.proofs.Far.{short_fits_by_width, differ_good}
use Rattle.cb_distance.proofs.close.first_close_from.Goals as goal

pub first_pair-requires-clause-fits : goal.first_pair-requires-clause-fits
first_pair-requires-clause-fits c =
    short_fits_by_width c.args.codes.now (λ i j. c.args.wanted) (let fits = c.requires.numbered.columns_fit in omega arith)

pub returns-then-differ-clause-none : goal.returns-then-differ-clause-none
returns-then-differ-clause-none c =
    differ_good c.args.codes.now c.args.wanted c.width-width.ensures.all (c.differ.ensures c.if-differ.true) (let few = c.if-wanted-le1.true in omega arith)
