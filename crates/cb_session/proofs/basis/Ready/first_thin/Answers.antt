use Rattle.cb_session.proofs.Bases.{kept_is_good}
use Rattle.cb_session.proofs.basis.Ready.first_thin.Goals as goal

pub returns-then-keeps-clause-none : goal.returns-then-keeps-clause-none
returns-then-keeps-clause-none c =
    let (n, is) = c.requires in
    kept_is_good n c.args.self.now c.args.wanted is (c.keeps.ensures.0 c.if-keeps.true)

pub returns-clause-none : goal.returns-clause-none
returns-clause-none c = rw (c.codes.ensures.rows, c.codes.ensures.width) at c.first_close.ensures.none
