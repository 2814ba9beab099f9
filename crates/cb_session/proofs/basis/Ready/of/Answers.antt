use Rattle.cb_session.proofs.Bases.{is_ready}
use Rattle.cb_session.proofs.basis.Ready.of.Goals as goal

pub returns-in-Ok : goal.returns-in-Ok
returns-in-Ok c =
    let made = c.in_ok-matrix.ensures in
    is_ready c.args.cache.now.graph c.args.wish (record { matrix = c.in_ok-matrix.matrix; book = c.in-Ok.book; decoder = c.in-Ok.decoder }) made.matrix made.few_columns made.few_groups
    (rw (c.codes.ensures.rows, c.codes.ensures.width) at c.in-Ok.ensures.book) (rw c.codes.ensures.rows at c.in-Ok.ensures.decoder)
