use Rattle.cb_session.proofs.Bases.{is_ready_by}
use Rattle.cb_session.proofs.basis.Ready.by.Goals as goal

pub returns-clause-ready : goal.returns-clause-ready
returns-clause-ready c =
    let made = c.in_ok-matrix.ensures in
    is_ready_by c.args.cache.now.graph (record { matrix = c.in_ok-matrix.matrix; book = c.args.book; decoder = c.in_ok-decoder.decoder }) made.matrix made.few_columns made.few_groups
    c.requires.few c.requires.radii (rw (c.columns.ensures, c.codes.ensures.rows) at c.in_ok-decoder.ensures)
