use Rattle.std.proofs.Common.{sym, subst}
use Rattle.cb_coding.specs.Distance.{HaveWidth}
use Rattle.cb_codes.proofs.Alike.{alike_there}
use Rattle.cb_codes.proofs.each_once.is_there.Goals as goal

pub returns : goal.returns
returns c =
    let rows = c.args.codes.now.rows in
    alike_there rows c.args.place c.row.result.now c.args.code.now (subst (λ width. HaveWidth width rows) (sym c.requires.width) c.width-width.ensures.all) c.row.ensures
    c.distance_below.result c.distance_below.ensures c.is_some.result c.is_some.ensures
