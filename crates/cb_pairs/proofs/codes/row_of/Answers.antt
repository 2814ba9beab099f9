use Rattle.std.proofs.Common.{List, Bool, ap, ◌∙◌}
use Rattle.cb_pairs.specs.Guesses.{united}
use Rattle.cb_pairs.proofs.Rows.{united_none}
use Rattle.cb_pairs.proofs.codes.row_of.Goals as goal

pub returns : goal.returns
returns c =
    let code = c.args.code.now in
    c.add.ensures ∙ (ap (λ (row : List Bool). united row code) c.in_ok-row.ensures ∙ united_none code c.len.result c.len.ensures)
