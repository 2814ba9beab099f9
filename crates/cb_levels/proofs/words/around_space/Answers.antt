use Rattle.std.proofs.Common.{◌+◌, sym, subst, take}
use Rattle.std.proofs.lemmas.List.{take_rest}
use Rattle.cb_levels.specs.Numbers.{AreAroundSpace}
use Rattle.cb_levels.proofs.Parting.{around, around_none}
use Rattle.cb_levels.proofs.words.around_space.Goals as goal

pub returns-in_err-at-clause-none : goal.returns-in_err-at-clause-none
returns-in_err-at-clause-none c = rw c.from_residual.ensures (around_none c.args.bytes.now c.in_err-at.ensures)

pub returns-clause-some : goal.returns-clause-some
returns-clause-some c =
    let bytes = c.args.bytes.now in
    let at = c.in_ok-at.at in
    subst (AreAroundSpace bytes (take at bytes)) (sym (take_rest bytes (at + 1))) (around bytes at c.in_ok-at.ensures)
