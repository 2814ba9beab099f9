use Rattle.std.proofs.lemmas.List.{take_rest}
use Rattle.cb_io.proofs.LineSearchLemmas.{lf_at, no_lf}
use Rattle.cb_io.proofs.line_end.find_lf.Goals as goal

pub returns-in_err-at-clause-none : goal.returns-in_err-at-clause-none
returns-in_err-at-clause-none c = rw c.from_residual.ensures (no_lf c.args.bytes.now c.args.searched c.requires.within c.requires.none (rw take_rest at c.in_err-at.ensures))

pub returns-clause-lf : goal.returns-clause-lf
returns-clause-lf c = lf_at c.args.bytes.now c.args.searched c.requires.within c.requires.none c.in_ok-at.at (rw take_rest at c.in_ok-at.ensures)
