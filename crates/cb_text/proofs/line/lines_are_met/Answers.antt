use Rattle.std.proofs.Common.{sym, subst, refl, arith}
use Rattle.cb_text.specs.Lines.{lines_of, MeetsFrom}
use Rattle.cb_text.proofs.LineLemmas.{met_are_lines, lines_are_met}
use Rattle.cb_text.proofs.line.lines_are_met.Goals as goal

pub returns : goal.returns
returns c = λ text met. (
  met_are_lines text 0 1 met,
  λ is. subst (MeetsFrom text 0 1) (sym is) (lines_are_met text (lines_of text) 0 1 (omega arith) refl),
)
