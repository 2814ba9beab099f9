use Rattle.std.proofs.Common.{◌≡◌, ◌∙◌, ◌∷◌, arith, sym, ap, subst}
use Rattle.std.specs.Prelude.{IfErr}
use Rattle.cb_text.proofs.LineLemmas.{lines_are_few}
use Rattle.cb_levels.specs.Faults.{IsLevelFault}
use Rattle.cb_levels.specs.Text.{level_line_text}
use Rattle.cb_levels.specs.declared.line.LevelLine.TheVariants as line
use Rattle.cb_levels.proofs.Expecting.{empty, begun, exit}
use Rattle.cb_levels.proofs.reader.LevelReader.after_header.Goals as goal

pub returns-in_err-header-clause-fault : goal.returns-in_err-header-clause-fault
returns-in_err-header-clause-fault c =
    let none = c.in_err-header.ensures.none in
    exit (λ r. IfErr r (IsLevelFault c.args.text.now)) c.from_residual.result _ c.from_residual.ensures.1
    (subst (IsLevelFault c.args.text.now) (sym none.0) (empty c.args.text.now (sym c.lines.ensures ∙ none.1)))

pub returns-then-is_text-clause-reader : goal.returns-then-is_text-clause-reader
returns-then-is_text-clause-reader c =
    let reads = c.in_ok-header.ensures.line in
    let is : c.in_ok-header.header.now ≡ level_line_text line.Header = c.is_text.ensures.0 c.if-is_text.true in
    begun c.args.text.now c.next.new.self (sym c.lines.ensures ∙ (reads.lines_are ∙ ap (λ l. l ∷ c.next.new.self.lines) is)) (omega (arith, reads.number_is))
    (omega (arith, lines_are_few c.args.text.now, c.well_formed))
