use Rattle.std.proofs.Common.{◌≢◌, ◌∙◌, ap, refl}
use Rattle.cb_cert.specs.Ahead.{at_side}
use Rattle.cb_cert.specs.Lines.{line_text, side_lines}
use Rattle.cb_cert.specs.Steps.{ReadsOrFails}
use Rattle.cb_cert.specs.declared.line.CertificateLine.TheVariants as line
use Rattle.cb_cert.proofs.Loops.{exit}
use Rattle.cb_cert.proofs.Openings.{no_line, counted, counted_not, only_side, fixed}
use Rattle.cb_cert.proofs.reader.Reader.side.Goals as goal

pub returns-in_err-line : goal.returns-in_err-line
returns-in_err-line c text before ahead read =
    exit (ReadsOrFails text c.next.new.self before ahead side_lines (λ x. c.args.nodes)) c.from_residual.result _ c.from_residual.ensures.1
    (no_line text c.args.self.now before c.args.nodes at_side ahead read _ c.in_err-line.ensures.none)

pub returns-then-is_text : goal.returns-then-is_text
returns-then-is_text c text before ahead read =
    fixed text c.args.self.now c.next.new.self c.next.new.self c.in_ok-line.line.now before c.args.nodes at_side ahead read c.in_ok-line.ensures.line
    line.Quiet (c.is_text.ensures.0 c.if-is_text.true) refl (λ e. cc) tt

pub returns-in_err-length : goal.returns-in_err-length
returns-in_err-length c text before ahead read =
    let other : c.in_ok-line.line.now ≢ line_text line.Quiet = λ is. let yes = c.is_text.ensures.1 is in let not = c.if-is_text.false in cc in
    exit (ReadsOrFails text c.span_of.new.self before ahead side_lines (λ x. c.args.nodes)) c.from_residual-in_err-length.result _ c.from_residual-in_err-length.ensures.1
    (counted_not text c.args.self.now c.next.new.self c.span_of.new.self c.in_ok-line.line.now before c.args.nodes at_side ahead read c.in_ok-line.ensures.line
    (λ l stands is. only_side c.args.nodes l stands (λ e. other (is ∙ ap line_text e))) (λ k may. may) _ c.in_err-length.ensures)

pub returns-in_err-entries : goal.returns-in_err-entries
returns-in_err-entries c text before ahead read =
    exit (ReadsOrFails text c.entries.new.self before ahead side_lines (λ x. c.args.nodes)) c.from_residual-in_err-entries.result _ c.from_residual-in_err-entries.ensures.1
    (c.in_err-entries.ensures text before ahead
    (counted text c.args.self.now c.next.new.self c.span_of.new.self c.in_ok-line.line.now before c.args.nodes at_side ahead read c.in_ok-line.ensures.line
    c.in_ok-length.length c.in_ok-length.ensures (λ k may. may)))

pub returns : goal.returns
returns c text before ahead read =
    c.in_ok-entries.ensures text before ahead
    (counted text c.args.self.now c.next.new.self c.span_of.new.self c.in_ok-line.line.now before c.args.nodes at_side ahead read c.in_ok-line.ensures.line
    c.in_ok-length.length c.in_ok-length.ensures (λ k may. may))
