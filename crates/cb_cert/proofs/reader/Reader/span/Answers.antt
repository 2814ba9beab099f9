use Rattle.cb_cert.specs.Ahead.{at_span}
use Rattle.cb_cert.specs.Lines.{span_lines}
use Rattle.cb_cert.specs.Steps.{ReadsOrFails}
use Rattle.cb_cert.proofs.Loops.{exit}
use Rattle.cb_cert.proofs.Openings.{no_line, counted, counted_not, only_span}
use Rattle.cb_cert.proofs.reader.Reader.span.Goals as goal

pub returns-in_err-line : goal.returns-in_err-line
returns-in_err-line c text before ahead read =
    exit (ReadsOrFails text c.next.new.self before ahead span_lines (λ x. c.args.nodes)) c.from_residual.result _ c.from_residual.ensures.1
    (no_line text c.args.self.now before c.args.nodes at_span ahead read _ c.in_err-line.ensures.none)

pub returns-in_err-length : goal.returns-in_err-length
returns-in_err-length c text before ahead read =
    exit (ReadsOrFails text c.span_of.new.self before ahead span_lines (λ x. c.args.nodes)) c.from_residual-in_err-length.result _ c.from_residual-in_err-length.ensures.1
    (counted_not text c.args.self.now c.next.new.self c.span_of.new.self c.in_ok-line.line.now before c.args.nodes at_span ahead read c.in_ok-line.ensures.line
    (λ l stands is. only_span c.args.nodes l stands) (λ k may. may) _ c.in_err-length.ensures)

pub returns : goal.returns
returns c text before ahead read =
    c.entries.ensures text before ahead
    (counted text c.args.self.now c.next.new.self c.span_of.new.self c.in_ok-line.line.now before c.args.nodes at_span ahead read c.in_ok-line.ensures.line
    c.in_ok-length.length c.in_ok-length.ensures (λ k may. may))
