use Rattle.std.proofs.Common.{◌≢◌, length, refl}
use Rattle.cb_cert.specs.declared.line.CertificateLine.TheVariants as line
use Rattle.cb_cert.specs.declared.line.Version.TheVariants.{Second}
use Rattle.cb_cert.specs.Ahead.{at_kind}
use Rattle.cb_cert.specs.Format.{nodes_of}
use Rattle.cb_cert.specs.Lines.{claim_lines, line_text}
use Rattle.cb_cert.specs.Steps.{ReadsOrFails}
use Rattle.cb_cert.proofs.Loops.{exit}
use Rattle.cb_cert.proofs.Moved.{is_bad, missed}
use Rattle.cb_cert.proofs.Openings.{no_line, fixed, no_book}
use Rattle.cb_cert.proofs.reader.Reader.second_claim.Goals as goal

pub returns-in_err-kind-clause-lines : goal.returns-in_err-kind-clause-lines
returns-in_err-kind-clause-lines c text before ahead read =
    exit (ReadsOrFails text c.next.new.self before ahead claim_lines (λ x. length (nodes_of x))) c.from_residual.result _ c.from_residual.ensures.1
    (no_line text c.args.self.now before 0 (at_kind Second) ahead read _ c.in_err-kind.ensures.none)

pub returns-then-not-is_text-clause-lines : goal.returns-then-not-is_text-clause-lines
returns-then-not-is_text-clause-lines c text before ahead read =
    let none : c.in_ok-kind.kind.now ≢ line_text line.Book = λ is. let yes = c.is_text.ensures.1 is in let not = c.if-not-is_text.true in cc in
    missed text c.args.self.now before 0 (at_kind Second) ahead (λ met. met ≢ line_text line.Book) read
    (λ l met wrong is stands. no_book 0 l met wrong is stands) c.bad.result
    (is_bad c.args.self.now c.next.new.self c.in_ok-kind.kind.now _ c.in_ok-kind.ensures.line none c.bad.result c.bad.ensures)

pub returns-clause-lines : goal.returns-clause-lines
returns-clause-lines c text before ahead read =
    c.capped.ensures.lines text before ahead
    (fixed text c.args.self.now c.next.new.self c.next.new.self c.in_ok-kind.kind.now before 0 (at_kind Second) ahead read c.in_ok-kind.ensures.line
    line.Book (c.is_text.ensures.0 c.if-not-is_text.false) refl (λ e. cc) tt)
