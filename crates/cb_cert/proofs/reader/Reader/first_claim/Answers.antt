use Rattle.std.proofs.Common.{◌≢◌, length, refl}
use Rattle.cb_cert.specs.declared.line.CertificateLine.TheVariants as line
use Rattle.cb_cert.specs.declared.line.Version.TheVariants.{First}
use Rattle.cb_cert.specs.Ahead.{at_kind}
use Rattle.cb_cert.specs.Format.{nodes_of}
use Rattle.cb_cert.specs.Lines.{claim_lines, line_text}
use Rattle.cb_cert.specs.Steps.{ReadsOrFails}
use Rattle.cb_cert.proofs.Loops.{exit}
use Rattle.cb_cert.proofs.Moved.{is_bad, missed}
use Rattle.cb_cert.proofs.Openings.{no_line, fixed, other_kind}
use Rattle.cb_cert.proofs.reader.Reader.first_claim.Goals as goal

pub returns-in_err-kind-clause-lines : goal.returns-in_err-kind-clause-lines
returns-in_err-kind-clause-lines c text before ahead read =
    exit (ReadsOrFails text c.next.new.self before ahead claim_lines (λ x. length (nodes_of x))) c.from_residual.result _ c.from_residual.ensures.1
    (no_line text c.args.self.now before 0 (at_kind First) ahead read _ c.in_err-kind.ensures.none)

pub returns-then-is_text-clause-lines : goal.returns-then-is_text-clause-lines
returns-then-is_text-clause-lines c text before ahead read =
    c.book.ensures.lines text before ahead
    (fixed text c.args.self.now c.next.new.self c.next.new.self c.in_ok-kind.kind.now before 0 (at_kind First) ahead read c.in_ok-kind.ensures.line
    line.Book (c.is_text.ensures.0 c.if-is_text.true) refl (λ e. cc) tt)

pub returns-then-is_text-2-clause-lines : goal.returns-then-is_text-2-clause-lines
returns-then-is_text-2-clause-lines c text before ahead read =
    c.thin.ensures.lines text before ahead
    (fixed text c.args.self.now c.next.new.self c.next.new.self c.in_ok-kind.kind.now before 0 (at_kind First) ahead read c.in_ok-kind.ensures.line
    line.Thin (c.is_text-2.ensures.0 c.if-is_text-2.true) refl (λ e. cc) tt)

pub returns-clause-lines : goal.returns-clause-lines
returns-clause-lines c text before ahead read =
    let no_book : c.in_ok-kind.kind.now ≢ line_text line.Book = λ is. let yes = c.is_text.ensures.1 is in let not = c.if-is_text.false in cc in
    let no_thin : c.in_ok-kind.kind.now ≢ line_text line.Thin = λ is. let yes = c.is_text-2.ensures.1 is in let not = c.if-is_text-2.false in cc in
    missed text c.args.self.now before 0 (at_kind First) ahead (λ met. (met ≢ line_text line.Book) × (met ≢ line_text line.Thin)) read
    (λ l met wrong is stands. other_kind 0 l met wrong is stands) c.bad.result
    (is_bad c.args.self.now c.next.new.self c.in_ok-kind.kind.now _ c.in_ok-kind.ensures.line (no_book, no_thin) c.bad.result c.bad.ensures)
