use Rattle.std.proofs.Common.{◌≡◌, ◌≢◌, sym, subst}
use Rattle.cb_cert.specs.Prefixes.{IsFault}
use Rattle.cb_cert.specs.Lines.{line_text}
use Rattle.cb_cert.specs.Steps.{SpellsOrFails}
use Rattle.cb_cert.specs.declared.line.CertificateLine.TheVariants as line
use Rattle.cb_cert.proofs.Ending.{no_end, other_end, spelt, further}
use Rattle.cb_cert.proofs.Loops.{exit}
use Rattle.cb_cert.proofs.reader.Reader.finish.Goals as goal

pub returns-in_err-line : goal.returns-in_err-line
returns-in_err-line c text claim n read =
    let none = c.in_err-line.ensures.none in
    exit (SpellsOrFails text claim) c.from_residual.result _ c.from_residual.ensures.1
    (subst (IsFault text) (sym none.0) (no_end text claim n c.args.self.now read none.1))

pub returns-then-not-is_text : goal.returns-then-not-is_text
returns-then-not-is_text c text claim n read =
    let other : c.in_ok-line.line.now ≢ line_text line.End = λ is. let yes = c.is_text.ensures.1 is in let not = c.if-not-is_text.true in cc in
    subst (IsFault text) (sym c.bad.ensures) (other_end text claim n c.args.self.now read c.next.new.self c.in_ok-line.line.now c.in_ok-line.ensures.line other)

pub returns-in-Some : goal.returns-in-Some
returns-in-Some c text claim n read =
    let is : c.in_ok-line.line.now ≡ line_text line.End = c.is_text.ensures.0 c.if-not-is_text.false in
    further text claim n c.args.self.now read c.next.new.self c.in_ok-line.line.now c.in_ok-line.ensures.line is
    c.in-Some.field-0.now _ c.saturating_add.result c.in-Some.ensures.steps c.saturating_add.ensures

pub returns-in-None : goal.returns-in-None
returns-in-None c text claim n read =
    let is : c.in_ok-line.line.now ≡ line_text line.End = c.is_text.ensures.0 c.if-not-is_text.false in
    spelt text claim n c.args.self.now read c.next.new.self c.in_ok-line.line.now c.in_ok-line.ensures.line is c.in-None.ensures.steps.0
