use Rattle.std.proofs.Common.{◌≡◌, ◌≢◌, codes, sym, subst}
use Rattle.cb_levels.specs.Faults.{IsLevelFault}
use Rattle.cb_levels.specs.Steps.{EndsLevels}
use Rattle.cb_levels.proofs.Expecting.{no_end, other_end, spelt, further, exit}
use Rattle.cb_levels.proofs.reader.LevelReader.finish.Goals as goal

pub returns-in_err-line : goal.returns-in_err-line
returns-in_err-line c text levels read =
    let none = c.in_err-line.ensures.none in
    exit (EndsLevels text levels) c.from_residual.result _ c.from_residual.ensures.1
    (subst (IsLevelFault text) (sym none.0) (no_end text levels c.args.self.now read none.1))

pub returns-then-not-is_text : goal.returns-then-not-is_text
returns-then-not-is_text c text levels read =
    let other : c.in_ok-line.line.now ≢ codes "end" = λ is. let yes = c.is_text.ensures.1 is in let not = c.if-not-is_text.true in cc in
    subst (IsLevelFault text) (sym c.bad.ensures) (other_end text levels c.args.self.now read c.next.new.self c.in_ok-line.line.now c.in_ok-line.ensures.line other)

pub returns-in-Some : goal.returns-in-Some
returns-in-Some c text levels read =
    let is : c.in_ok-line.line.now ≡ codes "end" = c.is_text.ensures.0 c.if-not-is_text.false in
    further text levels c.args.self.now read c.next.new.self c.in_ok-line.line.now c.in_ok-line.ensures.line is
    c.in-Some.field-0.now _ c.saturating_add.result c.in-Some.ensures.steps c.saturating_add.ensures

pub returns-in-None : goal.returns-in-None
returns-in-None c text levels read =
    let is : c.in_ok-line.line.now ≡ codes "end" = c.is_text.ensures.0 c.if-not-is_text.false in
    spelt text levels c.args.self.now read c.next.new.self c.in_ok-line.line.now c.in_ok-line.ensures.line is c.in-None.ensures.steps.0
