use Rattle.std.proofs.Common.{◌≡◌, ◌+◌, ◌-◌, true, slice_set, subst, sym, ap, ◌∙◌, arith}
use Rattle.cb_reduce.specs.Alone.{SomeAlone, NoneAlone}
use Rattle.cb_reduce.specs.Places.{kept_of}
use Rattle.cb_reduce.proofs.Standing.{IsStanding, all_stand, still_stands, left_out, all_stood, set_back}
use Rattle.cb_reduce.proofs.single.kept_alone.Goals as goal

pub loop-column-init : goal.loop-column-init
loop-column-init c = all_stand c.args.width c.args.codes.now.rows c.in_ok-standing.standing c.in_ok-standing.ensures

pub loop-column-preserved-in-Some-true : goal.loop-column-preserved-in-Some-true
loop-column-preserved-in-Some-true c =
    let rows = c.args.codes.now.rows in
    let standing = c.loop-column.standing in
    let m = c.loop-column.column - 1 in
    let long = c.loop-column.invariant.long in
    let here : c.loop-column.column ≡ m + 1 = omega arith in
    let was = subst (λ n. IsStanding c.args.width rows n standing) here c.loop-column.invariant in
    let some = subst (λ mask. SomeAlone rows (kept_of mask) m) c.clear.ensures (c.in-Some-true.ensures.some c.in-Some-true.field-0-test) in
    let back = c.set.ensures ∙ (ap (λ mask. slice_set mask m true) c.clear.ensures ∙ set_back m standing (omega arith) (was.early m (omega arith))) in
    subst (λ mask. IsStanding c.args.width rows m mask) (sym back) (still_stands c.args.width rows m (omega arith) standing was some)

pub loop-column-preserved : goal.loop-column-preserved
loop-column-preserved c =
    let rows = c.args.codes.now.rows in
    let standing = c.loop-column.standing in
    let m = c.loop-column.column - 1 in
    let long = c.loop-column.invariant.long in
    let here : c.loop-column.column ≡ m + 1 = omega arith in
    let was = subst (λ n. IsStanding c.args.width rows n standing) here c.loop-column.invariant in
    let none = subst (λ mask. NoneAlone rows (kept_of mask) m) c.clear.ensures (c.in-Some-false.ensures.none c.in-Some-false.field-0-test) in
    subst (λ mask. IsStanding c.args.width rows m mask) (sym c.clear.ensures) (left_out c.args.width rows m (omega arith) standing was none)

pub returns-clause-choice : goal.returns-clause-choice
returns-clause-choice c =
    let rows = c.args.codes.now.rows in
    let done : c.loop-column.column ≡ 0 = omega arith in
    all_stood c.args.width rows c.loop-column.standing (subst (λ n. IsStanding c.args.width rows n c.loop-column.standing) done c.loop-column.invariant)
