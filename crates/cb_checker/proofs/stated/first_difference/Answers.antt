use Rattle.std.proofs.Common.{◌≡◌, ◌≤◌, length, subst, inl, inr, arith}
use Rattle.std.proofs.lemmas.Bool.{cases_lt}
use Rattle.cb_checker.specs.Radii.{AreSameAt}
use Rattle.cb_checker.proofs.Tolerated.{same_lists}
use Rattle.cb_checker.proofs.stated.first_difference.Goals as goal

pub loop-place-preserved : goal.loop-place-preserved
loop-place-preserved c = λ k low. elim (cases_lt k c.loop-place.place) [
  | inl before ↦ c.loop-place.invariant k before
  | inr late ↦
      let here : c.loop-place.place ≡ k = omega arith in
      subst (AreSameAt c.args.one.now c.args.other.now) here (c.are_same_at.ensures.0 c.if-not-are_same_at.false)
]

pub returns-clause-none : goal.returns-clause-none
returns-clause-none c =
    let e = c.max-place-end.ensures in
    let done = c.loop-place-test.false in
    let first : length c.args.one.now ≤ c.loop-place.place = omega arith in
    let second : length c.args.other.now ≤ c.loop-place.place = omega arith in
    same_lists c.args.one.now c.args.other.now c.loop-place.place first second c.loop-place.invariant
