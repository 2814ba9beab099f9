use Rattle.std.proofs.Common.{◌≡◌, subst, inl, inr, arith}
use Rattle.std.proofs.lemmas.Bool.{cases_lt}
use Rattle.cb_reduce.specs.Alone.{NoneAloneWith}
use Rattle.cb_reduce.specs.Places.{kept_of}
use Rattle.cb_reduce.proofs.Held.{number_is}
use Rattle.cb_reduce.proofs.single.some_told_alone.Goals as goal

pub loop-place-preserved : goal.loop-place-preserved
loop-place-preserved c = λ k d lt. elim (cases_lt k c.loop-place.place-index) [
  | inl before ↦ c.loop-place.invariant k d before
  | inr last ↦
      let here : c.loop-place.place-index ≡ k = omega arith in
      subst (λ i. NoneAloneWith c.args.codes.now.rows (kept_of c.args.rest.now) c.args.column i)
      (number_is c.args.places.now c.loop-place.place-index k 0 d here c.loop-place-test.true)
      (c.in_ok-is_told_alone.ensures.none c.if-branch.false)
]

pub returns-clause-none : goal.returns-clause-none
returns-clause-none c = λ is i there.
    let (k, lt, at) = there in
    let end = c.loop-place-test.false in
    subst (λ p. NoneAloneWith c.args.codes.now.rows (kept_of c.args.rest.now) c.args.column p) at (c.loop-place.invariant k i (omega arith))
