use Rattle.std.proofs.Common.{◌≡◌, ◌<◌, ◌+◌, ◌⊎◌, List, ℕ, length, subst, inl, inr, arith}
use Rattle.cb_compact.specs.Compact.{ones_of}
use Rattle.cb_compact.proofs.Cursors.{none_further}
use Rattle.cb_compact.proofs.Merging.{head_of, step_apart, step_together, none_after, next_at, none_through}
use Rattle.cb_compact.proofs.merged.Merged.next.Goals.{then-self, else-self+then-self-2}
use Rattle.cb_compact.proofs.merged.Merged.next.Goals as goal

pub returns-then-one-other-clause-lists : goal.returns-then-one-other-clause-lists
returns-then-one-other-clause-lists c =
    let v = c.args.left.now in
    let w = c.args.right.now in
    let lists = c.loop-self.self in
    let was = c.loop-self.invariant.lists in
    let one = head_of lists.left.now (ones_of v) lists.left_passed c.position_or_end-one.result was.left c.position_or_end-one.ensures.there c.position_or_end-one.ensures.before_end c.position_or_end-one.ensures.end in
    let other = head_of lists.right.now (ones_of w) lists.right_passed c.position_or_end-other.result was.right c.position_or_end-other.ensures.there c.position_or_end-other.ensures.before_end c.position_or_end-other.ensures.end in
    let step = step_apart v w c.loop-self.from lists.left_passed lists.right_passed c.position_or_end-one.result c.position_or_end-other.result c.requires.same was.left_passed was.right_passed one other
    c.min-place.result c.from.result c.from-in-loop-self.result c.min-place.ensures c.from.ensures c.from-in-loop-self.ensures c.if-one-other.true
    in
    record { left = was.left; right = was.right; left_passed = step.left; right_passed = step.right }

pub returns-then-one-other-clause-next : goal.returns-then-one-other-clause-next
returns-then-one-other-clause-next c =
    let v = c.args.left.now in
    let w = c.args.right.now in
    let lists = c.loop-self.self in
    let was = c.loop-self.invariant.lists in
    let one = head_of lists.left.now (ones_of v) lists.left_passed c.position_or_end-one.result was.left c.position_or_end-one.ensures.there c.position_or_end-one.ensures.before_end c.position_or_end-one.ensures.end in
    let other = head_of lists.right.now (ones_of w) lists.right_passed c.position_or_end-other.result was.right c.position_or_end-other.ensures.there c.position_or_end-other.ensures.before_end c.position_or_end-other.ensures.end in
    let step = step_apart v w c.loop-self.from lists.left_passed lists.right_passed c.position_or_end-one.result c.position_or_end-other.result c.requires.same was.left_passed was.right_passed one other
    c.min-place.result c.from.result c.from-in-loop-self.result c.min-place.ensures c.from.ensures c.from-in-loop-self.ensures c.if-one-other.true
    in
    next_at v w c.args.from.now c.loop-self.from (lists.left_passed + c.from.result) (lists.right_passed + c.from-in-loop-self.result) c.min-place.result c.loop-self.invariant.on c.loop-self.invariant.none step

some_left : (a b v w : List ℕ) (i j : ℕ) → a ≡ v → b ≡ w → (i < length a) ⊎ (j < length b) → (i < length v) ⊎ (j < length w)
some_left a b v w i j e e' some = subst (λ u. (i < length u) ⊎ (j < length w)) e (subst (λ u. (i < length a) ⊎ (j < length u)) e' some)

pub loop-self-smaller : goal.loop-self-smaller
loop-self-smaller c =
    let v = c.args.left.now in
    let w = c.args.right.now in
    let lists = c.loop-self.self in
    let was = c.loop-self.invariant.lists in
    let one = head_of lists.left.now (ones_of v) lists.left_passed c.position_or_end-one.result was.left c.position_or_end-one.ensures.there c.position_or_end-one.ensures.before_end c.position_or_end-one.ensures.end in
    let other = head_of lists.right.now (ones_of w) lists.right_passed c.position_or_end-other.result was.right c.position_or_end-other.ensures.there c.position_or_end-other.ensures.before_end c.position_or_end-other.ensures.end in
    let some : (lists.left_passed < length lists.left.now) ⊎ (lists.right_passed < length lists.right.now) =
    elim c.if-self.branch [ then-self t ↦ inl t.if-self.true | else-self+then-self-2 t ↦ inr t.if-self-2.true ]
    in
    let step = step_together v w c.loop-self.from lists.left_passed lists.right_passed c.position_or_end-one.result c.position_or_end-other.result c.requires.same was.left_passed was.right_passed one other
    c.min-place.result c.from.result c.from-in-loop-self.result c.min-place.ensures c.from.ensures c.from-in-loop-self.ensures c.if-one-other.false
    (some_left lists.left.now lists.right.now (ones_of v) (ones_of w) lists.left_passed lists.right_passed was.left was.right some)
    in
    let on = step.on in
    let within = step.within in
    omega arith

pub loop-self-preserved : goal.loop-self-preserved
loop-self-preserved c =
    let v = c.args.left.now in
    let w = c.args.right.now in
    let lists = c.loop-self.self in
    let was = c.loop-self.invariant.lists in
    let one = head_of lists.left.now (ones_of v) lists.left_passed c.position_or_end-one.result was.left c.position_or_end-one.ensures.there c.position_or_end-one.ensures.before_end c.position_or_end-one.ensures.end in
    let other = head_of lists.right.now (ones_of w) lists.right_passed c.position_or_end-other.result was.right c.position_or_end-other.ensures.there c.position_or_end-other.ensures.before_end c.position_or_end-other.ensures.end in
    let some : (lists.left_passed < length lists.left.now) ⊎ (lists.right_passed < length lists.right.now) =
    elim c.if-self.branch [ then-self t ↦ inl t.if-self.true | else-self+then-self-2 t ↦ inr t.if-self-2.true ]
    in
    let step = step_together v w c.loop-self.from lists.left_passed lists.right_passed c.position_or_end-one.result c.position_or_end-other.result c.requires.same was.left_passed was.right_passed one other
    c.min-place.result c.from.result c.from-in-loop-self.result c.min-place.ensures c.from.ensures c.from-in-loop-self.ensures c.if-one-other.false
    (some_left lists.left.now lists.right.now (ones_of v) (ones_of w) lists.left_passed lists.right_passed was.left was.right some)
    in
    let on = step.on in
    let low = c.loop-self.invariant.on in
    record {
      on = omega arith;
      none = none_through v w c.args.from.now c.loop-self.from (lists.left_passed + c.from.result) (lists.right_passed + c.from-in-loop-self.result) c.min-place.result c.loop-self.invariant.none step;
      lists = record { left = was.left; right = was.right; left_passed = step.left; right_passed = step.right };
    }

pub returns-clause-none : goal.returns-clause-none
returns-clause-none c =
    let v = c.args.left.now in
    let w = c.args.right.now in
    let lists = c.loop-self.self in
    let was = c.loop-self.invariant.lists in
    none_further v w c.args.from.now c.loop-self.from c.loop-self.invariant.none
    (none_after v w lists.left.now lists.right.now c.loop-self.from lists.left_passed lists.right_passed was.left was.right was.left_passed was.right_passed c.if-self.false c.if-self-2.false)
