use Rattle.std.proofs.Common.{◌≡◌, subst, inl, inr, arith}
use Rattle.std.proofs.lemmas.Bool.{cases_lt}
use Rattle.cb_levels.specs.Trails.{IsNodeAt}
use Rattle.cb_levels.proofs.Following.{one_node_at, lists_nowhere}
use Rattle.cb_levels.proofs.followed.first_of.Goals as goal

pub loop-position-preserved : goal.loop-position-preserved
loop-position-preserved c = λ before low is. elim (cases_lt before c.loop-position.position) [
  | inl early ↦ c.loop-position.invariant before early is
  | inr late ↦
      let levels = c.args.levels.now in
      let here : c.loop-position.position ≡ before = omega arith in
      let at : IsNodeAt levels before c.node_at.result.now = subst (λ k. IsNodeAt levels k c.node_at.result.now) here c.node_at.ensures in
      let same = one_node_at levels before c.node_at.result.now c.args.node.now at is in
      absurd (let yes = c.is_same.ensures.1 same in let no = c.if-is_same.false in cc)
]

pub returns-clause-none : goal.returns-clause-none
returns-clause-none c =
    lists_nowhere c.args.levels.now c.args.node.now c.loop-position.position
    (let done = c.loop-position-test.false in let end = c.len-position-end.ensures in omega arith) c.loop-position.invariant
