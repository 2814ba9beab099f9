use Rattle.std.proofs.Common.{sym, subst, arith}
use Rattle.cb_compact.specs.Compact.{AreBefore}
use Rattle.cb_compact.proofs.Ones.{next_is, none_is}
use Rattle.cb_compact.proofs.places.place_after.Goals as goal

pub returns-then-before-places-clause-next : goal.returns-then-before-places-clause-next
returns-then-before-places-clause-next c = λ row are passed.
    let from = c.args.from in
    let before = c.args.before in
    next_is c.args.places.now row are from before (subst (λ ps. AreBefore ps from before) (sym are) passed) c.if-before-places.true

pub returns-else-before-places-clause-none : goal.returns-else-before-places-clause-none
returns-else-before-places-clause-none c = λ row are passed.
    let from = c.args.from in
    let before = c.args.before in
    none_is c.args.places.now row are from before (subst (λ ps. AreBefore ps from before) (sym are) passed) (let past = c.if-before-places.false in omega arith)
