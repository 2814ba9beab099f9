use Rattle.std.proofs.Common.{true, false, replicate, sym, ◌∙◌, arith}
use Rattle.std.proofs.lemmas.List.{ext_get_or, length-replicate, get_or-replicate}
use Rattle.cb_reduce.proofs.single.every_one.Goals as goal

pub returns : goal.returns
returns c =
    let was = c.loop-column.invariant in
    let end = c.loop-column-test.false in
    let long = was.long in
    ext_get_or false c.loop-column.mask (replicate c.args.width true) (was.long ∙ sym (length-replicate c.args.width true))
    (λ k lt. was.set k (omega arith) ∙ sym (get_or-replicate c.args.width k true false (omega arith)))
