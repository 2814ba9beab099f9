use Rattle.std.proofs.Common.{◌≡◌, ◌+◌, subst}
use Rattle.std.specs.Prelude.{IfSome}
use Rattle.cb_compact.specs.Compact.{differing_before}
use Rattle.cb_compact.proofs.compact.CompactRow.nth_differing.Goals as goal

pub returns-in-Some-whole-clause-nth : goal.returns-in-Some-whole-clause-nth
returns-in-Some-whole-clause-nth c =
    let found = c.nth_apart.result in
    let n = c.args.n in
    subst (λ v. IfSome found (λ k. differing_before k v c.args.other.now + 1 ≡ n)) c.in-Some.ensures
    (subst (λ w. IfSome found (λ k. differing_before k c.in-Some.one.now w + 1 ≡ n)) c.in-Some-whole.ensures c.nth_apart.ensures.nth)
