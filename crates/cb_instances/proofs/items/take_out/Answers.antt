use Rattle.std.proofs.Common.{◌≡◌, sym, subst, ◌∙◌, Some, None, position}
use Rattle.cb_instances.specs.Items.{Loses}
use Rattle.cb_instances.proofs.Losing.{loses_at, loses_none}
use Rattle.cb_instances.proofs.items.take_out.Goals as goal

pub returns-in-Some-clause-loses : goal.returns-in-Some-clause-loses
returns-in-Some-clause-loses g c =
    let xs = c.args.list.now.items in
    let at : position (λ y. g.T.PartialEq.eq y c.args.item) xs ≡ Some c.in-Some.place =
    subst (λ ys. position (λ y. g.T.PartialEq.eq y c.args.item) ys ≡ Some c.in-Some.place) c.deref.ensures.value (sym c.in-Some.ensures) in
    subst (Loses c.args.item xs) (sym c.swap_remove.ensures.items)
    (loses_at g.T.PartialEq.eq c.requires.exact xs c.in-Some.place c.args.item c.swap_remove.result at c.swap_remove.ensures.value)

pub returns-in_default-clause-loses : goal.returns-in_default-clause-loses
returns-in_default-clause-loses g c =
    loses_none g.T.PartialEq.eq c.requires.exact c.args.list.now.items c.args.item
    (subst (λ ys. position (λ y. g.T.PartialEq.eq y c.args.item) ys ≡ None) c.deref.ensures.value (sym c.in_default.ensures))
