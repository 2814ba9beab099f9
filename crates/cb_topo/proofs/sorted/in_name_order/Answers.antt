use Rattle.std.proofs.Common.{map, ap, ◌∙◌, rules}
use Rattle.std.proofs.lemmas.List.{take_all}
use Rattle.cb_model.proofs.Rising.{name_cmp_total}
use Rattle.cb_topo.specs.Sorted.{name_given, id_named}
use Rattle.cb_topo.proofs.ByNames.{in_order}
use Rattle.cb_topo.proofs.Sorting.{sorted_by}
use Rattle.cb_topo.proofs.sorted.in_name_order.Goals as goal

pub returns : goal.returns
returns g c =
    let sorted = c.sort_unstable_by.new.self.items in
    let by = sorted_by name_given name_cmp_total sorted c.sort_unstable_by.ensures.sorted (λ a r f k. search rules) in
    let all = take_all c.loop-one.one-index c.deref-one-items.result.now c.loop-one-test.false ∙ c.deref-one-items.ensures.value in
    in_order c.args.named.items sorted c.loop-one.ids.items c.sort_unstable_by.ensures.permutation c.requires by (c.loop-one.invariant ∙ ap (map id_named) all)
