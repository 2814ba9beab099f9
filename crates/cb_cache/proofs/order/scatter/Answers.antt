use Rattle.std.proofs.Common.{◌∙◌}
use Rattle.std.proofs.lemmas.List.Sorted.{IsPermutation-trans}
use Rattle.cb_cache.proofs.order.scatter.Goals as goal

pub loop-place-preserved : goal.loop-place-preserved
loop-place-preserved g c = record {
  items = IsPermutation-trans _ _ _ c.loop-place.invariant.items c.trade.ensures.items;
  capacity = c.trade.ensures.capacity ∙ c.loop-place.invariant.capacity;
}
