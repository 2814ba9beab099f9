use Rattle.std.proofs.Common.{◌≡◌, take}
use Rattle.cb_instances.specs.Forgotten.{ForgetsRow}
use Rattle.cb_instances.specs.Net.{inverse_of}
use Rattle.cb_instances.proofs.forget.forget_row.Given as goal

abbrev pub invariant-loop-at : goal.invariant-loop-at
invariant-loop-at l = record {
  forgets : ForgetsRow l.initial.slots.slots l.slots.slots l.id (inverse_of l.model l.rel) (take l.at-index l.list);
  next : l.slots.vacant_key ≡ l.initial.slots.vacant_key;
}
