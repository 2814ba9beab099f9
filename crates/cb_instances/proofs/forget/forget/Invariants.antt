use Rattle.std.proofs.Common.{◌≡◌, take}
use Rattle.cb_instances.specs.Forgotten.{ForgetsAll}
use Rattle.cb_instances.proofs.forget.forget.Given as goal

abbrev pub invariant-loop-row : goal.invariant-loop-row
invariant-loop-row l = record {
  forgets : ForgetsAll l.model l.initial.slots.slots l.slots.slots l.id (take l.row-index l.links.rows.items);
  next : l.slots.vacant_key ≡ l.initial.slots.vacant_key;
}
