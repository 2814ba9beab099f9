use Rattle.std.proofs.Common.{sym, subst, ◌∙◌, arith}
use Rattle.cb_pool.specs.declared.slot.Slot.{Slot}
use Rattle.cb_pool.specs.Pool.{IsTaken}
use Rattle.cb_cache.specs.Reached.{HasSlot}
use Rattle.cb_cache.proofs.Slots.{slot_read, slot_low, some_read, inside}
use Rattle.cb_cache.proofs.rows.Rows.row.Goals as goal

pub index-requires : goal.index-requires
index-requires c = let is = c.requires.1 in let low = slot_low c.args.self.now.slots.items c.args.node.0 is.0 is.1 in omega arith

pub unwrap-slot-requires : goal.unwrap-slot-requires
unwrap-slot-requires c =
    let is = c.requires.1 in
    some_read c.index.result.now is.0 (slot_read c.args.self.now.slots.items c.args.node.0 c.index.result.now is.0 c.index.ensures is.1)

pub row-requires : goal.row-requires
row-requires c =
    let is = c.requires.1 in
    let same = inside is.0 c.unwrap-slot.result (sym (slot_read c.args.self.now.slots.items c.args.node.0 c.index.result.now is.0 c.index.ensures is.1) ∙ c.unwrap-slot.ensures) in
    subst (λ (s : Slot). IsTaken c.args.self.now.pool s) same is.2.0

pub returns-clause-row : goal.returns-clause-row
returns-clause-row c =
    let is = c.requires.1 in
    let same = inside is.0 c.unwrap-slot.result (sym (slot_read c.args.self.now.slots.items c.args.node.0 c.index.result.now is.0 c.index.ensures is.1) ∙ c.unwrap-slot.ensures) in
    (c.unwrap-slot.result, subst (λ (s : Slot). HasSlot c.args.self.now.slots.items c.args.node.0 s) same is.1, c.row.ensures.row)
