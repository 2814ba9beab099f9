use Rattle.std.proofs.Common.{sym, subst, ◌∙◌}
use Rattle.cb_pool.specs.declared.slot.Slot.{Slot}
use Rattle.cb_pool.specs.Pool.{IsTaken}
use Rattle.cb_cache.specs.Cached.{Cached}
use Rattle.cb_cache.specs.Numbers.{IsProblemNumber}
use Rattle.cb_cache.specs.Reached.{HasSlot}
use Rattle.cb_cache.proofs.Slots.{slot_read, some_read, inside}
use Rattle.cb_cache.proofs.cache.Cache.slot.Goals as goal

pub unwrap-requires : goal.unwrap-requires
unwrap-requires c =
    let i = c.args.problem.0 in
    let has = c.self.invariant.right.all i (subst (λ (k : Cached). IsProblemNumber k.graph c.args.problem) (sym c.self.view_is) c.requires) in
    some_read c.index.result.now has.0 (slot_read c.self.inside.store.rows.slots.items i c.index.result.now has.0 c.index.ensures has.1)

pub returns-clause-slot : goal.returns-clause-slot
returns-clause-slot c =
    let i = c.args.problem.0 in
    let has = c.self.invariant.right.all i (subst (λ (k : Cached). IsProblemNumber k.graph c.args.problem) (sym c.self.view_is) c.requires) in
    let same = inside has.0 c.unwrap.result (sym (slot_read c.self.inside.store.rows.slots.items i c.index.result.now has.0 c.index.ensures has.1) ∙ c.unwrap.ensures) in
    subst (λ (k : Cached). HasSlot k.slots i c.unwrap.result) c.self.view_is (subst (λ (s : Slot). HasSlot c.self.inside.store.rows.slots.items i s) same has.1)

pub returns-clause-taken : goal.returns-clause-taken
returns-clause-taken c =
    let i = c.args.problem.0 in
    let has = c.self.invariant.right.all i (subst (λ (k : Cached). IsProblemNumber k.graph c.args.problem) (sym c.self.view_is) c.requires) in
    let same = inside has.0 c.unwrap.result (sym (slot_read c.self.inside.store.rows.slots.items i c.index.result.now has.0 c.index.ensures has.1) ∙ c.unwrap.ensures) in
    let row = c.self.invariant.right.rows i has.0 has.1 in
    let taken : IsTaken c.self.inside.store.rows.pool has.0 = row.1.0 in
    subst (λ (k : Cached). IsTaken k.pool c.unwrap.result) c.self.view_is (subst (λ (s : Slot). IsTaken c.self.inside.store.rows.pool s) same taken)

pub returns-clause-own : goal.returns-clause-own
returns-clause-own c = λ other has_other.
    let i = c.args.problem.0 in
    let has = c.self.invariant.right.all i (subst (λ (k : Cached). IsProblemNumber k.graph c.args.problem) (sym c.self.view_is) c.requires) in
    let same = inside has.0 c.unwrap.result (sym (slot_read c.self.inside.store.rows.slots.items i c.index.result.now has.0 c.index.ensures has.1) ∙ c.unwrap.ensures) in
    let here = subst (λ (s : Slot). HasSlot c.self.inside.store.rows.slots.items i s) same has.1 in
    c.self.invariant.right.apart other i c.unwrap.result (subst (λ (k : Cached). HasSlot k.slots other c.unwrap.result) (sym c.self.view_is) has_other) here
