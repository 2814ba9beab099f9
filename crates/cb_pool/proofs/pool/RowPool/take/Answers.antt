use Rattle.std.proofs.Common.{◌≡◌, ◌*◌, ◌+◌, ◌≤◌, ℕ, List, length, sym, ap, subst, ◌∙◌, arith}
use Rattle.std.specs.Vec.{with_items}
use Rattle.std.proofs.lemmas.List.{with_items_is}
use Rattle.cb_pool.specs.Pool.{Pool, SameOthers, row_at}
use Rattle.cb_pool.specs.Kept.{spare_of}
use Rattle.cb_pool.proofs.Views.{pool_of, others_kept}
use Rattle.cb_pool.proofs.pool.RowPool.take.Goals as goal

pub invariant_of-self : goal.invariant_of-self
invariant_of-self c =
    let len : c.len.result ≡ length c.self.inside.slots.taken.items = c.len.ensures ∙ c.self.inside.slots.taken.ok.0 in
    let block : length c.add_row.new.words.items ≡ c.self.inside.width * length c.self.inside.slots.taken.items + c.self.inside.width =
    c.add_row.ensures.words ∙ ap (λ n. c.self.inside.width * n + c.self.inside.width) len in
    let capacity : c.take_next.new.self.capacity ≡ c.self.inside.slots.capacity = c.take_next.ensures.capacity in
    let fits : c.self.inside.width * c.take_next.new.self.capacity ≡ c.self.inside.width * c.self.inside.slots.capacity = ap (λ n. c.self.inside.width * n) capacity in
    let next : c.self.inside.width * length c.take_next.new.self.taken.items ≡ c.self.inside.width * (length c.self.inside.slots.taken.items + 1) =
    ap (λ n. c.self.inside.width * n) c.take_next.ensures.slots in
    record {
      block = omega (arith, block, next);
      capacity = omega (arith, fits, c.add_row.ensures.capacity, c.self.invariant.capacity);
      slots = c.take_next.ensures.kept;
    }

pub returns-then-is_empty-clause-others : goal.returns-then-is_empty-clause-others
returns-then-is_empty-clause-others c =
    let inside = c.self.inside in
    subst (λ (q : Pool). SameOthers q (pool_of inside.width c.add_row.new.words.items c.take_next.new.self.taken.items (spare_of c.take_next.new.self)) c.take_next.result) c.self.view_is
    (others_kept inside.width (spare_of inside.slots) (spare_of c.take_next.new.self) inside.words.items c.add_row.new.words.items inside.slots.taken.items c.take_next.new.self.taken.items
    c.take_next.result c.self.invariant.block c.take_next.ensures.takes
    (λ j apart fits. c.add_row.ensures.clears.others j (λ e. apart (e ∙ c.len.ensures ∙ inside.slots.taken.ok.0 ∙ sym c.take_next.ensures.next)) fits))

pub returns-clause-others : goal.returns-clause-others
returns-clause-others c =
    let inside = c.self.inside in
    let after : List ℕ = (with_items inside.words c.wipe_row.new.words).items in
    let is : after ≡ c.wipe_row.new.words = with_items_is inside.words c.wipe_row.new.words (c.wipe_row.auto.words ∙ c.deref_mut.ensures.len) in
    subst (λ (q : Pool). SameOthers q (pool_of inside.width after c.take_again-slot.new.self.taken.items (spare_of c.take_again-slot.new.self)) c.take_again-slot.result) c.self.view_is
    (others_kept inside.width (spare_of inside.slots) (spare_of c.take_again-slot.new.self) inside.words.items after inside.slots.taken.items c.take_again-slot.new.self.taken.items
    c.take_again-slot.result c.self.invariant.block c.take_again-slot.ensures.takes
    (λ j apart fits. ap (λ ws. row_at inside.width ws j) is
    ∙ c.wipe_row.ensures.others j apart (subst (λ (ws : List ℕ). inside.width * j + inside.width ≤ length ws) (sym c.deref_mut.ensures.value) fits)
    ∙ ap (λ ws. row_at inside.width ws j) c.deref_mut.ensures.value))
