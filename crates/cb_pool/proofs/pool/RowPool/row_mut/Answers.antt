use Rattle.std.proofs.Common.{◌≡◌, ◌*◌, ◌+◌, ◌-◌, ℕ, List, ◌++◌, length, take, drop, refl, ap, subst, ◌∙◌, arith}
use Rattle.std.specs.Simd.Lanes.{put_chunk}
use Rattle.std.specs.Vec.{with_items_from}
use Rattle.cb_pool.specs.Pool.{Pool, row_at, slot_row, with_row}
use Rattle.cb_pool.specs.Kept.{spare_of}
use Rattle.cb_pool.proofs.Placed.{written_over, put_is}
use Rattle.cb_pool.proofs.Rows.{row_length}
use Rattle.cb_pool.proofs.Views.{pool_of, slot_fits}
use Rattle.cb_pool.proofs.pool.RowPool.row_mut.Goals as goal

pub overflow_add-start : goal.overflow_add-start
overflow_add-start c =
    let fits = slot_fits c.self.inside.width c.self.inside.words c.self.inside.slots c.args.self.now c.args.slot c.self.invariant c.self.view_is c.requires in
    let long = c.self.inside.words.ok in
    let small = c.self.inside.words.small in
    omega arith

pub slice_mut-requires-clause-in_bounds : goal.slice_mut-requires-clause-in_bounds
slice_mut-requires-clause-in_bounds c =
    let fits = slot_fits c.self.inside.width c.self.inside.words c.self.inside.slots c.args.self.now c.args.slot c.self.invariant c.self.view_is c.requires in
    let long = c.self.inside.words.ok.0 in
    omega arith

-- what the caller leaves at the reference is put into the words
pub written : (c : goal.After-self-2-1) (w : List ℕ) → (with_items_from c.self.inside.words (c.self.inside.width * c.args.slot.0) w).items ≡ put_chunk (c.self.inside.width * c.args.slot.0) c.self.inside.words.items w
written c w =
    let items = c.self.inside.words.items in
    let over = written_over items (c.self.inside.width * c.args.slot.0) w in
    ap (λ n. take n (over ++ drop (length over) items)) c.self.inside.words.ok.0 ∙ put_is items (c.self.inside.width * c.args.slot.0) w

-- the words are those of the row
lent : (c : goal.After-self-2-1) → c.slice_mut.result.now ≡ row_at c.self.inside.width c.self.inside.words.items c.args.slot.0
lent c =
    let start = c.self.inside.width * c.args.slot.0 in
    let e : start + c.self.inside.width - start ≡ c.self.inside.width = omega arith in
    c.slice_mut.ensures.value ∙ ap (λ n. take n (drop start c.self.inside.words.items)) e

pub returns : goal.returns
returns c =
    let inside = c.self.inside in
    let fits = slot_fits inside.width inside.words inside.slots c.args.self.now c.args.slot c.self.invariant c.self.view_is c.requires in
    let long : length c.slice_mut.result.now ≡ inside.width = ap length (lent c) ∙ row_length inside.width c.args.slot.0 inside.words.items fits in
    let width : inside.width ≡ c.args.self.now.width = ap (λ (p : Pool). p.width) c.self.view_is in (
      (
        refl,
        λ w. subst (λ (q : Pool). pool_of inside.width (with_items_from inside.words (inside.width * c.args.slot.0) w).items inside.slots.taken.items (spare_of inside.slots) ≡ with_row q c.args.slot w) c.self.view_is
            (ap (λ ws. pool_of inside.width ws inside.slots.taken.items (spare_of inside.slots)) (written c w)),
      ),
      record {
        writes_back = tt;
        row = (c.requires, lent c ∙ ap (λ (q : Pool). slot_row q c.args.slot) c.self.view_is);
        width = long ∙ width;
      },
    )
