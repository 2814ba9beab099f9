use Rattle.std.proofs.Common.{◌≡◌, ◌≤◌, ◌*◌, ◌∙◌, ℕ, length, sym, subst, arith}
use Rattle.cb_bits.specs.Bits.{words_for}
use Rattle.cb_pool.specs.declared.slot.Slot.{Slot}
use Rattle.cb_pool.specs.Pool.{SlotHasRow}
use Rattle.cb_topo.specs.Numbered.{IsWhole}
use Rattle.cb_graph.specs.Edges.{EdgeAt}
use Rattle.cb_cache.specs.Cached.{Cached, IsReachedRow}
use Rattle.cb_cache.specs.Reached.{HasSlot}
use Rattle.cb_cache.proofs.Sizes.{caused_row}
use Rattle.cb_cache.proofs.Slots.{one_slot}
use Rattle.cb_cache.proofs.Visiting.{row_reached}
use Rattle.cb_cache.proofs.cache.Cache.row.Goals as goal

pub returns-clause-reached : goal.returns-clause-reached
returns-clause-reached c =
    let i = c.args.problem.0 in
    let slot = c.slot.result in
    let has = subst (λ (k : Cached). HasSlot k.slots i slot) (sym c.self.view_is) c.slot.ensures.slot in
    let inside = c.self.inside in
    let reached = row_reached (EdgeAt inside.graph) i inside.store.rows.pool slot c.row.result.now c.row.ensures.row (c.self.invariant.right.rows i slot has) in
    subst (λ (k : Cached). IsReachedRow k.graph i c.row.result.now) c.self.view_is reached

pub returns-clause-caused : goal.returns-clause-caused
returns-clause-caused c = λ name named.
    let i = c.args.problem.0 in
    let slot = c.slot.result in
    let has = subst (λ (k : Cached). HasSlot k.slots i slot) (sym c.self.view_is) c.slot.ensures.slot in
    let inside = c.self.inside in
    let reached = row_reached (EdgeAt inside.graph) i inside.store.rows.pool slot c.row.result.now c.row.ensures.row (c.self.invariant.right.rows i slot has) in
    let now = c.args.self.now.graph in
    caused_row now (subst (λ (k : Cached). IsWhole k.graph) c.self.view_is c.self.invariant.whole) i name c.row.result.now named
    (subst (λ (k : Cached). IsReachedRow k.graph i c.row.result.now) c.self.view_is reached)

pub returns-clause-slot : goal.returns-clause-slot
returns-clause-slot c = λ slot has.
    let i = c.args.problem.0 in
    let same = one_slot c.args.self.now.slots i c.slot.result slot c.slot.ensures.slot has in
    subst (λ (s : Slot). SlotHasRow c.args.self.now.pool s c.row.result.now) same
    (subst (λ (k : Cached). SlotHasRow k.pool c.slot.result c.row.result.now) c.self.view_is c.row.ensures.row)

fits : (n m : ℕ) → m ≡ words_for n → n ≤ 64 * m
fits n m is = omega (arith, is)

pub returns-clause-bits : goal.returns-clause-bits
returns-clause-bits c =
    let n = c.self.inside.graph in
    let width : length c.row.result.now ≡ words_for (length n.nodes) = c.row.ensures.width ∙ c.self.invariant.capacity.width in
    subst (λ (k : Cached). length k.graph.nodes ≤ 64 * length c.row.result.now) c.self.view_is (fits (length n.nodes) (length c.row.result.now) width)
