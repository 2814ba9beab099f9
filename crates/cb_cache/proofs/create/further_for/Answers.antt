use Rattle.std.proofs.Common.{◌≡◌, ◌++◌, ◌-◌, ℕ, List, Option, None, length, replicate, subst, arith}
use Rattle.cb_pool.specs.declared.slot.Slot.{Slot}
use Rattle.cb_topo.proofs.OneCapacity.{one_capacity}
use Rattle.cb_cache.specs.declared.create.Further.{Further}
use Rattle.cb_cache.specs.declared.rows.Rows.{Rows}
use Rattle.cb_cache.specs.Created.{IsFurtherFor, IsPoolFor}
use Rattle.cb_cache.proofs.create.further_for.Goals as goal

pub returns-clause-further : goal.returns-clause-further
returns-clause-further c =
    let n = c.args.topology.now in
    let edit = c.args.accepted.now.edit.now in
    let more = c.events_within-more.result in
    let capacity = c.node_capacity_after-capacity.result in
    let rows : Rows = record { slots = c.args.rows.now.slots; pool = c.pool_for.new.pool; scratch = c.args.rows.now.scratch } in
    let further : Further = record { slots = c.in_ok-slots_for.field-0; scratch = c.in_ok-scratch_for.field-0; agenda = c.in_ok-agenda_for.field-0; pool = c.in_ok-pool.pool } in (
      c.events_within-more.ensures.typed,
      more,
      c.events_within-more.ensures.events,
      λ new applies.
          let is = one_capacity n c.events_within-more.ensures.typed edit capacity (length new.nodes) c.node_capacity_after-capacity.ensures applies.node_capacity in
          subst (λ (k : ℕ). IsFurtherFor k more rows further) is (record {
            slots = subst (λ (xs : List (Option Slot)). c.in_ok-slots_for.field-0.items ≡ xs ++ replicate (capacity - length xs) None) c.deref.ensures.value c.in_ok-slots_for.ensures;
            scratch = c.in_ok-scratch_for.ensures;
            agenda = c.in_ok-agenda_for.ensures.capacity;
            pool = subst (λ (width : ℕ). IsPoolFor width more c.pool_for.new.pool c.in_ok-pool.pool) (let e = c.div_ceil.ensures in omega arith) c.in_ok-pool.ensures.capacity;
          }),
    )
