use Rattle.std.proofs.Common.{◌≡◌, ◌≤◌, ◌<◌, ℕ, length, subst, sym, arith}
use Rattle.std.proofs.lemmas.Bool.{false≢true}
use Rattle.cb_graph.specs.Walks.{CoversInstances}
use Rattle.cb_graph.proofs.Places.{places_at, no_fewer, enough, capacity_after, at_any_error, more_wanted, places_kept}
use Rattle.cb_topo.specs.Applied.{Applies, MayGrow}
use Rattle.cb_topo.specs.Numbered.{Numbered}
use Rattle.cb_topo.proofs.Capacities.{capacity_fits, capacity_grows}
use Rattle.cb_graph.proofs.graph.Graph.apply_accepted.Goals as goal

pub invariant_of-self : goal.invariant_of-self
invariant_of-self c = (subst (CoversInstances c.self.inside.topology.net) (sym c.in_err-reserve.ensures.err) c.self.invariant.0, c.self.invariant.1)

pub returns-in_err-reserve-clause-grows : goal.returns-in_err-reserve-clause-grows
returns-in_err-reserve-clause-grows c =
    let old = c.self.inside.topology in
    let edit = c.args.accepted.now.edit.now in
    let capacity = c.instance_capacity_after-capacity.result in
    let more : old.net.capacity < capacity = more_wanted c.self.inside.here old.net.capacity capacity (λ le. false≢true (c.in_err-reserve.ensures.succeeds le)) c.self.invariant.0.capacity in
    at_any_error c.from_residual.result (MayGrow edit) (capacity_grows old edit capacity c.instance_capacity_after-capacity.ensures more)

pub invariant_of-self-in_err-reserve-2 : goal.invariant_of-self-in_err-reserve-2
invariant_of-self-in_err-reserve-2 c =
    let net = c.self.inside.topology.net in (
      places_kept net c.self.inside.here c.reserve.new.self c.self.invariant.0 (no_fewer c.self.inside.here c.reserve.new.self c.instance_capacity_after-capacity.result c.in_ok-reserve.ensures.ok),
      subst (CoversInstances net) (sym c.in_err-reserve-2.ensures.err) c.self.invariant.1,
    )

pub returns-in_err-reserve-2-clause-grows : goal.returns-in_err-reserve-2-clause-grows
returns-in_err-reserve-2-clause-grows c =
    let old = c.self.inside.topology in
    let edit = c.args.accepted.now.edit.now in
    let capacity = c.instance_capacity_after-capacity.result in
    let more : old.net.capacity < capacity = more_wanted c.self.inside.spare old.net.capacity capacity (λ le. false≢true (c.in_err-reserve-2.ensures.succeeds le)) c.self.invariant.1.capacity in
    at_any_error c.from_residual-in_err-reserve-2.result (MayGrow edit) (capacity_grows old edit capacity c.instance_capacity_after-capacity.ensures more)

pub invariant_of-self-2 : goal.invariant_of-self-2
invariant_of-self-2 c =
    let old = c.self.inside.topology in
    let new = c.apply_accepted-made.new.self in
    let capacity = c.instance_capacity_after-capacity.result in
    let fits : (k : ℕ) → old.net.capacity ≤ k → capacity ≤ k → new.net.capacity ≤ k = λ k le le'.
    capacity_after c.apply_accepted-made.result (Applies old c.args.accepted.now.edit.now) (λ (n : Numbered). n.net.capacity) old new capacity k c.apply_accepted-made.ensures.made c.apply_accepted-made.ensures.kept (λ (n : Numbered) applies. capacity_fits old n c.args.accepted.now.edit.now capacity c.instance_capacity_after-capacity.ensures applies.instance_capacity) le le' in
    let above = c.instance_capacity-capacity.ensures in
    let here = no_fewer c.self.inside.here c.reserve.new.self capacity c.in_ok-reserve.ensures.ok in
    let spare = no_fewer c.self.inside.spare c.reserve-2.new.self capacity c.in_ok-reserve-2.ensures.ok in (
      places_at new.net c.instance_capacity-capacity.result c.reserve.new.self above.value above.above
          (fits (length c.reserve.new.self) (let le = c.self.invariant.0.capacity in omega arith) (enough c.self.inside.here c.reserve.new.self capacity c.in_ok-reserve.ensures.ok)),
      places_at new.net c.instance_capacity-capacity.result c.reserve-2.new.self above.value above.above
          (fits (length c.reserve-2.new.self) (let le = c.self.invariant.1.capacity in omega arith) (enough c.self.inside.spare c.reserve-2.new.self capacity c.in_ok-reserve-2.ensures.ok)),
    )
