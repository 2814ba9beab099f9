use Rattle.std.proofs.Common.{◌≡◌, ◌+◌, ◌-◌, ℕ, drop, subst, ◌∙◌, arith}
use Rattle.std.proofs.lemmas.List.{drop_all}
use Rattle.cb_model.proofs.Numbers.{all_at}
use Rattle.cb_model.specs.WellTyped.{IsPlace}
use Rattle.cb_graph.proofs.Coming.{IsComing, coming_begun, comers_live, started_live, coming_next}
use Rattle.cb_graph.proofs.Walking.{still_places}
use Rattle.cb_graph.proofs.touched.come_to.Goals as goal

pub loop-depth-init : goal.loop-depth-init
loop-depth-init c =
    let net = c.args.topology.now.net in
    coming_begun net c.args.moves (drop c.len-depth.result c.args.path.now) c.clear.new.self c.args.spare.now (drop_all c.len-depth.result c.args.path.now (omega (arith, c.len-depth.ensures)))
    (still_places net c.args.here.now c.clear.new.self c.requires.here c.clear.ensures.length) c.requires.spare c.clear.ensures.none

pub back_of-back-requires : goal.back_of-back-requires
back_of-back-requires c =
    all_at (IsPlace c.args.topology.now.net.topology.model) c.args.path.now (c.loop-depth.depth - 1) c.at-place.result.now c.at-place.ensures c.requires.path

pub add_starts-requires-clause-rel : goal.add_starts-requires-clause-rel
add_starts-requires-clause-rel c =
    all_at (IsPlace c.args.topology.now.net.topology.model) c.args.path.now (c.loop-depth.depth - 1) c.at-place.result.now c.at-place.ensures c.requires.path

pub add_links-requires-clause-live : goal.add_links-requires-clause-live
add_links-requires-clause-live c =
    comers_live c.args.topology.now.net c.args.moves (drop c.loop-depth.depth c.args.path.now) c.loop-depth.here c.loop-depth.spare c.loop-depth.invariant
    c.members.result.now c.members.ensures c.requires.moves

pub run_on-requires-clause-places : goal.run_on-requires-clause-places
run_on-requires-clause-places c =
    still_places c.args.topology.now.net c.loop-depth.spare c.add_starts.new.out c.loop-depth.invariant.spare_places
    (c.add_starts.ensures.length ∙ (c.add_links.ensures.length ∙ c.clear-in-loop-depth.ensures.length))

pub run_on-requires-clause-live : goal.run_on-requires-clause-live
run_on-requires-clause-live c =
    started_live c.args.topology.now.net c.args.moves (drop c.loop-depth.depth c.args.path.now) c.loop-depth.here c.loop-depth.spare c.loop-depth.invariant
    c.members.result.now c.members.ensures c.at-place.result.now c.back_of-back.result c.back_of-back.ensures.back
    c.clear-in-loop-depth.new.self c.add_links.new.out c.add_starts.new.out c.clear-in-loop-depth.ensures.none c.add_links.ensures.each c.add_starts.ensures.each c.requires.moves

pub loop-depth-preserved : goal.loop-depth-preserved
loop-depth-preserved c =
    let net = c.args.topology.now.net in
    let depth = c.loop-depth.depth - 1 in
    let here : c.loop-depth.depth ≡ depth + 1 = omega arith in
    let walk = subst (λ (m : ℕ). IsComing net c.args.moves (drop m c.args.path.now) c.loop-depth.here c.loop-depth.spare) here c.loop-depth.invariant in
    rw (c.swap.ensures.x_after, c.swap.ensures.y_after)
    (coming_next net c.args.moves c.args.path.now depth c.loop-depth.here c.loop-depth.spare walk c.members.result.now c.members.ensures
    c.at-place.result.now c.back_of-back.result c.at-place.ensures c.back_of-back.ensures.back
    c.clear-in-loop-depth.new.self c.add_links.new.out c.add_starts.new.out c.run_on.new.self c.clear-in-loop-depth.ensures.none c.clear-in-loop-depth.ensures.length
    c.add_links.ensures.length c.add_links.ensures.each c.add_starts.ensures.length c.add_starts.ensures.each c.run_on.ensures.length c.run_on.ensures.exactly)
