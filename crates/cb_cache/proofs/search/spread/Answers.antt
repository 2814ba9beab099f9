use Rattle.std.proofs.Common.{refl, sym, ◌∙◌, subst}
use Rattle.cb_cache.specs.Reached.{AreReached, AreFollowed, Visits}
use Rattle.cb_cache.proofs.Spreading.{begun_spread, visited, all_met}
use Rattle.cb_cache.proofs.search.spread.Goals as goal

pub visit-requires-clause-rows : goal.visit-requires-clause-rows
visit-requires-clause-rows g c =
    subst (λ graph. AreReached (g.G.Edges.edge graph) c.args.slots.now c.args.pool.now) (sym c.loop-node.invariant.same) c.requires.rows

pub loop-node-init : goal.loop-node-init
loop-node-init g c = record { same = refl; joined = refl; spread = begun_spread _ _ _ _ _ _ c.requires.found c.requires.done c.requires.followed }

pub visit-requires-clause-followed : goal.visit-requires-clause-followed
visit-requires-clause-followed g c =
    subst (λ graph. AreFollowed (g.G.Edges.edge graph) c.loop-node.found c.loop-node.joined.items) (sym c.loop-node.invariant.same) c.loop-node.invariant.spread.followed

pub loop-node-preserved : goal.loop-node-preserved
loop-node-preserved g c =
    let kept = c.loop-node.invariant in
    let followed = subst (λ graph. AreFollowed (g.G.Edges.edge graph) c.visit.new.found c.visit.new.joined.items) kept.same c.visit.ensures.followed in
    let visits = subst (λ graph. Visits (g.G.Edges.edge graph) c.in-Some.node c.loop-node.found c.visit.new.found c.loop-node.joined.items c.visit.new.joined.items) kept.same
    c.visit.ensures.visits in
    let next = visited _ _ _ _ _ _ _ _ _ kept.spread c.in-Some.node c.visit.new.found c.visit.new.joined.items c.visit.new.steps c.in-Some.ensures.left c.visit.ensures.found followed visits
    c.visit.ensures.step c.visit.ensures.free in
    record {
      same = c.visit.ensures.same ∙ kept.same;
      joined = c.visit.ensures.joined ∙ kept.joined;
      spread = rw c.set.ensures next;
    }

pub returns-clause-met : goal.returns-clause-met
returns-clause-met g c = all_met _ _ _ _ _ _ _ _ _ c.loop-node.invariant.spread c.in_default.ensures.none
