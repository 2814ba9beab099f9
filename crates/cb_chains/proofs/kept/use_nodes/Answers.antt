use Rattle.std.proofs.Common.{◌<◌, ◌≤◌, ◌+◌, length, get_or, sym, subst, arith}
use Rattle.std.proofs.lemmas.Option.{slice_get-get_or}
use Rattle.cb_model.proofs.Numbers.{all_at}
use Rattle.cb_breadth.specs.declared.visit.Visit.{Visit}
use Rattle.cb_breadth.specs.Trees.{visit}
use Rattle.cb_chains.proofs.Marking.{AreMarkedTo, none_marked, one_marked, all_marked}
use Rattle.cb_chains.proofs.kept.use_nodes.Goals as goal

pub loop-at-init : goal.loop-at-init
loop-at-init c = none_marked (λ (v : Visit). v.node) c.args.visits.now c.args.used.now

pub set-requires : goal.set-requires
set-requires c =
    let visits = c.args.visits.now in
    let low : c.loop-at.at < length visits = omega (arith, c.loop-at-test.true) in
    let at = slice_get-get_or visits c.loop-at.at (visit 0 0) low in
    let fits = all_at (λ (v : Visit). v.node < length c.args.used.now) visits c.loop-at.at (get_or visits c.loop-at.at (visit 0 0)) at c.requires in
    let capacity = c.loop-at.invariant.capacity in
    omega arith

pub loop-at-preserved : goal.loop-at-preserved
loop-at-preserved c =
    let visits = c.args.visits.now in
    let low : c.loop-at.at < length visits = omega (arith, c.loop-at-test.true) in
    let at = slice_get-get_or visits c.loop-at.at (visit 0 0) low in
    let fits = all_at (λ (v : Visit). v.node < length c.args.used.now) visits c.loop-at.at (get_or visits c.loop-at.at (visit 0 0)) at c.requires in
    let capacity = c.loop-at.invariant.capacity in
    subst (AreMarkedTo (λ (v : Visit). v.node) visits (c.loop-at.at + 1) c.args.used.now) (sym c.set.ensures)
    (one_marked (λ (v : Visit). v.node) visits c.loop-at.at c.args.used.now c.loop-at.used c.loop-at.invariant (get_or visits c.loop-at.at (visit 0 0)) at (omega arith))

pub returns-clause-all : goal.returns-clause-all
returns-clause-all c =
    let end : length c.args.visits.now ≤ c.loop-at.at = omega (arith, c.loop-at-test.false) in
    all_marked (λ (v : Visit). v.node) c.args.visits.now c.loop-at.at c.args.used.now c.loop-at.used c.loop-at.invariant end
