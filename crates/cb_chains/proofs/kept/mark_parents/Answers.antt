use Rattle.std.proofs.Common.{◌≡◌, ◌<◌, ◌+◌, ◌-◌, length, get_or, subst, arith}
use Rattle.std.proofs.lemmas.List.{length-map}
use Rattle.std.proofs.lemmas.Option.{slice_get-get_or}
use Rattle.cb_model.proofs.Spread.{map_there}
use Rattle.cb_breadth.specs.declared.visit.LevelVisit.{LevelVisit}
use Rattle.cb_breadth.specs.Levels.{level_visit}
use Rattle.cb_breadth.specs.Trees.{visit}
use Rattle.cb_chains.specs.Trees.{without_levels}
use Rattle.cb_chains.proofs.Marking.{HasMarkedParentsFrom, no_parents_marked, parent_marked, all_parents_marked}
use Rattle.cb_chains.proofs.kept.mark_parents.Goals as goal

pub loop-position-init : goal.loop-position-init
loop-position-init c =
    let long = length-map c.args.visits.now (λ (v : LevelVisit). visit v.node v.parent) in
    no_parents_marked (without_levels c.args.visits.now) c.args.marked.now _ (omega arith)

pub mark_with-requires-clause-position : goal.mark_with-requires-clause-position
mark_with-requires-clause-position c = let capacity = c.loop-position.invariant.capacity in let size = c.requires.capacity in omega arith

pub mark_with-requires-clause-parent : goal.mark_with-requires-clause-parent
mark_with-requires-clause-parent c =
    let visits = c.args.visits.now in
    let i = c.loop-position.position - 1 in
    let low : i < length visits = omega arith in
    let v = get_or visits i (level_visit 0 0 0) in
    let at = slice_get-get_or visits i (level_visit 0 0 0) low in
    let early = c.requires.parents i (visit v.node v.parent) (map_there (λ (x : LevelVisit). visit x.node x.parent) visits i v at) in
    let capacity = c.loop-position.invariant.capacity in
    let size = c.requires.capacity in
    omega arith

pub loop-position-preserved : goal.loop-position-preserved
loop-position-preserved c =
    let visits = c.args.visits.now in
    let i = c.loop-position.position - 1 in
    let low : i < length visits = omega arith in
    let v = get_or visits i (level_visit 0 0 0) in
    let at = slice_get-get_or visits i (level_visit 0 0 0) low in
    let w = visit v.node v.parent in
    let there = map_there (λ (x : LevelVisit). visit x.node x.parent) visits i v at in
    let next : c.loop-position.position ≡ i + 1 = omega arith in
    let before = subst (λ k. HasMarkedParentsFrom (without_levels visits) k c.args.marked.now c.loop-position.marked) next c.loop-position.invariant in
    parent_marked (without_levels visits) i c.args.marked.now c.loop-position.marked c.mark_with.new.marked w before there (c.requires.parents i w there)
    c.mark_with.ensures.capacity c.mark_with.ensures.kept c.mark_with.ensures.both c.mark_with.ensures.only

pub returns-clause-parents : goal.returns-clause-parents
returns-clause-parents c =
    all_parents_marked (without_levels c.args.visits.now) c.loop-position.position c.args.marked.now c.loop-position.marked c.loop-position.invariant (omega arith)
