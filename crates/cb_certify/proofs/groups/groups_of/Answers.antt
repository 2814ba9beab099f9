use Rattle.std.proofs.Common.{List, ◌<◌, length, get_or, sym, subst, ◌∙◌, arith}
use Rattle.std.specs.List.{All}
use Rattle.std.proofs.lemmas.Option.{slice_get-get_or}
use Rattle.cb_breadth.specs.declared.visit.Visit.{Visit}
use Rattle.cb_codes.specs.EachOnce.{FindsPlace}
use Rattle.cb_nodes.specs.declared.id.NodeId.{NodeId}
use Rattle.cb_span.proofs.Zips.{zip_count}
use Rattle.cb_span.specs.Searched.{IsTreeOf}
use Rattle.cb_breadth.specs.Trees.{HasNode}
use Rattle.cb_matrix.specs.Codes.{IsCodeWhere}
use Rattle.cb_certify.proofs.Adding.{AreAdded, none_added, one_more_added}
use Rattle.cb_certify.proofs.Treed.{visits_below, code_from, problem_there, groups_are}
use Rattle.cb_certify.proofs.groups.groups_of.Goals as goal

pub loop-place-init : goal.loop-place-init
loop-place-init c =
    let made = c.in_ok-codes.codes in
    let alone = rw c.len.ensures at c.in_ok-codes.ensures in
    record {
      added = subst (AreAdded c.args.topology.now c.args.columns.now c.args.trees.now.problems 0 made.codes.rows) (sym c.new-least.ensures)
          (none_added c.args.topology.now c.args.columns.now c.args.trees.now.problems made.codes.rows alone.quiet);
      wide = alone.width_is;
      marks = alone.marks;
    }

pub index-visits-requires : goal.index-visits-requires
index-visits-requires c =
    let are = c.requires.trees in
    let same = zip_count (IsTreeOf c.args.topology.now c.args.trees.now.order) c.args.trees.now.problems c.args.trees.now.visits.items are.each in
    let low = c.loop-place-test.true in
    omega arith

pub code_of_visits-requires : goal.code_of_visits-requires
code_of_visits-requires c =
    let zero : NodeId = record { 0 = 0 } in
    let ids = c.args.trees.now.problems in
    let at = slice_get-get_or ids c.loop-place.place zero (omega (arith, c.loop-place-test.true)) in
    subst (λ (visits : List Visit). All (λ (v : Visit). v.node < length c.args.trees.now.order.nodes.items) visits) (sym c.deref.ensures.value)
    (visits_below c.args.topology.now c.args.trees.now c.requires.trees c.loop-place.place (get_or ids c.loop-place.place zero) at c.index-visits.result.now c.index-visits.ensures)

pub loop-place-preserved : goal.loop-place-preserved
loop-place-preserved c =
    let n = c.args.topology.now in
    let trees = c.args.trees.now in
    let columns = c.args.columns.now in
    let held = c.loop-place.invariant in
    let id = c.at.result.now in
    let by = subst (λ (visits : List Visit). IsCodeWhere columns (HasNode trees.order.nodes.items visits) c.in_ok-code.code) c.deref.ensures.value c.in_ok-code.ensures in
    let coded = code_from n trees c.requires.trees c.loop-place.place id c.at.ensures c.index-visits.result.now c.index-visits.ensures columns c.in_ok-code.code by in
    let (p, is, same) = problem_there n trees c.requires.trees c.loop-place.place id c.at.ensures columns c.in_ok-code.code coded in
    let finds = subst (λ code. FindsPlace code c.loop-place.codes.codes.rows c.place_of.new.self.codes.rows c.in_ok-group.group) (sym same) c.in_ok-group.ensures.place in
    record {
      added = one_more_added n columns trees.problems c.loop-place.place id p c.loop-place.codes.codes.rows c.place_of.new.self.codes.rows c.loop-place.least c.add_least.new.least
          c.in_ok-group.group c.at.ensures is finds c.in_ok-add_least.ensures held.added;
      wide = c.in_ok-group.ensures.width ∙ held.wide;
      marks = c.in_ok-group.ensures.marks;
    }

pub returns : goal.returns
returns c =
    let held = c.loop-place.invariant in
    groups_are c.args.topology.now c.args.trees.now c.requires.trees c.model-model.ensures.whole c.model-model.ensures.sound c.args.columns.now c.requires.columns
    c.loop-place.place (omega arith) (record { codes = c.into_codes.result; least = c.loop-place.least })
    (rw (sym c.into_codes.ensures) at held.added) (rw (sym c.into_codes.ensures) at held.wide)
