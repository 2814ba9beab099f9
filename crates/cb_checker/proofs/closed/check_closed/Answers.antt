use Rattle.std.proofs.Common.{◌≡◌, ◌<◌, length, refl, ap, subst, ◌∙◌, Some, None, Option, arith}
use Rattle.std.specs.Prelude.{slice_get}
use Rattle.std.proofs.lemmas.Option.{slice_get_read}
use Rattle.cb_model.specs.declared.node.NodeName.{NodeName}
use Rattle.cb_checker.specs.Missing.{IsLeastMissing}
use Rattle.cb_checker.proofs.Closing.{all_closed, not_closed, closed_more, least_moved}
use Rattle.cb_checker.proofs.closed.check_closed.Goals as goal

pub returns-in-Some-clause-judges : goal.returns-in-Some-clause-judges
returns-in-Some-clause-judges g c = λ whole ids root span known are.
    let n = c.args.graph.now in
    let kept = c.loop-place.invariant in
    let placed = c.args.marks.now.placed.items in
    let listed = c.args.marks.now.listed in
    let place = c.loop-place.place in
    let id = c.index.result.now in
    let size = ap (λ v. length v.items) kept.placed in
    let low : place < length c.loop-place.marks.placed.items = omega (arith, c.loop-place-test.true) in
    let read = slice_get_read c.loop-place.marks.placed.items (length c.loop-place.marks.placed.items) place id refl low c.index.ensures in
    let at = subst (λ v. slice_get v.items place ≡ Some id) kept.placed read in
    let is = c.in-Some.is in
    let some : c.in-Ok.missing ≡ Some c.in-Some.successor = cc in
    let least = subst (λ (x : Option NodeName). IsLeastMissing n id.0 listed x) some
    (least_moved c.loop-place.graph n id.0 c.loop-place.marks.listed listed c.in-Ok.missing kept.same kept.listed c.in-Ok.ensures.least)
    in
    not_closed n ids whole known c.args.before root span placed are listed c.requires.marked.each place id c.in-Some.successor at kept.closed least

pub loop-place-preserved : goal.loop-place-preserved
loop-place-preserved g c =
    let n = c.args.graph.now in
    let kept = c.loop-place.invariant in
    let placed = c.args.marks.now.placed.items in
    let listed = c.args.marks.now.listed in
    let place = c.loop-place.place in
    let id = c.index.result.now in
    let size = ap (λ v. length v.items) kept.placed in
    let low : place < length c.loop-place.marks.placed.items = omega (arith, c.loop-place-test.true) in
    let read = slice_get_read c.loop-place.marks.placed.items (length c.loop-place.marks.placed.items) place id refl low c.index.ensures in
    let at = subst (λ v. slice_get v.items place ≡ Some id) kept.placed read in
    let is = c.in_default-missing.is in
    let none : c.in-Ok.missing ≡ None = cc in
    let least = subst (λ (x : Option NodeName). IsLeastMissing n id.0 listed x) none
    (least_moved c.loop-place.graph n id.0 c.loop-place.marks.listed listed c.in-Ok.missing kept.same kept.listed c.in-Ok.ensures.least)
    in
    record {
      same = c.in-Ok.ensures.same ∙ kept.same;
      placed = c.in-Ok.ensures.placed ∙ kept.placed;
      listed = c.in-Ok.ensures.listed ∙ kept.listed;
      spare = c.in-Ok.ensures.spare ∙ kept.spare;
      closed = closed_more n placed listed place id kept.closed at least;
    }

pub returns-clause-judges : goal.returns-clause-judges
returns-clause-judges g c = λ whole ids root span known are.
    let placed = c.args.marks.now.placed.items in
    let end = c.loop-place-test.false in
    all_closed c.args.graph.now ids whole known c.args.before root span placed are c.args.marks.now.listed c.requires.marked.each
    (λ place id low at. c.loop-place.invariant.closed place id (omega arith) at)
