use Rattle.std.proofs.Common.{◌≡◌, ◌<◌, ◌≤◌, ◌+◌, length, refl, sym, ap, subst, Some, arith}
use Rattle.std.specs.Prelude.{slice_get}
use Rattle.std.proofs.lemmas.Option.{slice_get_read}
use Rattle.cb_checker.proofs.Closing.{IsLeftFrom, all_left, less_left, none_left, has_below}
use Rattle.cb_checker.proofs.marks.SpanNodes.forget.Goals as goal

pub loop-place-init : goal.loop-place-init
loop-place-init c = record { placed = refl; left = all_left c.args.self.now.placed.items c.args.self.now.listed c.requires; found = refl }

pub clear-requires : goal.clear-requires
clear-requires c =
    let kept = c.loop-place.invariant in
    let place = c.loop-place.place in
    let id = c.index.result.now in
    let items = c.loop-place.self.placed.items in
    let size = ap (λ v. length v.items) kept.placed in
    let low : place < length items = omega (arith, c.loop-place-test.true) in
    let at = subst (λ v. slice_get v.items place ≡ Some id) kept.placed (slice_get_read items (length items) place id refl low c.index.ensures) in
    let within = has_below c.args.self.now.listed id.0 ((c.requires id.0).1 (place, at)) in
    let width = kept.left.width in
    omega arith

pub loop-place-preserved : goal.loop-place-preserved
loop-place-preserved c =
    let kept = c.loop-place.invariant in
    let place = c.loop-place.place in
    let id = c.index.result.now in
    let placed = c.args.self.now.placed.items in
    let listed = c.args.self.now.listed in
    let items = c.loop-place.self.placed.items in
    let size = ap (λ v. length v.items) kept.placed in
    let low : place < length items = omega (arith, c.loop-place-test.true) in
    let at = subst (λ v. slice_get v.items place ≡ Some id) kept.placed (slice_get_read items (length items) place id refl low c.index.ensures) in
    let within = has_below listed id.0 ((c.requires id.0).1 (place, at)) in
    record {
      placed = kept.placed;
      left = subst (IsLeftFrom placed (length listed) (place + 1)) (sym c.clear.ensures)
          (less_left placed (length listed) place c.loop-place.self.listed id kept.left at within);
      found = kept.found;
    }

pub returns-clause-listed : goal.returns-clause-listed
returns-clause-listed c =
    let kept = c.loop-place.invariant in
    let placed = c.args.self.now.placed.items in
    let size = ap (λ v. length v.items) kept.placed in
    let end : length placed ≤ c.loop-place.place = omega (arith, c.loop-place-test.false) in
    none_left placed (length c.args.self.now.listed) c.loop-place.place c.loop-place.self.listed end kept.left
