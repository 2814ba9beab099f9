use Rattle.std.proofs.Common.{◌-◌, ◌+◌, length, sym, subst, ◌∙◌, refl, arith}
use Rattle.std.specs.List.{flat_map, range_with_len}
use Rattle.cb_validity.specs.Checks.{Judges, entry_checks}
use Rattle.cb_topo.specs.Numbered.{topology_of}
use Rattle.cb_checker.specs.Reasons.{AreStated}
use Rattle.cb_checker.specs.Spans.{asked}
use Rattle.cb_checker.proofs.Joined.{exit, range_fails, range_passes}
use Rattle.cb_checker.proofs.Stating.{none_stated, stated_upto, kept_pass, pass_more, unled_reported}
use Rattle.cb_checker.proofs.entries.list_entries.Goals as goal

pub loop-place-init : goal.loop-place-init
loop-place-init c = record {
  placed = c.requires.first;
  listed = c.requires.listed;
  capacity = refl;
  found = refl;
  stated = subst (AreStated c.args.ids.now c.args.span.now 1) (sym c.clear.ensures.items) (none_stated c.args.ids.now c.args.span.now 1);
  passed = λ n whole root known j least low. absurd (omega arith);
}

pub list_entry-requires-clause-below : goal.list_entry-requires-clause-below
list_entry-requires-clause-below c = λ i id at.
    let low = c.requires.below i id at in
    let capacity = c.loop-place.invariant.capacity in
    omega arith

pub returns-in_err-list_entry-clause-led : goal.returns-in_err-list_entry-clause-led
returns-in_err-list_entry-clause-led c = λ n led whole root known.
    let span = c.args.span.now in
    let checks = entry_checks (asked c.args.before root span) in
    let place = c.loop-place.place in
    let reported = c.in_err-list_entry.field-0.0 in
    let old = c.loop-place.marks.reasons.items in
    let new = c.list_entry.new.marks.reasons.items in
    let pass = kept_pass c.args.ids.now c.args.before span old new place c.in_err-list_entry.ensures.keeps c.loop-place.invariant.passed in
    exit (Judges (topology_of n) whole (flat_map checks (range_with_len 1 (length span.entries - 1)))) c.from_residual.result reported c.from_residual.ensures.1
    (range_fails (topology_of n) whole checks 1 (length span.entries - 1) place (omega arith) (omega arith)
    (λ j least low. pass n whole root known j least low (λ reason in' at. led reason in')) reported
    (c.in_err-list_entry.ensures.judges n (λ reason in' at. led reason in') whole root known))

pub returns-in_err-list_entry-clause-unled : goal.returns-in_err-list_entry-clause-unled
returns-in_err-list_entry-clause-unled c =
    let span = c.args.span.now in
    let place = c.loop-place.place in
    let old = c.loop-place.marks.reasons.items in
    let new = c.list_entry.new.marks.reasons.items in
    let pass = kept_pass c.args.ids.now c.args.before span old new place c.in_err-list_entry.ensures.keeps c.loop-place.invariant.passed in
    unled_reported c.args.ids.now c.args.before span new (place + 1) place c.in_err-list_entry.ensures.stated pass (omega arith) (omega arith)

pub returns-in_err-list_entry-clause-stated : goal.returns-in_err-list_entry-clause-stated
returns-in_err-list_entry-clause-stated c =
    let span = c.args.span.now in
    stated_upto c.args.ids.now span (c.loop-place.place + 1) (length span.entries) c.list_entry.new.marks.reasons.items (omega arith) c.in_err-list_entry.ensures.stated

pub loop-place-preserved : goal.loop-place-preserved
loop-place-preserved c =
    let span = c.args.span.now in
    let place = c.loop-place.place in
    let old = c.loop-place.marks.reasons.items in
    let new = c.list_entry.new.marks.reasons.items in
    let kept = c.loop-place.invariant in
    record {
      placed = c.in_ok-list_entry.ensures.placed;
      listed = c.in_ok-list_entry.ensures.listed;
      capacity = c.in_ok-list_entry.ensures.capacity ∙ kept.capacity;
      found = c.in_ok-list_entry.ensures.found ∙ kept.found;
      stated = c.in_ok-list_entry.ensures.stated;
      passed = pass_more c.args.ids.now c.args.before span new place
          (kept_pass c.args.ids.now c.args.before span old new place c.in_ok-list_entry.ensures.keeps kept.passed) c.in_ok-list_entry.ensures.judges;
    }

pub returns-clause-led : goal.returns-clause-led
returns-clause-led c = λ n led whole root known.
    let span = c.args.span.now in
    let some = c.requires.some in
    let end = c.loop-place-test.false in
    range_passes (topology_of n) whole (entry_checks (asked c.args.before root span)) 1 (length span.entries - 1)
    (λ j least low. c.loop-place.invariant.passed n whole root known j least (omega arith) (λ reason in' at. led reason in'))

pub returns-clause-unled : goal.returns-clause-unled
returns-clause-unled c =
    let place = c.loop-place.place in
    let some = c.requires.some in
    let most = c.loop-place.auto.place-end in
    unled_reported c.args.ids.now c.args.before c.args.span.now c.loop-place.marks.reasons.items place place c.loop-place.invariant.stated c.loop-place.invariant.passed
    (omega arith) (omega arith)

pub returns-clause-stated : goal.returns-clause-stated
returns-clause-stated c =
    let span = c.args.span.now in
    let some = c.requires.some in
    let most = c.loop-place.auto.place-end in
    stated_upto c.args.ids.now span c.loop-place.place (length span.entries) c.loop-place.marks.reasons.items (omega arith) c.loop-place.invariant.stated
