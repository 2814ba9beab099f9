use Rattle.std.proofs.Common.{◌<◌, ◌≤◌, ◌+◌, length, get_or, sym, subst, arith}
use Rattle.std.proofs.lemmas.Option.{slice_get-get_or}
use Rattle.cb_breadth.specs.Levels.{level_visit}
use Rattle.cb_explain.proofs.Using.{AreUsedTo, none_used, one_used, all_used}
use Rattle.cb_explain.proofs.written.use_visits.Goals as goal

pub loop-position-init : goal.loop-position-init
loop-position-init c = none_used c.args.visits.now c.args.used.now

pub set-requires : goal.set-requires
set-requires c =
    let visits = c.args.visits.now in
    let position = c.loop-position.position in
    let v = get_or visits position (level_visit 0 0 0) in
    let low : position < length visits = omega (arith, c.loop-position-test.true) in
    let below = c.requires position v (slice_get-get_or visits position (level_visit 0 0 0) low) in
    let capacity = c.loop-position.invariant.capacity in
    omega arith

pub loop-position-preserved : goal.loop-position-preserved
loop-position-preserved c =
    let visits = c.args.visits.now in
    let position = c.loop-position.position in
    let v = get_or visits position (level_visit 0 0 0) in
    let low : position < length visits = omega (arith, c.loop-position-test.true) in
    let at = slice_get-get_or visits position (level_visit 0 0 0) low in
    let below = c.requires position v at in
    let capacity = c.loop-position.invariant.capacity in
    let fits : v.node < length c.loop-position.used = omega arith in
    subst (AreUsedTo visits (position + 1) c.args.used.now) (sym c.set.ensures)
    (one_used visits position c.args.used.now c.loop-position.used c.loop-position.invariant v at fits)

pub returns-clause-used : goal.returns-clause-used
returns-clause-used c =
    let end : length c.args.visits.now ≤ c.loop-position.position = omega (arith, c.loop-position-test.false) in
    all_used c.args.visits.now c.loop-position.position c.args.used.now c.loop-position.used c.loop-position.invariant end
