use Rattle.std.proofs.Common.{◌<◌, ◌≤◌, length, refl, arith}
use Rattle.std.proofs.lemmas.Option.{slice_get_read, slice_get_within}
use Rattle.cb_checker.proofs.Coding.{column_coded, no_column_coded, all_coded}
use Rattle.cb_checker.proofs.codes.code_of.Goals as goal
use Rattle.cb_checker.proofs.codes.code_of.Goals.{in-Some, in_default}

pub set-requires : goal.set-requires
set-requires c =
    let low = slice_get_within c.args.columns.now c.in-Some.column c.index.result.now ((c.in-Some.ensures c.in-Some.column).1 refl) in
    let wide = c.loop-place.invariant.width in
    omega (arith, low, wide)

pub loop-place-preserved : goal.loop-place-preserved
loop-place-preserved c =
    let columns = c.args.columns.now in
    let placed = c.args.marks.now.placed.items in
    let place = c.loop-place.place in
    let id = c.index.result.now in
    let code = c.loop-place.code in
    let low : place < length placed = omega (arith, c.loop-place-test.true) in
    let at = slice_get_read placed (length placed) place id refl low c.index.ensures in
    elim c.match-position.branch [
      | in-Some w ↦
          rw (w.code-is, w.set.ensures) (column_coded columns placed place code id c.loop-place.invariant at w.in-Some.column ((w.in-Some.ensures w.in-Some.column).1 refl)
          (λ other is. (w.in-Some.ensures other).0 is))
      | in_default w ↦ rw w.code-is (no_column_coded columns placed place code id c.loop-place.invariant at (λ among. w.in_default.ensures among.0 among.1))
    ]

pub returns : goal.returns
returns c =
    let placed = c.args.marks.now.placed.items in
    let end : length placed ≤ c.loop-place.place = omega (arith, c.loop-place-test.false) in
    all_coded c.args.columns.now placed c.loop-place.place c.args.marks.now.listed c.loop-place.code end c.requires c.loop-place.invariant
