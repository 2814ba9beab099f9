use Rattle.std.proofs.Common.{◌+◌, ◌<◌, ◌≤◌, length, slice_index_or, refl, sym, subst, eqb, arith}
use Rattle.std.proofs.lemmas.List.Filters.{dedup_is}
use Rattle.std.proofs.lemmas.Option.{slice_get-get_or}
use Rattle.cb_nodes.specs.declared.id.NodeId.{NodeId}
use Rattle.cb_checker.specs.Codes.{AreColumnsListed}
use Rattle.cb_checker.proofs.Coding.{AreListedTo, none_listed, column_listed, no_column_listed, all_listed}
use Rattle.cb_checker.proofs.codes.list_columns.Goals as goal
use Rattle.cb_checker.proofs.codes.list_columns.Goals.{in-Some+in_ok-push+else-not-is_sparse, in_default}

pub loop-place-init : goal.loop-place-init
loop-place-init c =
    subst (AreListedTo c.args.columns.now c.args.placed.now 0) (sym c.clear.ensures.items) (none_listed c.args.columns.now c.args.placed.now)

pub loop-place-preserved : goal.loop-place-preserved
loop-place-preserved c =
    let columns = c.args.columns.now in
    let placed = c.args.placed.now in
    let place = c.loop-place.place in
    let zero : NodeId = record { 0 = 0 } in
    let id = slice_index_or placed place zero in
    let items = c.loop-place.list.items in
    let low : place < length placed = omega (arith, c.loop-place-test.true) in
    let at = slice_get-get_or placed place zero low in
    elim c.match-position.branch [
      | in-Some+in_ok-push+else-not-is_sparse w ↦
          rw (w.list-is)
          (subst (AreListedTo columns placed (place + 1)) (sym w.in_ok-push.ensures.items)
          (column_listed columns placed place items id c.loop-place.invariant at w.in-Some.column ((w.in-Some.ensures w.in-Some.column).1 refl)
          (λ other is. (w.in-Some.ensures other).0 is)))
      | in_default w ↦ rw (w.list-is) (no_column_listed columns placed place items id c.loop-place.invariant at (λ among. w.in_default.ensures among.0 among.1))
    ]

pub returns : goal.returns
returns c = λ yes.
    let columns = c.args.columns.now in
    let placed = c.args.placed.now in
    let end : length placed ≤ c.loop-place.place = omega (arith, c.loop-place-test.false) in
    subst (AreColumnsListed columns placed) (sym (dedup_is eqb c.sort_unstable.new.self.items c.dedup.new.self.items c.dedup.ensures.filtered))
    (all_listed columns placed c.loop-place.place c.loop-place.list.items c.sort_unstable.new.self.items end c.loop-place.invariant c.sort_unstable.ensures.permutation c.sort_unstable.ensures.sorted)
