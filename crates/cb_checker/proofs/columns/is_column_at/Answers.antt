use Rattle.std.proofs.Common.{◌≡◌, ◌-◌, ◌<◌, nat_eq, refl, sym, subst, Some, arith}
use Rattle.std.specs.Prelude.{slice_get, slice_index_or, IsTrue}
use Rattle.std.proofs.lemmas.Bool.{ltb-true, lt-ltb}
use Rattle.std.proofs.lemmas.Option.{slice_get-get_or, get_or_from_slice_get}
use Rattle.cb_topo.specs.Numbered.{IsNodeNamed}
use Rattle.cb_checker.proofs.Naming.{live_at}
use Rattle.cb_checker.proofs.Observed.{column_id, column_above, no_number}
use Rattle.cb_checker.proofs.columns.is_column_at.Goals as goal

pub returns-then-place-eq0 : goal.returns-then-place-eq0
returns-then-place-eq0 c = (
  λ yes. record {
    number = slice_index_or c.args.columns.now c.args.place 0;
    id = c.in-Some.id;
    is = slice_get-get_or c.args.columns.now c.args.place 0 c.requires.place;
    at = c.in-Some.ensures.found;
    watched = λ name named. (c.is_column.ensures name named).0 c.if-is_column.true;
    above = λ before other next there. absurd (omega (arith, c.if-place-eq0.true, next));
  },
  λ column. (let e : c.args.place ≡ 0 = c.if-place-eq0.true in subst (λ k. IsTrue (nat_eq k 0)) (sym e) refl),
)

pub returns-else-place-eq0 : goal.returns-else-place-eq0
returns-else-place-eq0 c =
    let columns = c.args.columns.now in
    let place = c.args.place in
    let number = slice_index_or columns place 0 in (
      λ less. record {
        number = number;
        id = c.in-Some.id;
        is = slice_get-get_or columns place 0 c.requires.place;
        at = c.in-Some.ensures.found;
        watched = λ name named. (c.is_column.ensures name named).0 c.if-is_column.true;
        above = λ before other next there.
            let e : before ≡ place - 1 = omega (arith, next) in
            let earlier : slice_index_or columns (place - 1) 0 ≡ other = get_or_from_slice_get columns (place - 1) other 0 (subst (λ k. slice_get columns k ≡ Some other) e there) in
            subst (λ k. k < number) earlier (ltb-true (slice_index_or columns (place - 1) 0) number less);
      },
      λ column. lt-ltb (slice_index_or columns (place - 1) 0) number (column_above c.args.topology.now c.args.ids.now columns place column (omega (arith, c.if-place-eq0.false))),
    )

pub returns-else-is_column : goal.returns-else-is_column
returns-else-is_column c = (
  λ yes. absurd (let no = c.if-is_column.false in cc),
  λ column.
      let live = live_at c.args.topology.now c.args.ids.now c.requires.live _ c.in-Some.id c.in-Some.ensures.found in
      let same = column_id c.args.topology.now c.args.ids.now c.args.columns.now c.args.place column c.in-Some.id c.in-Some.ensures.found in
      (c.is_column.ensures live.0 live.1).1 (column.watched live.0 (subst (λ i. IsNodeNamed c.args.topology.now i live.0) (sym same) live.1)),
)

pub returns-in-None : goal.returns-in-None
returns-in-None c = (
  λ yes. absurd (cc),
  λ column. absurd (no_number c.args.topology.now c.args.ids.now c.args.columns.now c.args.place column c.in-None.ensures.none),
)
