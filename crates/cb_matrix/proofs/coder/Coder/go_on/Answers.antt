use Rattle.std.proofs.Common.{List, ℕ, Option, sym, subst}
use Rattle.cb_nodes.specs.declared.id.NodeId.{NodeId}
use Rattle.cb_cache.proofs.Owned.{one_row}
use Rattle.cb_matrix.specs.Codes.{IsCodeOf, bits}
use Rattle.cb_matrix.specs.Coded.{IsCodeOfLast}
use Rattle.cb_matrix.proofs.Passed.{none_coded}
use Rattle.cb_matrix.proofs.WordBits.{none_has}
use Rattle.cb_matrix.proofs.coder.Coder.go_on.Goals as goal
use Rattle.cb_matrix.proofs.coder.Coder.go_on.Goals.{in-Some, in-None}

pub row-requires : goal.row-requires
row-requires c =
    let was = subst (λ (problem : Option NodeId). IsCodeOfLast c.args.rows.now c.args.columns.now problem c.args.self.now.code) c.in-Some.is c.requires.coder.code in
    (was.0, was.1)

pub pass_code-requires-clause-code : goal.pass_code-requires-clause-code
pass_code-requires-clause-code c =
    let columns = c.args.columns.now in
    let code = c.args.self.now.code in
    let was = subst (λ (problem : Option NodeId). IsCodeOfLast c.args.rows.now columns problem code) c.in-Some.is c.requires.coder.code in
    let same = one_row c.args.rows.now c.in-Some.last was.0 c.row.result.now was.1 c.row.ensures.row in
    subst (λ (words : List ℕ). IsCodeOf columns (bits words) code) same was.2

pub pass_code-requires-in-None-clause-code : goal.pass_code-requires-in-None-clause-code
pass_code-requires-in-None-clause-code c =
    let columns = c.args.columns.now in
    let none = c.args.self.now.none.items in
    let was = subst (λ (problem : Option NodeId). IsCodeOfLast c.args.rows.now columns problem c.args.self.now.code) c.in-None.is c.requires.coder.code in
    subst (λ (words : List ℕ). IsCodeOf columns (bits words) c.args.self.now.code) (sym c.deref.ensures.value)
    (subst (IsCodeOf columns (bits none)) (sym was) (none_coded columns (bits none) (none_has none c.args.rows.now.pool.width c.requires.coder.none)))

pub returns-clause-code : goal.returns-clause-code
returns-clause-code c =
    let row = c.row-row.result.now in
    elim c.match-self.branch [
      | in-Some w ↦ rw (w.self-is) (row, c.row-row.ensures.row, w.pass_code.ensures)
      | in-None w ↦ rw (w.self-is) (row, c.row-row.ensures.row, w.pass_code-in-None.ensures)
    ]

pub returns-clause-coder : goal.returns-clause-coder
returns-clause-coder c = record {
  none = elim c.match-self.branch [ in-Some w ↦ rw (w.self-is) c.requires.coder.none | in-None w ↦ rw (w.self-is) c.requires.coder.none ];
  code = returns-clause-code c;
}
