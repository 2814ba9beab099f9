use Rattle.std.proofs.Common.{◌≡◌, length, replicate, sym, ap, subst, ◌∙◌}
use Rattle.cb_compact.specs.Compact.{with_ones}
use Rattle.cb_successors.specs.Rows.{Has}
use Rattle.cb_matrix.specs.Codes.{IsCodeOf, bits}
use Rattle.cb_matrix.proofs.InOrder.{coded_in}
use Rattle.cb_matrix.proofs.coder.Coder.code_of.Goals as goal

pub list_columns-requires-clause-none : goal.list_columns-requires-clause-none
list_columns-requires-clause-none c = c.deref.ensures.value ∙ c.requires.coder.none ∙ ap (λ k. replicate k 0) (sym c.row.ensures.width)

pub returns-then-branch-clause-code : goal.returns-then-branch-clause-code
returns-then-branch-clause-code c =
    let columns = c.args.columns.now in
    let words = c.row.result.now in
    let list = c.list_columns.new.list.items in
    let listed = c.in_ok-list_columns.ensures c.if-branch.true in
    let copied = c.in_ok-positions.ensures.items ∙ c.deref-then-branch.ensures.value in
    let is : c.of_positions.result ≡ with_ones list (length columns) = c.of_positions.ensures ∙ (λ i. with_ones (copied i) (c.len.ensures i)) in
    (words, c.row.ensures.row, subst (IsCodeOf columns (bits words)) (sym is) (coded_in columns (Has (bits words)) list listed))
