use Rattle.std.proofs.Common.{◌≡◌, ℕ, ◌<◌, List, length, sym, ap, subst, ◌∙◌}
use Rattle.std.specs.List.{All}
use Rattle.std.proofs.lemmas.Result.{IfOk-weaker}
use Rattle.cb_compact.specs.Compact.{AreRising, with_ones}
use Rattle.cb_nodes.specs.declared.id.NodeId.{NodeId}
use Rattle.cb_checker.specs.Codes.{AreColumnsListed, IsCodeOfListed}
use Rattle.cb_checker.proofs.Coding.{code_at}
use Rattle.cb_checker.proofs.codes.compact_code_of.Goals as goal

pub at-requires-clause-rising : goal.at-requires-clause-rising
at-requires-clause-rising c = subst AreRising (sym c.deref-then-branch.ensures.value) (c.in_ok-list_columns.ensures c.if-branch.true).rising

pub at-requires-clause-within : goal.at-requires-clause-within
at-requires-clause-within c =
    let columns = c.args.columns.now in
    let listed = c.in_ok-list_columns.ensures c.if-branch.true in
    subst (λ n. All (λ k. k < n) c.deref-then-branch.result.now) (sym c.len.ensures)
    (subst (λ (places : List ℕ). All (λ k. k < length columns) places) (sym c.deref-then-branch.ensures.value) listed.within)

pub returns-then-branch : goal.returns-then-branch
returns-then-branch c =
    let columns = c.args.columns.now in
    let placed = c.args.marks.now.placed.items in
    let row = c.args.marks.now.listed in
    let positions = c.deref-then-branch.result.now in
    let items = c.list_columns.new.list.items in
    let by : AreColumnsListed columns placed items = subst (λ (ids : List NodeId). AreColumnsListed columns ids items) c.deref.ensures.value (c.in_ok-list_columns.ensures c.if-branch.true) in
    let listed = subst (AreColumnsListed columns placed) (sym c.deref-then-branch.ensures.value) by in
    IfOk-weaker c.at.result (λ code. code ≡ with_ones positions c.len.result) (IsCodeOfListed columns row)
    (λ code is. subst (IsCodeOfListed columns row) (sym (is ∙ ap (with_ones positions) c.len.ensures)) (code_at columns placed positions row c.requires listed)) c.at.ensures
