use Rattle.std.proofs.Common.{◌<◌, List, ℕ, sym, ap, subst, ◌∙◌}
use Rattle.std.specs.List.{All}
use Rattle.std.proofs.lemmas.Result.{IfOk-weaker}
use Rattle.cb_breadth.specs.Trees.{HasNode}
use Rattle.cb_compact.specs.Compact.{AreRising, with_ones}
use Rattle.cb_matrix.specs.Codes.{IsCodeWhere}
use Rattle.cb_matrix.proofs.InOrder.{coded_in}
use Rattle.cb_matrix.proofs.visited.code_of_visits.Goals as goal

pub at-requires-clause-rising : goal.at-requires-clause-rising
at-requires-clause-rising c = subst AreRising (sym c.deref.ensures.value) (c.in_ok-list_visited.ensures c.if-branch.true).rising

pub at-requires-clause-within : goal.at-requires-clause-within
at-requires-clause-within c =
    subst (λ (ps : List ℕ). All (λ place. place < c.len.result) ps) (sym c.deref.ensures.value)
    (subst (λ width. All (λ place. place < width) c.list_visited.new.list.items) (sym c.len.ensures) (c.in_ok-list_visited.ensures c.if-branch.true).within)

pub returns-then-branch : goal.returns-then-branch
returns-then-branch c =
    let columns = c.args.columns.now in
    let P = HasNode c.args.order.now.nodes.items c.args.visits.now in
    let listed = c.in_ok-list_visited.ensures c.if-branch.true in
    let positions = c.list_visited.new.list.items in
    IfOk-weaker c.at.result _ (IsCodeWhere columns P)
    (λ code is. subst (IsCodeWhere columns P) (sym (is ∙ ap (λ ps. with_ones ps c.len.result) c.deref.ensures.value ∙ ap (with_ones positions) c.len.ensures))
    (coded_in columns P positions listed)) c.at.ensures

pub returns : goal.returns
returns c =
    let columns = c.args.columns.now in
    let P = HasNode c.args.order.now.nodes.items c.args.visits.now in
    IfOk-weaker c.of.result _ (IsCodeWhere columns P) (λ code is. subst (IsCodeWhere columns P) (sym is) c.mark_visited.ensures) c.of.ensures
