use Rattle.std.proofs.Common.{◌≡◌, ◌-◌, ◌↔◌, List, ℕ, length, refl, sym, subst, Some, arith}
use Rattle.std.specs.Prelude.{slice_get}
use Rattle.std.specs.List.{Contains}
use Rattle.cb_graph.specs.Edges.{EdgeAt}
use Rattle.std.proofs.lemmas.Option.{slice_get_read}
use Rattle.cb_explain.proofs.Listing.{live_below, lists_live}
use Rattle.cb_explain.proofs.Leading.{parent_low, has_edge, edge_led}
use Rattle.cb_explain.proofs.checking.is_led.Goals as goal

pub list_successors-requires : goal.list_successors-requires
list_successors-requires g c =
    let n = c.args.graph.now in
    let levels = c.args.levels.now in
    let listed = c.args.listed.now in
    let entry = c.at.result.now in
    let size : c.len.result ≡ length listed.nodes.items = omega (arith, c.len.ensures, listed.nodes.ok.0) in
    let at = subst (λ k. slice_get levels.entries k ≡ Some entry) size c.at.ensures in
    let low = parent_low levels (length listed.nodes.items) entry at c.requires.parent in
    let from_at = slice_get_read listed.nodes.items (length listed.nodes.items) (entry.parent - 1) c.index.result.now refl low c.index.ensures in
    record { node = live_below n c.index.result.now (lists_live n levels (entry.parent - 1) c.index.result.now (c.requires.listed.each (entry.parent - 1) c.index.result.now from_at)) }

pub returns-clause-led : goal.returns-clause-led
returns-clause-led g c =
    let n = c.args.graph.now in
    let levels = c.args.levels.now in
    let listed = c.args.listed.now in
    let entry = c.at.result.now in
    let position = length listed.nodes.items in
    let size : c.len.result ≡ length listed.nodes.items = omega (arith, c.len.ensures, listed.nodes.ok.0) in
    let at = subst (λ k. slice_get levels.entries k ≡ Some entry) size c.at.ensures in
    let low = parent_low levels position entry at c.requires.parent in
    let from = c.index.result.now in
    let from_at = slice_get_read listed.nodes.items position (entry.parent - 1) from refl low c.index.ensures in
    let list = subst (λ (xs : List ℕ). Contains xs c.args.node.0 ↔ EdgeAt n from.0 c.args.node.0) (sym c.deref.ensures.value) (c.in_ok-list_successors.ensures.list c.args.node.0) in (
      λ yes. has_edge n levels listed c.requires.listed position entry at from from_at c.args.node c.requires.node (list.0 (c.has.ensures.0 yes)),
      λ edge. c.has.ensures.1 (list.1 (edge_led n levels listed c.requires.listed position entry at from from_at c.args.node c.requires.node edge)),
    )
