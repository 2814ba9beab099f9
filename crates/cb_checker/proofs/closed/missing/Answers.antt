use Rattle.std.proofs.Common.{◌≡◌, ℕ, List, length, sym, subst, ◌∙◌}
use Rattle.std.specs.Prelude.{IfOk}
use Rattle.std.specs.List.{Contains}
use Rattle.cb_graph.specs.Edges.{number}
use Rattle.cb_topo.proofs.Positions.{live_below}
use Rattle.cb_topo.specs.Numbered.{Numbered, IsLiveNode}
use Rattle.cb_checker.specs.Missing.{IsLeastUnlisted, IsLeastMissing, IsUnlistedOf, IsMissing}
use Rattle.cb_checker.proofs.Closing.{ok_weaker, least_same, end_live}
use Rattle.cb_checker.proofs.closed.missing.Goals as goal

pub list_successors-requires : goal.list_successors-requires
list_successors-requires g c = record { node = live_below c.args.graph.now c.args.node c.requires.node }

pub least_unlisted-requires-clause-live : goal.least_unlisted-requires-clause-live
least_unlisted-requires-clause-live g c = λ k has.
    let n = c.args.graph.now in
    let same = c.topology.ensures ∙ c.in_ok-list_successors.ensures.same in
    let among = subst (λ (xs : List ℕ). Contains xs k) c.deref.ensures.value has in
    subst (λ (m : Numbered). IsLiveNode m (number k)) (sym same) (end_live n c.args.node.0 k ((c.in_ok-list_successors.ensures.list k).0 among))

pub least_unlisted-requires-clause-listed : goal.least_unlisted-requires-clause-listed
least_unlisted-requires-clause-listed g c =
    let same = c.topology.ensures ∙ c.in_ok-list_successors.ensures.same in
    subst (λ (m : Numbered). length c.args.marks.now.listed ≡ length m.nodes) (sym same) c.requires.marked.capacity

pub returns-clause-least : goal.returns-clause-least
returns-clause-least g c =
    let n = c.args.graph.now in
    let listed = c.args.marks.now.listed in
    let items = c.list_successors.new.list.items in
    let node = c.args.node in
    let exactly = c.in_ok-list_successors.ensures.list in
    let same = c.topology.ensures ∙ c.in_ok-list_successors.ensures.same in
    let by_items = subst (λ (xs : List ℕ). IfOk c.least_unlisted.result (IsLeastUnlisted c.topology.result.now xs listed)) c.deref.ensures.value c.least_unlisted.ensures in
    ok_weaker (IsLeastUnlisted c.topology.result.now items listed) (IsLeastMissing n node.0 listed) c.least_unlisted.result
    (λ least is.
    least_same n (IsUnlistedOf items listed) (IsMissing n node.0 listed) (λ k o. ((exactly k).0 o.0, o.1)) (λ k m. ((exactly k).1 m.0, m.1)) least
    (subst (λ (m : Numbered). IsLeastUnlisted m items listed least) same is))
    by_items
