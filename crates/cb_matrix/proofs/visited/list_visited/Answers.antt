use Rattle.std.proofs.Common.{◌≡◌, ◌+◌, length, slice_get, slice_index_or, Some, sym, subst, eqb, arith}
use Rattle.std.proofs.lemmas.List.Filters.{dedup_is}
use Rattle.std.proofs.lemmas.Option.{slice_get-get_or}
use Rattle.cb_breadth.specs.Trees.{HasNode, visit}
use Rattle.cb_matrix.specs.Codes.{AreColumnsIn}
use Rattle.cb_matrix.proofs.InOrder.{AreListedBy, as_listed, in_order, nothing_listed, one_listed, none_more}
use Rattle.cb_matrix.proofs.Seen.{IsSeen, all_seen, none_seen, one_seen, other_seen}
use Rattle.cb_matrix.proofs.visited.list_visited.Goals as goal
use Rattle.cb_matrix.proofs.visited.list_visited.Goals.{in-Some+in_ok-push+else-not-is_sparse, in_default}

pub place_of-requires : goal.place_of-requires
place_of-requires c = c.requires c.loop-visit.visit-index (visit 0 0) c.loop-visit-test.true

pub loop-visit-init : goal.loop-visit-init
loop-visit-init c =
    let nodes = c.args.order.now.nodes.items in
    let visits = c.args.visits.now in
    subst (AreListedBy c.args.columns.now (IsSeen nodes visits 0)) (sym c.clear.ensures.items) (nothing_listed c.args.columns.now (IsSeen nodes visits 0) (none_seen nodes visits))

pub loop-visit-preserved : goal.loop-visit-preserved
loop-visit-preserved c =
    let nodes = c.args.order.now.nodes.items in
    let visits = c.args.visits.now in
    let columns = c.args.columns.now in
    let i = c.loop-visit.visit-index in
    let v = slice_index_or visits i (visit 0 0) in
    let low = c.loop-visit-test.true in
    let is : slice_get visits i ≡ Some v = slice_get-get_or visits i (visit 0 0) low in
    let below = c.requires i (visit 0 0) low in
    let node = slice_index_or nodes v.node 0 in
    let at = slice_get-get_or nodes v.node 0 below in
    let items = c.loop-visit.list.items in
    elim c.match-place_of.branch [
      | in-Some+in_ok-push+else-not-is_sparse w ↦
          rw (w.list-is)
          (subst (AreListedBy columns (IsSeen nodes visits (i + 1))) (sym w.in_ok-push.ensures.items)
          (one_listed columns (IsSeen nodes visits i) (IsSeen nodes visits (i + 1)) items node c.loop-visit.invariant w.in-Some.place
          (w.in-Some.ensures node at) (one_seen nodes visits i v node is at)))
      | in_default w ↦
          rw (w.list-is)
          (none_more columns (IsSeen nodes visits i) (IsSeen nodes visits (i + 1)) items node c.loop-visit.invariant (w.in_default.ensures node at)
          (other_seen nodes visits i v node is at))
    ]

pub returns : goal.returns
returns c = λ yes.
    let nodes = c.args.order.now.nodes.items in
    let visits = c.args.visits.now in
    let columns = c.args.columns.now in
    let i = c.loop-visit.visit-index in
    let all : length visits ≡ i = (let past = c.loop-visit-test.false in let within = c.loop-visit.auto.visit-index-end in omega arith) in
    let listed = as_listed columns (IsSeen nodes visits i) (HasNode nodes visits) c.loop-visit.list.items (all_seen nodes visits i all) c.loop-visit.invariant in
    subst (AreColumnsIn columns (HasNode nodes visits)) (sym (dedup_is eqb c.sort_unstable.new.self.items c.dedup.new.self.items c.dedup.ensures.filtered))
    (in_order columns (HasNode nodes visits) c.loop-visit.list.items c.sort_unstable.new.self.items listed c.sort_unstable.ensures.permutation c.sort_unstable.ensures.sorted)
