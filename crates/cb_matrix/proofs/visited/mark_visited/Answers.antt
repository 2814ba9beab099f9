use Rattle.std.proofs.Common.{◌≡◌, ◌+◌, length, slice_get, slice_index_or, Some, sym, subst, arith}
use Rattle.std.proofs.lemmas.Option.{slice_get-get_or}
use Rattle.cb_breadth.specs.Trees.{HasNode, visit}
use Rattle.cb_matrix.specs.Codes.{IsCodeWhere}
use Rattle.cb_matrix.proofs.Passed.{as_coded, joined, no_column, nothing_coded, place_low}
use Rattle.cb_matrix.proofs.Seen.{IsSeen, all_seen, none_seen, one_seen, other_seen}
use Rattle.cb_matrix.proofs.visited.mark_visited.Goals as goal
use Rattle.cb_matrix.proofs.visited.mark_visited.Goals.{in-Some, in_default}

pub place_of-requires : goal.place_of-requires
place_of-requires c = c.requires.below c.loop-visit.visit-index (visit 0 0) c.loop-visit-test.true

pub loop-visit-init : goal.loop-visit-init
loop-visit-init c =
    let nodes = c.args.order.now.nodes.items in
    let visits = c.args.visits.now in
    subst (IsCodeWhere c.args.columns.now (IsSeen nodes visits 0)) (sym c.requires.none) (nothing_coded c.args.columns.now (IsSeen nodes visits 0) (none_seen nodes visits))

pub set-requires : goal.set-requires
set-requires c =
    let nodes = c.args.order.now.nodes.items in
    let visits = c.args.visits.now in
    let i = c.loop-visit.visit-index in
    let v = slice_index_or visits i (visit 0 0) in
    let node = slice_index_or nodes v.node 0 in
    let at = slice_get-get_or nodes v.node 0 (c.requires.below i (visit 0 0) c.loop-visit-test.true) in
    place_low c.args.columns.now (IsSeen nodes visits i) (IsSeen nodes visits i) c.loop-visit.code node c.loop-visit.invariant c.in-Some.place (c.in-Some.ensures node at)

pub loop-visit-preserved : goal.loop-visit-preserved
loop-visit-preserved c =
    let nodes = c.args.order.now.nodes.items in
    let visits = c.args.visits.now in
    let columns = c.args.columns.now in
    let i = c.loop-visit.visit-index in
    let v = slice_index_or visits i (visit 0 0) in
    let low = c.loop-visit-test.true in
    let is : slice_get visits i ≡ Some v = slice_get-get_or visits i (visit 0 0) low in
    let node = slice_index_or nodes v.node 0 in
    let at = slice_get-get_or nodes v.node 0 (c.requires.below i (visit 0 0) low) in
    elim c.match-place_of.branch [
      | in-Some w ↦
          rw (w.code-is, w.set.ensures)
          (joined columns (IsSeen nodes visits i) (IsSeen nodes visits (i + 1)) c.loop-visit.code node c.loop-visit.invariant w.in-Some.place
          (w.in-Some.ensures node at) (one_seen nodes visits i v node is at))
      | in_default w ↦
          rw (w.code-is)
          (no_column columns (IsSeen nodes visits i) (IsSeen nodes visits (i + 1)) c.loop-visit.code node c.loop-visit.invariant (w.in_default.ensures node at)
          (other_seen nodes visits i v node is at))
    ]

pub returns : goal.returns
returns c =
    let nodes = c.args.order.now.nodes.items in
    let visits = c.args.visits.now in
    let i = c.loop-visit.visit-index in
    let all : length visits ≡ i = (let past = c.loop-visit-test.false in let within = c.loop-visit.auto.visit-index-end in omega arith) in
    as_coded c.args.columns.now (IsSeen nodes visits i) (HasNode nodes visits) c.loop-visit.code (all_seen nodes visits i all) c.loop-visit.invariant
