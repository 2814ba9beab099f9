use Rattle.std.proofs.Common.{◌≡◌, ◌∙◌, ℕ, List, sym, ap, subst, subst₂, IfOk, Err, arith}
use Rattle.cb_model.specs.declared.wish.Wish.{Wish}
use Rattle.cb_model.specs.declared.wish.Wish.TheVariants.{Plain, Cap}
use Rattle.cb_reduce.specs.declared.codebook.Refused.{Refused}
use Rattle.cb_reduce.specs.Reduced.{IsReduced}
use Rattle.cb_cert.specs.Format.{IsWanted}
use Rattle.cb_span.specs.Searched.{AreTreesOf}
use Rattle.cb_nodes.specs.declared.id.NodeId.{NodeId}
use Rattle.cb_topo.specs.Columns.{AreAllColumns}
use Rattle.cb_topo.specs.Numbered.{Numbered, topology_of}
use Rattle.cb_certify.specs.Groups.{AreGroupsIn, IsLeastAt}
use Rattle.cb_certify.specs.Made.{IsCapBookOf, IsChoiceOf, IsMadeOf, IsWantedWish}
use Rattle.cb_certify.specs.Members.{IsCalledBy}
use Rattle.cb_certify.proofs.Reduced.{rows_fit, columns_fit, book_of, cap_book_of, first_close, places_within, pair_far, first_pair, called_least, pair_called}
use Rattle.cb_certify.proofs.codebook.by_trees.Goals as goal

pub groups_of-requires-clause-trees : goal.groups_of-requires-clause-trees
groups_of-requires-clause-trees g c = subst (λ (m : Numbered). AreTreesOf m c.args.trees) (sym c.topology-2.ensures) c.requires.trees

pub groups_of-requires-clause-columns : goal.groups_of-requires-clause-columns
groups_of-requires-clause-columns g c = subst (λ (m : Numbered). AreAllColumns m c.in_ok-columns.columns) (c.topology.ensures ∙ sym c.topology-2.ensures) c.in_ok-columns.ensures.columns

pub reduce-requires-clause-places_fit : goal.reduce-requires-clause-places_fit
reduce-requires-clause-places_fit g c =
    let made = c.in_ok-groups.groups in
    let are = subst (λ (m : Numbered). AreGroupsIn m made) c.topology-2.ensures c.in_ok-groups.ensures in
    rows_fit (topology_of c.args.graph.now) are.groups are.are made.codes are.width are.codes

pub reduce-requires-clause-columns_fit : goal.reduce-requires-clause-columns_fit
reduce-requires-clause-columns_fit g c =
    let made = c.in_ok-groups.groups in
    let are = subst (λ (m : Numbered). AreGroupsIn m made) c.topology-2.ensures c.in_ok-groups.ensures in
    columns_fit (topology_of c.args.graph.now) are.groups are.are made.codes are.width are.codes

pub with_book-requires-clause-trees : goal.with_book-requires-clause-trees
with_book-requires-clause-trees g c = subst (λ (m : Numbered). AreTreesOf m c.args.trees) (sym c.topology-in-Ok.ensures) c.requires.trees

pub with_book-requires-clause-all : goal.with_book-requires-clause-all
with_book-requires-clause-all g c =
    subst₂ (λ (m : Numbered) (ids : List NodeId). AreAllColumns m ids) (c.topology.ensures ∙ sym c.topology-in-Ok.ensures) (sym c.nodes.ensures) c.in_ok-columns.ensures.columns

pub with_book-requires-clause-book : goal.with_book-requires-clause-book
with_book-requires-clause-book g c =
    let made = c.in_ok-groups.groups in
    let are = subst (λ (m : Numbered). AreGroupsIn m made) c.topology-2.ensures c.in_ok-groups.ensures in
    let book = c.in-Ok.book in
    subst (λ (m : Numbered). IsChoiceOf (topology_of m) (Plain book.distance) book.columns) (sym c.topology-in-Ok.ensures)
    (book_of (topology_of c.args.graph.now) are.groups are.are made.codes are.width are.codes c.in-Plain.wanted book c.in-Ok.ensures)

pub with_book-requires-clause-wanted : goal.with_book-requires-clause-wanted
with_book-requires-clause-wanted g c = subst IsWanted (sym c.in-Ok.ensures.1) (subst IsWantedWish c.in-Plain.is c.requires.wish)

pub returns-in-Ok : goal.returns-in-Ok
returns-in-Ok g c =
    let wish : Plain c.in-Ok.book.distance ≡ c.args.wish = ap (λ (d : ℕ). Plain d) c.in-Ok.ensures.1 ∙ sym c.in-Plain.is in
    subst (λ (w : Wish). IfOk c.with_book.result (IsMadeOf (topology_of c.args.graph.now) w)) wish
    (subst (λ (m : Numbered). IfOk c.with_book.result (IsMadeOf (topology_of m) (Plain c.in-Ok.book.distance))) c.topology-in-Ok.ensures c.with_book.ensures)

pub close_groups-close-requires : goal.close_groups-close-requires
close_groups-close-requires g c =
    let made = c.in_ok-groups.groups in
    let are = subst (λ (m : Numbered). AreGroupsIn m made) c.topology-2.ensures c.in_ok-groups.ensures in
    let pair = c.in-Err-TooClose.pair in
    let is = subst (λ (why : Refused). IsReduced made.codes c.in-Plain.wanted (Err why)) c.in-Err-TooClose.field-0-is c.in-Err-TooClose.ensures in
    let (below, within) = places_within (topology_of c.args.graph.now) are.groups are.are made.codes are.width are.codes c.in-Plain.wanted pair is in
    let count = are.least.count in
    record { first = omega arith; second = omega arith; later = omega arith }

pub shortfall-requires-clause-pair : goal.shortfall-requires-clause-pair
shortfall-requires-clause-pair g c =
    let n = c.args.graph.now in
    let made = c.in_ok-groups.groups in
    let are = subst (λ (m : Numbered). AreGroupsIn m made) c.topology-2.ensures c.in_ok-groups.ensures in
    let pair = c.in-Err-TooClose.pair in
    let is = subst (λ (why : Refused). IsReduced made.codes c.in-Plain.wanted (Err why)) c.in-Err-TooClose.field-0-is c.in-Err-TooClose.ensures in
    let (below, within) = places_within (topology_of n) are.groups are.are made.codes are.width are.codes c.in-Plain.wanted pair is in
    first_pair n are.groups are.are c.in-Plain.wanted pair c.close_groups-close.result
    (first_close (topology_of n) are.groups are.are made.codes are.width are.codes c.in-Plain.wanted pair is)
    (pair_called (IsLeastAt made.least) (IsCalledBy n are.groups.groups) pair c.close_groups-close.result
    (called_least n are.groups.groups made.least are.least pair.first (omega arith)) (called_least n are.groups.groups made.least are.least pair.second within)
    c.close_groups-close.ensures)

pub shortfall-requires-clause-far : goal.shortfall-requires-clause-far
shortfall-requires-clause-far g c =
    let made = c.in_ok-groups.groups in
    let are = subst (λ (m : Numbered). AreGroupsIn m made) c.topology-2.ensures c.in_ok-groups.ensures in
    let pair = c.in-Err-TooClose.pair in
    let is = subst (λ (why : Refused). IsReduced made.codes c.in-Plain.wanted (Err why)) c.in-Err-TooClose.field-0-is c.in-Err-TooClose.ensures in
    let far = pair_far (topology_of c.args.graph.now) are.groups are.are made.codes are.width are.codes c.in-Plain.wanted pair is in
    let same = c.close_groups-close.ensures.distance in
    omega arith

pub shortfall-requires-clause-wanted : goal.shortfall-requires-clause-wanted
shortfall-requires-clause-wanted g c = subst IsWantedWish c.in-Plain.is c.requires.wish

pub returns-in-Err-TooClose : goal.returns-in-Err-TooClose
returns-in-Err-TooClose g c =
    subst (λ (w : Wish). IfOk c.shortfall.result (IsMadeOf (topology_of c.args.graph.now) w)) (sym c.in-Plain.is) c.shortfall.ensures

-- for a cap
pub with_cap_book-requires-clause-all : goal.with_cap_book-requires-clause-all
with_cap_book-requires-clause-all g c =
    subst₂ (λ (m : Numbered) (ids : List NodeId). AreAllColumns m ids) (c.topology.ensures ∙ sym c.topology-in-Cap.ensures) (sym c.nodes-in-Cap.ensures) c.in_ok-columns.ensures.columns

pub with_cap_book-requires-clause-book : goal.with_cap_book-requires-clause-book
with_cap_book-requires-clause-book g c =
    let made = c.in_ok-groups.groups in
    let are = subst (λ (m : Numbered). AreGroupsIn m made) c.topology-2.ensures c.in_ok-groups.ensures in
    let book = c.in_ok-book-in-Cap.book in
    subst (λ (m : Numbered). IsCapBookOf (topology_of m) book) (sym c.topology-in-Cap.ensures)
    (cap_book_of (topology_of c.args.graph.now) are.groups are.are made.codes are.width are.codes book c.in_ok-book-in-Cap.ensures.book)

pub with_cap_book-requires-clause-wanted : goal.with_cap_book-requires-clause-wanted
with_cap_book-requires-clause-wanted g c = subst IsWanted (sym c.in_ok-book-in-Cap.ensures.cap) (subst IsWantedWish c.in-Cap.is c.requires.wish)
