use Rattle.std.proofs.Common.{◌≡◌, ◌<◌, ◌≤◌, false, true, inl, inr, length, slice_index_or, sym, subst, arith}
use Rattle.std.proofs.lemmas.List.{length-set}
use Rattle.cb_model.proofs.Numbers.{slice_get-push_before}
use Rattle.cb_successors.specs.Rows.{Has}
use Rattle.cb_graph.proofs.Listing.{listed_fewer, listed_more, set_gains}
use Rattle.cb_graph.proofs.instances.add_one.Goals as goal

pub push_reserved-requires : goal.push_reserved-requires
push_reserved-requires c =
    let off : slice_index_or c.args.row.now c.args.id.0 false ≡ false = grind (arith, c.get.ensures, c.if-not-get.true) in
    let fewer = listed_fewer c.args.list.now.items c.args.row.now c.requires.listed c.args.id c.requires.place off in
    omega (arith, c.args.list.now.ok.0, c.requires.capacity)

pub returns-then-not-get-clause-listed : goal.returns-then-not-get-clause-listed
returns-then-not-get-clause-listed c =
    let off : slice_index_or c.args.row.now c.args.id.0 false ≡ false = grind (arith, c.get.ensures, c.if-not-get.true) in
    rw (c.push_reserved.ensures.items, c.set.ensures) (listed_more c.args.list.now.items c.args.row.now c.requires.listed c.args.id c.requires.place off)

pub returns-then-not-get-clause-capacity : goal.returns-then-not-get-clause-capacity
returns-then-not-get-clause-capacity c =
    let len = length-set c.args.row.now c.args.id.0 true in
    rw c.set.ensures (omega (arith, len, c.requires.capacity, c.push_reserved.ensures.capacity))

pub returns-then-not-get-clause-each : goal.returns-then-not-get-clause-each
returns-then-not-get-clause-each c = rw c.set.ensures (set_gains c.args.row.now c.args.id.0 c.requires.place)

pub returns-else-not-get-clause-each : goal.returns-else-not-get-clause-each
returns-else-not-get-clause-each c = λ k.
    let on : slice_index_or c.args.row.now c.args.id.0 false ≡ true = grind (arith, c.get.ensures, c.if-not-get.false) in (
      λ h. inl h,
      λ s. elim s [ inl h ↦ h | inr same ↦ subst (Has c.args.row.now) same on ],
    )

pub returns-then-not-get-clause-prefix : goal.returns-then-not-get-clause-prefix
returns-then-not-get-clause-prefix c = rw c.push_reserved.ensures.items (λ place x is. slice_get-push_before c.args.list.now.items place c.args.id x is)
