use Rattle.std.proofs.Common.{◌≡◌, Some, None, set, sym, refl, subst, ◌∙◌, get_or-set_same}
use Rattle.cb_instances.specs.declared.instance.Instance.{Instance}
use Rattle.cb_instances.specs.Joined.{Stays, HasSpareAt}
use Rattle.cb_instances.specs.Rows.{Puts, HasSpare}
use Rattle.cb_instances.specs.Slots.{At}
use Rattle.cb_instances.proofs.RowLemmas.{on_ok}
use Rattle.cb_instances.proofs.Rewiring.{rewired, rewired_none}
use Rattle.cb_instances.proofs.Showing.{slot_within, one_at}
use Rattle.cb_instances.proofs.join.reserve.Goals as goal

pub returns-in-Some-clause-same : goal.returns-in-Some-clause-same
returns-in-Some-clause-same c =
    let old = c.in-Some.x.now.links.rows.items in
    let new = c.reserve.new.self.rows.items in
    rewired c.args.slots.now.slots c.args.at c.args.rel Stays c.in-Some.x.now _ (sym c.in-Some.ensures.value) refl
    (subst (Puts old new c.args.rel) (sym c.reserve.ensures.same.this) c.reserve.ensures.same)
    c.reserve.ensures.same.this

pub returns-in-Some-clause-spare : goal.returns-in-Some-clause-spare
returns-in-Some-clause-spare c =
    let old = c.args.slots.now.slots in
    let x = c.in-Some.x.now in
    let y : Instance = record { name = x.name; class = x.class; links = c.reserve.new.self; muted = x.muted } in
    let new = set old c.args.at.0 (Some y) in
    let now : At new c.args.at y = get_or-set_same old c.args.at.0 (Some y) None (slot_within old c.args.at.0 x (sym c.in-Some.ensures.value)) in
    on_ok c.reserve.result (HasSpare y.links.rows.items c.args.rel) (HasSpareAt new c.args.at c.args.rel)
    (λ capacity z at. subst (λ (w : Instance). HasSpare w.links.rows.items c.args.rel) (one_at new c.args.at y z now at) capacity)
    c.reserve.ensures.spare

pub returns-in-None-clause-same : goal.returns-in-None-clause-same
returns-in-None-clause-same c = rewired_none c.args.slots.now.slots c.args.at c.args.rel Stays (sym c.in-None.ensures.value)

pub returns-in-None-clause-spare : goal.returns-in-None-clause-spare
returns-in-None-clause-spare c = λ x at. let e : None ≡ Some x = c.in-None.ensures.value ∙ at in absurd (cc)
