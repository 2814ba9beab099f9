use Rattle.std.proofs.Common.{◌≡◌, List, refl, sym, ap, subst, rules, true}
use Rattle.std.specs.BTreeSet.{Updates}
use Rattle.std.specs.FinSet as set
use Rattle.cb_model.specs.declared.node.NodeName.{NodeName}
use Rattle.cb_model.specs.NodeOrder.{node_cmp}
use Rattle.cb_window.specs.Kept.{LooksSame, shown}
use Rattle.cb_window.specs.declared.windows.Open.{Open}
use Rattle.cb_window.proofs.Raising.{on_err, same_under, gains_in}
use Rattle.cb_window.proofs.nodes.add_node.Goals as goal

pub returns-in_err-insert-clause-opened : goal.returns-in_err-insert-clause-opened
returns-in_err-insert-clause-opened c =
    let w : Open = record { opened = c.in-Some.window.now.opened; nodes = c.insert.new.self } in
    same_under c.args.live.now (c.get_mut.follows.lender w) c.args.from.now w ((c.get_mut.follows.holds w).3 (search rules))
    (λ (o : Open). o.opened) c.in-Some.window.now (sym c.in-Some.ensures.value) refl

pub returns-in_err-insert-clause-same : goal.returns-in_err-insert-clause-same
returns-in_err-insert-clause-same c =
    let w : Open = record { opened = c.in-Some.window.now.opened; nodes = c.insert.new.self } in
    let same : shown w ≡ shown c.in-Some.window.now =
    ap (λ (ks : List NodeName). record { opened = c.in-Some.window.now.opened; nodes = set.from_list ks }) c.in_err-insert.ensures.err in
    on_err (LooksSame c.args.live.now (c.get_mut.follows.lender w)) c.from_residual-in_err-insert.result
    (same_under c.args.live.now (c.get_mut.follows.lender w) c.args.from.now w ((c.get_mut.follows.holds w).3 (search rules))
    shown c.in-Some.window.now (sym c.in-Some.ensures.value) same)

pub returns-in_ok-insert-clause-gains : goal.returns-in_ok-insert-clause-gains
returns-in_ok-insert-clause-gains c =
    let w : Open = record { opened = c.in-Some.window.now.opened; nodes = c.insert.new.self } in
    gains_in c.args.live.now (c.get_mut.follows.lender w) c.args.from.now w ((c.get_mut.follows.holds w).3 (search rules))
    c.args.node.now c.in-Some.window.now (sym c.in-Some.ensures.value) (record {
      opened = refl;
      nodes = subst (λ (n : NodeName). Updates node_cmp c.in-Some.window.now.nodes c.insert.new.self n true) c.in_ok-node.ensures c.in_ok-insert.ensures.updates;
    })

pub returns-in_ok-insert-clause-opened : goal.returns-in_ok-insert-clause-opened
returns-in_ok-insert-clause-opened c =
    let w : Open = record { opened = c.in-Some.window.now.opened; nodes = c.insert.new.self } in
    same_under c.args.live.now (c.get_mut.follows.lender w) c.args.from.now w ((c.get_mut.follows.holds w).3 (search rules))
    (λ (o : Open). o.opened) c.in-Some.window.now (sym c.in-Some.ensures.value) refl
