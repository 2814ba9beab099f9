use Rattle.std.proofs.Common.{◌≡◌, ◌<◌, ℕ, List, refl, sym, ap, subst, ◌∙◌, None, Some}
use Rattle.std.specs.BTreeMap.{Updates, get}
use Rattle.cb_model.specs.Order.{name_cmp}
use Rattle.cb_window.specs.Kept.{OpenedBefore}
use Rattle.cb_window.specs.declared.turn.Turn.{Turn}
use Rattle.cb_window.proofs.Turns.{takes_out}
use Rattle.cb_window.proofs.Raising.{queued_with, opens_in, first_turn, next_turn, no_turn, queued_same}
use Rattle.cb_window.proofs.opening.open_window.Goals as goal

pub returns-in-Ok-None-clause-queued : goal.returns-in-Ok-None-clause-queued
returns-in-Ok-None-clause-queued c =
    let key : c.in_ok-name.name ≡ c.args.from.now = c.in_ok-name.ensures ∙ c.bytes.ensures in
    let updates = subst (λ (k : List ℕ). Updates name_cmp c.args.live.now c.insert-2.new.self k (Some c.in_ok-window.window)) key c.in-Ok-None.ensures.updates in
    let none : get name_cmp c.args.live.now c.args.from.now ≡ None =
    sym (c.in-Ok-None.ensures.old ∙ ap (get name_cmp c.args.live.now) key) ∙ c.in-Ok-None.field-0-is in
    queued_with c.args.live.now c.insert-2.new.self c.args.from.now c.in_ok-window.window updates c.args.queue.now c.insert.new.self c.in_ok-turn.turn
    c.in_ok-turn.ensures.from (c.in_ok-turn.ensures.opened ∙ sym c.in_ok-window.ensures.opened) c.requires.queued
    (first_turn c.args.live.now c.args.queue.now c.insert.new.self c.in_ok-turn.turn c.args.from.now c.in_ok-turn.ensures.from c.requires.queued
    c.in_ok-insert.ensures.updates none)

pub returns-in-Ok-None-clause-opens : goal.returns-in-Ok-None-clause-opens
returns-in-Ok-None-clause-opens c =
    let key : c.in_ok-name.name ≡ c.args.from.now = c.in_ok-name.ensures ∙ c.bytes.ensures in
    let updates = subst (λ (k : List ℕ). Updates name_cmp c.args.live.now c.insert-2.new.self k (Some c.in_ok-window.window)) key c.in-Ok-None.ensures.updates in
    opens_in c.args.live.now c.insert-2.new.self c.args.from.now c.in_ok-window.window updates c.args.time c.args.node.now
    c.in_ok-window.ensures.opened c.in_ok-window.ensures.nodes

pub returns-in-Ok-Some-clause-queued : goal.returns-in-Ok-Some-clause-queued
returns-in-Ok-Some-clause-queued c =
    let key : c.in_ok-name.name ≡ c.args.from.now = c.in_ok-name.ensures ∙ c.bytes.ensures in
    let updates = subst (λ (k : List ℕ). Updates name_cmp c.args.live.now c.insert-2.new.self k (Some c.in_ok-window.window)) key c.in-Ok-Some.ensures.updates in
    let is : get name_cmp c.args.live.now c.args.from.now ≡ Some c.in-Ok-Some.old =
    sym (c.in-Ok-Some.ensures.old ∙ ap (get name_cmp c.args.live.now) key) ∙ c.in-Ok-Some.field-0-is in
    let before : c.in-Ok-Some.old.opened < c.in_ok-turn.turn.opened =
    subst (λ (t : ℕ). c.in-Ok-Some.old.opened < t) (sym c.in_ok-turn.ensures.opened) (c.requires.before c.in-Ok-Some.old is) in
    let gone : Turn = record { opened = c.in-Ok-Some.old.opened; from = c.in_ok-gone.gone.from } in
    queued_with c.args.live.now c.insert-2.new.self c.args.from.now c.in_ok-window.window updates c.args.queue.now c.remove.new.self c.in_ok-turn.turn
    c.in_ok-turn.ensures.from (c.in_ok-turn.ensures.opened ∙ sym c.in_ok-window.ensures.opened) c.requires.queued
    (next_turn c.args.live.now c.args.queue.now c.insert.new.self c.in_ok-turn.turn c.args.from.now c.in_ok-turn.ensures.from c.requires.queued
    c.in_ok-insert.ensures.updates c.remove.new.self gone c.in-Ok-Some.old is before c.in_ok-gone.ensures.from refl
    (takes_out c.insert.new.self c.remove.new.self gone c.remove.ensures.updates))

pub returns-in-Ok-Some-clause-opens : goal.returns-in-Ok-Some-clause-opens
returns-in-Ok-Some-clause-opens c =
    let key : c.in_ok-name.name ≡ c.args.from.now = c.in_ok-name.ensures ∙ c.bytes.ensures in
    let updates = subst (λ (k : List ℕ). Updates name_cmp c.args.live.now c.insert-2.new.self k (Some c.in_ok-window.window)) key c.in-Ok-Some.ensures.updates in
    opens_in c.args.live.now c.insert-2.new.self c.args.from.now c.in_ok-window.window updates c.args.time c.args.node.now
    c.in_ok-window.ensures.opened c.in_ok-window.ensures.nodes

pub returns-clause-queued : goal.returns-clause-queued
returns-clause-queued c =
    let before : OpenedBefore c.args.live.now c.args.from.now c.in_ok-turn.turn.opened =
    subst (OpenedBefore c.args.live.now c.args.from.now) (sym c.in_ok-turn.ensures.opened) c.requires.before in
    let opened : c.in_ok-gone.gone.opened ≡ c.in_ok-turn.turn.opened = c.in_ok-gone.ensures.opened ∙ sym c.in_ok-turn.ensures.opened in
    let from : c.in_ok-gone.gone.from ≡ c.in_ok-turn.turn.from = c.in_ok-gone.ensures.from ∙ sym c.in_ok-turn.ensures.from in
    queued_same c.args.live.now c.insert-2.new.self c.remove-in-Err.new.self c.in-Err.ensures.err
    (no_turn c.args.live.now c.args.queue.now c.insert.new.self c.in_ok-turn.turn c.args.from.now c.in_ok-turn.ensures.from c.requires.queued
    c.in_ok-insert.ensures.updates c.remove-in-Err.new.self c.in_ok-gone.gone before (λ i. record { opened = opened i; from = from i })
    (takes_out c.insert.new.self c.remove-in-Err.new.self c.in_ok-gone.gone c.remove-in-Err.ensures.updates))
