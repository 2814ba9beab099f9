use Rattle.std.proofs.Common.{List, sym, subst, ◌∙◌}
use Rattle.cb_log.specs.declared.event.Event.{Event}
use Rattle.cb_log.specs.Entries.{said}
use Rattle.cb_topo.specs.Numbered.{Numbered}
use Rattle.cb_session.specs.Course.{fixed_state, mode_by}
use Rattle.cb_session.specs.Ready.{IsReady}
use Rattle.cb_session.specs.Reported.{TellsInUse}
use Rattle.cb_session.specs.Steps.{EntryTells}
use Rattle.cb_session.proofs.ByOne.{fixed_tells, fixed_stands}
use Rattle.cb_session.proofs.Stepping.{due_rise}
use Rattle.cb_session.proofs.fixed.go_on_fixed.Goals as goal

pub reported_in_use-events-requires-clause-ready : goal.reported_in_use-events-requires-clause-ready
reported_in_use-events-requires-clause-ready c =
    let mode = mode_by c.args.ready.now in
    (mode, subst (λ (n : Numbered). IsReady n mode c.args.ready.now) (sym (c.topology.ensures ∙ c.graph.ensures)) c.requires.ready)

pub reported_in_use-events-requires-clause-rise : goal.reported_in_use-events-requires-clause-rise
reported_in_use-events-requires-clause-rise c = due_rise c.args.windows.now c.args.next.now c.in_ok-closing.closing c.requires.over c.in_ok-closing.ensures

pub returns-clause-gives : goal.returns-clause-gives
returns-clause-gives c =
    let cache = c.args.cache.now in
    let ready = c.args.ready.now in
    let mode = mode_by ready in
    let windows = c.args.windows.now in
    let closing = c.in_ok-closing.closing in
    let events = c.in_ok-events.events in
    let refuses = c.in_ok-refuse_edit.ensures.refuses in
    let here = c.topology.ensures ∙ c.graph.ensures in
    let tells = subst (λ (n : Numbered). TellsInUse n mode ready closing events) here
    (c.in_ok-events.ensures mode (subst (λ (n : Numbered). IsReady n mode ready) (sym here) c.requires.ready)) in
    subst (λ (es : List Event). EntryTells (fixed_state cache windows ready) (said c.args.number c.args.next.now) es) (sym refuses.2)
    (fixed_tells cache ready c.args.number c.args.next.now windows closing c.in_ok-closing.ensures events tells refuses.0 refuses.1)

pub returns-clause-stands : goal.returns-clause-stands
returns-clause-stands c =
    fixed_stands c.args.cache.now c.args.ready.now c.args.number c.args.next.now c.args.windows.now c.refuse_edit.new.windows c.in_ok-refuse_edit.ensures.goes_on
