use Rattle.std.proofs.Common.{Option, List, sym, subst}
use Rattle.cb_log.specs.declared.event.Event.{Event}
use Rattle.cb_log.specs.Entries.{said}
use Rattle.cb_session.specs.declared.basis.Ready.{Ready}
use Rattle.cb_session.specs.Course.{wanted_state}
use Rattle.cb_session.specs.Settled.{IsSessionSettled}
use Rattle.cb_session.specs.Steps.{EntryTells, EntryStands}
use Rattle.cb_session.proofs.Stepping.{due_rise, Goes, settled_still, record_tells, record_stands}
use Rattle.cb_session.proofs.wanted.go_on_wanted.Goals as goal

pub closing_report-reported-requires-clause-rise : goal.closing_report-reported-requires-clause-rise
closing_report-reported-requires-clause-rise g c =
    due_rise c.args.windows.now c.args.next.now c.in_ok-closing.closing c.requires.settled.over c.in_ok-closing.ensures

pub returns-clause-settled : goal.returns-clause-settled
returns-clause-settled g c =
    let cache = c.args.cache.now in
    let fresh = c.act.new.cache in
    let wish = c.args.wish in
    let windows = c.args.windows.now in
    let later = c.act.new.windows in
    let ready = c.args.ready.now in
    let reported = c.in_ok-reported.reported in
    let acts = c.in_ok-changed.ensures.acts in
    let goes : Goes wish c.args.number c.args.next.now cache fresh windows later ready c.in_ok-closing.closing reported c.in_ok-changed.changed acts.0 = record {
      closes = c.in_ok-closing.ensures;
      tells = c.in_ok-reported.ensures;
      acts = acts.1;
      unchanged = c.in_ok-changed.ensures.unchanged;
      on = c.in_ok-changed.ensures.goes_on;
      same_length = c.in_ok-changed.ensures.length;
      settled = c.requires.settled;
    } in
    subst (IsSessionSettled fresh.graph wish later) (sym c.keep_ready.ensures) (settled_still wish c.args.number c.args.next.now cache fresh windows later ready c.in_ok-closing.closing reported c.in_ok-changed.changed acts.0 goes)

pub returns-clause-gives : goal.returns-clause-gives
returns-clause-gives g c =
    let cache = c.args.cache.now in
    let fresh = c.act.new.cache in
    let wish = c.args.wish in
    let windows = c.args.windows.now in
    let later = c.act.new.windows in
    let ready = c.args.ready.now in
    let reported = c.in_ok-reported.reported in
    let acts = c.in_ok-changed.ensures.acts in
    let goes : Goes wish c.args.number c.args.next.now cache fresh windows later ready c.in_ok-closing.closing reported c.in_ok-changed.changed acts.0 = record {
      closes = c.in_ok-closing.ensures;
      tells = c.in_ok-reported.ensures;
      acts = acts.1;
      unchanged = c.in_ok-changed.ensures.unchanged;
      on = c.in_ok-changed.ensures.goes_on;
      same_length = c.in_ok-changed.ensures.length;
      settled = c.requires.settled;
    } in
    let entry = said c.args.number c.args.next.now in
    subst (λ (es : List Event). EntryTells (wanted_state cache wish windows ready) entry es) (sym acts.2)
    (record_tells wish c.args.number c.args.next.now cache fresh windows later ready c.in_ok-closing.closing reported c.in_ok-changed.changed acts.0 goes)

pub returns-clause-stands : goal.returns-clause-stands
returns-clause-stands g c =
    let cache = c.args.cache.now in
    let fresh = c.act.new.cache in
    let wish = c.args.wish in
    let windows = c.args.windows.now in
    let later = c.act.new.windows in
    let ready = c.args.ready.now in
    let reported = c.in_ok-reported.reported in
    let acts = c.in_ok-changed.ensures.acts in
    let goes : Goes wish c.args.number c.args.next.now cache fresh windows later ready c.in_ok-closing.closing reported c.in_ok-changed.changed acts.0 = record {
      closes = c.in_ok-closing.ensures;
      tells = c.in_ok-reported.ensures;
      acts = acts.1;
      unchanged = c.in_ok-changed.ensures.unchanged;
      on = c.in_ok-changed.ensures.goes_on;
      same_length = c.in_ok-changed.ensures.length;
      settled = c.requires.settled;
    } in
    let entry = said c.args.number c.args.next.now in
    subst (λ (kept : Option Ready). EntryStands (wanted_state cache wish windows ready) (wanted_state fresh wish later kept) entry) (sym c.keep_ready.ensures)
    (record_stands wish c.args.number c.args.next.now cache fresh windows later ready c.in_ok-closing.closing reported c.in_ok-changed.changed acts.0 goes)
