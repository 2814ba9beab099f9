use Rattle.std.proofs.Common.{OnOk, subst}
use Rattle.cb_log.specs.Entries.{said}
use Rattle.cb_topo.specs.Numbered.{topology_of}
use Rattle.cb_session.specs.Counted.{CountsEntry}
use Rattle.cb_session.specs.Course.{fixed_state}
use Rattle.cb_session.specs.InUse.{in_use_of}
use Rattle.cb_session.specs.Numbers.{KeepsNumbers}
use Rattle.cb_session.specs.State.{State, network_of}
use Rattle.cb_session.specs.Steps.{EntryTells, EntryStands}
use Rattle.cb_session.proofs.Counting.{none_by_fixed}
use Rattle.cb_session.proofs.Following.{if_ok_more}
use Rattle.cb_session.proofs.Numbers.{if_numbers_stay}
use Rattle.cb_session.proofs.Sessions.{wanted_view, fixed_view, fixed_fits, on_ok_more}
use Rattle.cb_session.proofs.session.Session.go_on.Goals as goal

pub go_on_fixed-requires-clause-ready : goal.go_on_fixed-requires-clause-ready
go_on_fixed-requires-clause-ready g c =
    let parts = c.self.inside in
    let fits = fixed_fits parts.cache parts.windows parts.course c.args.self.now c.self.view_is c.self.invariant c.in-Fixed.ready c.in-Fixed.is in
    fits.ready_is

pub returns-in-Fixed-clause-gives : goal.returns-in-Fixed-clause-gives
returns-in-Fixed-clause-gives g c =
    let parts = c.self.inside in
    let view = fixed_view parts.cache parts.windows parts.course c.args.self.now c.self.view_is c.self.invariant c.in-Fixed.ready c.in-Fixed.is in
    if_ok_more c.go_on_fixed.result _ _
    (λ events gives. subst (λ (s : State). EntryTells s (said c.args.number c.args.next.now) events) view gives) c.go_on_fixed.ensures.gives

pub returns-in-Fixed-clause-stands : goal.returns-in-Fixed-clause-stands
returns-in-Fixed-clause-stands g c =
    let parts = c.self.inside in
    let view = fixed_view parts.cache parts.windows parts.course c.args.self.now c.self.view_is c.self.invariant c.in-Fixed.ready c.in-Fixed.is in
    on_ok_more c.go_on_fixed.result _ _
    (λ stands. subst (λ (s : State). EntryStands s (fixed_state parts.cache c.go_on_fixed.new.windows c.in-Fixed.ready) (said c.args.number c.args.next.now)) view stands) c.go_on_fixed.ensures.stands

pub returns-in-Wanted-clause-cost : goal.returns-in-Wanted-clause-cost
returns-in-Wanted-clause-cost g c =
    let parts = c.self.inside in
    let view = wanted_view parts.cache parts.windows parts.course c.args.self.now c.self.view_is c.self.invariant c.in-Wanted.wish c.in-Wanted.ready c.in-Wanted.is in
    subst (λ (s : State). OnOk c.go_on_wanted.result (CountsEntry s.mode (network_of s) (said c.args.number c.args.next.now) c.args.steps.now c.go_on_wanted.new.steps))
    view c.go_on_wanted.ensures.cost

pub returns-in-Fixed-clause-cost : goal.returns-in-Fixed-clause-cost
returns-in-Fixed-clause-cost g c =
    let parts = c.self.inside in
    let view = fixed_view parts.cache parts.windows parts.course c.args.self.now c.self.view_is c.self.invariant c.in-Fixed.ready c.in-Fixed.is in
    subst (λ (s : State). OnOk c.go_on_fixed.result (CountsEntry s.mode (network_of s) (said c.args.number c.args.next.now) c.args.steps.now c.args.steps.now))
    view (none_by_fixed c.go_on_fixed.result (in_use_of c.in-Fixed.ready.book).kept (in_use_of c.in-Fixed.ready.book).used (topology_of parts.cache.graph) (said c.args.number c.args.next.now) c.args.steps.now)

pub returns-in-Wanted-clause-numbers : goal.returns-in-Wanted-clause-numbers
returns-in-Wanted-clause-numbers g c =
    let parts = c.self.inside in
    let view = wanted_view parts.cache parts.windows parts.course c.args.self.now c.self.view_is c.self.invariant c.in-Wanted.wish c.in-Wanted.ready c.in-Wanted.is in
    subst (λ (s : State). OnOk c.go_on_wanted.result (KeepsNumbers s.cache.graph c.go_on_wanted.new.cache.graph)) view c.go_on_wanted.ensures.numbers

pub returns-in-Fixed-clause-numbers : goal.returns-in-Fixed-clause-numbers
returns-in-Fixed-clause-numbers g c =
    let parts = c.self.inside in
    let view = fixed_view parts.cache parts.windows parts.course c.args.self.now c.self.view_is c.self.invariant c.in-Fixed.ready c.in-Fixed.is in
    subst (λ (s : State). OnOk c.go_on_fixed.result (KeepsNumbers s.cache.graph parts.cache.graph)) view (if_numbers_stay c.go_on_fixed.result parts.cache.graph)
