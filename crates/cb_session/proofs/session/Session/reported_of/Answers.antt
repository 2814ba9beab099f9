use Rattle.std.proofs.Common.{sym, subst, ◌∙◌}
use Rattle.cb_topo.specs.Numbered.{Numbered}
use Rattle.cb_session.specs.Ready.{IsReady}
use Rattle.cb_session.specs.Reported.{TellsInUse}
use Rattle.cb_session.specs.Course.{mode_by}
use Rattle.cb_session.proofs.Following.{if_ok_more}
use Rattle.cb_session.proofs.Sessions.{wanted_rise, wanted_tells, fixed_fits, fixed_rise, fixed_tells_end}
use Rattle.cb_session.proofs.session.Session.reported_of.Goals as goal

pub closing_report-requires-clause-rise : goal.closing_report-requires-clause-rise
closing_report-requires-clause-rise c =
    let parts = c.self.inside in
    wanted_rise parts.cache parts.windows parts.course c.args.self.now c.self.view_is c.self.invariant c.in-Wanted.wish c.in-Wanted.ready c.in-Wanted.is
    c.args.closing.now c.requires

pub reported_in_use-requires-clause-ready : goal.reported_in_use-requires-clause-ready
reported_in_use-requires-clause-ready c =
    let parts = c.self.inside in
    let fits = fixed_fits parts.cache parts.windows parts.course c.args.self.now c.self.view_is c.self.invariant c.in-Fixed.ready c.in-Fixed.is in
    (mode_by c.in-Fixed.ready, subst (λ (n : Numbered). IsReady n (mode_by c.in-Fixed.ready) c.in-Fixed.ready) (sym (c.topology.ensures ∙ c.graph.ensures)) fits.ready_is)

pub reported_in_use-requires-clause-rise : goal.reported_in_use-requires-clause-rise
reported_in_use-requires-clause-rise c =
    let parts = c.self.inside in
    fixed_rise parts.cache parts.windows parts.course c.args.self.now c.self.view_is c.self.invariant c.in-Fixed.ready c.in-Fixed.is c.args.closing.now c.requires

pub returns-in_ok-closing_report-in-Wanted : goal.returns-in_ok-closing_report-in-Wanted
returns-in_ok-closing_report-in-Wanted c =
    let parts = c.self.inside in
    wanted_tells parts.cache parts.windows parts.course c.args.self.now c.self.view_is c.self.invariant c.in-Wanted.wish c.in-Wanted.ready c.in-Wanted.is
    c.args.closing.now c.requires c.in_ok-closing_report-in-Wanted.field-0 c.in_ok-closing_report-in-Wanted.ensures

pub returns-in-Fixed : goal.returns-in-Fixed
returns-in-Fixed c =
    let parts = c.self.inside in
    let fits = fixed_fits parts.cache parts.windows parts.course c.args.self.now c.self.view_is c.self.invariant c.in-Fixed.ready c.in-Fixed.is in
    let here = c.topology.ensures ∙ c.graph.ensures in
    if_ok_more c.reported_in_use.result _ _
    (λ events tells. fixed_tells_end parts.cache parts.windows parts.course c.args.self.now c.self.view_is c.self.invariant c.in-Fixed.ready c.in-Fixed.is
    c.args.closing.now c.requires events (subst (λ (n : Numbered). TellsInUse n (mode_by c.in-Fixed.ready) c.in-Fixed.ready c.args.closing.now events) here
    (tells (mode_by c.in-Fixed.ready) (subst (λ (n : Numbered). IsReady n (mode_by c.in-Fixed.ready) c.in-Fixed.ready) (sym here) fits.ready_is)))) c.reported_in_use.ensures
