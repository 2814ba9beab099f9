use Rattle.std.proofs.Common.{◌≢◌, Option, IfSome, length, sym, subst, ◌∙◌}
use Rattle.cb_log.specs.Basis.{wanted}
use Rattle.cb_topo.specs.Numbered.{Numbered}
use Rattle.cb_session.specs.declared.basis.Ready.{Ready}
use Rattle.cb_session.specs.Ready.{IsReady}
use Rattle.cb_session.specs.Reported.{TellsMade}
use Rattle.cb_session.proofs.Telling.{tells_made}
use Rattle.cb_session.proofs.reported.closing_report.Goals as goal

pub reported_in_use-requires-clause-ready : goal.reported_in_use-requires-clause-ready
reported_in_use-requires-clause-ready c =
    let mode = wanted c.args.wish in
    let is = subst (λ (ready : Option Ready). IfSome ready (IsReady c.args.cache.now.graph mode)) c.in-Some.is c.requires.ready in
    (mode, subst (λ (n : Numbered). IsReady n mode c.in-Some.ready) (sym (c.topology-topology.ensures ∙ c.graph.ensures)) is)

pub reported_made-requires-clause-ready : goal.reported_made-requires-clause-ready
reported_made-requires-clause-ready c =
    subst (λ (n : Numbered). IsReady n (wanted c.args.wish) c.in_ok-made-in-None.made) (sym (c.topology-topology.ensures ∙ c.graph.ensures)) c.in_ok-made-in-None.ensures

pub returns-in_ok-events-in-None : goal.returns-in_ok-events-in-None
returns-in_ok-events-in-None c =
    let some : length c.args.closing.now ≢ 0 = λ none. c.if-len-eq0.false (c.len.ensures ∙ none) in
    tells_made c.args.cache.now.graph c.args.wish c.args.ready.now c.in-None.is c.args.closing.now some c.in_ok-made-in-None.made c.in_ok-made-in-None.ensures
    c.in_ok-events-in-None.events
    (subst (λ (n : Numbered). TellsMade n c.args.wish c.in_ok-made-in-None.made c.args.closing.now c.in_ok-events-in-None.events)
    (c.topology-topology.ensures ∙ c.graph.ensures) c.in_ok-events-in-None.ensures)
