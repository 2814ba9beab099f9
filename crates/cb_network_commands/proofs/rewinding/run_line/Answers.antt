use Rattle.std.proofs.Common.{subst}
use Rattle.std.specs.Prelude.{Option}
use Rattle.cb_history.specs.declared.script.LineReport.{LineReport}
use Rattle.cb_report.proofs.Writing.{on_ok_more}
use Rattle.cb_topo.specs.Numbered.{topology_of}
use Rattle.cb_network_commands.specs.Rewinding.{MovesOn}
use Rattle.cb_network_commands.proofs.Moving.{line_reported, line_quiet}
use Rattle.cb_network_commands.proofs.rewinding.run_line.Goals as goal

pub returns-in-Some-clause-runs : goal.returns-in-Some-clause-runs
returns-in-Some-clause-runs g c =
    let line = c.args.line.now in
    let depth = c.args.history.now.depth in
    let new = c.report_of.new.history in
    on_ok_more c.push_report.result _ _ (λ text. λ h stands.
    line_reported depth h line c.in-Some.report (topology_of new.network) new.records c.args.reports.now.items c.push_report.new.out.items
    (subst (λ (r : Option LineReport). MovesOn depth h line.line line.what r (topology_of new.network) new.records) c.in-Some.is (c.in_ok-report.ensures.moves h stands)) text) c.push_report.ensures

pub returns-in-None-clause-runs : goal.returns-in-None-clause-runs
returns-in-None-clause-runs g c = λ h stands.
    let line = c.args.line.now in
    let depth = c.args.history.now.depth in
    let new = c.report_of.new.history in
    line_quiet depth h line (topology_of new.network) new.records c.args.reports.now.items
    (subst (λ (r : Option LineReport). MovesOn depth h line.line line.what r (topology_of new.network) new.records) c.in-None.is (c.in_ok-report.ensures.moves h stands))
