use Rattle.std.proofs.Common.{List, length, subst}
use Rattle.cb_log.specs.declared.closed.Closed.{Closed}
use Rattle.cb_log.specs.declared.record.Record.{Record}
use Rattle.cb_log.specs.Closing.{AreClosing}
use Rattle.cb_log.specs.Kept.{Kept, StandsForRecords}
use Rattle.cb_log.specs.Passing.{AreOpen}
use Rattle.cb_log.proofs.Due.{open_are_closing}
use Rattle.cb_window.specs.Kept.{AreReportedAll}
use Rattle.cb_window.proofs.Dues.{if_ok, all_are_open}
use Rattle.cb_window.proofs.windows.Windows.rest.Goals as goal

pub returns : goal.returns
returns c =
    if_ok (λ (closing : List Closed). AreReportedAll c.self.inside.live c.self.inside.queue c.self.inside.time closing)
    (λ (closing : List Closed). (records : List Record) → StandsForRecords c.args.self.now records → AreClosing records c.args.self.now.length (length records) closing)
    c.close_all.result
    (λ closing all records stands. open_are_closing c.args.self.now records closing stands
    (subst (λ (k : Kept). AreOpen k closing) c.self.view_is
    (all_are_open c.self.inside.length c.self.inside.time c.self.inside.live c.self.inside.queue c.self.invariant.1 closing all)))
    c.close_all.ensures
