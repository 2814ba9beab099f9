use Rattle.std.proofs.Common.{◌++◌, take, List}
use Rattle.cb_log.specs.declared.event.Event.{Event}
use Rattle.cb_report.specs.SummaryText.{CountsAlone, CountsEvents}
use Rattle.cb_log_commands.proofs.sum_up.count_all.Given as goal

abbrev pub invariant-loop-event : goal.invariant-loop-event
invariant-loop-event l =
    CountsAlone l.fn.summary l.summary
    × ((before : List Event) → CountsEvents before l.fn.summary → CountsEvents (before ++ take l.event-index l.events) l.summary)
