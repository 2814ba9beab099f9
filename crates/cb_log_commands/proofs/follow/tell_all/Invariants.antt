use Rattle.std.proofs.Common.{◌≡◌, ◌-◌, ℕ}
use Rattle.cb_io.specs.Outside.{FilesReport, SinkReport}
use Rattle.cb_outcome.specs.LogJobs.{Watch}
use Rattle.cb_log_commands.specs.Counting.{HasCounted}
use Rattle.cb_log_commands.specs.Telling.{ReadsLog, Going}
use Rattle.cb_log_commands.proofs.follow.tell_all.Given as goal

-- the log is read on, followed as it was at first, and no more steps are counted than its lines cost
abbrev pub invariant-loop : goal.invariant-loop
invariant-loop g l =
    ReadsLog l.reader × (l.reader.name ≡ l.initial.reader.name)
    × ((watch : Watch) (now : FilesReport) (before : SinkReport)
    → Going watch now before l.initial.reader (g.F.Files.tells l.initial.files) (g.O.Sink.tells l.initial.out) l.initial.session
    → Going watch now before l.reader (g.F.Files.tells l.files) (g.O.Sink.tells l.out) l.session)
    × ((watch : Watch) (now : FilesReport) (before : SinkReport) (start : ℕ)
    → Going watch now before l.initial.reader (g.F.Files.tells l.initial.files) (g.O.Sink.tells l.initial.out) l.initial.session
    → HasCounted watch now l.initial.reader start l.initial.steps → HasCounted watch now l.reader start l.steps)

-- the most bytes that may be read
abbrev pub decreases-loop : goal.decreases-loop
decreases-loop g l = l.reader.total_most - l.reader.given
