use Rattle.std.proofs.Common.{IfOk, sym, subst}
use Rattle.cb_alarm.specs.Lines.{ComesTo}
use Rattle.cb_session.specs.declared.entry.Taken.{Taken}
use Rattle.cb_session.specs.declared.line.LogLine.{LogLine}
use Rattle.cb_session.specs.State.{log_line_of}
use Rattle.cb_session.specs.Taken.{entry_of_taken}
use Rattle.cb_session.proofs.entry.entry_of.Goals as goal

pub returns-in-Text : goal.returns-in-Text
returns-in-Text c =
    subst (λ (line : LogLine). IfOk c.entry_of_text.result (λ (taken : Taken). ComesTo (log_line_of line) (entry_of_taken taken))) (sym c.in-Text.is) c.entry_of_text.ensures
