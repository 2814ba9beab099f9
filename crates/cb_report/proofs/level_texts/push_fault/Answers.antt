use Rattle.cb_report.proofs.level_texts.push_fault.Goals as goal

pub returns-in-NotClosed : goal.returns-in-NotClosed
returns-in-NotClosed c = rw c.in-NotClosed.is c.push_successor.ensures

pub returns-in-NotShort : goal.returns-in-NotShort
returns-in-NotShort c = rw c.in-NotShort.is c.push_successor-in-NotShort.ensures
