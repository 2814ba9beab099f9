-- What a line comes to, as the session takes it.
use Rattle.cb_log.specs.Entries.{LogEntry, said, skipped, blank}
use Rattle.cb_session.specs.declared.entry.Taken.{Taken}
use Rattle.cb_session.specs.declared.entry.Taken.TheVariants.{Blank, Skipped, Said}

-- the entry that is taken
abbrev pub entry_of_taken : Taken → LogEntry
entry_of_taken Blank = blank
entry_of_taken (Skipped number why) = skipped number why
entry_of_taken (Said number r) = said number r
