-- A log as it is written.
use Rattle.std.specs.Prelude.{◌≡◌, ℕ, List, ◌++◌}
use Rattle.cb_gen.specs.Log.{MadeUpLine, lines_text}
use Rattle.cb_gen.specs.declared.log.Log.{Log}

-- these entries were written: whatever comes later, the text as a whole stays the same
abbrev pub WritesEntries : ℕ → Log → Log → List MadeUpLine → Type 0
WritesEntries sites before after entries =
    (later : List MadeUpLine)
    → before.text.items ++ lines_text sites before.at before.draws.state (entries ++ later)
    ≡ after.text.items ++ lines_text sites after.at after.draws.state later
