-- The log.
use Rattle.std.specs.Prelude.{ℕ, zero, suc, ◌+◌, List, [], ◌∷◌, ◌++◌, codes, decimal, replicate, slice_index_or}
use Rattle.cb_gen.specs.Draws.{state_after, draw}

-- the edits of a site, in the order of their kinds
abbrev pub edits : List ℕ → List (List ℕ)
edits site =
    (codes "unlink l" ++ site ++ codes " ends p" ++ site)
    ∷ (codes "link l" ++ site ++ codes " ends p" ++ site)
    ∷ (codes "mute Silent@b" ++ site)
    ∷ (codes "unmute Silent@b" ++ site)
    ∷ (codes "unlink b" ++ site ++ codes " ports q" ++ site)
    ∷ (codes "link b" ++ site ++ codes " ports q" ++ site)
    ∷ (codes "delete x" ++ site)
    ∷ (codes "create x" ++ site ++ codes " Box")
    ∷ []

abbrev pub edit_text : ℕ → ℕ → List ℕ
edit_text kind site = slice_index_or (edits (decimal site)) kind []

-- what alarms say, up to the number of the site, in the order of their kinds
abbrev pub alarms : List (List ℕ)
alarms =
    codes "\",\"raise\":\"Silent@b" ∷ codes "\",\"raise\":\"NoSignal@p" ∷ codes "\",\"raise\":\"NoSignal@q" ∷ codes "\",\"raise\":\"Drop@l"
    ∷ codes "\",\"clear\":\"NoSignal@p" ∷ codes "\",\"raise\":\"Silent@x" ∷ []

abbrev pub alarm_words : ℕ → List ℕ
alarm_words kind = slice_index_or alarms kind []

-- the lines of a log, each with its time
abbrev pub edit_line : ℕ → ℕ → ℕ → List ℕ
edit_line at kind site = codes "{\"at\":" ++ decimal at ++ codes ",\"edit\":\"" ++ edit_text kind site ++ codes "\"}\n"

abbrev pub alarm_line : ℕ → ℕ → ℕ → ℕ → List ℕ
alarm_line at source kind site =
    codes "{\"at\":" ++ decimal at ++ codes ",\"from\":\"c" ++ decimal source ++ alarm_words kind ++ decimal site ++ codes "\"}\n"

abbrev pub tick_text : ℕ → List ℕ
tick_text at = codes "{\"at\":" ++ decimal at ++ codes ",\"tick\":true}\n"

-- what stands on a line
pub data MadeUpLine : Type 0 where
  Edit : MadeUpLine
  Alarm : MadeUpLine
  Tick : MadeUpLine

-- a round is 50 edits, 100 alarms and a tick
unfoldable pub round : List MadeUpLine
round = replicate 50 Edit ++ (replicate 100 Alarm ++ Tick ∷ [])

-- this many rounds
unfoldable pub rounds : ℕ → List MadeUpLine
rounds zero = []
rounds (suc n) = round ++ rounds n

-- the line of an edit that is drawn after a time and a state of the generator: its kind, and then its site
abbrev pub drawn_edit_line : ℕ → ℕ → ℕ → List ℕ
drawn_edit_line sites at x = edit_line (at + 1) (draw 1 x 8) (draw 2 x sites)

-- the line of such an alarm: its source, its kind, and then its site
abbrev pub drawn_alarm_line : ℕ → ℕ → ℕ → List ℕ
drawn_alarm_line sites at x = alarm_line (at + 1) (draw 1 x 4) (draw 2 x 6) (draw 3 x sites)

-- the lines from a time and a state of the generator on. Before an edit or an alarm the time rises by 1, before a tick by 40.
unfoldable pub lines_text : ℕ → ℕ → ℕ → List MadeUpLine → List ℕ
lines_text sites at x [] = []
lines_text sites at x (Edit ∷ later) = drawn_edit_line sites at x ++ lines_text sites (at + 1) (state_after 2 x) later
lines_text sites at x (Alarm ∷ later) = drawn_alarm_line sites at x ++ lines_text sites (at + 1) (state_after 3 x) later
lines_text sites at x (Tick ∷ later) = tick_text (at + 40) ++ lines_text sites (at + 40) x later

-- the log: 20 rounds from time 0 on
abbrev pub log_text : ℕ → ℕ → List ℕ
log_text sites start = lines_text sites 0 start (rounds 20)
