-- What a reader tells of a line whose end was found.
use Rattle.std.specs.Prelude.{◌≡◌, ℕ, ◌+◌, ◌<◌, ◌≤◌, take, drop, false}
use Rattle.cb_io.specs.declared.line_end.LineEnd.{LineEnd}
use Rattle.cb_io.specs.declared.line_reader.Line.{Line}
use Rattle.cb_io.specs.declared.line_reader.Line.TheVariants.{Text, Long, End}
use Rattle.cb_io.specs.LineReading.{Reading}
use Rattle.cb_io.specs.LineSearch.{length_with_lf, size_of}

-- the reader after the line, whose text is that many of the buffered bytes
abbrev pub beyond_line : Reading → LineEnd → ℕ → ℕ → Reading
beyond_line old end number text = record old
    { number = number; given = old.given + size_of end; text = take text old.kept; kept = drop (length_with_lf end) old.kept; ended = end.is_last; refused = false }

-- a line without bytes is none, and one with too many isn't given as a text
abbrev pub IsGivenLine : Reading → LineEnd → Reading → Line → Type 0
IsGivenLine old end new (Text number) =
    (0 < size_of end) × (end.lost + end.length ≤ old.line_most) × (number ≡ old.number + 1) × (new ≡ beyond_line old end (old.number + 1) end.length)
IsGivenLine old end new (Long number) =
    (0 < size_of end) × (old.line_most < end.lost + end.length) × (number ≡ old.number + 1) × (new ≡ beyond_line old end (old.number + 1) 0)
IsGivenLine old end new End = (size_of end ≡ 0) × (new ≡ beyond_line old end old.number 0)
