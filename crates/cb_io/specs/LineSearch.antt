-- How the end of the next line is searched for, among the buffered bytes and those that are read after them.
use Rattle.std.specs.Prelude.{◌≡◌, ◌≢◌, ◌⊎◌, ℕ, ◌+◌, ◌<◌, ◌≤◌, ◌++◌, List, [], ◌∷◌, length, take, drop, Bool, true, false}
use Rattle.std.specs.Io.KnownBytes.{Consumes, IsAtEnd}
use Rattle.cb_io.specs.declared.line_end.LineEnd.{LineEnd}
use Rattle.cb_io.specs.declared.whole.ReadStop.{ReadStop}
use Rattle.cb_io.specs.declared.whole.ReadStop.TheVariants.{ReadFault, TooMuch, NoMemory}
use Rattle.cb_io.specs.Hand.{Held}
use Rattle.cb_io.specs.LineReading.{IsOneLine}
use Rattle.cb_io.specs.Outside.{FilesReport, left_of, KeepsOthers, NoCountFalls}
use Rattle.cb_io.specs.Pieces.{piece_limit}

-- the bytes at the start and those that were read of the file since are these, and nothing else changed
pub record HasCome (start : List ℕ) (before after : FilesReport) (name all : List ℕ) : Type 0 where
  pub came : List ℕ
  pub are : start ++ came ≡ all
  pub read : Consumes (left_of before name) (left_of after name) came
  pub others : KeepsOthers before after name
  pub counts : NoCountFalls before after

-- a line of which bytes were thrown away is too long
abbrev pub IsLostWhole : ℕ → ℕ → Type 0
IsLostWhole line_most lost = (lost ≡ 0) ⊎ (line_most < lost)

-- the buffered bytes of an open line were thrown away, or the line isn't too long yet
pub record ThrowsLong (line_most : ℕ) (old new : Held) (lost now_lost : ℕ) : Type 0 where
  pub thrown : List ℕ
  pub kept : old.kept ≡ thrown ++ new.kept
  pub lost_is : now_lost ≡ lost + length thrown
  pub long : IsLostWhole line_most now_lost
  pub few : length new.kept ≤ line_most

-- how many LFs end a line: none ends the last line
abbrev pub lf_count : Bool → ℕ
lf_count true = 0
lf_count false = 1

-- how many of the buffered bytes are those of the line, with its LF
abbrev pub length_with_lf : LineEnd → ℕ
length_with_lf end = end.length + lf_count end.is_last

-- how many bytes a line has in all, with its LF
abbrev pub size_of : LineEnd → ℕ
size_of end = end.lost + length_with_lf end

-- the buffered bytes end a line at a position: a LF is there, or the file has nothing after them
abbrev pub EndsBy : List ℕ → FilesReport → List ℕ → ℕ → Bool → Type 0
EndsBy kept after name length_is true = (length_is ≡ length kept) × IsAtEnd (left_of after name)
EndsBy kept after name length_is false = kept ≡ take length_is kept ++ 10 ∷ drop (length_is + 1) kept

-- the end of the line was found, and the line fits
pub record FindsLineEnd (start : List ℕ) (before after : FilesReport) (name : List ℕ) (line_most capacity : ℕ) (hand : Held) (end : LineEnd) : Type 0 where
  pub thrown : List ℕ
  pub lost_is : length thrown ≡ end.lost
  pub come : HasCome start before after name (thrown ++ hand.kept)
  pub one : IsOneLine (thrown ++ take end.length hand.kept)
  pub way : EndsBy hand.kept after name end.length end.is_last
  pub in_hand : length_with_lf end ≤ length hand.kept
  pub within : size_of end ≤ capacity
  pub few : length hand.kept ≤ length_with_lf end + piece_limit
  pub long : IsLostWhole line_most end.lost

-- there are more than `capacity` bytes, and no LF among the first `capacity`
pub record IsOverLimit (capacity : ℕ) (all : List ℕ) : Type 0 where
  pub prefix : List ℕ
  pub beyond : List ℕ
  pub are : all ≡ prefix ++ beyond
  pub one : IsOneLine prefix
  pub full : length prefix ≡ capacity
  pub more : beyond ≢ []

-- why the end wasn't found among the bytes that came
abbrev pub IsStop : ℕ → List ℕ → ReadStop → Type 0
IsStop capacity all TooMuch = IsOverLimit capacity all
IsStop capacity all ReadFault = IsOneLine all
IsStop capacity all NoMemory = IsOneLine all

-- the end of the line wasn't found
pub record GivesUp (start : List ℕ) (before after : FilesReport) (name : List ℕ) (capacity : ℕ) (stop : ReadStop) : Type 0 where
  pub all : List ℕ
  pub come : HasCome start before after name all
  pub why : IsStop capacity all stop
