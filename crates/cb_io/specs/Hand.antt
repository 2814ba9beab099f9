-- The buffered bytes of a file that is read line by line, and how further bytes change them.
use Rattle.std.specs.Prelude.{◌≡◌, ℕ, ◌≤◌, List, ◌++◌, length, take, drop, Result}
use Rattle.std.specs.Result.{MatchResult}
use Rattle.std.specs.Io.KnownBytes.{Keeps, Consumes, IsAtEnd}
use Rattle.cb_io.specs.Outside.{FilesReport, left_of}
use Rattle.cb_io.specs.Pieces.{piece_limit}

-- the text of the last line, the bytes that were read after it, and the capacity in bytes
pub record Held : Type 0 where
  pub text : List ℕ
  pub kept : List ℕ
  pub size : ℕ

-- a part of `size` bytes, from one position to another
pub record IsPart (size from to : ℕ) : Type 0 where
  pub in_order : from ≤ to
  pub within : to ≤ size

-- the first bytes of what was kept are the text, and those from a position on are kept
abbrev pub with_text : Held → ℕ → ℕ → Held
with_text held line beyond = record held { text = take line held.kept; kept = drop beyond held.kept }

-- `count` bytes of the file were read, at most one piece, and stand after those that were kept; none only at the end of the file
pub record ReadsPiece (old new : Held) (before after : FilesReport) (name : List ℕ) (count : ℕ) : Type 0 where
  pub more : List ℕ
  pub kept : new.kept ≡ old.kept ++ more
  pub count_is : length more ≡ count
  pub few : count ≤ piece_limit
  pub came : Consumes (left_of before name) (left_of after name) more
  pub end : count ≡ 0 → IsAtEnd (left_of after name)

-- a read came to this: more bytes, or none
abbrev pub Refills : {E : Type 0} → Held → Held → FilesReport → FilesReport → List ℕ → Result ℕ E → Type 0
Refills old new before after name result =
    MatchResult result (ReadsPiece old new before after name) (λ _. Keeps (left_of before name) (left_of after name))
