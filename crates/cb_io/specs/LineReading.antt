-- A file that is read line by line: where its reader stands, and what its next answer says of the bytes that come.
use Rattle.std.specs.Prelude.{◌≡◌, ◌≢◌, ◌⊎◌, ℕ, ◌+◌, ◌<◌, ◌≤◌, ◌++◌, List, [], ◌∷◌, length, Bool, true, false, Option, Some, Result, Ok, Err}
use Rattle.std.specs.Option.{option_map}
use Rattle.std.specs.List.{Contains}
use Rattle.cb_io.specs.declared.line_reader.Line.{Line}
use Rattle.cb_io.specs.declared.line_reader.Line.TheVariants.{Text, Long, End}
use Rattle.cb_io.specs.declared.whole.ReadStop.{ReadStop}
use Rattle.cb_io.specs.declared.whole.ReadStop.TheVariants.{ReadFault, TooMuch, NoMemory}
use Rattle.cb_io.specs.Outside.{FilesReport, left_of}
use Rattle.cb_io.specs.Pieces.{piece_limit}

-- Where a reader stands: its file, the most bytes of a line and of the file, how many lines were given and how many bytes they have, their
-- LFs among them; the bytes of the last answer, where it was a text, else none; those that were taken and not given yet, whether the end has
-- come, and whether a call was refused.
pub record Reading : Type 0 where
  pub name : List ℕ
  pub line_most : ℕ
  pub total_most : ℕ
  pub number : ℕ
  pub given : ℕ
  pub text : List ℕ
  pub kept : List ℕ
  pub ended : Bool
  pub refused : Bool

-- nothing was read yet
abbrev pub unread : List ℕ → ℕ → ℕ → Reading
unread name line_most total_most = record
    { name = name; line_most = line_most; total_most = total_most; number = 0; given = 0; text = []; kept = []; ended = false; refused = false }

-- the same file is read, by lines of the same limits
pub record ReadsSame (old new : Reading) : Type 0 where
  pub name : new.name ≡ old.name
  pub line_most : new.line_most ≡ old.line_most
  pub total_most : new.total_most ≡ old.total_most

-- the bytes that come: those that were taken and not given, and those left of the file
abbrev pub coming : Reading → FilesReport → Option (List ℕ)
coming reading files = option_map (λ left. reading.kept ++ left) (left_of files reading.name)

-- no LF, which is 10, is among the bytes
abbrev pub IsOneLine : List ℕ → Type 0
IsOneLine bytes = ¬ Contains bytes 10

-- the bytes begin with a line that a LF ends, and these follow it
pub record BeginWith (bytes line rest : List ℕ) : Type 0 where
  pub one : IsOneLine line
  pub are : bytes ≡ line ++ 10 ∷ rest

-- the bytes are a line that the end ends, not a LF
pub record AreLast (bytes line : List ℕ) : Type 0 where
  pub one : IsOneLine line
  pub some : line ≢ []
  pub are : bytes ≡ line

-- the line that a LF ends was given, and these bytes come after it
pub record GivesEnded (old new : Reading) (bytes line rest : List ℕ) : Type 0 where
  pub begin : BeginWith bytes line rest
  pub given : new.given ≡ old.given + length line + 1
  pub ended : new.ended ≡ false

-- the last line was given, which no LF ends, and nothing comes after it
pub record GivesLast (old new : Reading) (bytes line rest : List ℕ) : Type 0 where
  pub last : AreLast bytes line
  pub none : rest ≡ []
  pub given : new.given ≡ old.given + length line
  pub ended : new.ended ≡ true

-- the next line of the bytes was given, which is within the limit of the file
pub record GivesLine (old new : Reading) (after : FilesReport) (bytes line : List ℕ) : Type 0 where
  pub rest : List ℕ
  pub way : GivesEnded old new bytes line rest ⊎ GivesLast old new bytes line rest
  pub comes : coming new after ≡ Some rest
  pub number : new.number ≡ old.number + 1
  pub within : new.given ≤ old.total_most

-- the next line was given as a text
pub record GivesText (old new : Reading) (after : FilesReport) (bytes : List ℕ) : Type 0 where
  pub line : GivesLine old new after bytes new.text
  pub short : length new.text ≤ old.line_most

-- the next line was given, and it is too long
pub record TellsLong (old new : Reading) (after : FilesReport) (bytes : List ℕ) : Type 0 where
  pub line : List ℕ
  pub gives : GivesLine old new after bytes line
  pub long : old.line_most < length line
  pub text : new.text ≡ []

-- no byte comes any more
pub record IsAtEnd (old new : Reading) (after : FilesReport) (bytes : List ℕ) : Type 0 where
  pub none : bytes ≡ []
  pub comes : coming new after ≡ Some []
  pub number : new.number ≡ old.number
  pub given : new.given ≡ old.given
  pub ended : new.ended ≡ true
  pub text : new.text ≡ []

-- a prefix of the bytes was taken and is lost, and these are left of the file
pub record LosesBytes (old : Reading) (after : FilesReport) (bytes prefix rest : List ℕ) : Type 0 where
  pub are : bytes ≡ prefix ++ rest
  pub left : left_of after old.name ≡ Some rest

-- the line that comes has the first byte that is more than the limit of the file
pub record RunsOver (old : Reading) (after : FilesReport) (bytes : List ℕ) : Type 0 where
  pub before : List ℕ
  pub beyond : List ℕ
  pub are : bytes ≡ before ++ beyond
  pub one : IsOneLine before
  pub full : old.given + length before ≡ old.total_most
  pub more : beyond ≢ []
  pub prefix : List ℕ
  pub rest : List ℕ
  pub loses : LosesBytes old after bytes prefix rest

-- the reader stopped within the line that comes
pub record StopsWithin (old : Reading) (after : FilesReport) (bytes : List ℕ) : Type 0 where
  pub prefix : List ℕ
  pub rest : List ℕ
  pub loses : LosesBytes old after bytes prefix rest
  pub one : IsOneLine prefix

-- what an answer says, where these bytes were to come
abbrev pub AnswerSays : Reading → Reading → FilesReport → Result Line ReadStop → List ℕ → Type 0
AnswerSays old new after (Ok (Text number)) bytes = GivesText old new after bytes
AnswerSays old new after (Ok (Long number)) bytes = TellsLong old new after bytes
AnswerSays old new after (Ok End) bytes = IsAtEnd old new after bytes
AnswerSays old new after (Err TooMuch) bytes = RunsOver old after bytes
AnswerSays old new after (Err ReadFault) bytes = StopsWithin old after bytes
AnswerSays old new after (Err NoMemory) bytes = StopsWithin old after bytes

-- the number that an answer carries is that of the line
abbrev pub HasLineNumber : Reading → Line → Type 0
HasLineNumber new (Text number) = number ≡ new.number
HasLineNumber new (Long number) = number ≡ new.number
HasLineNumber new End = Unit {0}

-- a reader that gave an answer goes on: it was not refused, has at most one piece in its buffer, and its last text is no longer than a line may be
pub record ReadingGoesOn (new : Reading) : Type 0 where
  pub refused : new.refused ≡ false
  pub few : length new.kept ≤ piece_limit
  pub short : length new.text ≤ new.line_most

-- a line has the next number and takes bytes, within the limit of the file; the end takes none
abbrev pub Advances : Reading → Reading → Line → Type 0
Advances old new End = (new.ended ≡ true) × (new.number ≡ old.number) × (new.given ≡ old.given)
Advances old new line = (new.number ≡ old.number + 1) × (old.given < new.given) × (new.given ≤ old.total_most)
