-- The lines of a text.
use Rattle.std.specs.Prelude.{◌≡◌, ℕ, ◌+◌, ◌<◌, ◌≤◌, ◌↔◌, ◌⊎◌, ◌==◌, List, [], ◌∷◌, ◌++◌, length, Some, slice_get, slice_range}
use Rattle.std.specs.List.{All, Contains, slice_split, enumerate_from}
use Rattle.cb_text.specs.declared.line.LineAt.{LineAt}

-- what follows the last LF is a line where it has a byte
abbrev pub last_line : List ℕ → List (List ℕ)
last_line [] = []
last_line (b ∷ bs) = (b ∷ bs) ∷ []

-- the lines of the parts between the LFs
abbrev pub lines_of_parts : List (List ℕ) → List (List ℕ)
lines_of_parts [] = []
lines_of_parts (part ∷ []) = last_line part
lines_of_parts (part ∷ next ∷ parts) = part ∷ lines_of_parts (next ∷ parts)

-- the lines of a text, which is cut at each LF, which is 10
abbrev pub lines_of : List ℕ → List (List ℕ)
lines_of text = lines_of_parts (slice_split (λ b. b == 10) text)

-- the lines with their numbers, which begin at 1
abbrev pub numbered_lines : List ℕ → List (ℕ × List ℕ)
numbered_lines text = enumerate_from 1 (lines_of text)

-- the line ends at the text's end, or at a LF that the next line follows
abbrev pub EndsAt : List ℕ → LineAt → Type 0
EndsAt text line =
    ((line.end ≡ length text) × (line.next ≡ length text)) ⊎ ((slice_get text line.end ≡ Some 10) × (line.next ≡ line.end + 1))

-- the line that begins at a position: it has no LF, and ends at one or at the text's end
pub record IsLineAt (text : List ℕ) (from : ℕ) (line : LineAt) : Type 0 where
  pub start_is : line.start ≡ from
  pub in_order : line.start ≤ line.end
  pub one_line : ¬ Contains (slice_range text line.start line.end) 10
  pub ends : EndsAt text line

-- from a position on, these are the lines that `line_from` gives, with their numbers from one on, until the text ends
abbrev pub MeetsFrom : List ℕ → ℕ → ℕ → List (ℕ × List ℕ) → Type 0
MeetsFrom text from number [] = from ≡ length text
MeetsFrom text from number (met ∷ later) =
    (line : LineAt) × (from < length text) × IsLineAt text from line × (met ≡ (number, slice_range text line.start line.end))
    × MeetsFrom text line.next (number + 1) later

-- whoever goes from line to line meets exactly the numbered lines, in order
abbrev pub LinesAreMet : Type 0
LinesAreMet = (text : List ℕ) (met : List (ℕ × List ℕ)) → MeetsFrom text 0 1 met ↔ (met ≡ numbered_lines text)

-- a line has at most this many bytes, without its LF
abbrev pub line_limit : ℕ
line_limit = 4096

-- the line has no byte too many
abbrev pub IsShort : List ℕ → Type 0
IsShort line = length line ≤ line_limit

-- no line of the text is too long
abbrev pub HasShortLines : List ℕ → Type 0
HasShortLines text = All IsShort (lines_of text)

-- the line of this number, counted from 1, with those before it
pub record IsLineOf (text : List ℕ) (number : ℕ) (before : List (List ℕ)) (line : List ℕ) : Type 0 where
  pub after : List (List ℕ)
  pub lines : lines_of text ≡ before ++ line ∷ after
  pub number_is : number ≡ length before + 1

-- the line of this number is the first that is too long
pub record IsFirstLong (text : List ℕ) (number : ℕ) : Type 0 where
  pub before : List (List ℕ)
  pub line : List ℕ
  pub is : IsLineOf text number before line
  pub short : All IsShort before
  pub long : line_limit < length line
