-- The words of a line.
use Rattle.std.specs.Prelude.{◌≡◌, ⊤, ℕ, List, [], ◌∷◌, Bool, true, false, ◌||◌, ◌==◌, Some, filter, slice_get, MatchOption}
use Rattle.std.specs.List.{slice_split}

-- space, tab or CR
abbrev pub is_blank : ℕ → Bool
is_blank b = (b == 32) || ((b == 9) || (b == 13))

-- the part has a byte
abbrev pub has_byte : List ℕ → Bool
has_byte [] = false
has_byte (b ∷ bs) = true

-- the words: a line is cut at each blank byte, and the parts that have a byte are its words
abbrev pub words_of : List ℕ → List (List ℕ)
words_of line = filter has_byte (slice_split is_blank line)

-- the line has no word, or its first word begins with `#`, which is 35
abbrev pub IsPassedOver : List ℕ → Type 0
IsPassedOver line = MatchOption (slice_get (words_of line) 0) ⊤ (λ word. slice_get word 0 ≡ Some 35)
