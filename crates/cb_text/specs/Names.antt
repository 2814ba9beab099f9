-- The grammar of names.
use Rattle.std.specs.Prelude.{◌≡◌, ◌≢◌, ℕ, ◌≤◌, ◌++◌, List, [], ◌∷◌, length, Bool, ◌||◌, ◌==◌, IsTrue, codes}
use Rattle.std.specs.List.{All, Contains}
use Rattle.std.specs.Int.{is_in_range}

-- a name has at most this many bytes, be it of an instance or of anything else
abbrev pub name_limit : ℕ
name_limit = 63

-- an ASCII letter
abbrev pub is_letter : ℕ → Bool
is_letter b = is_in_range 97 122 b || is_in_range 65 90 b

-- a letter, a digit, `_` or `-`
abbrev pub is_name_byte : ℕ → Bool
is_name_byte b = (is_letter b || is_in_range 48 57 b) || ((b == 95) || (b == 45))

-- a byte of a name, `.`, `/` or `:`, which are 46, 47 and 58
abbrev pub is_instance_byte : ℕ → Bool
is_instance_byte b = is_name_byte b || (is_in_range 46 47 b || (b == 58))

-- the words that are no names
abbrev pub reserved_words : List (List ℕ)
reserved_words =
    codes "class" ∷ codes "extends" ∷ codes "problem" ∷ codes "symptom" ∷ codes "event" ∷ codes "relation" ∷ codes "to"
    ∷ codes "one" ∷ codes "many" ∷ codes "inverse" ∷ codes "rule" ∷ codes "block" ∷ codes "hide" ∷ []

-- a letter and then bytes of names
abbrev pub IsRun : List ℕ → Type 0
IsRun [] = ⊥
IsRun (b ∷ bs) = IsTrue (is_letter b) × All (λ c. IsTrue (is_name_byte c)) bs

-- the name of a class, an event, a relation or a rule
pub record IsName (bytes : List ℕ) : Type 0 where
  pub run : IsRun bytes
  pub short : length bytes ≤ name_limit
  pub free : ¬ Contains reserved_words bytes

-- the name of an instance or of a source
pub record IsInstance (bytes : List ℕ) : Type 0 where
  pub some : bytes ≢ []
  pub short : length bytes ≤ name_limit
  pub bytes_are : All (λ b. IsTrue (is_instance_byte b)) bytes

-- a node, written `event@instance`
pub record IsNodeText (bytes event instance : List ℕ) : Type 0 where
  pub written : bytes ≡ event ++ codes "@" ++ instance
  pub event_is : IsName event
  pub instance_is : IsInstance instance

-- `@`, which is 64, is no byte of a name, so a node's bytes have one event and one instance
abbrev pub NodesAreReadOnce : Type 0
NodesAreReadOnce =
    (bytes event instance other_event other_instance : List ℕ) → IsNodeText bytes event instance → IsNodeText bytes other_event other_instance
    → (event ≡ other_event) × (instance ≡ other_instance)
