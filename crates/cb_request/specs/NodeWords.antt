-- Words that are nodes.
use Rattle.std.specs.Prelude.{ℕ, List, [], ◌∷◌, length, Bool, false, ◌&&◌, ◌==◌, not, nat_le, Option, None, Some, if◌then◌else◌}
use Rattle.std.specs.List.{list_all, list_any, slice_split}
use Rattle.std.specs.Str.{bytes_eq}
use Rattle.cb_text.specs.Names.{IsNodeText, is_instance_byte, is_letter, is_name_byte, name_limit, reserved_words}

-- whether the bytes are a letter and then bytes of names
abbrev pub is_run : List ℕ → Bool
is_run [] = false
is_run (b ∷ bs) = is_letter b && list_all is_name_byte bs

-- whether the bytes are the name of an event
abbrev pub is_event_name : List ℕ → Bool
is_event_name bytes = is_run bytes && (nat_le (length bytes) name_limit && not (list_any (bytes_eq bytes) reserved_words))

-- whether the bytes are the name of an instance
abbrev pub is_instance_name : List ℕ → Bool
is_instance_name bytes = nat_le 1 (length bytes) && (nat_le (length bytes) name_limit && list_all is_instance_byte bytes)

-- whether these are an event and an instance
abbrev pub are_node_names : List (List ℕ) → Bool
are_node_names (event ∷ instance ∷ []) = is_event_name event && is_instance_name instance
are_node_names parts = false

-- the word, if its parts around each `@`, which is 64, are an event and an instance
abbrev pub node_in : List ℕ → Option (List ℕ)
node_in word = if are_node_names (slice_split (λ b. b == 64) word) then Some word else None

-- the word is the text of a node
abbrev pub IsNodeWord : List ℕ → Type 0
IsNodeWord word = (event instance : List ℕ) × IsNodeText word event instance
