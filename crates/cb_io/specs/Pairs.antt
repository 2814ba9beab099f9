-- Values beside names.
use Rattle.std.specs.Prelude.{ℕ, List, [], ◌∷◌, Option, Some, None, if◌then◌else◌}
use Rattle.std.specs.Str.{bytes_eq}

-- the value beside a name, which is that of the first pair with the name
abbrev pub look_up : {V : Type 0} → List (List ℕ × V) → List ℕ → Option V
look_up [] name = None
look_up (pair ∷ pairs) name = if bytes_eq pair.0 name then Some pair.1 else look_up pairs name

-- the pairs with this value beside the name; a name without a value comes last
abbrev pub put : {V : Type 0} → List (List ℕ × V) → List ℕ → V → List (List ℕ × V)
put [] name value = (name, value) ∷ []
put (pair ∷ pairs) name value = if bytes_eq pair.0 name then (pair.0, value) ∷ pairs else pair ∷ put pairs name value
