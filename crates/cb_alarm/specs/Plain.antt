-- What is kept of an object whose members are plain.
use Rattle.std.specs.Prelude.{◌≡◌, List, ℕ, length, Option, option_map, option_and_then, codes}
use Rattle.json.specs.Token.{Token}
use Rattle.json.specs.Json.{value, members, if_last}
use Rattle.serde_json.specs.Data.{unsigned, Data, boolean, number, string, Members, no_members}
use Rattle.serde_json.specs.Find.{get_member}
use Rattle.serde_json.specs.Read.{of_json, of_members, converted, max_depth}
use Rattle.cb_alarm.specs.declared.fields.Said.{Said}
use Rattle.cb_alarm.specs.declared.fields.Said.TheVariants.{Text, Whole, Truth}
use Rattle.cb_alarm.specs.declared.fields.Fields.{Fields}

-- the value that is kept
abbrev pub data_of : Said → Data
data_of (Text text) = string text.now
data_of (Whole n) = number (unsigned n)
data_of (Truth truth) = boolean truth

-- what is kept of the member of a name
abbrev pub IsMemberKept : List ℕ → Members → Option Said → Type 0
IsMemberKept name ms kept = option_map data_of kept ≡ get_member name ms

-- what is kept of an object's members
pub record AreMembersKept (ms : Members) (at source raise clear edit tick : Option Said) : Type 0 where
  pub at_is : IsMemberKept (codes "at") ms at
  pub source_is : IsMemberKept (codes "from") ms source
  pub raise_is : IsMemberKept (codes "raise") ms raise
  pub clear_is : IsMemberKept (codes "clear") ms clear
  pub edit_is : IsMemberKept (codes "edit") ms edit
  pub tick_is : IsMemberKept (codes "tick") ms tick

-- the fields have what is kept of an object's members
abbrev pub HasFields : Members → Fields → Type 0
HasFields ms fields = AreMembersKept ms fields.at fields.from fields.raise fields.clear fields.edit fields.tick

-- P holds of the members that the fields were kept of
abbrev pub InFields : Fields → (Members → Type 0) → Type 0
InFields fields P = (ms : Members) → HasFields ms fields → P ms

-- the next value of these tokens, inside of an object, and the tokens after it
abbrev pub next_value : List Token → Option (Data × List Token)
next_value tokens = converted of_json (value 126 tokens)

-- the members of an object, whose brace was passed, and the tokens after it
abbrev pub next_members : List Token → Option (Members × List Token)
next_members tokens = converted (λ ms. of_members ms no_members) (members (value 126) (length tokens) tokens)

-- the value that all these tokens are
abbrev pub whole_value : List Token → Option Data
whole_value tokens = option_and_then of_json (option_and_then (λ p. if_last p.0 p.1) (value max_depth tokens))
