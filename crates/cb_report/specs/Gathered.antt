-- Bytes that wait until there are many, and are then written together.
use Rattle.std.specs.Prelude.{◌≡◌, ◌≤◌, ℕ, List, ◌++◌, Bool, true, false}
use Rattle.cb_io.specs.Outside.{SinkReport, WritesAll, WritesPrefix, WriteFailed}

-- the bytes that wait, and whether a write has failed
pub record Gathered : Type 0 where
  pub waiting : List ℕ
  pub failed : Bool

-- a text is written but for its end, which waits
pub record WaitsToEnd (old new : SinkReport) (text waiting : List ℕ) : Type 0 where
  pub written : List ℕ
  pub takes : WritesAll old new written
  pub is : text ≡ written ++ waiting
  pub counts : old.faults ≤ new.faults

-- a prefix of a text is written, and a write failed
pub record IsCutShort (old new : SinkReport) (text : List ℕ) : Type 0 where
  pub prefix : WritesPrefix old new text
  pub counts : old.faults ≤ new.faults
  pub failed : WriteFailed old new

-- where no write had failed, the text is written but for its end, or a write fails; after that nothing is written
abbrev pub WritesOn : Bool → Bool → SinkReport → SinkReport → List ℕ → List ℕ → Type 0
WritesOn true true old new text waiting = old ≡ new
WritesOn true false old new text waiting = ⊥
WritesOn false true old new text waiting = IsCutShort old new text
WritesOn false false old new text waiting = WaitsToEnd old new text waiting

-- these bytes come after those that wait
abbrev pub Gathers : SinkReport → SinkReport → Gathered → Gathered → List ℕ → Type 0
Gathers old new before after more = WritesOn before.failed after.failed old new (before.waiting ++ more) after.waiting
