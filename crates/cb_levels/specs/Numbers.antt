-- Parts of lines, by their bytes.
use Rattle.std.specs.Prelude.{◌≡◌, ◌≢◌, ℕ, List, ◌∷◌, ◌++◌, ◌==◌, false, decimal, Option, None, Some}
use Rattle.std.specs.List.{All}
use Rattle.cb_model.specs.declared.node.NodeName.{NodeName}
use Rattle.cb_cert.specs.Format.{HasValidNames}
use Rattle.cb_levels.specs.declared.levels.LevelEntry.{LevelEntry}
use Rattle.cb_levels.specs.declared.line.LevelLine.TheVariants as line
use Rattle.cb_levels.specs.Format.{IsLevelEntry}
use Rattle.cb_levels.specs.Text.{level_line_text}

-- the bytes before the first space, which is 32, and those after it
pub record AreAroundSpace (bytes before after : List ℕ) : Type 0 where
  pub written : bytes ≡ before ++ 32 ∷ after
  pub first : All (λ b. (b == 32) ≡ false) before

-- three numbers with spaces between
abbrev pub level_numbers_text : LevelEntry → List ℕ
level_numbers_text e = decimal e.node ++ 32 ∷ (decimal e.level ++ 32 ∷ decimal e.parent)

-- the bytes are the numbers of this entry, among `nodes` nodes; or of none
abbrev pub AreEntryNumbers : ℕ → List ℕ → Option LevelEntry → Type 0
AreEntryNumbers nodes bytes (Some e) = (bytes ≡ level_numbers_text e) × IsLevelEntry nodes e
AreEntryNumbers nodes bytes None = (e : LevelEntry) → IsLevelEntry nodes e → bytes ≢ level_numbers_text e

-- the bytes are the line of this entry, among `nodes` nodes; or of none
abbrev pub IsEntryLine : ℕ → List ℕ → Option LevelEntry → Type 0
IsEntryLine nodes bytes (Some e) = (bytes ≡ level_line_text (line.Entry e)) × IsLevelEntry nodes e
IsEntryLine nodes bytes None = (e : LevelEntry) → IsLevelEntry nodes e → bytes ≢ level_line_text (line.Entry e)

-- the bytes are the line of this node, whose names are names; or of none
abbrev pub IsLevelNodeLine : List ℕ → Option NodeName → Type 0
IsLevelNodeLine bytes (Some n) = (bytes ≡ level_line_text (line.Node n)) × HasValidNames n
IsLevelNodeLine bytes None = (n : NodeName) → HasValidNames n → bytes ≢ level_line_text (line.Node n)
