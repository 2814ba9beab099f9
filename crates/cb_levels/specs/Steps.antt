-- What a reader of levels has read, and what results from it.
use Rattle.std.specs.Prelude.{◌≡◌, ◌≢◌, ◌⊎◌, ⊤, ℕ, ◌+◌, ◌-◌, ◌^◌, ◌<◌, min, List, [], ◌∷◌, ◌++◌, length, map, Result, Ok, Err}
use Rattle.std.specs.List.{All}
use Rattle.cb_text.specs.Lines.{lines_of}
use Rattle.cb_cert.specs.Format.{HasValidNames}
use Rattle.cb_model.specs.declared.node.NodeName.{NodeName}
use Rattle.cb_levels.specs.declared.fault.LevelText.{LevelText}
use Rattle.cb_levels.specs.declared.fault.LevelText.TheVariants as fault
use Rattle.cb_levels.specs.declared.levels.LevelEntry.{LevelEntry}
use Rattle.cb_levels.specs.declared.levels.Levels.{Levels}
use Rattle.cb_levels.specs.declared.line.LevelLine.{LevelLine}
use Rattle.cb_levels.specs.declared.line.LevelLine.TheVariants as line
use Rattle.cb_levels.specs.declared.reader.LevelReader.{LevelReader}
use Rattle.cb_levels.specs.Text.{level_line_text}
use Rattle.cb_levels.specs.Format.{IsLevelCount, IsLevels, SpellsLevels}
use Rattle.cb_levels.specs.Faults.{IsLevelFault}

-- the header, and these nodes of n
abbrev pub node_prefix : ℕ → List NodeName → List LevelLine
node_prefix n nodes = line.Header ∷ line.Nodes n ∷ map line.Node nodes

-- all nodes, and these entries of n
abbrev pub entry_prefix : List NodeName → ℕ → List LevelEntry → List LevelLine
entry_prefix nodes n entries = node_prefix (length nodes) nodes ++ line.Entries n ∷ map line.Entry entries

-- of the text these lines were read
pub record HasReadLines (text : List ℕ) (reader : LevelReader) (before : List LevelLine) : Type 0 where
  pub lines_are : lines_of text ≡ map level_line_text before ++ reader.lines
  pub number_is : reader.number ≡ length before
  pub small : length (lines_of text) < 2 ^ 64

-- the reader has read one line more
pub record ReadsLine (old new : LevelReader) (met : List ℕ) : Type 0 where
  pub lines_are : old.lines ≡ met ∷ new.lines
  pub number_is : new.number ≡ min (old.number + 1) (2 ^ 64 - 1)

-- the next line is wrong
pub record IsLevelLineWrong (old : LevelReader) (number : ℕ) (Wrong : List ℕ → Type 0) : Type 0 where
  pub met : List ℕ
  pub after : List (List ℕ)
  pub lines_are : old.lines ≡ met ∷ after
  pub number_is : number ≡ min (old.number + 1) (2 ^ 64 - 1)
  pub wrong : Wrong met

-- why the next line isn't read: there is none, it is wrong, or memory ran out
abbrev pub MissesLine : LevelReader → (List ℕ → Type 0) → LevelText → Type 0
MissesLine old Wrong fault.Truncated = old.lines ≡ []
MissesLine old Wrong (fault.BadLine number) = IsLevelLineWrong old number Wrong
MissesLine old Wrong fault.NoMemory = ⊤
MissesLine old Wrong why = ⊥

-- the next line is read, which has this form for something such that P; or it is missing or not of this form
abbrev pub TakesLevelLine : {X : Type 0} → (X → List ℕ) → (X → Type 0) → LevelReader → LevelReader → Result X LevelText → Type 0
TakesLevelLine form P old new (Ok x) = ReadsLine old new (form x) × P x
TakesLevelLine {X} form P old new (Err why) = MissesLine old (λ met. (x : X) → P x → met ≢ form x) why

-- memory ran out, or the text has this fault
abbrev pub StopsFor : List ℕ → LevelText → Type 0
StopsFor text why = (why ≡ fault.NoMemory) ⊎ IsLevelFault text why

-- nodes of the format, whose lines were read
pub record AreNodesRead (text : List ℕ) (reader : LevelReader) (nodes : List NodeName) : Type 0 where
  pub count : IsLevelCount (length nodes)
  pub names : All HasValidNames nodes
  pub read : HasReadLines text reader (node_prefix (length nodes) nodes)

-- after the header nodes are read, or it is known why not
abbrev pub ReadsNodes : LevelReader → LevelReader → Result (List NodeName) LevelText → Type 0
ReadsNodes old new (Ok nodes) = (text : List ℕ) → HasReadLines text old (line.Header ∷ []) → AreNodesRead text new nodes
ReadsNodes old new (Err why) = (text : List ℕ) → HasReadLines text old (line.Header ∷ []) → StopsFor text why

-- levels of the format, whose lines but the last were read
pub record AreLevelsRead (text : List ℕ) (reader : LevelReader) (levels : Levels) : Type 0 where
  pub is : IsLevels levels
  pub read : HasReadLines text reader (entry_prefix levels.nodes (length levels.entries) levels.entries)

-- after that many nodes entries are read, or it is known why not
abbrev pub ReadsEntries : ℕ → LevelReader → LevelReader → Result (List LevelEntry) LevelText → Type 0
ReadsEntries count old new (Ok entries) =
    (text : List ℕ) (nodes : List NodeName) → length nodes ≡ count → AreNodesRead text old nodes
    → AreLevelsRead text new (record { nodes = nodes; entries = entries })
ReadsEntries count old new (Err why) = (text : List ℕ) (nodes : List NodeName) → length nodes ≡ count → AreNodesRead text old nodes → StopsFor text why

-- the text spells the levels, or it has this fault
abbrev pub EndsLevels : List ℕ → Levels → Result (Unit {0}) LevelText → Type 0
EndsLevels text levels (Ok done) = SpellsLevels text levels
EndsLevels text levels (Err why) = IsLevelFault text why

-- once all but the last line was read, the text ends as it should, or it has a fault
abbrev pub FinishesLevels : LevelReader → Result (Unit {0}) LevelText → Type 0
FinishesLevels old result = (text : List ℕ) (levels : Levels) → AreLevelsRead text old levels → EndsLevels text levels result
