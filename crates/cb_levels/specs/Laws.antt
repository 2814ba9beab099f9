-- What holds of levels, whatever the program does.
use Rattle.std.specs.Prelude.{◌≡◌, ◌↔◌, ℕ, ◌+◌, ◌≤◌, List, length, Result, Ok}
use Rattle.std.specs.List.{All}
use Rattle.cb_model.specs.declared.node.NodeName.{NodeName}
use Rattle.cb_model.specs.WellTyped.{HasNames}
use Rattle.cb_network.specs.Topology.{Topology}
use Rattle.cb_network.specs.Sound.{Sound}
use Rattle.cb_network.specs.Nodes.{IsProblem}
use Rattle.cb_levels.specs.declared.levels.LevelEntry.{LevelEntry}
use Rattle.cb_levels.specs.declared.levels.Levels.{Levels}
use Rattle.cb_levels.specs.Level.{IsLevel, IsPrevious, IsShortChain}
use Rattle.cb_levels.specs.Listed.{IsEntryAt}
use Rattle.cb_levels.specs.Valid.{AreLevelsOf, AreValidLevels}
use Rattle.cb_levels.specs.Canonical.{ListsLevels, AreCanonicalLevels}
use Rattle.cb_levels.specs.Trails.{IsTrail, CanBeFollowed}
use Rattle.cb_levels.specs.declared.verdict.LevelFault.{LevelFault}
use Rattle.cb_levels.specs.Checks.{level_checks, PassesCheck, IsRejectedFor}
use Rattle.cb_text.specs.Lines.{HasShortLines}
use Rattle.cb_levels.specs.Checks.{HasSmallNumbers}
use Rattle.cb_levels.specs.declared.fault.LevelText.{LevelText}
use Rattle.cb_levels.specs.Text.{level_lines, levels_text}
use Rattle.cb_levels.specs.Format.{IsLevels, SpellsLevels}
use Rattle.cb_levels.specs.Faults.{IsLevelReading}

-- a node has one level
abbrev pub LevelIsOne : Type 0
LevelIsOne = (t : Topology) (p s : NodeName) (m n : ℕ) → IsLevel t p s m → IsLevel t p s n → m ≡ n

-- a node has one previous one
abbrev pub PreviousIsOne : Type 0
PreviousIsOne = (t : Topology) (p s q r : NodeName) → IsPrevious t p s q → IsPrevious t p s r → q ≡ r

-- a node has one short chain
abbrev pub ShortChainIsOne : Type 0
ShortChainIsOne = (t : Topology) (p s : NodeName) (xs ys : List NodeName) → IsShortChain t p s xs → IsShortChain t p s ys → xs ≡ ys

-- a short chain has as many edges as the node's level
abbrev pub ShortChainIsShortest : Type 0
ShortChainIsShortest = (t : Topology) (p s : NodeName) (nodes : List NodeName) → IsShortChain t p s nodes
    → (n : ℕ) × IsLevel t p s n × (length nodes ≡ n + 1)

-- valid levels list exactly what their problem causes, each node at its level
abbrev pub ValidListsLevels : Type 0
ValidListsLevels = (t : Topology) (root : NodeName) (levels : Levels) → AreLevelsOf t root levels → ListsLevels t root levels

-- canonical levels of a problem are valid
abbrev pub CanonicalIsValid : Type 0
CanonicalIsValid = (t : Topology) (p : NodeName) (levels : Levels) → IsProblem t p → AreCanonicalLevels t p levels → AreLevelsOf t p levels

-- a problem has one canonical list of levels
abbrev pub CanonicalIsOne : Type 0
CanonicalIsOne = (t : Topology) (p : NodeName) (a b : Levels) → AreCanonicalLevels t p a → AreCanonicalLevels t p b → a ≡ b

-- following parents in canonical levels gives the short chain of the node
abbrev pub TrailIsShortChain : Type 0
TrailIsShortChain = (t : Topology) (p s : NodeName) (levels : Levels) (position : ℕ) (entry : LevelEntry) (nodes : List NodeName)
    → AreCanonicalLevels t p levels → IsEntryAt levels position entry s → IsTrail levels position nodes → IsShortChain t p s nodes

-- levels are valid exactly if they pass all their checks
abbrev pub ValidLevelsPassAll : Type 0
ValidLevelsPassAll = (t : Topology) (levels : Levels) → AreValidLevels t levels ↔ All (PassesCheck t levels) (level_checks levels)

-- levels are rejected for one reason
abbrev pub LevelFaultIsOne : Type 0
LevelFaultIsOne = (t : Topology) (levels : Levels) (a b : LevelFault) → IsRejectedFor t levels a → IsRejectedFor t levels b → a ≡ b

-- no valid levels are rejected
abbrev pub ValidLevelsAreNotRejected : Type 0
ValidLevelsAreNotRejected = (t : Topology) (levels : Levels) (why : LevelFault) → AreValidLevels t levels → ¬ IsRejectedFor t levels why

-- parents can be followed in valid levels
abbrev pub ValidCanBeFollowed : Type 0
ValidCanBeFollowed = (t : Topology) (levels : Levels) → AreValidLevels t levels → CanBeFollowed levels

-- valid levels of a sound topology, whose model has names, are of the format
abbrev pub ValidIsOfFormat : Type 0
ValidIsOfFormat = (t : Topology) (levels : Levels) → Sound t → HasNames t.model → AreValidLevels t levels → IsLevels levels

-- levels of the format are small enough to be checked
abbrev pub FormatIsSmall : Type 0
FormatIsSmall = (levels : Levels) → IsLevels levels → HasSmallNumbers levels

-- no two levels have the same lines
abbrev pub LevelLinesAreOfOne : Type 0
LevelLinesAreOfOne = (a b : Levels) → level_lines a ≡ level_lines b → a ≡ b

-- the text of levels of the format spells them
abbrev pub LevelTextSpells : Type 0
LevelTextSpells = (levels : Levels) → IsLevels levels → SpellsLevels (levels_text levels) levels

-- a text has one reading: levels, or its first fault
abbrev pub LevelReadingIsOne : Type 0
LevelReadingIsOne = (text : List ℕ) (a b : Result Levels LevelText) → IsLevelReading text a → IsLevelReading text b → a ≡ b

-- what is written is read again: the text of levels of the format has no other reading
abbrev pub WrittenLevelsAreRead : Type 0
WrittenLevelsAreRead = (levels : Levels) (reading : Result Levels LevelText) → IsLevels levels → IsLevelReading (levels_text levels) reading
    → reading ≡ Ok levels

-- the text of levels of the format has at most 32 MiB
abbrev pub LevelsTextIsShort : Type 0
LevelsTextIsShort = (levels : Levels) → IsLevels levels → length (levels_text levels) ≤ 33554432

-- no line of a text that spells levels is too long
abbrev pub SpelledLevelsAreShort : Type 0
SpelledLevelsAreShort = (text : List ℕ) (levels : Levels) → SpellsLevels text levels → HasShortLines text
