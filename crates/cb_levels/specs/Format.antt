-- Which levels are of the format, and which text spells which.
use Rattle.std.specs.Prelude.{◌≡◌, ℕ, ◌≤◌, List, length, map}
use Rattle.std.specs.List.{All}
use Rattle.cb_text.specs.Lines.{lines_of}
use Rattle.cb_cert.specs.Format.{IsBetween, HasValidNames, certificate_node_limit}
use Rattle.cb_levels.specs.declared.levels.LevelEntry.{LevelEntry}
use Rattle.cb_levels.specs.declared.levels.Levels.{Levels}
use Rattle.cb_levels.specs.Text.{level_lines, level_line_text}

-- at least one, and at most as many as a topology may have nodes
abbrev pub IsLevelCount : ℕ → Type 0
IsLevelCount = IsBetween 1 certificate_node_limit

-- an entry, among `nodes` nodes: its node is one of them, and level and parent are small enough
pub record IsLevelEntry (nodes : ℕ) (entry : LevelEntry) : Type 0 where
  pub node : IsBetween 1 nodes entry.node
  pub level : entry.level ≤ certificate_node_limit
  pub parent : entry.parent ≤ certificate_node_limit

-- the levels are of the format: there are nodes and entries, not too many; names are names, and numbers are in their ranges
pub record IsLevels (levels : Levels) : Type 0 where
  pub nodes : IsLevelCount (length levels.nodes)
  pub names : All HasValidNames levels.nodes
  pub entries : IsLevelCount (length levels.entries)
  pub each : All (IsLevelEntry (length levels.nodes)) levels.entries

-- the lines of the text are those of the levels; whether the last one has a LF makes no difference
pub record SpellsLevels (text : List ℕ) (levels : Levels) : Type 0 where
  pub is : IsLevels levels
  pub lines : lines_of text ≡ map level_line_text (level_lines levels)
