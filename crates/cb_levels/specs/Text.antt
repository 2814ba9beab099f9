-- The lines of levels, and their one text.
use Rattle.std.specs.Prelude.{ℕ, List, [], ◌∷◌, ◌++◌, length, map, codes, decimal}
use Rattle.std.specs.List.{flat_map}
use Rattle.cb_model.specs.declared.node.NodeName.{NodeName}
use Rattle.cb_levels.specs.declared.levels.LevelEntry.{LevelEntry}
use Rattle.cb_levels.specs.declared.levels.Levels.{Levels}
use Rattle.cb_levels.specs.declared.line.LevelLine.{LevelLine}
use Rattle.cb_levels.specs.declared.line.LevelLine.TheVariants as line

-- how many nodes there are, and the nodes
abbrev pub node_part : List NodeName → List LevelLine
node_part nodes = line.Nodes (length nodes) ∷ map line.Node nodes

-- how many entries there are, and the entries
abbrev pub entry_part : List LevelEntry → List LevelLine
entry_part entries = line.Entries (length entries) ∷ map line.Entry entries

-- the lines of levels, in order
abbrev pub level_lines : Levels → List LevelLine
level_lines levels = line.Header ∷ (node_part levels.nodes ++ (entry_part levels.entries ++ line.End ∷ []))

-- a line as it is written, without its LF
abbrev pub level_line_text : LevelLine → List ℕ
level_line_text line.Header = codes "codebook levels 1"
level_line_text (line.Nodes n) = codes "nodes " ++ decimal n
level_line_text (line.Node n) = codes "node " ++ n.event ++ codes "@" ++ n.instance
level_line_text (line.Entries n) = codes "entries " ++ decimal n
level_line_text (line.Entry e) = codes "entry " ++ decimal e.node ++ codes " " ++ decimal e.level ++ codes " " ++ decimal e.parent
level_line_text line.End = codes "end"

-- a line with its LF
abbrev pub ended_line : LevelLine → List ℕ
ended_line l = level_line_text l ++ codes "\n"

-- the text of levels
abbrev pub levels_text : Levels → List ℕ
levels_text levels = flat_map ended_line (level_lines levels)
