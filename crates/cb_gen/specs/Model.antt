-- The model of boxes, ports and lines.
use Rattle.std.specs.Prelude.{ℕ, List, [], ◌∷◌, ◌++◌, codes}
use Rattle.std.specs.List.{flat_map}

-- a box is dead, and then silent, with its ports down
abbrev pub box_lines : List (List ℕ)
box_lines =
    codes "class Box {" ∷ codes "  problem Dead;" ∷ codes "  symptom Silent;" ∷ codes "  relation ports to Port many inverse box;"
    ∷ codes "  rule quiet-box: Dead => Silent;" ∷ codes "  rule ports-down: Dead => ports.Down;" ∷ codes "}" ∷ []

-- a port fails, and then is down, has no signal, and its line drops
abbrev pub port_lines : List (List ℕ)
port_lines =
    codes "class Port {" ∷ codes "  problem Fail;" ∷ codes "  event Down;" ∷ codes "  symptom NoSignal;"
    ∷ codes "  relation box to Box one inverse ports;" ∷ codes "  relation line to Line one inverse ends;" ∷ codes "  rule fail: Fail => Down;"
    ∷ codes "  rule down: Down => NoSignal;" ∷ codes "  rule peer: Down => line.Drop;" ∷ codes "}" ∷ []

-- a line is cut, and then drops, and the ports at its ends have no signal
abbrev pub line_lines : List (List ℕ)
line_lines =
    codes "class Line {" ∷ codes "  problem Cut;" ∷ codes "  symptom Drop;" ∷ codes "  relation ends to Port many inverse line;"
    ∷ codes "  rule cut: Cut => Drop;" ∷ codes "  rule far: Cut => ends.NoSignal;" ∷ codes "}" ∷ []

-- the text: each line ends with LF
abbrev pub model_text : List ℕ
model_text = flat_map (λ line. line ++ codes "\n") (box_lines ++ (port_lines ++ line_lines))
