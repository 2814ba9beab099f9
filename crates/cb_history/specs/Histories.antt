-- A topology, and those before its last accepted edits.
use Rattle.std.specs.Prelude.{◌≡◌, ℕ, List, [], ◌∷◌, take, Result, Ok, Err}
use Rattle.cb_network.specs.declared.edit.EditRefusal.{EditRefusal}
use Rattle.cb_network.specs.Topology.{Topology}
use Rattle.cb_network.specs.Edits.{IsAfter}
use Rattle.cb_history.specs.declared.moves.Move.{Move}
use Rattle.cb_history.specs.declared.moves.Move.TheVariants.{Make, Undo}

-- the topology, and the earlier ones, the last one first
pub record History : Type 0 where
  pub now : Topology
  pub before : List Topology

-- nothing to undo
abbrev pub new_history : Topology → History
new_history t = record { now = t; before = [] }

-- after an edit that makes u: the topology before it joins the earlier ones, of which at most the depth are kept
abbrev pub edited : ℕ → History → Topology → History
edited depth h u = record { now = u; before = take depth (h.now ∷ h.before) }

-- after an edit with this result: a refused one changes nothing
abbrev pub edited_by : ℕ → History → Result Topology EditRefusal → History
edited_by depth h (Ok u) = edited depth h u
edited_by depth h (Err why) = h

-- the last of the earlier ones becomes the topology; where there is none, nothing changes
abbrev pub undone_to : Topology → List Topology → History
undone_to t [] = record { now = t; before = [] }
undone_to t (u ∷ before) = record { now = u; before = before }

-- after an undo
abbrev pub undone : History → History
undone h = undone_to h.now h.before

-- the history after these edits and undos in order
abbrev pub IsAfterMoves : ℕ → History → List Move → History → Type 0
IsAfterMoves depth h [] last = h ≡ last
IsAfterMoves depth h (Make edit ∷ moves) last = (result : Result Topology EditRefusal) × IsAfter h.now edit result
    × IsAfterMoves depth (edited_by depth h result) moves last
IsAfterMoves depth h (Undo ∷ moves) last = IsAfterMoves depth (undone h) moves last
