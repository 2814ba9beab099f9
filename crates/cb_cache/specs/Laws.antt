-- What holds of rows before and after an edit.
use Rattle.std.specs.Prelude.{◌≡◌, ℕ, List, true}
use Rattle.cb_lanes.specs.Words.{bit_of}
use Rattle.cb_model.specs.declared.node.NodeName.{NodeName}
use Rattle.cb_network.specs.declared.edit.Edit.{Edit}
use Rattle.cb_network.specs.Nodes.{IsNodeOf}
use Rattle.cb_network.specs.Sound.{Sound}
use Rattle.cb_change.specs.Touched.{CausesTouched}
use Rattle.cb_change.specs.Laws.{OnlyAdds}
use Rattle.cb_topo.specs.Numbered.{Numbered, topology_of, IsNodeNamed, IsWhole}
use Rattle.cb_topo.specs.Applied.{Applies}
use Rattle.cb_graph.specs.Edges.{EdgeAt, number}
use Rattle.cb_cache.specs.Cached.{IsReachedRow}
use Rattle.cb_graph.specs.Touched.{IsTouchedNumber}

-- an accepted edit makes the new topology of the old, and both are whole and sound
pub record IsEdited (old : Numbered) (edit : Edit) (new : Numbered) : Type 0 where
  pub whole : IsWhole old
  pub whole_after : IsWhole new
  pub sound : Sound (topology_of old)
  pub sound_after : Sound (topology_of new)
  pub applies : Applies old edit new

-- the row of a node that stays, and that causes nothing touched, is right afterwards
abbrev pub CleanRowsStay : Type 0
CleanRowsStay = (old new : Numbered) (edit : Edit) → IsEdited old edit new → (i : ℕ) (p : NodeName) (words : List ℕ) → IsNodeNamed old (number i) p
    → IsNodeOf (topology_of new) p → ¬ CausesTouched (topology_of old) (topology_of new) p → IsReachedRow old i words → IsReachedRow new i words

-- where an edit only adds, a row that was right has, of each of its nodes that isn't touched, all successors
abbrev pub RowsAreSettled : Type 0
RowsAreSettled = (old new : Numbered) (edit : Edit) → IsEdited old edit new → OnlyAdds edit → (i : ℕ) (p : NodeName) (words : List ℕ) → IsNodeNamed old (number i) p
    → IsReachedRow old i words → (k next : ℕ) → bit_of words k ≡ true → ¬ IsTouchedNumber old (topology_of new) k → EdgeAt new k next → bit_of words next ≡ true
