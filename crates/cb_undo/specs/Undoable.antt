-- What contracts see of a topology whose last edits can be undone.
use Rattle.std.specs.Prelude.{ℕ, List, map}
use Rattle.cb_network.specs.declared.edit.Edit.{Edit}
use Rattle.cb_inverse.specs.declared.inverse.Inverse.{Inverse}
use Rattle.cb_inverse.specs.Inverses.{inverse_edits}
use Rattle.cb_topo.specs.Numbered.{Numbered}

-- the topology with the numbers of its instances and nodes, for each of the last edits the edits that undo it, those of the last one first,
-- and how many edits can be undone at most
pub record Undoable : Type 0 where
  pub network : Numbered
  pub records : List (List Edit)
  pub depth : ℕ

abbrev pub undoable_of : Numbered → ℕ → List Inverse → Undoable
undoable_of n depth inverses = record { network = n; records = map inverse_edits inverses; depth = depth }
