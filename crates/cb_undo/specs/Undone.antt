-- What an undo does to what is kept, and what it costs.
use Rattle.std.specs.Prelude.{◌≡◌, ◌≢◌, ◌∷◌, [], ℕ, List}
use Rattle.cb_change.specs.Costs.{CountsAtMost}
use Rattle.cb_change.specs.InTurn.{IsCostInTurn}
use Rattle.cb_network.specs.declared.edit.Edit.{Edit}
use Rattle.cb_network.specs.Topology.{Topology}
use Rattle.cb_network.specs.Regular.{IsRegular}
use Rattle.cb_inverse.specs.declared.inverse.Inverse.{Inverse}
use Rattle.cb_inverse.specs.Inverses.{inverse_edits}
use Rattle.cb_topo.specs.Numbered.{Numbered, topology_of}
use Rattle.cb_undo.specs.declared.fault.UndoFault.{UndoFault}
use Rattle.cb_undo.specs.declared.fault.UndoFault.TheVariants.{Nothing, NoMemory}
use Rattle.cb_undo.specs.Made.{MakesAll, CountsPart}

-- the edits of the first were made, and the others are left
pub record MakesFirst (t : Topology) (old : List Inverse) (u : Topology) (new : List Inverse) (steps new_steps : ℕ) : Type 0 where
  pub regular : IsRegular t.model
  pub inverse : Inverse
  pub is : old ≡ inverse ∷ new
  pub makes : MakesAll t (inverse_edits inverse) u steps new_steps

-- where there is none, no step was counted, and else those of a part of the edits of the first
pub record CountsFailure (t : Topology) (old : List Inverse) (steps new_steps : ℕ) : Type 0 where
  pub none : old ≡ [] → new_steps ≡ steps
  pub first : (inverse : Inverse) (rest : List Inverse) → old ≡ inverse ∷ rest → CountsPart t (inverse_edits inverse) steps new_steps

-- why nothing is undone: there is nothing to undo, or there is, and memory runs out
abbrev pub StopsUndo : {X : Type 0} → List X → UndoFault → Type 0
StopsUndo records Nothing = records ≡ []
StopsUndo records NoMemory = records ≢ []

-- what is left of the network: all of it where there is nothing to undo, and else the topology, perhaps by other numbers
abbrev pub LeavesNetwork : Numbered → Numbered → UndoFault → Type 0
LeavesNetwork old new Nothing = new ≡ old
LeavesNetwork old new NoMemory = topology_of new ≡ topology_of old

-- no more steps were counted than the edits of the first record cost in turn
pub record CountsUndo (t : Topology) (records : List (List Edit)) (steps new_steps : ℕ) : Type 0 where
  pub edits : List Edit
  pub rest : List (List Edit)
  pub is : records ≡ edits ∷ rest
  pub cost : CountsAtMost (IsCostInTurn t edits) steps new_steps

-- without a record no step was counted, and else those of a part of the edits of the first
pub record CountsFailedUndo (t : Topology) (records : List (List Edit)) (steps new_steps : ℕ) : Type 0 where
  pub none : records ≡ [] → new_steps ≡ steps
  pub first : (edits : List Edit) (rest : List (List Edit)) → records ≡ edits ∷ rest → CountsPart t edits steps new_steps
