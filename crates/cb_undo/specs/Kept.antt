-- The inverses that are kept.
use Rattle.std.specs.Prelude.{◌≡◌, ◌<◌, ◌≤◌, ◌∷◌, [], ℕ, List, Ok, length}
use Rattle.cb_network.specs.declared.edit.Edit.{Edit}
use Rattle.cb_network.specs.Topology.{Topology}
use Rattle.cb_network.specs.Sound.{Sound}
use Rattle.cb_network.specs.Regular.{IsRegular}
use Rattle.cb_network.specs.Edits.{IsAfter}
use Rattle.cb_history.specs.Inverse.{Inverts}
use Rattle.cb_inverse.specs.declared.inverse.Inverse.{Inverse}
use Rattle.cb_inverse.specs.Inverses.{inverse_edits, HasAgain}

-- these edits undo this one, which made u of t
pub record Undoes (t u : Topology) (edit : Edit) (edits : List Edit) : Type 0 where
  pub sound : Sound t
  pub regular : IsRegular t.model
  pub after : IsAfter t edit (Ok u)
  pub inverts : Inverts t edit edits

-- it undoes the edit that made u of t
pub record IsInverseOf (t u : Topology) (inverse : Inverse) : Type 0 where
  pub edit : Edit
  pub undoes : Undoes t u edit (inverse_edits inverse)
  pub again : HasAgain edit inverse

-- the first undoes the edit that made the topology, the next one the edit before that, and so on
abbrev pub UndoInTurn : Topology → List Inverse → List Topology → Type 0
UndoInTurn u [] [] = Unit {0}
UndoInTurn u (inverse ∷ inverses) (t ∷ before) = IsInverseOf t u inverse × UndoInTurn t inverses before
UndoInTurn u inverses before = ⊥

-- they undo the last edits in turn, at most the depth, and there is capacity for one more than the depth
pub record AreInverses (t : Topology) (depth : ℕ) (inverses : List Inverse) (count capacity : ℕ) : Type 0 where
  pub before : List Topology
  pub back : UndoInTurn t inverses before
  pub some : 0 < depth
  pub few : count ≤ depth
  pub long : count ≡ length inverses
  pub more : depth < capacity
