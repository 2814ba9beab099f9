-- Edits that are made in turn, and what they cost.
use Rattle.std.specs.Prelude.{◌≡◌, ◌++◌, ◌∷◌, ◌⊎◌, [], ℕ, List}
use Rattle.std.specs.List.{Contains}
use Rattle.cb_change.specs.Costs.{CountsAtMost}
use Rattle.cb_change.specs.InTurn.{IsCostInTurn}
use Rattle.cb_network.specs.declared.edit.Edit.{Edit}
use Rattle.cb_network.specs.declared.edit.Edit.TheVariants.{Create, Delete}
use Rattle.cb_network.specs.Topology.{Topology}
use Rattle.cb_network.specs.Regular.{IsRegular}
use Rattle.cb_network.specs.Laws.{HasGoodName}
use Rattle.cb_history.specs.Inverse.{AllMake}

-- each of the edits is accepted in turn, and new instances have names of the grammar
pub record CanAllBeMade (t : Topology) (edits : List Edit) : Type 0 where
  pub regular : IsRegular t.model
  pub good : (edit : Edit) → Contains edits edit → HasGoodName edit
  pub last : Topology
  pub make : AllMake t edits last

-- the edits were made, and no more steps were counted than they cost in turn
pub record MakesAll (t : Topology) (edits : List Edit) (u : Topology) (steps new_steps : ℕ) : Type 0 where
  pub make : AllMake t edits u
  pub cost : CountsAtMost (IsCostInTurn t edits) steps new_steps

-- those before one of them were made
pub record MakesPrefix (t : Topology) (edits : List Edit) (u : Topology) (steps new_steps : ℕ) : Type 0 where
  pub prefix : List Edit
  pub next : Edit
  pub rest : List Edit
  pub is : edits ≡ prefix ++ next ∷ rest
  pub makes : MakesAll t prefix u steps new_steps

-- an instance was created and some of the edits after that were made, and then it was deleted: no more steps were counted than this costs in turn
pub record CountsDeleted (t : Topology) (edits : List Edit) (steps new_steps : ℕ) : Type 0 where
  pub name : List ℕ
  pub class : List ℕ
  pub prefix : List Edit
  pub rest : List Edit
  pub is : edits ≡ Create name class ∷ (prefix ++ rest)
  pub cost : CountsAtMost (IsCostInTurn t (Create name class ∷ (prefix ++ Delete name ∷ []))) steps new_steps

-- no step was counted, or those of a part of the edits and of the Delete after it
abbrev pub CountsPart : Topology → List Edit → ℕ → ℕ → Type 0
CountsPart t edits steps new_steps = (new_steps ≡ steps) ⊎ CountsDeleted t edits steps new_steps
