-- What an edit adds to what is kept.
use Rattle.std.specs.Prelude.{◌≡◌, ◌∷◌, ℕ, List, take}
use Rattle.cb_network.specs.declared.edit.Edit.{Edit}
use Rattle.cb_network.specs.Topology.{Topology}
use Rattle.cb_network.specs.Sound.{Sound}
use Rattle.cb_network.specs.Regular.{IsRegular}
use Rattle.cb_network.specs.Edits.{IsAccepted, IsRefused}
use Rattle.cb_history.specs.Inverse.{Inverts}
use Rattle.cb_inverse.specs.declared.inverse.Inverse.{Inverse}
use Rattle.cb_inverse.specs.Inverses.{inverse_edits, HasAgain}
use Rattle.cb_topo.specs.declared.fault.EditFault.{EditFault}
use Rattle.cb_topo.specs.declared.fault.EditFault.TheVariants.{Refused, NoMemory}

-- the inverse of the edit stands before the others, and at most the depth are kept
pub record KeepsInverse (t : Topology) (edit : Edit) (depth : ℕ) (old new : List Inverse) : Type 0 where
  pub sound : Sound t
  pub regular : IsRegular t.model
  pub inverse : Inverse
  pub again : HasAgain edit inverse
  pub inverts : Inverts t edit (inverse_edits inverse)
  pub is : new ≡ take depth (inverse ∷ old)

-- why the edit isn't made: it is refused for this, or it is accepted and memory runs out
abbrev pub StopsEdit : Topology → Edit → EditFault → Type 0
StopsEdit t edit (Refused why) = IsRefused t edit why
StopsEdit t edit NoMemory = IsAccepted t edit
