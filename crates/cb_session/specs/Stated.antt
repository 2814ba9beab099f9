-- The codebook that a certificate states.
use Rattle.std.specs.Prelude.{◌≡◌, ℕ, List, Bool}
use Rattle.cb_model.specs.declared.node.NodeName.{NodeName}
use Rattle.cb_model.specs.declared.wish.Wish.{Wish}
use Rattle.cb_model.specs.declared.wish.Wish.TheVariants as wishes
use Rattle.cb_coding.specs.Radii.{AreRadii}
use Rattle.cb_log.specs.Basis.{Mode, fixed}
use Rattle.cb_network.specs.Nodes.{AreColumns}
use Rattle.cb_network.specs.Topology.{Topology}
use Rattle.cb_validity.specs.Reading.{ArePlaces}
use Rattle.cb_session.specs.declared.stated.StatedBook.{StatedBook}
use Rattle.cb_session.specs.declared.stated.StatedWish.{StatedWish}
use Rattle.cb_session.specs.declared.stated.StatedWish.TheVariants.{Plain, Cap}

-- the wish that a stated codebook meets
abbrev pub wish_stated : StatedWish → Wish
wish_stated (Plain distance) = wishes.Plain distance
wish_stated (Cap cap radii) = wishes.Cap cap

-- the radii that are stated for a cap are those of the codes
abbrev pub StatesRadiiOf : ℕ → List (List Bool) → StatedWish → Type 0
StatesRadiiOf width codes (Plain distance) = Unit {0}
StatesRadiiOf width codes (Cap cap radii) = AreRadii width codes cap radii

-- among all columns of the topology, the columns of these numbers have these positions
abbrev pub ArePlacesFor : Topology → List NodeName → List ℕ → List ℕ → Type 0
ArePlacesFor t nodes numbers places = (all : List NodeName) → AreColumns t all → ArePlaces nodes all numbers places

-- a log is correlated by the stated columns, each at its position among all, and by the stated wish
pub record IsModeStated (t : Topology) (stated : StatedBook) (mode : Mode) : Type 0 where
  pub kept : List ℕ
  pub places : ArePlacesFor t stated.nodes stated.columns kept
  pub is : mode ≡ fixed kept (wish_stated stated.wish)
