-- A log that is followed by a codebook that is given.
use Rattle.std.specs.Prelude.{◌≡◌, ℕ, List, []}
use Rattle.cb_model.specs.declared.wish.Wish.{Wish}
use Rattle.cb_network.specs.Regular.{IsRegular}
use Rattle.cb_network.specs.Topology.{Topology}
use Rattle.cb_cert.specs.declared.certificate.Certificate.{Certificate}
use Rattle.cb_log.specs.Basis.{fixed}
use Rattle.cb_file_kinds.specs.declared.book_file.GivenWish.{GivenWish}
use Rattle.cb_file_kinds.specs.declared.book_file.GivenWish.TheVariants.{Plain, Cap}
use Rattle.cb_session.specs.declared.stated.StatedWish.{StatedWish}
use Rattle.cb_session.specs.declared.stated.StatedWish.TheVariants as stated
use Rattle.cb_session.specs.State.{State, StandsForEntries}
use Rattle.cb_outcome.specs.LogJobs.{States}

-- what a given codebook keeps, as a certificate states it
abbrev pub stated_of : GivenWish → StatedWish
stated_of (Plain distance) = stated.Plain distance
stated_of (Cap cap radii) = stated.Cap cap radii

-- a session at the beginning of a log over the topology, by the codebook that a certificate states
pub record StandsFixed (t : Topology) (c : Certificate) (window : ℕ) (session : State) : Type 0 where
  pub regular : IsRegular t.model
  pub kept : List ℕ
  pub used : Wish
  pub states : States t c kept used
  pub mode : session.mode ≡ fixed kept used
  pub length : session.windows.length ≡ window
  pub stands : StandsForEntries session t []
