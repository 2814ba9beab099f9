-- What is reported of windows that close, and by which codebook.
use Rattle.std.specs.Prelude.{◌≡◌, ◌++◌, List, [], ◌∷◌, Bool, true, false, Option, None, Some}
use Rattle.std.specs.List.{AllZip}
use Rattle.cb_model.specs.declared.wish.Wish.{Wish}
use Rattle.cb_log.specs.declared.closed.Closed.{Closed}
use Rattle.cb_log.specs.declared.event.Event.{Event}
use Rattle.cb_log.specs.Basis.{Mode, wanted, Basis, IsDiagnosis, IsAnnounced}
use Rattle.cb_topo.specs.Numbered.{Numbered, topology_of}
use Rattle.cb_session.specs.declared.basis.Ready.{Ready}
use Rattle.cb_session.specs.declared.reported.Reported.{Reported}
use Rattle.cb_session.specs.Ready.{HasBasis, IsReady}

-- by a codebook in use, the diagnoses alone
pub record TellsInUse (n : Numbered) (mode : Mode) (ready : Ready) (closing : List Closed) (events : List Event) : Type 0 where
  pub basis : Basis (topology_of n) mode
  pub has : HasBasis n basis ready
  pub each : AllZip (IsDiagnosis basis) closing events

-- by a codebook that is made for them, what is reported of it, and then the diagnoses
pub record TellsMade (n : Numbered) (wish : Wish) (ready : Ready) (closing : List Closed) (events : List Event) : Type 0 where
  pub basis : Basis (topology_of n) (wanted wish)
  pub has : HasBasis n basis ready
  pub announced : List Event
  pub is_announced : IsAnnounced basis wish announced
  pub diagnoses : List Event
  pub each : AllZip (IsDiagnosis basis) closing diagnoses
  pub events_are : events ≡ announced ++ diagnoses

-- what is reported of windows that close, by what is ready; where nothing is, by what is made ready for the topology
abbrev pub ReportsWindows : Numbered → Wish → Option Ready → List Closed → Reported → Type 0
ReportsWindows n wish ready [] reported = (reported.events ≡ []) × (reported.made ≡ None)
ReportsWindows n wish (Some ready) (c ∷ closing) reported = TellsInUse n (wanted wish) ready (c ∷ closing) reported.events × (reported.made ≡ None)
ReportsWindows n wish None (c ∷ closing) reported =
    (made : Ready) × (reported.made ≡ Some made) × IsReady n (wanted wish) made × TellsMade n wish made (c ∷ closing) reported.events

-- what stays ready: nothing once the topology has changed, else what was made, and else what was there
abbrev pub kept_ready : Bool → Option Ready → Option Ready → Option Ready
kept_ready true old made = None
kept_ready false old None = old
kept_ready false old (Some made) = Some made
