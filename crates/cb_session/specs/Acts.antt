-- What the body of a record does.
use Rattle.std.specs.Prelude.{◌≡◌, ◌++◌, ℕ, List, [], ◌∷◌, Bool, true, false, Result, Ok, Err}
use Rattle.cb_network.specs.declared.edit.EditRefusal.{EditRefusal}
use Rattle.cb_network.specs.Edits.{IsAfter}
use Rattle.cb_network.specs.Laws.{HasGoodName}
use Rattle.cb_network.specs.Topology.{Topology}
use Rattle.cb_log.specs.declared.event.Event.{Event}
use Rattle.cb_log.specs.declared.event.Event.TheVariants.{Refused}
use Rattle.cb_log.specs.declared.event.RefusedWhy.TheVariants.{Fixed}
use Rattle.cb_log.specs.declared.record.Body.{Body}
use Rattle.cb_log.specs.declared.record.Body.TheVariants.{Change}
use Rattle.cb_log.specs.declared.record.Record.{Record}
use Rattle.cb_log.specs.Events.{IsRefusal}
use Rattle.cb_log.specs.Kept.{Kept, StandsForRecords}

-- an edit that a body says makes its instance by a name of the grammar
abbrev pub IsWellNamed : Body → Type 0
IsWellNamed (Change edit) = HasGoodName edit
IsWellNamed body = Unit {0}

-- an accepted edit changes the topology, a refused one leaves it
abbrev pub Leaves : Topology → Result Topology EditRefusal → Topology → Bool → Type 0
Leaves network (Ok u) new changed = (new ≡ u) × (changed ≡ true)
Leaves network (Err why) new changed = (new ≡ network) × (changed ≡ false)

-- what the body does to the topology, whether that changes, and what is reported
abbrev pub Acts : Topology → ℕ → Body → Topology → Bool → List Event → Type 0
Acts network line (Change edit) new changed events =
    (result : Result Topology EditRefusal) × IsAfter network edit result × IsRefusal line result events × Leaves network result new changed
Acts network line body new changed events = (new ≡ network) × (changed ≡ false) × (events ≡ [])

-- what an entry's body does, with what is reported put after the events so far
abbrev pub ActsAfter : Topology → ℕ → Body → Topology → Bool → List Event → List Event → Type 0
ActsAfter network line body new changed old events =
    (reported : List Event) × Acts network line body new changed reported × (events ≡ old ++ reported)

-- an edit is refused where the codebook is fixed, and of no other body anything is reported
abbrev pub RefusesEdit : ℕ → Body → List Event → Type 0
RefusesEdit line (Change edit) events = events ≡ Refused line Fixed ∷ []
RefusesEdit line body events = events ≡ []

-- what is kept of the windows goes on by the record
abbrev pub GoesOn : Kept → Kept → Record → Type 0
GoesOn old new r = (records : List Record) → StandsForRecords old records → StandsForRecords new (records ++ r ∷ [])
