-- A session that goes by one codebook goes on by one entry.
use Rattle.std.proofs.Common.{◌≡◌, ◌++◌, ℕ, List, [], ◌∷◌, length, refl, sym, subst, append-nil}
use Rattle.std.specs.List.{AllZip}
use Rattle.cb_model.specs.declared.wish.Wish.{Wish}
use Rattle.cb_cache.specs.Cached.{Cached}
use Rattle.cb_network.specs.Topology.{Topology}
use Rattle.cb_log.specs.declared.closed.Closed.{Closed}
use Rattle.cb_log.specs.declared.event.Event.{Event}
use Rattle.cb_log.specs.declared.record.Body.{Body}
use Rattle.cb_log.specs.declared.record.Body.TheVariants.{Raise, Clear, Change, Tick}
use Rattle.cb_log.specs.declared.record.Record.{Record}
use Rattle.cb_log.specs.Basis.{fixed, IsDiagnosis}
use Rattle.cb_log.specs.Closing.{AreClosing}
use Rattle.cb_log.specs.Entries.{said, records_of}
use Rattle.cb_log.specs.Events.{BodyGives, ClosingGives, Diagnoses}
use Rattle.cb_log.specs.Kept.{Kept, StandsForRecords}
use Rattle.cb_topo.specs.Numbered.{topology_of}
use Rattle.cb_session.specs.declared.basis.Ready.{Ready}
use Rattle.cb_session.specs.Acts.{GoesOn, RefusesEdit}
use Rattle.cb_session.specs.Course.{fixed_state, mode_by}
use Rattle.cb_session.specs.InUse.{in_use_of}
use Rattle.cb_session.specs.Steps.{EntryTells, EntryStands, ClosesAtEnd, TellsAtEnd}
use Rattle.cb_session.specs.Reported.{TellsInUse}
use Rattle.cb_session.proofs.After.{records_said}
use Rattle.cb_session.proofs.Stepping.{Closes}

-- of no window there is no diagnosis
none_reported : (P : Closed → Event → Type 0) (events : List Event) → AllZip P [] events → events ≡ []
none_reported P [] each = refl
none_reported P (e ∷ events) each = absurd each

-- a refusal is what results from the body
refusal_comes : (t : Topology) (given : List ℕ) (met : Wish) (records : List Record) (line : ℕ) (body : Body) (events : List Event) → RefusesEdit line body events
    → BodyGives t (fixed given met) records line body events
refusal_comes t given met records line (Raise source node) events reported = reported
refusal_comes t given met records line (Clear source node) events reported = reported
refusal_comes t given met records line (Change edit) events reported = reported
refusal_comes t given met records line Tick events reported = reported

module _ (cache : Cached) (ready : Ready) where
  abbrev network : Topology
  network = topology_of cache.graph

  diagnosed : (opening : Topology) → network ≡ opening → (w : ℕ) (records : List Record) (closing : List Closed) (events : List Event)
      → TellsInUse cache.graph (mode_by ready) ready closing events → Diagnoses opening (mode_by ready) w records closing events
  diagnosed opening same w records [] events tells = none_reported (IsDiagnosis tells.basis) events tells.each
  diagnosed opening same w records (c ∷ closing) events tells = record {
    network = network;
    is_network = same;
    basis = tells.basis;
    opening = [];
    is_opening = refl;
    diagnoses = events;
    each = tells.each;
    events_are = refl;
  }

  -- what is reported is what results from the windows
  closing_comes : (opening : Topology) → network ≡ opening → (w : ℕ) (records next : List Record) (closing : List Closed)
      → AreClosing (records ++ next) w (length records) closing → (events : List Event) → TellsInUse cache.graph (mode_by ready) ready closing events
      → ClosingGives opening (mode_by ready) w records next events
  closing_comes opening same w records next closing closes events tells = record {
    closing = closing;
    closes = closes;
    diagnoses = diagnosed opening same w records closing events tells;
  }

  -- at a record
  pub fixed_tells : (number : ℕ) (r : Record) (windows : Kept) (closing : List Closed) → Closes windows r.at closing
      → (events : List Event) → TellsInUse cache.graph (mode_by ready) ready closing events
      → (refusals : List Event) → RefusesEdit number r.body refusals → EntryTells (fixed_state cache windows ready) (said number r) (events ++ refusals)
  fixed_tells number r windows closing closes events tells refusals refuses = λ opening before regular stands. record {
    closings = events;
    closing = closing_comes opening stands.network windows.length (records_of before) (r ∷ []) closing (closes (records_of before) r refl stands.windows) events tells;
    refusals = refusals;
    body = refusal_comes opening (in_use_of ready.book).kept (in_use_of ready.book).used (records_of before) number r.body refusals refuses;
    events_are = refl;
  }

  pub fixed_stands : (number : ℕ) (r : Record) (windows later : Kept) → GoesOn windows later r
      → EntryStands (fixed_state cache windows ready) (fixed_state cache later ready) (said number r)
  fixed_stands number r windows later goes = λ opening before regular stands. record {
    network = stands.network;
    windows = subst (StandsForRecords later) (sym (records_said before number r)) (goes (records_of before) stands.windows);
    book = refl;
  }

  -- at the end
  pub fixed_ends : (windows : Kept) (closing : List Closed) → ClosesAtEnd windows closing → (events : List Event)
      → TellsInUse cache.graph (mode_by ready) ready closing events → TellsAtEnd (fixed_state cache windows ready) events
  fixed_ends windows closing closes events tells = λ opening before stands.
      closing_comes opening stands.network windows.length (records_of before) [] closing
      (subst (λ (rs : List Record). AreClosing rs windows.length (length (records_of before)) closing) (sym (append-nil (records_of before)))
      (closes (records_of before) stands.windows)) events tells
