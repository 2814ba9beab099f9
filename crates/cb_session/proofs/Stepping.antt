-- A session goes on by one entry.
use Rattle.std.proofs.Common.{◌≡◌, ◌↔◌, ◌++◌, ℕ, List, [], ◌∷◌, length, Bool, false, Option, Some, None, IsSome, Result, Ok, Err, refl, sym, subst, inl, inr, append-nil, get_or, arith}
use Rattle.std.specs.Prelude.{IfSome, IfOk, OnOk}
use Rattle.std.specs.List.{All}
use Rattle.std.proofs.lemmas.List.Elements.{Contains-get_or}
use Rattle.cb_model.specs.NodeOrder.{node_cmp}
use Rattle.cb_model.specs.Order.{Rises}
use Rattle.cb_model.specs.declared.wish.Wish.{Wish}
use Rattle.cb_edits.specs.Spelled.{EditHasNames}
use Rattle.cb_cache.specs.Cached.{Cached}
use Rattle.cb_network.specs.declared.edit.Edit.{Edit}
use Rattle.cb_network.specs.declared.edit.Edit.TheVariants.{Create, Delete, Link, Unlink, Mute, Unmute}
use Rattle.cb_network.specs.Laws.{HasGoodName}
use Rattle.cb_network.specs.Regular.{IsRegular}
use Rattle.cb_network.specs.Topology.{Topology}
use Rattle.cb_log.specs.declared.closed.Closed.{Closed}
use Rattle.cb_log.specs.declared.event.Event.{Event}
use Rattle.cb_log.specs.declared.record.Body.{Body}
use Rattle.cb_log.specs.declared.record.Body.TheVariants.{Raise, Clear, Change, Tick}
use Rattle.cb_log.specs.declared.record.Record.{Record}
use Rattle.cb_log.specs.Basis.{Mode, wanted, fixed}
use Rattle.cb_log.specs.Closing.{ClosesAt, AreClosing}
use Rattle.cb_log.specs.Entries.{LogEntry, said, records_of}
use Rattle.cb_log.specs.Events.{IsNetwork, HasBook, EntryGives, EndGives}
use Rattle.cb_log.specs.Kept.{Kept, StandsForRecords}
use Rattle.cb_log.specs.Network.{IsNow}
use Rattle.cb_alarm.specs.Lines.{NumberedLine, text, long, ComesTo}
use Rattle.cb_alarm.specs.Spelled.{SpellsRecord, SaysBody}
use Rattle.cb_alarm.proofs.OneSkip.{comes_to_one}
use Rattle.cb_topo.specs.Numbered.{Numbered, topology_of}
use Rattle.cb_session.specs.declared.basis.Ready.{Ready}
use Rattle.cb_session.specs.declared.reported.Reported.{Reported}
use Rattle.cb_session.specs.Acts.{Acts, GoesOn, IsWellNamed}
use Rattle.cb_session.specs.InUse.{InUse}
use Rattle.cb_session.specs.Ready.{IsReady}
use Rattle.cb_session.specs.Course.{wanted_state}
use Rattle.cb_session.specs.Settled.{IsOverSome, IsSessionSettled}
use Rattle.cb_session.specs.State.{State, network_of, IsBookInUse, KeepsBook, StandsForEntries, StandsForLines}
use Rattle.cb_session.specs.Steps.{EntryTells, EntryStands, ClosesAtEnd}
use Rattle.cb_session.specs.Reported.{ReportsWindows, kept_ready}
use Rattle.cb_session.proofs.Bases.{ready_has_basis}
use Rattle.cb_session.proofs.After.{records_said, records_stay, IsChangedBy, changed_by, body_gives}
use Rattle.cb_session.specs.Sources.{StandsAlone}
use Rattle.cb_model.proofs.Numbers.{zip_push}
use Rattle.cb_session.proofs.Alone.{stands_alone}
use Rattle.cb_session.proofs.Telling.{book_of, reported_comes, keeps_after, ready_stays}

-- the instance that an edit makes has a name of the grammar, where all its names are
good_name : (edit : Edit) → EditHasNames edit → HasGoodName edit
good_name (Create name class) names = names.0
good_name (Delete name) names = tt
good_name (Link a rel b) names = tt
good_name (Unlink a rel b) names = tt
good_name (Mute event name) names = tt
good_name (Unmute event name) names = tt

spelled_named : (line : List ℕ) (r : Record) → SpellsRecord line r → (body : Body) → r.body ≡ body → IsWellNamed body
spelled_named line r spells (Raise source node) is = tt
spelled_named line r spells (Clear source node) is = tt
spelled_named line r spells (Change edit) is = let says = subst (SaysBody spells.members) is spells.body in good_name edit says.2.names
spelled_named line r spells Tick is = tt

-- so has that of an edit that a line comes to
pub well_named : (line : NumberedLine) (number : ℕ) (r : Record) → ComesTo line (said number r) → IsWellNamed r.body
well_named (long k) number r comes = absurd (cc)
well_named (text k bytes) number r (inl (is_blank, e)) = absurd (cc)
well_named (text k bytes) number r (inr (some, inl (s, spells, e))) =
    let same : s ≡ r = cc in
    spelled_named bytes r (subst (SpellsRecord bytes) same spells) r.body refl
well_named (text k bytes) number r (inr (some, inr (kind, is_skipped, e))) = absurd (cc)

-- an entry without a record leaves what is stood for
keeps_same : (opening : Topology) (mode : Mode) (w : ℕ) (s : State) (xs ys : List LogEntry) → records_of xs ≡ records_of ys
    → KeepsBook opening mode w s xs → KeepsBook opening mode w s ys
keeps_same opening (wanted wish) w s xs ys same keeps = (subst (λ (rs : List Record). IsSome s.book ↔ HasBook opening w rs) same keeps.0, keeps.1)
keeps_same opening (fixed given met) w s xs ys same keeps = keeps

pub aside_stands : (s : State) (entry : LogEntry) → records_of (entry ∷ []) ≡ [] → EntryStands s s entry
aside_stands s entry none = λ opening before regular stands.
    let same : records_of before ≡ records_of (before ++ entry ∷ []) = sym (records_stay before entry none) in
    record {
      network = subst (λ (rs : List Record). IsNetwork opening s.mode rs (network_of s)) same stands.network;
      windows = subst (StandsForRecords s.windows) same stands.windows;
      book = keeps_same opening s.mode s.windows.length s before (before ++ entry ∷ []) same stands.book;
    }

-- what is reported of the entry that a line comes to is reported of each that it comes to
pub all_tell : (line : NumberedLine) (entry : LogEntry) → ComesTo line entry → (s : State) (events : List Event) → EntryTells s entry events
    → (other : LogEntry) → ComesTo line other → EntryTells s other events
all_tell line entry comes s events tells other too = subst (λ (e : LogEntry). EntryTells s e events) (comes_to_one line entry other comes too) tells

pub all_stand : (line : NumberedLine) (entry : LogEntry) → ComesTo line entry → (old new : State) → EntryStands old new entry
    → (other : LogEntry) → ComesTo line other → EntryStands old new other
all_stand line entry comes old new stands other too = subst (EntryStands old new) (comes_to_one line entry other comes too) stands

-- what is ready has a basis, so its codebook is one of the topology
book_is : (n : Numbered) (wish : Wish) (ready : Option Ready) → IfSome ready (IsReady n (wanted wish)) → IfSome (book_of ready) (IsBookInUse (topology_of n) (wanted wish))
book_is n wish None is = tt
book_is n wish (Some ready) is = let has = ready_has_basis n (wanted wish) ready is in (has.0, has.1.kept, has.1.used)

-- the windows close at the next record
abbrev pub Closes : Kept → ℕ → List Closed → Type 0
Closes windows at closing = (records : List Record) (r : Record) → r.at ≡ at → StandsForRecords windows records
    → AreClosing (records ++ r ∷ []) windows.length (length records) closing

module _ (wish : Wish) (number : ℕ) (r : Record) (cache fresh : Cached) (windows later : Kept) (ready : Option Ready) where
  abbrev network : Topology
  network = topology_of cache.graph

  abbrev new : Topology
  new = topology_of fresh.graph

  -- a record closes windows, is reported, and acts
  pub record Goes (closing : List Closed) (reported : Reported) (changed : Bool) (acted : List Event) : Type 0 where
    pub closes : Closes windows r.at closing
    pub tells : ReportsWindows cache.graph wish ready closing reported
    pub acts : Acts network number r.body new changed acted
    pub unchanged : changed ≡ false → fresh.graph ≡ cache.graph
    pub on : GoesOn windows later r
    pub same_length : later.length ≡ windows.length
    pub settled : IsSessionSettled cache.graph wish windows ready

  module _ (closing : List Closed) (reported : Reported) (changed : Bool) (acted : List Event) (goes : Goes closing reported changed acted) where
    pub record_tells : EntryTells (wanted_state cache wish windows ready) (said number r) (reported.events ++ acted)
    record_tells = λ opening before regular stands. record {
      closings = reported.events;
      closing = reported_comes opening wish windows.length (records_of before) (r ∷ []) cache.graph stands.network ready stands.book.0 closing
          (goes.closes (records_of before) r refl stands.windows) reported goes.tells;
      refusals = acted;
      body = body_gives opening regular (records_of before) network stands.network r wish r.body number new changed acted goes.acts;
      events_are = refl;
    }

    -- what stays ready
    abbrev kept : Option Ready
    kept = kept_ready changed ready reported.made

    ready_kept : IfSome kept (IsReady fresh.graph (wanted wish))
    ready_kept = ready_stays cache.graph fresh.graph wish ready goes.settled.ready_is closing reported goes.tells changed goes.unchanged

    pub settled_still : IsSessionSettled fresh.graph wish later kept
    settled_still = record {
      over = (goes.settled.over.0 ++ r ∷ [], goes.on goes.settled.over.0 goes.settled.over.1);
      ready_is = ready_kept;
    }

    pub record_stands : EntryStands (wanted_state cache wish windows ready) (wanted_state fresh wish later kept) (said number r)
    record_stands = λ opening before regular stands.
        let same : records_of before ++ r ∷ [] ≡ records_of (before ++ said number r ∷ []) = sym (records_said before number r) in
        let by : IsChangedBy opening regular (records_of before) network stands.network r new changed =
        changed_by opening regular (records_of before) network stands.network r r.body refl number new changed acted goes.acts in
        let keeps : IsSome (book_of kept) ↔ HasBook opening windows.length (records_of before ++ r ∷ []) =
        keeps_after opening wish windows.length (records_of before) r cache.graph ready stands.book.0 closing
        (goes.closes (records_of before) r refl stands.windows) reported goes.tells changed by.accepted by.refused in
        record {
          network = subst (λ (rs : List Record). IsNow opening rs new) same by.is_now;
          windows = subst (StandsForRecords later) same (goes.on (records_of before) stands.windows);
          book = (
            subst (λ (rs : List Record). IsSome (book_of kept) ↔ HasBook opening later.length rs) same
                (subst (λ (w : ℕ). IsSome (book_of kept) ↔ HasBook opening w (records_of before ++ r ∷ [])) (sym goes.same_length) keeps),
            book_is fresh.graph wish kept ready_kept,
          );
        }

-- what is kept of a window that closes has its nodes in order
abbrev pub HasRisingNodes : Closed → Type 0
HasRisingNodes c = Rises node_cmp c.nodes

all_rise : (records : List Record) (w place : ℕ) (closing : List Closed) → AreClosing records w place closing → All HasRisingNodes closing
all_rise records w place closing closes = λ k d lt.
    let c : Closed = get_or closing k d in
    let at : ClosesAt records w place c = (closes.each c).0 (Contains-get_or closing k d lt) in
    at.nodes.rise

pub due_rise : (windows : Kept) (r : Record) (closing : List Closed) → IsOverSome windows → Closes windows r.at closing → All HasRisingNodes closing
due_rise windows r closing over closes =
    all_rise (over.0 ++ r ∷ []) windows.length (length over.0) closing (closes over.0 r refl over.1)

pub end_rise : (windows : Kept) (closing : List Closed) → IsOverSome windows → ClosesAtEnd windows closing → All HasRisingNodes closing
end_rise windows closing over closes = all_rise over.0 windows.length (length over.0) closing (closes over.0 over.1)

-- what is reported of them is what results from the end
pub end_tells : (cache : Cached) (wish : Wish) (windows : Kept) (ready : Option Ready) (closing : List Closed) (reported : Reported) → ClosesAtEnd windows closing
    → ReportsWindows cache.graph wish ready closing reported → (opening : Topology) (before : List LogEntry) → StandsForEntries (wanted_state cache wish windows ready) opening before
    → EndGives opening (wanted wish) windows.length (records_of before) reported.events
end_tells cache wish windows ready closing reported closes tells opening before stands =
    reported_comes opening wish windows.length (records_of before) [] cache.graph stands.network ready stands.book.0 closing
    (subst (λ (rs : List Record). AreClosing rs windows.length (length (records_of before)) closing) (sym (append-nil (records_of before)))
    (closes (records_of before) stands.windows)) reported tells

-- at the beginning no codebook is in use
no_book : (opening : Topology) (w : ℕ) → IsSome {T = InUse} None ↔ HasBook opening w []
no_book opening w = (λ e. absurd (cc), λ has. let within = has.within in absurd (omega arith))

pub opened_stands : (cache : Cached) (wish : Wish) (windows : Kept) → StandsForRecords windows [] → StandsForEntries (wanted_state cache wish windows None) (topology_of cache.graph) []
opened_stands cache wish windows stands = record { network = refl; windows = stands; book = (no_book (topology_of cache.graph) windows.length, tt) }

pub opened_settled : (n : Numbered) (wish : Wish) (windows : Kept) → StandsForRecords windows [] → IsSessionSettled n wish windows None
opened_settled n wish windows stands = record { over = ([], stands); ready_is = tt }

-- what results from a line, whatever it comes to
abbrev pub LineTells : NumberedLine → State → List Event → Type 0
LineTells line s events = (opening : Topology) (before : List LogEntry) (entry : LogEntry) → IsRegular opening.model → ComesTo line entry
    → StandsForEntries s opening before → EntryGives opening s.mode s.windows.length (records_of before) entry events

-- what is stood for after it
abbrev pub LineStands : NumberedLine → State → State → Type 0
LineStands line old new = (opening : Topology) (before : List LogEntry) (entry : LogEntry) → IsRegular opening.model → ComesTo line entry
    → StandsForEntries old opening before → StandsForEntries new opening (before ++ entry ∷ [])

pub line_tells : (line : NumberedLine) (entry : LogEntry) → ComesTo line entry → (s : State) (events : List Event) → EntryTells s entry events → LineTells line s events
line_tells line entry comes s events tells = λ opening before other regular too stands. all_tell line entry comes s events tells other too opening before regular stands

pub line_stands : (line : NumberedLine) (entry : LogEntry) → ComesTo line entry → (old new : State) → EntryStands old new entry → LineStands line old new
line_stands line entry comes old new goes = λ opening before other regular too stands. all_stand line entry comes old new goes other too opening before regular stands

pub if_line_tells : {E : Type 0} (line : NumberedLine) (entry : LogEntry) → ComesTo line entry → (s : State) (result : Result (List Event) E) → IfOk result (EntryTells s entry)
    → IfOk result (LineTells line s)
if_line_tells line entry comes s (Ok events) tells = line_tells line entry comes s events tells
if_line_tells line entry comes s (Err e) tells = tt

pub if_line_stands : {E : Type 0} (line : NumberedLine) (entry : LogEntry) → ComesTo line entry → (old new : State) (result : Result (List Event) E)
    → OnOk result (EntryStands old new entry) → OnOk result (LineStands line old new)
if_line_stands line entry comes old new (Ok events) stands = line_stands line entry comes old new stands
if_line_stands line entry comes old new (Err e) stands = tt

-- and of each source, what other sources say leaves it
abbrev pub LineAlone : NumberedLine → State → List Event → Type 0
LineAlone line s events = (opening : Topology) (before : List NumberedLine) → IsRegular opening.model → StandsForLines s opening before
    → StandsAlone opening s.mode s.windows.length before line events

pub line_alone : (line : NumberedLine) (entry : LogEntry) → ComesTo line entry → (s : State) (events : List Event) → LineTells line s events → LineAlone line s events
line_alone line entry comes s events tells = λ opening before regular stands.
    stands_alone opening s.mode s.windows.length before stands.entries stands.come regular line entry comes events
    (tells opening stands.entries entry regular comes stands.stands)

pub if_line_alone : {E : Type 0} (line : NumberedLine) (entry : LogEntry) → ComesTo line entry → (s : State) (result : Result (List Event) E)
    → IfOk result (LineTells line s) → IfOk result (LineAlone line s)
if_line_alone line entry comes s (Ok events) tells = line_alone line entry comes s events tells
if_line_alone line entry comes s (Err e) tells = tt

-- the lines that are stood for, with that one
abbrev pub LinesStand : NumberedLine → State → State → Type 0
LinesStand line old new = (opening : Topology) (before : List NumberedLine) → IsRegular opening.model → StandsForLines old opening before
    → StandsForLines new opening (before ++ line ∷ [])

pub lines_stand : (line : NumberedLine) (entry : LogEntry) → ComesTo line entry → (old new : State) → EntryStands old new entry → LinesStand line old new
lines_stand line entry comes old new goes = λ opening before regular has. record {
  entries = has.entries ++ entry ∷ [];
  come = zip_push ComesTo before has.entries line entry has.come comes;
  stands = goes opening has.entries regular has.stands;
}

pub if_lines_stand : {E : Type 0} (line : NumberedLine) (entry : LogEntry) → ComesTo line entry → (old new : State) (result : Result (List Event) E)
    → OnOk result (EntryStands old new entry) → OnOk result (LinesStand line old new)
if_lines_stand line entry comes old new (Ok events) stands = lines_stand line entry comes old new stands
if_lines_stand line entry comes old new (Err e) stands = tt
