-- What is reported of windows that close is what results from them, and when a codebook is in use after it.
use Rattle.std.proofs.Common.{◌≡◌, ◌≢◌, ◌↔◌, ◌⊎◌, ◌++◌, ℕ, List, [], ◌∷◌, length, Bool, true, false, Option, Some, None, IsSome, refl, sym, subst, inl, inr}
use Rattle.std.specs.Prelude.{option_map, IfSome}
use Rattle.cb_model.proofs.Rising.{nothing_in_empty, contains_head}
use Rattle.cb_model.specs.declared.wish.Wish.{Wish}
use Rattle.cb_network.specs.Topology.{Topology}
use Rattle.cb_log.specs.declared.closed.Closed.{Closed}
use Rattle.cb_log.specs.declared.event.Event.{Event}
use Rattle.cb_log.specs.declared.record.Record.{Record}
use Rattle.cb_log.specs.Basis.{wanted}
use Rattle.cb_log.specs.Closing.{ClosesAt, AreClosing}
use Rattle.cb_log.specs.Events.{HasBook, ClosingGives, Diagnoses}
use Rattle.cb_log.specs.Network.{IsNow, IsAcceptedAt}
use Rattle.cb_log.proofs.BookSteps.{book_steps}
use Rattle.cb_topo.specs.Numbered.{Numbered, topology_of}
use Rattle.cb_session.specs.declared.basis.Ready.{Ready}
use Rattle.cb_session.specs.declared.reported.Reported.{Reported}
use Rattle.cb_session.specs.InUse.{InUse, in_use_of}
use Rattle.cb_session.specs.Ready.{IsReady}
use Rattle.cb_session.specs.Reported.{TellsInUse, TellsMade, ReportsWindows, kept_ready}

-- what is in use by what is ready
abbrev pub book_of : Option Ready → Option InUse
book_of ready = option_map (λ (r : Ready). in_use_of r.book) ready

none_is_no_some : IsSome {T = InUse} None → ⊥
none_is_no_some e = cc

module _ (t : Topology) (wish : Wish) (w : ℕ) (records : List Record) where
  -- something is ready exactly where a codebook is in use
  abbrev pub KeepsReady : Option Ready → List Record → Type 0
  KeepsReady ready rs = IsSome (book_of ready) ↔ HasBook t w rs

  diagnosed : (n : Numbered) → IsNow t records (topology_of n) → (ready : Option Ready) → KeepsReady ready records
      → (closing : List Closed) (reported : Reported) → ReportsWindows n wish ready closing reported → Diagnoses t (wanted wish) w records closing reported.events
  diagnosed n now ready keeps [] reported tells = tells.0
  diagnosed n now (Some ready) keeps (c ∷ closing) reported tells = record {
    network = topology_of n;
    is_network = now;
    basis = tells.0.basis;
    opening = [];
    is_opening = inl (keeps.0 refl, refl);
    diagnoses = reported.events;
    each = tells.0.each;
    events_are = refl;
  }
  diagnosed n now None keeps (c ∷ closing) reported tells = record {
    network = topology_of n;
    is_network = now;
    basis = tells.3.basis;
    opening = tells.3.announced;
    is_opening = inr (λ has. none_is_no_some (keeps.1 has), tells.3.is_announced);
    diagnoses = tells.3.diagnoses;
    each = tells.3.each;
    events_are = tells.3.events_are;
  }

  -- what is reported is what results from the windows
  pub reported_comes : (next : List Record) (n : Numbered) → IsNow t records (topology_of n) → (ready : Option Ready) → KeepsReady ready records
      → (closing : List Closed) → AreClosing (records ++ next) w (length records) closing → (reported : Reported) → ReportsWindows n wish ready closing reported
      → ClosingGives t (wanted wish) w records next reported.events
  reported_comes next n now ready keeps closing closes reported tells = record {
    closing = closing;
    closes = closes;
    diagnoses = diagnosed n now ready keeps closing reported tells;
  }

  module _ (r : Record) where
    -- the record closes a window
    abbrev pub ClosesSome : Type 0
    ClosesSome = (c : Closed) × ClosesAt (records ++ r ∷ []) w (length records) c

    -- after what is reported a codebook is ready exactly where one was in use, or the record closes a window
    ready_after : (n : Numbered) (ready : Option Ready) → KeepsReady ready records → (closing : List Closed)
        → AreClosing (records ++ r ∷ []) w (length records) closing → (reported : Reported) → ReportsWindows n wish ready closing reported
        → IsSome (book_of (kept_ready false ready reported.made)) ↔ (HasBook t w records ⊎ ClosesSome)
    ready_after n (Some ready) keeps [] closes reported tells = (
      λ e. inl (keeps.0 refl),
      λ e. rw tells.1,
    )
    ready_after n (Some ready) keeps (c ∷ closing) closes reported tells = (
      λ e. inl (keeps.0 refl),
      λ e. rw tells.1,
    )
    ready_after n None keeps [] closes reported tells = (
      λ e. absurd (none_is_no_some (rw tells.1 at e)),
      λ has. elim has [
        | inl had ↦ absurd (none_is_no_some (keeps.1 had))
        | inr some ↦ absurd (nothing_in_empty some.0 ((closes.each some.0).1 some.1))
      ],
    )
    ready_after n None keeps (c ∷ closing) closes reported tells = (
      λ e. inr (c, (closes.each c).0 (contains_head c closing)),
      λ has. rw tells.1,
    )

    -- what stays ready is so exactly where a codebook is in use after the record
    pub keeps_after : (n : Numbered) (ready : Option Ready) → KeepsReady ready records → (closing : List Closed)
        → AreClosing (records ++ r ∷ []) w (length records) closing → (reported : Reported) → ReportsWindows n wish ready closing reported → (changed : Bool)
        → (changed ≡ true → IsAcceptedAt t (records ++ r ∷ []) (length records))
        → (changed ≡ false → ¬ IsAcceptedAt t (records ++ r ∷ []) (length records))
        → KeepsReady (kept_ready changed ready reported.made) (records ++ r ∷ [])
    keeps_after n ready keeps closing closes reported tells true accepted refused = (
      λ e. absurd (none_is_no_some e),
      λ has. absurd (((book_steps t records r w).0 has).1 (accepted refl)),
    )
    keeps_after n ready keeps closing closes reported tells false accepted refused =
        let both = ready_after n ready keeps closing closes reported tells in
        let steps = book_steps t records r w in (
          λ e. steps.1 (both.0 e, refused refl),
          λ has. both.1 (steps.0 has).0,
        )

-- what stays ready is ready for the topology
pub ready_stays : (n new : Numbered) (wish : Wish) (ready : Option Ready) → IfSome ready (IsReady n (wanted wish)) → (closing : List Closed) (reported : Reported)
    → ReportsWindows n wish ready closing reported → (changed : Bool) → (changed ≡ false → new ≡ n)
    → IfSome (kept_ready changed ready reported.made) (IsReady new (wanted wish))
ready_stays n new wish ready is closing reported tells true same = tt
ready_stays n new wish ready is closing reported tells false same =
    subst (λ (u : Numbered). IfSome (kept_ready false ready reported.made) (IsReady u (wanted wish))) (sym (same refl)) (here ready is closing tells)
  where
    here : (ready : Option Ready) → IfSome ready (IsReady n (wanted wish)) → (closing : List Closed) → ReportsWindows n wish ready closing reported
        → IfSome (kept_ready false ready reported.made) (IsReady n (wanted wish))
    here (Some ready) is [] tells = rw tells.1 is
    here (Some ready) is (c ∷ closing) tells = rw tells.1 is
    here None is [] tells = rw tells.1 tt
    here None is (c ∷ closing) tells = rw tells.1 tells.2

-- by what is ready
pub tells_in_use : (n : Numbered) (wish : Wish) (ready : Option Ready) (there : Ready) → ready ≡ Some there → (closing : List Closed) → length closing ≢ 0
    → (events : List Event) → TellsInUse n (wanted wish) there closing events → ReportsWindows n wish ready closing (record { events = events; made = None })
tells_in_use n wish ready there is [] some events tells = absurd (some refl)
tells_in_use n wish None there is (c ∷ closing) some events tells = absurd (cc)
tells_in_use n wish (Some ready) there is (c ∷ closing) some events tells =
    let same : there ≡ ready = cc in
    (subst (λ (r : Ready). TellsInUse n (wanted wish) r (c ∷ closing) events) same tells, refl)

-- by a codebook that is made
pub tells_made : (n : Numbered) (wish : Wish) (ready : Option Ready) → ready ≡ None → (closing : List Closed) → length closing ≢ 0 → (made : Ready)
    → IsReady n (wanted wish) made → (events : List Event) → TellsMade n wish made closing events
    → ReportsWindows n wish ready closing (record { events = events; made = Some made })
tells_made n wish ready none [] some made is events tells = absurd (some refl)
tells_made n wish None none (c ∷ closing) some made is events tells = (made, refl, is, tells)
tells_made n wish (Some ready) none (c ∷ closing) some made is events tells = absurd (cc)
