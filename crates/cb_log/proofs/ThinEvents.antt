-- Each event of a log that says that two groups are too close names two that are.
use Rattle.std.proofs.Common.{◌≡◌, ◌++◌, ◌<◌, ℕ, List, [], ◌∷◌, length, take, refl, sym, ap, subst, ◌∙◌, inl, inr, arith, append_assoc, append-nil, true, false, Ok, Err, Result}
use Rattle.std.proofs.Math.Seq.{take-append_seam, take-length}
use Rattle.std.proofs.lemmas.List.Elements.{Contains-append_cases}
use Rattle.std.specs.List.{AllZip, Contains}
use Rattle.std.specs.Prelude.{Bool, IsTrue}
use Rattle.cb_model.specs.declared.node.NodeName.{NodeName}
use Rattle.cb_model.proofs.Rising.{contains_head, contains_cases, nothing_in_empty}
use Rattle.cb_model.specs.declared.wish.Wish.{Wish}
use Rattle.cb_model.specs.declared.wish.Wish.TheVariants.{Plain, Cap}
use Rattle.cb_coding.specs.declared.book.Pair.{Pair}
use Rattle.cb_coding.specs.declared.group.Group.{Group}
use Rattle.cb_coding.specs.Distance.{all_columns}
use Rattle.cb_coding.specs.Groups.{codes_of}
use Rattle.cb_coding.specs.Pairs.{IsFirstClose, Good}
use Rattle.cb_coding.proofs.GroupLaws.{one_is_good}
use Rattle.cb_finding.specs.Matrix.{IsMatrix}
use Rattle.cb_finding.proofs.Nearest.{coded_are_wide}
use Rattle.cb_network.specs.declared.edit.EditRefusal.{EditRefusal}
use Rattle.cb_network.specs.Topology.{Topology}
use Rattle.cb_log.specs.declared.closed.Closed.{Closed}
use Rattle.cb_log.specs.declared.event.Event.{Event}
use Rattle.cb_log.specs.declared.record.Body.{Body}
use Rattle.cb_log.specs.declared.record.Body.TheVariants.{Raise, Clear, Change, Tick}
use Rattle.cb_log.specs.declared.record.Record.{Record}
use Rattle.cb_log.specs.Basis.{Mode, wanted, fixed, Basis, IsDiagnosis, IsThin, IsMadeFor, AreWarnings, IsAnnounced}
use Rattle.cb_log.specs.Closing.{ClosesAt, AreClosing}
use Rattle.cb_log.specs.Entries.{LogEntry, said, skipped, blank, records_of}
use Rattle.cb_log.specs.Events.{IsNetwork, IsOpening, Diagnoses, IsRefusal, BodyGives, EntryGives, EntriesGive, EndGives}
use Rattle.cb_log.specs.Whole.{is_thin, TellsThin}
use Rattle.cb_log.proofs.Longer.{length_push}
use Rattle.cb_log.proofs.OneForEach.{records_of_both}
use Rattle.cb_log.proofs.Shapes.{closing_stays}

-- ---- two groups that are too close

-- where two are, not all are far enough apart
pub close_is_not_good : (columns : List ℕ) (codes : List (List Bool)) (d : ℕ) (pair : Pair) → IsFirstClose columns codes d pair → ¬ Good codes columns d
close_is_not_good columns codes d pair is good =
    let far = good pair.first pair.second is.is_pair in
    let e = is.distance in
    let close = is.close in
    omega arith

-- groups differ, so two that are too close are so for more than 1
pub close_wants_more : (t : Topology) (columns : List NodeName) (groups : List Group) (d : ℕ) (pair : Pair) → IsMatrix t columns groups
    → IsFirstClose (all_columns (length columns)) (codes_of groups) d pair → 1 < d
close_wants_more t columns groups d pair matrix is =
    let differ = one_is_good (length columns) matrix.problems groups (coded_are_wide t columns matrix.problems matrix.problems_are) matrix.groups_are
    pair.first pair.second is.is_pair in
    let e = is.distance in
    let close = is.close in
    omega arith

-- ---- events of other kinds

-- one event that isn't thin
one_is_none : (x e : Event) → Contains (x ∷ []) e → is_thin x ≡ false → ¬ IsTrue (is_thin e)
one_is_none x e has other thin = elim (contains_cases x [] e has) [
  | inl same ↦ let clash = sym other ∙ (ap is_thin same ∙ thin) in cc
  | inr later ↦ nothing_in_empty e later
]

no_event : (events : List Event) (e : Event) → events ≡ [] → ¬ Contains events e
no_event events e none has = nothing_in_empty e (subst (λ (es : List Event). Contains es e) none has)

one_event : (events : List Event) (x e : Event) → events ≡ x ∷ [] → is_thin x ≡ false → Contains events e → ¬ IsTrue (is_thin e)
one_event events x e is other has = one_is_none x e (subst (λ (es : List Event). Contains es e) is has) other

diagnoses_have_none : (network : Topology) (mode : Mode) (basis : Basis network mode) (closing : List Closed) (events : List Event) (e : Event)
    → AllZip (IsDiagnosis basis) closing events → Contains events e → ¬ IsTrue (is_thin e)
diagnoses_have_none network mode basis [] [] e each has thin = nothing_in_empty e has
diagnoses_have_none network mode basis [] (x ∷ events) e each has thin = each
diagnoses_have_none network mode basis (c ∷ closing) [] e each has thin = each
diagnoses_have_none network mode basis (c ∷ closing) (x ∷ events) e each has thin = elim (contains_cases x events e has) [
  | inl same ↦ let clash : false ≡ true = sym (ap is_thin each.0.is) ∙ (ap is_thin same ∙ thin) in cc
  | inr later ↦ diagnoses_have_none network mode basis closing events e each.1 later thin
]

refusal_has_none : (line : ℕ) (result : Result Topology EditRefusal) (events : List Event) (e : Event) → IsRefusal line result events → Contains events e
    → ¬ IsTrue (is_thin e)
refusal_has_none line (Ok network) events e p has thin = no_event events e p has
refusal_has_none line (Err why) events e p has thin = one_event events _ e p refl has thin

body_has_none : (t : Topology) (mode : Mode) (records : List Record) (line : ℕ) (body : Body) (events : List Event) (e : Event)
    → BodyGives t mode records line body events → Contains events e → ¬ IsTrue (is_thin e)
body_has_none t (wanted wish) records line (Raise source node) events e p has thin = no_event events e p has
body_has_none t (wanted wish) records line (Clear source node) events e p has thin = no_event events e p has
body_has_none t (wanted wish) records line Tick events e p has thin = no_event events e p has
body_has_none t (wanted wish) records line (Change edit) events e (network, now, result, after, refusal) has thin =
    refusal_has_none line result events e refusal has thin
body_has_none t (fixed given met) records line (Raise source node) events e p has thin = no_event events e p has
body_has_none t (fixed given met) records line (Clear source node) events e p has thin = no_event events e p has
body_has_none t (fixed given met) records line Tick events e p has thin = no_event events e p has
body_has_none t (fixed given met) records line (Change edit) events e p has thin = one_event events _ e p refl has thin

-- ---- what is reported before the first diagnosis

-- the event that tells of the codebook itself isn't thin
made_is_none : (network : Topology) (mode : Mode) (basis : Basis network mode) (wish : Wish) (made : Event) → IsMadeFor basis wish made → is_thin made ≡ false
made_is_none network mode basis (Plain d) made is = ap is_thin is
made_is_none network mode basis (Cap cap) made is = ap is_thin is.is

-- a thin event is a warning
warning_tells : (network : Topology) (mode : Mode) (basis : Basis network mode) (wish : Wish) (warnings : List Event) → AreWarnings basis wish warnings
    → (e : Event) → Contains warnings e → (d : ℕ) × (wish ≡ Plain d) × IsThin basis d e
warning_tells network mode basis (Plain d) warnings (inl p) e has = absurd (no_event warnings e p.1 has)
warning_tells network mode basis (Plain d) warnings (inr p) e has =
    elim (contains_cases p.0 [] e (subst (λ (es : List Event). Contains es e) p.2 has)) [
      | inl same ↦ (d, refl, subst (IsThin basis d) same p.1)
      | inr later ↦ absurd (nothing_in_empty e later)
    ]
warning_tells network mode basis (Cap cap) warnings p e has = absurd (no_event warnings e p has)

announced_tells : (network : Topology) (mode : Mode) (basis : Basis network mode) (wish : Wish) (events : List Event) → IsAnnounced basis wish events
    → (e : Event) → Contains events e → IsTrue (is_thin e) → (d : ℕ) × (wish ≡ Plain d) × IsThin basis d e
announced_tells network mode basis wish events is e has thin =
    elim (Contains-append_cases is.warnings (is.made ∷ []) e (subst (λ (es : List Event). Contains es e) is.events_are has)) [
      | inl early ↦ warning_tells network mode basis wish is.warnings is.are_warnings e early
      | inr late ↦ absurd (one_is_none is.made e late (made_is_none network mode basis basis.used is.made is.is_made) thin)
    ]

opening_tells : (t : Topology) (mode : Mode) (w : ℕ) (all records : List Record) (place : ℕ) (c : Closed) → ClosesAt all w place c
    → (network : Topology) → IsNetwork t mode (take place all) network → (basis : Basis network mode) (events : List Event)
    → IsOpening t mode w records basis events → (e : Event) → Contains events e → IsTrue (is_thin e) → TellsThin t mode w all e
opening_tells t (wanted wish) w all records place c closes network is_network basis events (inl p) e has thin = absurd (no_event events e p.1 has)
opening_tells t (wanted wish) w all records place c closes network is_network basis events (inr (no_book, p)) e has thin =
    let (d, wish_is, is) = announced_tells network (wanted wish) basis wish events p e has thin in
    record {
      place = place;
      closed = c;
      closes = closes;
      network = network;
      is_network = is_network;
      basis = basis;
      d = d;
      mode_is = ap wanted wish_is;
      is = is;
      not_good = close_is_not_good (all_columns (length basis.columns)) (codes_of basis.groups) d is.pair is.is_first;
      more_than_one = close_wants_more network basis.columns basis.groups d is.pair basis.matrix is.is_first;
    }
opening_tells t (fixed given met) w all records place c closes network is_network basis events p e has thin = absurd (no_event events e p has)

-- ---- a whole log

module _ (t : Topology) (mode : Mode) (w : ℕ) (all : List Record) (e : Event) (thin : IsTrue (is_thin e)) where
  -- among what is reported of the windows that close at a place
  in_closing : (records : List Record) (closing : List Closed) (events : List Event) → take (length records) all ≡ records
      → AreClosing all w (length records) closing → Diagnoses t mode w records closing events → Contains events e → TellsThin t mode w all e
  in_closing records [] events prefix closes none has = absurd (no_event events e none has)
  in_closing records (c ∷ closing) events prefix closes p has =
      let is_network : IsNetwork t mode (take (length records) all) p.network =
      subst (λ (rs : List Record). IsNetwork t mode rs p.network) (sym prefix) p.is_network in
      elim (Contains-append_cases p.opening p.diagnoses e (subst (λ (es : List Event). Contains es e) p.events_are has)) [
        | inl early ↦
            opening_tells t mode w all records (length records) c ((closes.each c).0 (contains_head c closing)) p.network is_network p.basis p.opening
            p.is_opening e early thin
        | inr late ↦ absurd (diagnoses_have_none p.network mode p.basis (c ∷ closing) p.diagnoses e p.each late thin)
      ]

  in_end : (events : List Event) → EndGives t mode w all events → Contains events e → TellsThin t mode w all e
  in_end events p has =
      let closes : AreClosing all w (length all) p.closing = subst (λ (rs : List Record). AreClosing rs w (length all) p.closing) (append-nil all) p.closes in
      in_closing all p.closing events (take-length all) closes p.diagnoses has

  -- among what results from an entry between others
  in_entry : (before : List LogEntry) (entry : LogEntry) (later : List LogEntry) (events : List Event) → all ≡ records_of (before ++ entry ∷ later)
      → EntryGives t mode w (records_of before) entry events → Contains events e → TellsThin t mode w all e
  in_entry before (skipped line why) later events whole is has = absurd (one_event events _ e is refl has thin)
  in_entry before blank later events whole is has = absurd (no_event events e is has)
  in_entry before (said line r) later events whole here has =
      let records : List Record = records_of before in
      let parts : all ≡ records ++ r ∷ records_of later = whole ∙ records_of_both before (said line r ∷ later) in
      let split : all ≡ (records ++ r ∷ []) ++ records_of later = parts ∙ sym (append_assoc records (r ∷ []) (records_of later)) in
      let prefix : take (length records) all ≡ records = ap (take (length records)) parts ∙ take-append_seam records (r ∷ records_of later) in
      let long = length_push records r in
      let closes : AreClosing all w (length records) here.closing.closing =
      subst (λ (rs : List Record). AreClosing rs w (length records) here.closing.closing) (sym split)
      (closing_stays (records ++ r ∷ []) (records_of later) w (length records) here.closing.closing (omega arith) here.closing.closes) in
      elim (Contains-append_cases here.closings here.refusals e (subst (λ (es : List Event). Contains es e) here.events_are has)) [
        | inl early ↦ in_closing records here.closing.closing here.closings prefix closes here.closing.diagnoses early
        | inr late ↦ absurd (body_has_none t mode records line r.body here.refusals e here.body late thin)
      ]

  in_entries : (before entries : List LogEntry) (events : List Event) → all ≡ records_of (before ++ entries) → EntriesGive t mode w before entries events
      → Contains events e → TellsThin t mode w all e
  in_entries before [] events whole none has = absurd (no_event events e none has)
  in_entries before (entry ∷ later) events whole (first, rest, here, there, is) has =
      elim (Contains-append_cases first rest e (subst (λ (es : List Event). Contains es e) is has)) [
        | inl early ↦ in_entry before entry later first whole here early
        | inr late ↦ in_entries (before ++ entry ∷ []) later rest (whole ∙ ap records_of (sym (append_assoc before (entry ∷ []) later))) there late
      ]

pub thins_are_close : (t : Topology) (mode : Mode) (w : ℕ) (entries : List LogEntry) (events ends : List Event)
    → EntriesGive t mode w [] entries events → EndGives t mode w (records_of entries) ends
    → (event : Event) → Contains (events ++ ends) event → IsTrue (is_thin event) → TellsThin t mode w (records_of entries) event
thins_are_close t mode w entries events ends gives ending event has thin =
    elim (Contains-append_cases events ends event has) [
      | inl early ↦ in_entries t mode w (records_of entries) event thin [] entries events refl gives early
      | inr late ↦ in_end t mode w (records_of entries) event thin ends ending late
    ]

pub thins_so_far_are_close : (t : Topology) (mode : Mode) (w : ℕ) (entries : List LogEntry) (events : List Event) → EntriesGive t mode w [] entries events
    → (event : Event) → Contains events event → IsTrue (is_thin event) → TellsThin t mode w (records_of entries) event
thins_so_far_are_close t mode w entries events gives event has thin = in_entries t mode w (records_of entries) event thin [] entries events refl gives has
