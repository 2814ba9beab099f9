-- Each log has events.
use Rattle.std.proofs.Common.{◌++◌, ℕ, List, [], ◌∷◌, length, refl, subst, inl, inr, Result, Ok, Err}
use Rattle.std.specs.List.{AllZip, Contains}
use Rattle.cb_model.specs.NodeOrder.{node_cmp}
use Rattle.cb_model.specs.Order.{Rises}
use Rattle.cb_model.proofs.Rising.{contains_head, contains_tail}
use Rattle.cb_coding.specs.Groups.{codes_of}
use Rattle.cb_network.specs.declared.edit.Edit.{Edit}
use Rattle.cb_network.specs.declared.edit.EditRefusal.{EditRefusal}
use Rattle.cb_network.specs.Edits.{IsAfterAll, result_or}
use Rattle.cb_network.specs.Regular.{IsRegular}
use Rattle.cb_network.specs.Topology.{Topology}
use Rattle.cb_network.proofs.Accepted.{regular_stays}
use Rattle.cb_log.specs.declared.closed.Closed.{Closed}
use Rattle.cb_log.specs.declared.event.Event.{Event}
use Rattle.cb_log.specs.declared.event.Event.TheVariants.{Skipped, Refused, Diagnosis}
use Rattle.cb_log.specs.declared.event.RefusedWhy.TheVariants.{Edit as EditWhy, Fixed}
use Rattle.cb_log.specs.declared.record.Body.{Body}
use Rattle.cb_log.specs.declared.record.Body.TheVariants.{Raise, Clear, Change, Tick}
use Rattle.cb_log.specs.declared.record.Record.{Record}
use Rattle.cb_log.specs.Basis.{Mode, wanted, fixed, Basis, IsDiagnosis}
use Rattle.cb_log.specs.Entries.{LogEntry, said, skipped, blank, records_of}
use Rattle.cb_log.specs.Events.{IsNetwork, IsOpening, Diagnoses, ClosingGives, IsRefusal, BodyGives, EntryGives, EndGives, EntriesGive}
use Rattle.cb_log.specs.Network.{edits_of, IsNow}
use Rattle.cb_log.proofs.Announcing.{announced}
use Rattle.cb_existence.proofs.Answering.{some_group, finding_exists}
use Rattle.cb_existence.proofs.BookKnown.{book_is_known}
use Rattle.cb_existence.proofs.Choices.{choice_in_use_exists}
use Rattle.cb_existence.proofs.Closings.{closing_exists}
use Rattle.cb_existence.proofs.Matrices.{matrix_exists}
use Rattle.cb_existence.proofs.Results.{result_exists, after_all_exists}

-- edits leave a model regular
regular_on : (t : Topology) (edits : List Edit) (u : Topology) → IsRegular t.model → IsAfterAll t edits u → IsRegular u.model
regular_on t [] u regular same = subst (λ (v : Topology). IsRegular v.model) same regular
regular_on t (edit ∷ edits) u regular (result, is, rest) =
    regular_on (result_or t result) edits u (regular_stays t edit result regular is) rest

pub basis_exists : (network : Topology) (mode : Mode) → IsRegular network.model → Basis network mode
basis_exists network (wanted wish) regular =
    let (columns, groups, matrix) = matrix_exists network regular in
    let (used, kept, choice) = choice_in_use_exists (length columns) (codes_of groups) wish in
    record { columns = columns; groups = groups; matrix = matrix; kept = kept; used = used; in_use = choice }
basis_exists network (fixed given met) regular =
    let (columns, groups, matrix) = matrix_exists network regular in
    record { columns = columns; groups = groups; matrix = matrix; kept = given; used = met; in_use = (refl, refl) }

-- the diagnoses of windows over a basis
module _ (network : Topology) (mode : Mode) (basis : Basis network mode) where
  pub diagnosis_exists : (c : Closed) → Rises node_cmp c.nodes → (event : Event) × IsDiagnosis basis c event
  diagnosis_exists c rise =
      let some = some_group (length basis.columns) basis.matrix.problems basis.groups basis.matrix.groups_are in
      let (finding, found) = finding_exists basis.columns basis.groups basis.kept c.nodes some rise basis.used in
      (Diagnosis c.from c.opened c.closed finding, record { finding = finding; found = found; is = refl })

  diagnoses_over : (closing : List Closed) → ((c : Closed) → Contains closing c → Rises node_cmp c.nodes)
      → (events : List Event) × AllZip (IsDiagnosis basis) closing events
  diagnoses_over [] rise = ([], tt)
  diagnoses_over (c ∷ closing) rise =
      let first = diagnosis_exists c (rise c (contains_head c closing)) in
      let rest = diagnoses_over closing (λ d has. rise d (contains_tail c closing d has)) in
      (first.0 ∷ rest.0, (first.1, rest.1))

module _ (t : Topology) (regular : IsRegular t.model) where
  pub now_exists : (records : List Record) → (network : Topology) × IsNow t records network
  now_exists records = after_all_exists t (edits_of records) regular

  -- the topology that windows are diagnosed by, and that its model is regular
  network_exists : (mode : Mode) (records : List Record) → (network : Topology) × (IsNetwork t mode records network × IsRegular network.model)
  network_exists (wanted wish) records =
      let (network, now) = now_exists records in
      (network, (now, regular_on t (edits_of records) network regular now))
  network_exists (fixed given met) records = (t, (refl, regular))

  opened_by : (mode : Mode) (w : ℕ) (records : List Record) (network : Topology) → IsNetwork t mode records network → (basis : Basis network mode)
      → (events : List Event) × IsOpening t mode w records basis events
  opened_by (wanted wish) w records network is basis = elim (book_is_known t regular w network records is) [
    | inl has ↦ ([], inl (has, refl))
    | inr none ↦ let reported = announced network (wanted wish) basis wish in (reported.0, inr (none, reported.1))
  ]
  opened_by (fixed given met) w records network is basis = ([], refl)

  diagnoses_for : (mode : Mode) (w : ℕ) (records : List Record) (closing : List Closed) → ((c : Closed) → Contains closing c → Rises node_cmp c.nodes)
      → (events : List Event) × Diagnoses t mode w records closing events
  diagnoses_for mode w records [] rise = ([], refl)
  diagnoses_for mode w records (c ∷ closing) rise =
      let (network, (is, network_regular)) = network_exists mode records in
      let basis = basis_exists network mode network_regular in
      let opening = opened_by mode w records network is basis in
      let diagnoses = diagnoses_over network mode basis (c ∷ closing) rise in (
        opening.0 ++ diagnoses.0,
        record {
          network = network;
          is_network = is;
          basis = basis;
          opening = opening.0;
          is_opening = opening.1;
          diagnoses = diagnoses.0;
          each = diagnoses.1;
          events_are = refl;
        },
      )

  closing_gives : (mode : Mode) (w : ℕ) (records next : List Record) → (events : List Event) × ClosingGives t mode w records next events
  closing_gives mode w records next =
      let (closing, closes) = closing_exists (records ++ next) w (length records) in
      let (events, diagnoses) = diagnoses_for mode w records closing (λ c has. ((closes.each c).0 has).nodes.rise) in
      (events, record { closing = closing; closes = closes; diagnoses = diagnoses })

  refusal_events : (line : ℕ) (result : Result Topology EditRefusal) → (events : List Event) × IsRefusal line result events
  refusal_events line (Ok network) = ([], refl)
  refusal_events line (Err why) = (Refused line (EditWhy why) ∷ [], refl)

  body_gives : (mode : Mode) (records : List Record) (line : ℕ) (body : Body) → (events : List Event) × BodyGives t mode records line body events
  body_gives (wanted wish) records line (Change edit) =
      let (network, now) = now_exists records in
      let (result, is) = result_exists network edit (regular_on t (edits_of records) network regular now) in
      let (events, tell) = refusal_events line result in
      (events, (network, now, result, is, tell))
  body_gives (wanted wish) records line (Raise source node) = ([], refl)
  body_gives (wanted wish) records line (Clear source node) = ([], refl)
  body_gives (wanted wish) records line Tick = ([], refl)
  body_gives (fixed given met) records line (Change edit) = (Refused line Fixed ∷ [], refl)
  body_gives (fixed given met) records line (Raise source node) = ([], refl)
  body_gives (fixed given met) records line (Clear source node) = ([], refl)
  body_gives (fixed given met) records line Tick = ([], refl)

  pub entry_gives : (mode : Mode) (w : ℕ) (records : List Record) (entry : LogEntry) → (events : List Event) × EntryGives t mode w records entry events
  entry_gives mode w records (said line r) =
      let (closings, closing) = closing_gives mode w records (r ∷ []) in
      let (refusals, body) = body_gives mode records line r.body in
      (closings ++ refusals, record { closings = closings; closing = closing; refusals = refusals; body = body; events_are = refl })
  entry_gives mode w records (skipped line why) = (Skipped line why ∷ [], refl)
  entry_gives mode w records blank = ([], refl)

  pub end_gives : (mode : Mode) (w : ℕ) (records : List Record) → (events : List Event) × EndGives t mode w records events
  end_gives mode w records = closing_gives mode w records []

  pub entries_give : (mode : Mode) (w : ℕ) (before entries : List LogEntry) → (events : List Event) × EntriesGive t mode w before entries events
  entries_give mode w before [] = ([], refl)
  entries_give mode w before (entry ∷ later) =
      let (first, here) = entry_gives mode w (records_of before) entry in
      let (rest, there) = entries_give mode w (before ++ entry ∷ []) later in
      (first ++ rest, (first, rest, here, there, refl))
