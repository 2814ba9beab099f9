-- What stands for entries, with one more after them.
use Rattle.std.proofs.Common.{◌≡◌, ◌≢◌, ◌++◌, ℕ, List, [], ◌∷◌, length, Bool, true, false, Result, Ok, Err, refl, sym, ap, subst, ◌∙◌, append-nil}
use Rattle.std.proofs.Math.Seq.{take-append_seam}
use Rattle.cb_model.specs.declared.wish.Wish.{Wish}
use Rattle.cb_model.specs.declared.wish.Wish.TheVariants.{Plain}
use Rattle.cb_network.specs.declared.edit.Edit.{Edit}
use Rattle.cb_network.specs.declared.edit.EditRefusal.{EditRefusal}
use Rattle.cb_network.specs.Edits.{IsAfter, IsAccepted, Refuses}
use Rattle.cb_network.specs.Regular.{IsRegular}
use Rattle.cb_network.specs.Topology.{Topology}
use Rattle.cb_log.specs.declared.event.Event.{Event}
use Rattle.cb_log.specs.declared.record.Body.{Body}
use Rattle.cb_log.specs.declared.record.Body.TheVariants.{Raise, Clear, Change, Tick}
use Rattle.cb_log.specs.declared.record.Record.{Record}
use Rattle.cb_log.specs.Basis.{wanted}
use Rattle.cb_log.specs.Entries.{LogEntry, said, records_of}
use Rattle.cb_log.specs.Events.{BodyGives}
use Rattle.cb_log.specs.Network.{then_edits, IsNow, IsAcceptedAt}
use Rattle.cb_log.proofs.EventsOne.{network_is_one}
use Rattle.cb_log.proofs.Longer.{at_last, is_last}
use Rattle.cb_log.proofs.OneForEach.{records_of_both}
use Rattle.cb_log.proofs.OneMore.{now_edited, now_stays}
use Rattle.cb_session.specs.Acts.{Leaves, Acts}

-- the records after a said one, and after any other entry
pub records_said : (before : List LogEntry) (line : ℕ) (r : Record) → records_of (before ++ said line r ∷ []) ≡ records_of before ++ r ∷ []
records_said before line r = records_of_both before (said line r ∷ [])

pub records_stay : (before : List LogEntry) (entry : LogEntry) → records_of (entry ∷ []) ≡ [] → records_of (before ++ entry ∷ []) ≡ records_of before
records_stay before entry none =
    records_of_both before (entry ∷ []) ∙ (ap (λ (rs : List Record). records_of before ++ rs) none ∙ append-nil (records_of before))

module _ (t : Topology) (regular : IsRegular t.model) (records : List Record) (network : Topology) (now : IsNow t records network) (r : Record) where
  -- whether the topology changes by the record is whether the record is an accepted edit
  pub record IsChangedBy (new : Topology) (changed : Bool) : Type 0 where
    pub is_now : IsNow t (records ++ r ∷ []) new
    pub accepted : changed ≡ true → IsAcceptedAt t (records ++ r ∷ []) (length records)
    pub refused : changed ≡ false → ¬ IsAcceptedAt t (records ++ r ∷ []) (length records)
    pub same : changed ≡ false → new ≡ network

  -- an edit that is accepted as the record stands there is one of the topology before it
  accepted_here : IsAcceptedAt t (records ++ r ∷ []) (length records) → (edit : Edit) × (r.body ≡ Change edit) × IsAccepted network edit
  accepted_here a =
      let before : IsNow t records a.network = subst (λ (rs : List Record). IsNow t rs a.network) (take-append_seam records (r ∷ [])) a.is_now in
      let same : a.network ≡ network = network_is_one t regular (wanted (Plain 0)) records a.network network before now in (
        a.edit,
        is_last records r (λ s. s.body ≡ Change a.edit) a.says,
        subst (λ (u : Topology). IsAccepted u a.edit) same a.accepted,
      )

  -- a record that is no edit
  no_edit : then_edits r.body [] ≡ [] → ((edit : Edit) → r.body ≢ Change edit) → IsChangedBy network false
  no_edit none not_edit = record {
    is_now = now_stays t network records r now none;
    accepted = λ e. absurd (cc);
    refused = λ e a. let here = accepted_here a in not_edit here.0 here.1;
    same = λ e. refl;
  }

  edited : (edit : Edit) → r.body ≡ Change edit → (result : Result Topology EditRefusal) → IsAfter network edit result
      → (new : Topology) (changed : Bool) → Leaves network result new changed → IsChangedBy new changed
  edited edit is (Ok u) after new changed leaves = record {
    is_now = subst (IsNow t (records ++ r ∷ [])) (sym leaves.0) (now_edited t network records r edit (Ok u) now is after);
    accepted = λ e. record {
      edit = edit;
      says = at_last records r (λ s. s.body ≡ Change edit) is;
      network = network;
      is_now = subst (λ (rs : List Record). IsNow t rs network) (sym (take-append_seam records (r ∷ []))) now;
      accepted = after.0;
    };
    refused = λ e. let yes_changed = leaves.1 in absurd (cc);
    same = λ e. let yes_changed = leaves.1 in absurd (cc);
  }
  edited edit is (Err why) after new changed leaves = record {
    is_now = subst (IsNow t (records ++ r ∷ [])) (sym leaves.0) (now_edited t network records r edit (Err why) now is after);
    accepted = λ e. let not_changed = leaves.1 in absurd (cc);
    refused = λ e a.
        let here = accepted_here a in
        let same : edit ≡ here.0 = let says = here.1 in cc in
        here.2 why (subst (λ (x : Edit). Refuses network x why) same after.0);
    same = λ e. leaves.0;
  }

  aside : (body : Body) → r.body ≡ body → then_edits body [] ≡ [] → ((edit : Edit) → body ≢ Change edit) → (new : Topology) (changed : Bool)
      → new ≡ network → changed ≡ false → IsChangedBy new changed
  aside body is none not_edit new changed stays not_changed =
      let from = no_edit (subst (λ (b : Body). then_edits b [] ≡ []) (sym is) none) (λ edit e. not_edit edit (sym is ∙ e)) in
      subst (λ (u : Topology). IsChangedBy u changed) (sym stays) (subst (IsChangedBy network) (sym not_changed) from)

  -- whatever the body is
  pub changed_by : (body : Body) → r.body ≡ body → (line : ℕ) (new : Topology) (changed : Bool) (events : List Event)
      → Acts network line body new changed events → IsChangedBy new changed
  changed_by (Raise source node) is line new changed events acts = aside (Raise source node) is refl (λ edit e. absurd (cc)) new changed acts.0 acts.1
  changed_by (Clear source node) is line new changed events acts = aside (Clear source node) is refl (λ edit e. absurd (cc)) new changed acts.0 acts.1
  changed_by (Change edit) is line new changed events acts = edited edit is acts.0 acts.1 new changed acts.3
  changed_by Tick is line new changed events acts = aside Tick is refl (λ edit e. absurd (cc)) new changed acts.0 acts.1

  -- and what results from it is reported
  pub body_gives : (wish : Wish) (body : Body) (line : ℕ) (new : Topology) (changed : Bool) (events : List Event)
      → Acts network line body new changed events → BodyGives t (wanted wish) records line body events
  body_gives wish (Raise source node) line new changed events acts = acts.2
  body_gives wish (Clear source node) line new changed events acts = acts.2
  body_gives wish (Change edit) line new changed events acts = (network, now, acts.0, acts.1, acts.2)
  body_gives wish Tick line new changed events acts = acts.2
