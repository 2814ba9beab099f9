-- Mutes that are listed one after the other.
use Rattle.std.proofs.Common.{◌≡◌, ◌≢◌, ◌⊎◌, ◌++◌, ◌∷◌, [], ◌<◌, ◌+◌, ℕ, List, length, take, drop, slice_index_or, sym, ap, subst, ◌∙◌, inl, inr, arith}
use Rattle.std.specs.Global.{Global}
use Rattle.std.specs.declared.vec.Vec.{Vec}
use Rattle.std.specs.Prelude.{IfOk, Result, Ok, Err}
use Rattle.std.specs.List.{Contains}
use Rattle.std.proofs.lemmas.List.{take_more, take-append-drop}
use Rattle.std.proofs.lemmas.List.Quantifiers.{all_pairs_push}
use Rattle.std.proofs.lemmas.List.Elements.{Contains-append_left, Contains-push, Contains-get_or}
use Rattle.cb_model.specs.declared.id.ClassId.{ClassId}
use Rattle.cb_model.specs.declared.id.EventId.{EventId}
use Rattle.cb_model.specs.declared.node.NodeName.{NodeName}
use Rattle.cb_model.specs.Classes.{HasEvent, IsSymptomOf}
use Rattle.cb_model.specs.WellTyped.{WellTyped}
use Rattle.cb_model.proofs.Rising.{nothing_in_empty}
use Rattle.cb_network.specs.declared.edit.Edit.{Edit}
use Rattle.cb_network.specs.Topology.{HasClass, IsMuted}
use Rattle.cb_network.specs.Sound.{Sound}
use Rattle.cb_history.specs.Inverse.{MutesAgain}
use Rattle.cb_history.proofs.Parts.{one_class}
use Rattle.cb_instances.specs.declared.id.InstanceId.{InstanceId}
use Rattle.cb_instances.specs.Net.{Net, event_name, name_at, name_in_row, node_at, Once}
use Rattle.cb_instances.proofs.Muting.{event_reported}
use Rattle.cb_nodes.proofs.Listing.{not_before as not_in_prefix}
use Rattle.cb_inverse.specs.Listed.{AreMuteEdits, AreAllMuted, AddsMute}
use Rattle.cb_inverse.proofs.Linking.{zip_push, in_push}

pub none_muted : (n : Net) (id : InstanceId) → AreMuteEdits n.topology (name_at n id) [] []
none_muted n id = record {
  nodes = [];
  are = record {
    each = λ k c. absurd (nothing_in_empty k c);
    seen = λ k c. absurd (nothing_in_empty k c);
    all = λ e c. absurd (nothing_in_empty e c);
    once = λ i j d lt lt'. absurd (omega arith);
  };
  make = tt;
}

module _ (n : Net) (typed : WellTyped n.topology.model) (id : InstanceId) (c : ClassId) (events : List EventId)
    (own : (e : EventId) → Contains events e → HasEvent n.topology.model c e) (once : Once events)
    (k : ℕ) (d e : EventId) (low : k < length events) (is : slice_index_or events k d ≡ e)
    (edits : List Edit) (m : AreMuteEdits n.topology (name_at n id) (take k events) edits) where
  abbrev node : NodeName
  node = node_at n id e

  prefix : take (k + 1) events ≡ take k events ++ e ∷ []
  prefix = take_more events k d low ∙ ap (λ x. take k events ++ x ∷ []) is

  there : Contains events e
  there = subst (Contains events) is (Contains-get_or events k d low)

  in_prefix : (f : EventId) → Contains (take k events) f → Contains (take (k + 1) events) f
  in_prefix f c' = subst (λ es. Contains es f) (sym prefix) (Contains-append_left (take k events) (e ∷ []) f c')

  one_of : (f : EventId) → Contains (take (k + 1) events) f → Contains (take k events) f ⊎ (f ≡ e)
  one_of f c' = in_push (take k events) e f (subst (λ es. Contains es f) prefix c')

  -- a node of this event at the instance is the node
  is_node : (x : NodeName) (f : EventId) → f ≡ e → x.instance ≡ name_at n id → event_name n.topology.model f ≡ x.event → x ≡ node
  is_node x f same here named =
      let event : event_name n.topology.model e ≡ x.event = ap (event_name n.topology.model) (sym same) ∙ named in
      λ i. record { event = sym event i; instance = here i }

  whole : (f : EventId) → Contains (take k events) f → Contains events f
  whole f c' = subst (λ es. Contains es f) (take-append-drop k events) (Contains-append_left (take k events) (drop k events) f c')

  not_muted : ¬ IsMuted n.topology node → AreMuteEdits n.topology (name_at n id) (take (k + 1) events) edits
  not_muted heard = record {
    nodes = m.nodes;
    are = record {
      each = m.are.each;
      seen = λ x c'. let (f, in_f, named) = m.are.seen x c' in (f, in_prefix f in_f, named);
      all = λ f c' x muted here named. elim (one_of f c') [
        | inl old ↦ m.are.all f old x muted here named
        | inr same ↦ absurd (heard (subst (IsMuted n.topology) (is_node x f same here named) muted))
      ];
      once = m.are.once;
    };
    make = m.make;
  }

  not_listed : (j : ℕ) (d' : NodeName) → j < length m.nodes → slice_index_or m.nodes j d' ≢ node
  not_listed j d' lt same =
      let (f, in_f, named) = m.are.seen _ (Contains-get_or m.nodes j d' lt) in
      let one : f ≡ e = event_reported n.topology.model typed c f e (own f (whole f in_f)) (own e there) (named ∙ ap (λ (x : NodeName). x.event) same) in
      not_in_prefix events k d once low (subst (Contains (take k events)) (one ∙ sym is) in_f)

  more_muted : IsMuted n.topology node → (edit : Edit) → MutesAgain node edit → AreMuteEdits n.topology (name_at n id) (take (k + 1) events) (edits ++ edit ∷ [])
  more_muted muted edit mutes = record {
    nodes = m.nodes ++ node ∷ [];
    are = record {
      each = λ x c'. elim (in_push m.nodes node x c') [
        | inl old ↦ m.are.each x old
        | inr same ↦ (subst (IsMuted n.topology) (sym same) muted, ap (λ (y : NodeName). y.instance) same)
      ];
      seen = λ x c'. elim (in_push m.nodes node x c') [
        | inl old ↦ let (f, in_f, named) = m.are.seen x old in (f, in_prefix f in_f, named)
        | inr same ↦ (e, subst (λ es. Contains es e) (sym prefix) (Contains-push (take k events) e), ap (λ (y : NodeName). y.event) (sym same))
      ];
      all = λ f c' x muted' here named. elim (one_of f c') [
        | inl old ↦ Contains-append_left m.nodes (node ∷ []) x (m.are.all f old x muted' here named)
        | inr same ↦ subst (Contains (m.nodes ++ node ∷ [])) (sym (is_node x f same here named)) (Contains-push m.nodes node)
      ];
      once = all_pairs_push (λ a b. a ≢ b) m.nodes node m.are.once not_listed;
    };
    make = zip_push MutesAgain m.nodes edits node edit m.make mutes;
  }

  pub next_muted : (more : List Edit) → AddsMute n id e edits more → AreMuteEdits n.topology (name_at n id) (take (k + 1) events) more
  next_muted more (inl (muted, (edit, mutes, same))) = subst (AreMuteEdits n.topology (name_at n id) (take (k + 1) events)) (sym same) (more_muted muted edit mutes)
  next_muted more (inr (heard, same)) = subst (AreMuteEdits n.topology (name_at n id) (take (k + 1) events)) (sym same) (not_muted heard)

-- with all events of the class, all mutes are listed
pub all_muted : (n : Net) → Sound n.topology → (id : InstanceId) (c : ClassId) → HasClass n.topology (name_at n id) c → (events : List EventId)
    → ((e : EventId) → HasEvent n.topology.model c e → Contains events e) → (edits : List Edit) → AreMuteEdits n.topology (name_at n id) events edits
    → AreAllMuted n.topology (name_at n id) edits
all_muted n sound id c of_c events own edits m = record {
  nodes = m.nodes;
  are = record {
    each = m.are.each;
    all = λ x muted here.
        let s = sound.mutes x muted in
        let class : s.class ≡ c = one_class n.topology (name_at n id) s.class c (subst (λ y. HasClass n.topology y s.class) here s.of_class) of_c in
        let symptom : IsSymptomOf n.topology.model c s.event = subst (λ d. IsSymptomOf n.topology.model d s.event) class s.symptom in
        m.are.all s.event (own s.event symptom.has) x muted here (ap name_in_row s.symptom.has.is ∙ s.named);
    once = m.are.once;
  };
  make = m.make;
}

pub all_muted_if_ok : {E : Type 0} (n : Net) → Sound n.topology → (id : InstanceId) (c : ClassId) → HasClass n.topology (name_at n id) c → (events : List EventId)
    → ((e : EventId) → HasEvent n.topology.model c e → Contains events e) → (result : Result (Vec Edit Global) E)
    → IfOk result (λ edits. AreMuteEdits n.topology (name_at n id) events edits.items) → IfOk result (λ edits. AreAllMuted n.topology (name_at n id) edits.items)
all_muted_if_ok n sound id c of_c events own (Ok edits) m = all_muted n sound id c of_c events own edits.items m
all_muted_if_ok n sound id c of_c events own (Err e) m = tt
