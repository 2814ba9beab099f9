-- Edits by numbers.
use Rattle.std.proofs.Common.{◌≡◌, ◌≢◌, ℕ, List, length, refl, sym, ap}
use Rattle.std.proofs.lemmas.Option.{slice_get_within}
use Rattle.cb_model.specs.declared.id.ClassId.{ClassId}
use Rattle.cb_model.specs.declared.id.EventId.{EventId}
use Rattle.cb_model.specs.declared.id.RelId.{RelId}
use Rattle.cb_model.specs.Classes.{NamesClass}
use Rattle.cb_model.specs.Views.{AreEventsOf}
use Rattle.cb_model.specs.WellTyped.{IsClass, IsRelation}
use Rattle.cb_network.specs.declared.edit.Edit.{Edit}
use Rattle.cb_network.specs.declared.edit.Edit.TheVariants.{Create, Delete, Link, Unlink, Mute, Unmute}
use Rattle.cb_network.specs.declared.edit.EditRefusal.TheVariants.{Linked, AlreadyMuted}
use Rattle.cb_network.specs.Edits.{IsAccepted}
use Rattle.cb_network.specs.Laws.{HasGoodName}
use Rattle.cb_instances.specs.declared.id.InstanceId.{InstanceId}
use Rattle.cb_instances.specs.Net.{Net, IsLiveInstance, LinkAt, HasEventAt, IsMutedAt, name_at, linked, unlinked, muted, unmuted}
use Rattle.cb_nodes.specs.Table.{Table, capacity_with}
use Rattle.cb_accept.specs.declared.counts.NodeCounts.{NodeCounts}
use Rattle.cb_accept.specs.declared.numbered.NumberedEdit.{NumberedEdit}
use Rattle.cb_accept.specs.declared.numbered.NumberedEdit.TheVariants as numbered
use Rattle.cb_accept.specs.NumberedEdits.{IsNumberedEdit}
use Rattle.cb_topo.specs.Applied.{IsNodeCapacityAfter}
use Rattle.cb_topo.specs.Kept.{IsTopologyOf}
use Rattle.cb_topo.specs.Made.{Makes}
use Rattle.cb_topo.specs.Numbered.{Numbered, topology_of}
use Rattle.cb_topo.proofs.Asking.{is_relation, not_linked, link_rewires, unlink_rewires, not_muted, mute_rewires, unmute_rewires}
use Rattle.cb_topo.proofs.Named.{name_is}
use Rattle.cb_topo.proofs.Rewiring.{rewires_makes}

-- a Create by numbers is that of an edit that creates, with the class of its name
pub numbered_create : (n : Net) (edit : Edit) (c : ClassId) → IsNumberedEdit n edit (numbered.Create c)
    → (name : List ℕ) × (class : List ℕ) × (edit ≡ Create name class) × NamesClass n.topology.model class c
numbered_create n (Create name class) c named = (name, class, refl, named)
numbered_create n edit c is = absurd is

-- that class is one of the model's
pub numbered_class : (n : Net) (edit : Edit) (c : ClassId) → IsNumberedEdit n edit (numbered.Create c) → IsClass n.topology.model c
numbered_class n edit c is =
    let (name, class, same, named) = numbered_create n edit c is in
    slice_get_within n.topology.model.classes c.0 named.0 named.1

-- how far numbers of nodes go once it is made
pub created_capacity : (n : Numbered) (edit : Edit) (c : ClassId) → IsNumberedEdit n.net edit (numbered.Create c) → (events : List EventId)
    → AreEventsOf (topology_of n).model c events → (capacity : ℕ) → capacity ≡ capacity_with n.nodes (length events) → IsNodeCapacityAfter n edit capacity
created_capacity n (Create name class) c named events are capacity is = (c, events, named, are, is)
created_capacity n edit c other events are capacity is = absurd other

-- and once any other edit is made
pub other_capacity : (n : Numbered) (edit : Edit) (other : NumberedEdit) → IsNumberedEdit n.net edit other → ((c : ClassId) → other ≢ numbered.Create c)
    → IsNodeCapacityAfter n edit (length n.nodes)
other_capacity n (Create name class) (numbered.Create c) is none = absurd (none c refl)
other_capacity n (Create name class) other is none = absurd is
other_capacity n edit other is none = refl

-- a Delete by numbers is that of the edit that deletes the instance by its name
pub numbered_delete : (n : Net) (edit : Edit) (id : InstanceId) → IsNumberedEdit n edit (numbered.Delete id) → IsLiveInstance n id × (edit ≡ Delete (name_at n id))
numbered_delete n (Delete name) id named = ((name, named), ap Delete (sym (name_is n id name named)))
numbered_delete n edit id is = absurd is

-- the ends of a link are there, and the relation
pub record IsLinkable (n : Net) (i : InstanceId) (r : RelId) (j : InstanceId) : Type 0 where
  pub from : IsLiveInstance n i
  pub to : IsLiveInstance n j
  pub rel : IsRelation n.topology.model r

module _ (n : Net) (i : InstanceId) (r : RelId) (j : InstanceId) where
  pub linkable : (edit : Edit) → IsNumberedEdit n edit (numbered.Link i r j) → IsLinkable n i r j
  linkable (Link a rel b) are = record { from = (a, are.from); to = (b, are.to); rel = is_relation n a rel b i r j are }
  linkable edit is = absurd is

  pub unlinkable : (edit : Edit) → IsNumberedEdit n edit (numbered.Unlink i r j) → IsLinkable n i r j
  unlinkable (Unlink a rel b) are = record { from = (a, are.from); to = (b, are.to); rel = is_relation n a rel b i r j are }
  unlinkable edit is = absurd is

  pub link_is_new : (edit : Edit) → IsNumberedEdit n edit (numbered.Link i r j) → IsAccepted n.topology edit → ¬ LinkAt n i r j
  link_is_new (Link a rel b) are accepted = not_linked n a rel b i r j are (accepted Linked)
  link_is_new edit is accepted = absurd is

  module _ (m : Net) (nodes : Table) (counts : NodeCounts) (kept : IsTopologyOf n nodes counts) where
    pub link_makes : (edit : Edit) → HasGoodName edit → IsAccepted n.topology edit → IsNumberedEdit n edit (numbered.Link i r j) → m ≡ linked n i r j → Makes n nodes edit m nodes counts
    link_makes (Link a rel b) good accepted are is =
        rewires_makes n m nodes counts (Link a rel b) kept good accepted refl refl (link_rewires n a rel b i r j are m is)
    link_makes edit good accepted other is = absurd other

    pub unlink_makes : (edit : Edit) → HasGoodName edit → IsAccepted n.topology edit → IsNumberedEdit n edit (numbered.Unlink i r j) → m ≡ unlinked n i r j → Makes n nodes edit m nodes counts
    unlink_makes (Unlink a rel b) good accepted are is =
        rewires_makes n m nodes counts (Unlink a rel b) kept good accepted refl refl (unlink_rewires n a rel b i r j are m is)
    unlink_makes edit good accepted other is = absurd other

module _ (n : Net) (id : InstanceId) (e : EventId) where
  pub mutable : (edit : Edit) → IsNumberedEdit n edit (numbered.Mute id e) → IsLiveInstance n id × HasEventAt n id e
  mutable (Mute event name) are = ((name, are.named), are.symptom.has)
  mutable edit is = absurd is

  pub unmutable : (edit : Edit) → IsNumberedEdit n edit (numbered.Unmute id e) → IsLiveInstance n id × HasEventAt n id e
  unmutable (Unmute event name) are = ((name, are.named), are.symptom.has)
  unmutable edit is = absurd is

  pub mute_is_new : (edit : Edit) → IsNumberedEdit n edit (numbered.Mute id e) → IsAccepted n.topology edit → ¬ IsMutedAt n id e
  mute_is_new (Mute event name) are accepted = not_muted n event name id e are (accepted AlreadyMuted)
  mute_is_new edit is accepted = absurd is

  module _ (m : Net) (nodes : Table) (counts : NodeCounts) (kept : IsTopologyOf n nodes counts) where
    pub mute_makes : (edit : Edit) → HasGoodName edit → IsAccepted n.topology edit → IsNumberedEdit n edit (numbered.Mute id e) → m ≡ muted n id e → Makes n nodes edit m nodes counts
    mute_makes (Mute event name) good accepted are is =
        rewires_makes n m nodes counts (Mute event name) kept good accepted refl refl (mute_rewires n event name id e are m is)
    mute_makes edit good accepted other is = absurd other

    pub unmute_makes : (edit : Edit) → HasGoodName edit → IsAccepted n.topology edit → IsNumberedEdit n edit (numbered.Unmute id e) → m ≡ unmuted n id e → Makes n nodes edit m nodes counts
    unmute_makes (Unmute event name) good accepted are is =
        rewires_makes n m nodes counts (Unmute event name) kept good accepted refl refl (unmute_rewires n event name id e are m is)
    unmute_makes edit good accepted other is = absurd other
