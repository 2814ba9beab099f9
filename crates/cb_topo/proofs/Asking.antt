-- What was found of a link or a mute, and what it makes.
use Rattle.std.proofs.Common.{◌≡◌, ℕ, List, sym, ap, subst, ◌∙◌}
use Rattle.std.proofs.lemmas.Option.{slice_get_within}
use Rattle.cb_model.specs.declared.id.EventId.{EventId}
use Rattle.cb_model.specs.declared.id.RelId.{RelId}
use Rattle.cb_model.specs.WellTyped.{IsRelation}
use Rattle.cb_network.specs.declared.edit.Edit.TheVariants.{Link, Unlink, Mute, Unmute}
use Rattle.cb_network.specs.Topology.{Topology, HasLink, IsMuted}
use Rattle.cb_network.specs.Edits.{NamesPair, HasNamedLink, with_link, without_link, with_mute, without_mute, node_name_of as name_of}
use Rattle.cb_instances.specs.declared.id.InstanceId.{InstanceId}
use Rattle.cb_instances.specs.Net.{Net, LinkAt, IsMutedAt, name_at, node_at, inverse_in, inverse_of, linked, unlinked, muted, unmuted}
use Rattle.cb_accept.specs.Refusals.{AreEnds, NamesSymptom}
use Rattle.cb_topo.specs.Made.{RewiresNet}
use Rattle.cb_topo.proofs.Named.{one_name, name_is}

module _ (n : Net) (a rel b : List ℕ) (i : InstanceId) (r : RelId) (j : InstanceId)
    (are : AreEnds n a rel b (record { from = i; rel = r; to = j })) where
  abbrev back : RelId
  back = inverse_of n.topology.model r

  pub is_relation : IsRelation n.topology.model r
  is_relation = slice_get_within n.topology.model.relations r.0 are.at_a.named.0.row are.at_a.named.0.is

  pair : NamesPair n.topology a rel r back
  pair = record { at_a = are.at_a; inverse = (are.at_a.named.0.row, are.at_a.named.0.is, sym (ap (inverse_in r) are.at_a.named.0.is)) }

  pub not_linked : ¬ HasNamedLink n.topology a rel b → ¬ LinkAt n i r j
  not_linked none l =
      let from = one_name n i l.from a l.from_is are.from in
      let to = one_name n j l.to b l.to_is are.to in
      none (r, are.at_a, subst (λ x. HasLink n.topology x r b) from (subst (λ y. HasLink n.topology l.from r y) to l.linked))

  pub link_rewires : (m : Net) → m ≡ linked n i r j → RewiresNet n (Link a rel b) m
  link_rewires m is =
      let u : Topology = with_link n.topology (name_at n i) r back (name_at n j) in
      record {
        links = u.links;
        mutes = n.topology.mutes;
        is = is;
        changes = (
          r,
          back,
          pair,
          ap (λ (k : Net). k.topology) is
              ∙ (ap (λ x. with_link n.topology x r back (name_at n j)) (name_is n i a are.from)
              ∙ ap (with_link n.topology a r back) (name_is n j b are.to)),
        );
      }

  pub unlink_rewires : (m : Net) → m ≡ unlinked n i r j → RewiresNet n (Unlink a rel b) m
  unlink_rewires m is =
      let u : Topology = without_link n.topology (name_at n i) r back (name_at n j) in
      record {
        links = u.links;
        mutes = n.topology.mutes;
        is = is;
        changes = (
          r,
          back,
          pair,
          ap (λ (k : Net). k.topology) is
              ∙ (ap (λ x. without_link n.topology x r back (name_at n j)) (name_is n i a are.from)
              ∙ ap (without_link n.topology a r back) (name_is n j b are.to)),
        );
      }

module _ (n : Net) (event name : List ℕ) (id : InstanceId) (e : EventId)
    (are : NamesSymptom n event name (record { id = id; event = e })) where
  pub not_muted : ¬ IsMuted n.topology (name_of event name) → ¬ IsMutedAt n id e
  not_muted none muted = none (subst (IsMuted n.topology) are.symptom.node muted)

  pub mute_rewires : (m : Net) → m ≡ muted n id e → RewiresNet n (Mute event name) m
  mute_rewires m is = record {
    links = n.topology.links;
    mutes = (with_mute n.topology (node_at n id e)).mutes;
    is = is;
    changes = ap (λ (k : Net). k.topology) is ∙ ap (with_mute n.topology) are.symptom.node;
  }

  pub unmute_rewires : (m : Net) → m ≡ unmuted n id e → RewiresNet n (Unmute event name) m
  unmute_rewires m is = record {
    links = n.topology.links;
    mutes = (without_mute n.topology (node_at n id e)).mutes;
    is = is;
    changes = ap (λ (k : Net). k.topology) is ∙ ap (without_mute n.topology) are.symptom.node;
  }
