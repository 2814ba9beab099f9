-- Rows before and after an edit.
use Rattle.std.proofs.Common.{◌≡◌, ℕ, List, true, subst}
use Rattle.cb_lanes.specs.Words.{bit_of}
use Rattle.cb_model.specs.declared.node.NodeName.{NodeName}
use Rattle.cb_network.specs.declared.edit.Edit.{Edit}
use Rattle.cb_model.specs.Classes.{NamesEvent}
use Rattle.cb_network.specs.Topology.{Topology}
use Rattle.cb_network.specs.Causes.{Edge}
use Rattle.cb_network.specs.Nodes.{IsNodeOf}
use Rattle.cb_change.specs.Touched.{CausesTouched}
use Rattle.cb_change.specs.Laws.{OnlyAdds}
use Rattle.cb_change.proofs.Kept.{caused_kept, caused_is_node, settled}
use Rattle.cb_change.proofs.Steps.{AreNear, near, grows}
use Rattle.cb_nodes.specs.declared.id.NodeId.{NodeId}
use Rattle.cb_topo.specs.Numbered.{Numbered, topology_of, IsNodeNamed}
use Rattle.cb_graph.specs.Edges.{EdgeAt, number}
use Rattle.cb_graph.proofs.Chains.{lead_to_caused, named_once}
use Rattle.cb_cache.specs.Cached.{IsReachedRow}
use Rattle.cb_cache.specs.Laws.{IsEdited}
use Rattle.cb_graph.specs.Touched.{IsTouchedNumber}
use Rattle.cb_cache.proofs.Sizes.{led_named}

module _ (old new : Numbered) (edit : Edit) (edited : IsEdited old edit new) where
  abbrev t : Topology
  t = topology_of old

  abbrev u : Topology
  u = topology_of new

  pub close : AreNear t u
  close = near t u edit edited.applies.after

  -- a node of both has one number
  pub old_number : (k : ℕ) (s : NodeName) → IsNodeNamed new (number k) s → IsNodeOf t s → IsNodeNamed old (number k) s
  old_number k s is node =
      let was = edited.whole.named s node in
      let kept = edited.applies.nodes was.0 s was.1 (edited.whole_after.live (number k) s is) in
      subst (λ (id : NodeId). IsNodeNamed old id s) (edited.whole_after.one was.0 (number k) s kept is) was.1

  module _ (i : ℕ) (p : NodeName) (named : IsNodeNamed old (number i) p) where
    here : IsNodeOf t p
    here = edited.whole.live (number i) p named

    pub row_clean : (words : List ℕ) → IsNodeOf u p → ¬ CausesTouched t u p → IsReachedRow old i words → IsReachedRow new i words
    row_clean words stays clean reached k =
        let still : IsNodeNamed new (number i) p = edited.applies.nodes (number i) p named stays in (
          λ bit.
              let leads = (reached k).0 bit in
              let s = led_named old edited.whole i leads.0 k leads.1 p named in
              let causes = (lead_to_caused old edited.whole i k p s.0 named s.1).0 leads in
              let later = (caused_kept t u close edited.sound edited.sound_after p s.0 (here, stays) clean).0 causes in
              let node = caused_is_node u p later.0 s.0 later.1 stays in
              (lead_to_caused new edited.whole_after i k p s.0 still (edited.applies.nodes (number k) s.0 s.1 node)).1 later,
          λ leads.
              let s = led_named new edited.whole_after i leads.0 k leads.1 p still in
              let causes = (lead_to_caused new edited.whole_after i k p s.0 still s.1).0 leads in
              let before = (caused_kept t u close edited.sound edited.sound_after p s.0 (here, stays) clean).1 causes in
              let node = caused_is_node t p before.0 s.0 before.1 here in
              (reached k).1 ((lead_to_caused old edited.whole i k p s.0 named (old_number k s.0 s.1 node)).1 before),
        )

    pub row_settled : OnlyAdds edit → (words : List ℕ) → IsReachedRow old i words → (k j : ℕ) → bit_of words k ≡ true → ¬ IsTouchedNumber old u k → EdgeAt new k j → bit_of words j ≡ true
    row_settled adds words reached k j bit untouched edge =
        let leads = (reached k).0 bit in
        let s = led_named old edited.whole i leads.0 k leads.1 p named in
        let causes = (lead_to_caused old edited.whole i k p s.0 named s.1).0 leads in
        let from : edge.from ≡ s.0 = named_once new (number k) edge.from s.0 edge.from_is (kept_number k s.0 s.1) in
        let first : Edge u s.0 edge.to = subst (λ x. Edge u x edge.to) from edge.edge in
        let grown = grows t u edit edited.applies.after adds in
        let before = settled t u close edited.sound edited.sound_after grown p s.0 edge.to here causes (λ touched. untouched (s.0, s.1, touched)) first in
        let node = caused_is_node t p before.0 edge.to before.1 here in
        (reached j).1 ((lead_to_caused old edited.whole i j p edge.to named (old_number j edge.to edge.to_is node)).1 before)
      where
        stays_node : (s : NodeName) → IsNodeOf t s → IsNodeOf u s
        stays_node s (event, at) = (
          event,
          record {
            class = at.class;
            of_class = (grows t u edit edited.applies.after adds).instances s.instance at.class at.of_class;
            named = subst (λ m. NamesEvent m at.class s.event event) close.model at.named;
          },
        )

        kept_number : (k : ℕ) (s : NodeName) → IsNodeNamed old (number k) s → IsNodeNamed new (number k) s
        kept_number k s is = edited.applies.nodes (number k) s is (stays_node s (edited.whole.live (number k) s is))
