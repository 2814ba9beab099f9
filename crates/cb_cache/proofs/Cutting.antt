-- Rows are right once those that had a touched node are searched from again.
use Rattle.std.proofs.Common.{◌≡◌, ◌↔◌, ℕ, List, Bool, Option, Ok, length, sym, subst, inl, inr}
use Rattle.std.specs.List.{All, Contains}
use Rattle.std.specs.List.Sorted.{IsPermutation}
use Rattle.std.proofs.lemmas.List.Sorted.{IsPermutation-sym, Contains-permutation}
use Rattle.cb_model.specs.declared.id.ClassId.{ClassId}
use Rattle.cb_model.specs.declared.id.EventId.{EventId}
use Rattle.cb_model.specs.declared.node.NodeName.{NodeName}
use Rattle.cb_model.specs.declared.tables.Tables.{Tables}
use Rattle.cb_model.specs.Classes.{IsProblemOf}
use Rattle.cb_network.specs.declared.edit.Edit.{Edit}
use Rattle.cb_network.specs.declared.edit.Edit.TheVariants.{Create, Delete, Link, Unlink, Mute, Unmute}
use Rattle.cb_network.specs.Topology.{Topology, HasClass}
use Rattle.cb_network.specs.Causes.{Causes}
use Rattle.cb_network.specs.Edits.{IsAfter}
use Rattle.cb_network.specs.Nodes.{IsNodeOf, IsProblem}
use Rattle.cb_network.proofs.Sets.{got_remove}
use Rattle.cb_change.specs.Costs.{IsEditCost, IsTotal, CountsAtMost}
use Rattle.cb_change.specs.Touched.{CausesTouched, IsDirty}
use Rattle.cb_change.proofs.Kept.{caused_is_node}
use Rattle.cb_change.proofs.Steps.{AreNear, near}
use Rattle.cb_model.proofs.Rising.{name_cmp_total, name_cmp_exact}
use Rattle.cb_nodes.specs.declared.id.NodeId.{NodeId}
use Rattle.cb_pool.specs.declared.slot.Slot.{Slot}
use Rattle.cb_pool.specs.Pool.{Pool, slot_row}
use Rattle.cb_topo.specs.Applied.{IsNodeCapacityAfter}
use Rattle.cb_topo.specs.Numbered.{Numbered, topology_of, IsNodeNamed, IsLiveNode}
use Rattle.cb_graph.specs.Edges.{number}
use Rattle.cb_graph.proofs.Chains.{lead_to_caused, named_once}
use Rattle.cb_cache.specs.Cached.{IsReachedRow, AreRows}
use Rattle.cb_cache.specs.Extended.{HasTouched}
use Rattle.cb_cache.specs.Filled.{AddsRows, HaveNoSlots, CostAtMost}
use Rattle.cb_cache.specs.Kept.{OwnSlots, AreRight}
use Rattle.cb_cache.specs.Laws.{IsEdited}
use Rattle.cb_cache.specs.Numbers.{IsProblemNumber}
use Rattle.cb_cache.specs.Reached.{HasSlot}
use Rattle.cb_cache.specs.Stale.{TakesAway, FollowsEdit, TakesBack}
use Rattle.cb_cache.proofs.Edited.{row_clean, old_number}
use Rattle.cb_cache.proofs.Opened.{AreNumbersOf, node_of_problem, numbers_live, within_total}
use Rattle.cb_cache.proofs.Permuted.{once_permuted}
use Rattle.cb_cache.proofs.Slots.{one_slot}

-- nothing comes where links are taken away
module _ (t u : Topology) where
  pub was_node : (edit : Edit) → TakesAway edit → IsAfter t edit (Ok u) → (p : NodeName) → IsNodeOf u p → IsNodeOf t p
  was_node (Create name class) none after p node = absurd none
  was_node (Link a rel b) none after p node = absurd none
  was_node (Mute event name) none after p node = absurd none
  was_node (Unmute event name) none after p node = absurd none
  was_node (Delete name) _ (_, is) p node =
      let (event, at) = subst (λ (w : Topology). IsNodeOf w p) is node in
      (event, record { class = at.class; of_class = ((got_remove name_cmp_total name_cmp_exact t.instances name p.instance at.class).0 at.of_class).1; named = at.named })
  was_node (Unlink a rel b) _ (_, (r, s, pair, is)) p node =
      let (event, at) = subst (λ (w : Topology). IsNodeOf w p) is node in
      (event, record { class = at.class; of_class = at.of_class; named = at.named })

  pub was_problem : (edit : Edit) → TakesAway edit → IsAfter t edit (Ok u) → (p : NodeName) → IsProblem u p → IsProblem t p
  was_problem (Create name class) none after p x = absurd none
  was_problem (Link a rel b) none after p x = absurd none
  was_problem (Mute event name) none after p x = absurd none
  was_problem (Unmute event name) none after p x = absurd none
  was_problem (Delete name) _ (_, is) p y =
      let x = subst (λ (w : Topology). IsProblem w p) is y in
      record { class = x.class; of_class = ((got_remove name_cmp_total name_cmp_exact t.instances name p.instance x.class).0 x.of_class).1; event = x.event; problem = x.problem; named = x.named }
  was_problem (Unlink a rel b) _ (_, (r, s, pair, is)) p y =
      let x = subst (λ (w : Topology). IsProblem w p) is y in
      record { class = x.class; of_class = x.of_class; event = x.event; problem = x.problem; named = x.named }

  -- what such an edit costs
  pub cut_cost : (edit : Edit) → TakesAway edit → (steps new_steps : ℕ) → CountsAtMost (IsTotal (λ p. IsDirty t u p × IsProblem u p) (Causes u)) steps new_steps
      → CountsAtMost (IsEditCost t edit u) steps new_steps
  cut_cost (Create name class) none steps new_steps counts = absurd none
  cut_cost (Link a rel b) none steps new_steps counts = absurd none
  cut_cost (Mute event name) none steps new_steps counts = absurd none
  cut_cost (Unmute event name) none steps new_steps counts = absurd none
  cut_cost (Delete name) _ steps new_steps counts = counts
  cut_cost (Unlink a rel b) _ steps new_steps counts = counts

pub same_capacity : (n : Numbered) (edit : Edit) (capacity : ℕ) → TakesAway edit → IsNodeCapacityAfter n edit capacity → capacity ≡ length n.nodes
same_capacity n (Create name class) capacity none is = absurd none
same_capacity n (Link a rel b) capacity none is = absurd none
same_capacity n (Mute event name) capacity none is = absurd none
same_capacity n (Unmute event name) capacity none is = absurd none
same_capacity n (Delete name) capacity _ is = is
same_capacity n (Unlink a rel b) capacity _ is = is

-- a problem that stays a node stays a problem
pub still_problem : (t u : Topology) → AreNear t u → (p : NodeName) → IsProblem t p → IsNodeOf u p → IsProblem u p
still_problem t u near p x (event, at) =
    let class : x.class ≡ at.class = near.classes p.instance x.class at.class x.of_class at.of_class in
    let moved : (e : EventId) × (q : IsProblemOf u.model x.class e) × (q.has.row.name ≡ p.event) =
    subst (λ (m : Tables). (e : EventId) × (q : IsProblemOf m x.class e) × (q.has.row.name ≡ p.event)) near.model (x.event, x.problem, x.named) in
    record {
      class = x.class;
      of_class = subst (λ (c : ClassId). HasClass u p.instance c) (sym class) at.of_class;
      event = moved.0;
      problem = moved.1;
      named = moved.2;
    }

module _ (old : Numbered) (edit : Edit) (new : Numbered) (touched : List Bool) (slots : List (Option Slot)) (p : Pool) (follows : FollowsEdit old edit new touched slots p) where
  abbrev t : Topology
  t = topology_of old

  abbrev u : Topology
  u = topology_of new

  edited : IsEdited old edit new
  edited = follows.edited

  -- a row has a touched node exactly where its problem causes one
  pub touches : (i : ℕ) (slot : Slot) (name : NodeName) → HasSlot slots i slot → IsNodeNamed old (number i) name → HasTouched touched (slot_row p slot) ↔ CausesTouched t u name
  touches i slot name has named =
      let row = follows.right.rows i slot has in
      let reached : IsReachedRow old i (slot_row p slot) = subst (IsReachedRow old i) row.1.1 row.2 in (
        λ (k, mark, bit).
            let node = (follows.reported k).0 mark in
            (node.0, node.2, (lead_to_caused old edited.whole i k name node.0 named node.1).0 ((reached k).0 bit)),
        λ (node, is, causes).
            let at = edited.whole.named node (caused_is_node t name causes.0 node causes.1 (edited.whole.live (number i) name named)) in
            (at.0.0, (follows.reported at.0.0).1 (node, at.1, is), (reached at.0.0).1 ((lead_to_caused old edited.whole i at.0.0 name node named at.1).1 causes)),
      )

  module _ (takes_away : TakesAway edit) where
    -- a number that is still that of a node is that of the same one
    pub same_node : (i : ℕ) (name : NodeName) → IsNodeNamed old (number i) name → IsLiveNode new (number i) → IsNodeOf u name
    same_node i name named (later, is) =
        let stays = edited.whole_after.live (number i) later is in
        let before = was_node t u edit takes_away edited.applies.after later stays in
        subst (IsNodeOf u) (named_once old (number i) later name (old_number old new edit edited i later is before) named) stays

    module _ (kept_slots : List (Option Slot)) (mid : Pool) (ids : List NodeId) (takes : TakesBack new touched slots p kept_slots mid ids) where
      -- the problem of a number that is listed
      listed : (id : NodeId) → Contains ids id → (name : NodeName) × IsNodeNamed new id name × (IsDirty t u name × IsProblem u name)
      listed id has =
          let (slot, own, live, marked) = (takes.listed id).0 has in
          let (name, named, problem) = follows.right.only id.0 slot own in
          let stays = same_node id.0 name named live in (
            name,
            edited.applies.nodes id name named stays,
            (record { problem = problem; causes = (touches id.0 slot name own named).0 marked }, still_problem t u (near t u edit edited.applies.after) name problem stays),
          )

      pub numbers : AreNumbersOf new (λ name. IsDirty t u name × IsProblem u name) ids
      numbers id = (
        listed id,
        λ (name, named, (dirty, problem)).
            let before = old_number old new edit edited id.0 name named (node_of_problem t name dirty.problem) in
            let own = follows.right.all id.0 (name, before, dirty.problem) in
            (takes.listed id).1 (own.0, own.1, (name, named), (touches id.0 own.0 name own.1 before).1 dirty.causes),
      )

      pub none_listed : HaveNoSlots kept_slots ids
      none_listed id slot has own =
          let (other, there, live, marked) = (takes.listed id).0 has in
          let was = takes.clean id.0 slot own in
          was.1.1 (subst (λ (s : Slot). HasTouched touched (slot_row p s)) (one_slot slots id.0 other slot there was.0) marked)

      -- a clean row is the right one
      kept_problem : (i : ℕ) (slot : Slot) → HasSlot kept_slots i slot → IsProblemNumber new (number i)
      kept_problem i slot own =
          let was = takes.clean i slot own in
          let (name, named, problem) = follows.right.only i slot was.0 in
          let stays = same_node i name named was.1.0 in
          (name, edited.applies.nodes (number i) name named stays, still_problem t u (near t u edit edited.applies.after) name problem stays)

      pub kept_rows : AreRows new kept_slots mid
      kept_rows i slot own =
          let was = takes.clean i slot own in
          let (name, named, problem) = follows.right.only i slot was.0 in
          let stays = same_node i name named was.1.0 in
          let (words, has, reached) = follows.right.rows i slot was.0 in (
            words,
            takes.rows i slot own words has,
            row_clean old new edit edited i name named words stays (λ causes. was.1.1 ((touches i slot name was.0 named).1 causes)) reached,
          )

      pub kept_apart : OwnSlots kept_slots
      kept_apart i j slot own other = follows.right.apart i j slot (takes.clean i slot own).0 (takes.clean j slot other).0

      pub listed_live : All (IsLiveNode new) ids
      listed_live = numbers_live new edited.whole_after ids takes.once (λ name. IsDirty t u name × IsProblem u name) numbers (λ name x. node_of_problem u name x.1)

      pub right_again : (new_slots : List (Option Slot)) (after : Pool) → AddsRows new ids kept_slots new_slots mid after → AreRight new new_slots after
      right_again new_slots after adds = record {
        rows = adds.rows;
        only = λ i slot own. elim (adds.only i slot own) [
          | inl kept ↦ kept_problem i slot kept
          | inr among ↦ let found = listed (number i) among in (found.0, found.1, found.2.1)
        ];
        all = λ i (name, named, problem).
            let before = was_problem t u edit takes_away edited.applies.after name problem in
            let there = old_number old new edit edited i name named (node_of_problem t name before) in
            let own = follows.right.all i (name, there, before) in
            elim (takes.live i own.0 own.1 (name, named)) [
              | inl kept ↦ (own.0, adds.kept i own.0 kept)
              | inr among ↦ adds.all (number i) among
            ];
        apart = adds.apart;
        owned = λ slot taken. elim (adds.taken slot taken) [
          | inl before ↦
              let (was, stays) = takes.taken slot before in
              let (i, own) = follows.right.owned slot was in
              (i, adds.kept i slot (stays i own))
          | inr now ↦ now
        ];
      }

      pub within_cut : (steps new_steps : ℕ) → CostAtMost new ids steps new_steps → CountsAtMost (IsEditCost t edit u) steps new_steps
      within_cut steps new_steps most =
          cut_cost t u edit takes_away steps new_steps
          (within_total new edited.whole_after ids takes.once (λ name. IsDirty t u name × IsProblem u name) numbers (λ name x. node_of_problem u name x.1) steps new_steps most)

-- the list may stand in any order
pub takes_permuted : (n : Numbered) (touched : List Bool) (slots : List (Option Slot)) (p : Pool) (kept_slots : List (Option Slot)) (mid : Pool) (ids order : List NodeId) → IsPermutation ids order
    → TakesBack n touched slots p kept_slots mid ids → TakesBack n touched slots p kept_slots mid order
takes_permuted n touched slots p kept_slots mid ids order permuted takes = record {
  clean = takes.clean;
  rows = takes.rows;
  taken = takes.taken;
  live = λ i slot has lives. elim (takes.live i slot has lives) [
    | inl kept ↦ inl kept
    | inr among ↦ inr (Contains-permutation ids order (number i) permuted among)
  ];
  listed = λ id. (
    λ has. (takes.listed id).0 (Contains-permutation order ids id (IsPermutation-sym ids order permuted) has),
    λ stale. Contains-permutation ids order id permuted ((takes.listed id).1 stale),
  );
  once = once_permuted ids order permuted takes.once;
}
