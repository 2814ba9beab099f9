-- Rows stay right where a symptom is muted or unmuted.
use Rattle.std.proofs.Common.{◌≡◌, ◌↔◌, ℕ, List, Option, Result, Ok, Err, OnOk, length, refl, sym, ap, subst, ◌∙◌, arith}
use Rattle.cb_bits.specs.Bits.{words_for}
use Rattle.cb_model.specs.declared.node.NodeName.{NodeName}
use Rattle.cb_network.specs.declared.edit.Edit.{Edit}
use Rattle.cb_network.specs.declared.edit.Edit.TheVariants.{Create, Delete, Link, Unlink, Mute, Unmute}
use Rattle.cb_network.specs.Topology.{Topology}
use Rattle.cb_network.specs.Edits.{IsAfter}
use Rattle.cb_network.specs.Nodes.{IsProblem}
use Rattle.cb_change.specs.Costs.{IsEditCost, CountsAtMost}
use Rattle.cb_change.specs.Laws.{KeepsLinks}
use Rattle.cb_change.specs.Touched.{CausesTouched}
use Rattle.cb_change.proofs.Kept.{never_meets}
use Rattle.cb_change.proofs.Steps.{links_kept}
use Rattle.cb_pool.specs.declared.slot.Slot.{Slot}
use Rattle.cb_pool.specs.Pool.{Pool}
use Rattle.cb_topo.specs.Applied.{IsNodeCapacityAfter}
use Rattle.cb_topo.specs.Numbered.{Numbered, topology_of}
use Rattle.cb_graph.specs.Edges.{number}
use Rattle.cb_cache.specs.declared.rows.Store.{Store}
use Rattle.cb_cache.specs.Kept.{AreRight, IsCacheOf}
use Rattle.cb_cache.specs.Laws.{IsEdited}
use Rattle.cb_cache.specs.Marks.{ChangesMarks}
use Rattle.cb_cache.specs.Capacity.{HasCapacityFor, HasAgendaFor}
use Rattle.cb_cache.proofs.Edited.{row_clean, old_number}
use Rattle.cb_cache.proofs.Opened.{node_of_problem}

keeps_links : (edit : Edit) → ChangesMarks edit → KeepsLinks edit
keeps_links (Create name class) none = absurd none
keeps_links (Delete name) none = absurd none
keeps_links (Link a rel b) none = absurd none
keeps_links (Unlink a rel b) none = absurd none
keeps_links (Mute event name) _ = tt
keeps_links (Unmute event name) _ = tt

-- the same problems
same_problems : (t u : Topology) (edit : Edit) → ChangesMarks edit → IsAfter t edit (Ok u) → (p : NodeName) → IsProblem t p ↔ IsProblem u p
same_problems t u (Create name class) none after p = absurd none
same_problems t u (Delete name) none after p = absurd none
same_problems t u (Link a rel b) none after p = absurd none
same_problems t u (Unlink a rel b) none after p = absurd none
same_problems t u (Mute event name) _ (_, is) p = subst (λ (w : Topology). IsProblem t p ↔ IsProblem w p) (sym is) (
  λ x. record { class = x.class; of_class = x.of_class; event = x.event; problem = x.problem; named = x.named },
  λ x. record { class = x.class; of_class = x.of_class; event = x.event; problem = x.problem; named = x.named },
)
same_problems t u (Unmute event name) _ (_, is) p = subst (λ (w : Topology). IsProblem t p ↔ IsProblem w p) (sym is) (
  λ x. record { class = x.class; of_class = x.of_class; event = x.event; problem = x.problem; named = x.named },
  λ x. record { class = x.class; of_class = x.of_class; event = x.event; problem = x.problem; named = x.named },
)

-- such an edit costs nothing
marks_cost : (t u : Topology) (edit : Edit) → ChangesMarks edit → IsEditCost t edit u 0
marks_cost t u (Create name class) none = absurd none
marks_cost t u (Delete name) none = absurd none
marks_cost t u (Link a rel b) none = absurd none
marks_cost t u (Unlink a rel b) none = absurd none
marks_cost t u (Mute event name) _ = refl
marks_cost t u (Unmute event name) _ = refl

pub counts_none : {X Y : Type 0} (result : Result X Y) (t u : Topology) (edit : Edit) → ChangesMarks edit → (steps : ℕ) → OnOk result (CountsAtMost (IsEditCost t edit u) steps steps)
counts_none (Ok x) t u edit marks steps = record { cost = 0; is_cost = marks_cost t u edit marks; few = omega arith }
counts_none (Err y) t u edit marks steps = tt

same_capacity : (n : Numbered) (edit : Edit) (capacity : ℕ) → ChangesMarks edit → IsNodeCapacityAfter n edit capacity → capacity ≡ length n.nodes
same_capacity n (Create name class) capacity none is = absurd none
same_capacity n (Delete name) capacity none is = absurd none
same_capacity n (Link a rel b) capacity none is = absurd none
same_capacity n (Unlink a rel b) capacity none is = absurd none
same_capacity n (Mute event name) capacity _ is = is
same_capacity n (Unmute event name) capacity _ is = is

module _ (old new : Numbered) (edit : Edit) (edited : IsEdited old edit new) (marks : ChangesMarks edit) (slots : List (Option Slot)) (p : Pool) where
  clean : (name : NodeName) → ¬ CausesTouched (topology_of old) (topology_of new) name
  clean name (n, touched, _) =
      never_meets (topology_of old) (topology_of new) (links_kept (topology_of old) (topology_of new) edit edited.applies.after (keeps_links edit marks))
      touched.has.row.path n.instance touched.meets

  same : (name : NodeName) → IsProblem (topology_of old) name ↔ IsProblem (topology_of new) name
  same name = same_problems (topology_of old) (topology_of new) edit marks edited.applies.after name

  pub right_marked : AreRight old slots p → AreRight new slots p
  right_marked right = record {
    rows = λ i slot has.
        let row = right.rows i slot has in
        let who = right.only i slot has in
        (row.0, row.1, row_clean old new edit edited i who.0 who.1 row.0 (node_of_problem (topology_of new) who.0 ((same who.0).0 who.2)) (clean who.0) row.2);
    only = λ i slot has.
        let who = right.only i slot has in
        let later = (same who.0).0 who.2 in
        (who.0, edited.applies.nodes (number i) who.0 who.1 (node_of_problem (topology_of new) who.0 later), later);
    all = λ i (name, is, problem).
        let was = (same name).1 problem in
        right.all i (name, old_number old new edit edited i name is (node_of_problem (topology_of old) name was), was);
    apart = right.apart;
    owned = right.owned;
  }

module _ (old new : Numbered) (edit : Edit) (edited : IsEdited old edit new) (marks : ChangesMarks edit) (store : Store) where
  pub kept_marked : IsCacheOf old store → IsCacheOf new store
  kept_marked kept =
      let same = sym (same_capacity old edit (length new.nodes) marks edited.applies.node_capacity) in
      record {
        whole = edited.whole_after;
        right = right_marked old new edit edited marks store.rows.slots.items store.rows.pool kept.right;
        capacity = record {
          slots = kept.capacity.slots ∙ same;
          width = kept.capacity.width ∙ ap words_for same;
          scratch = subst (λ (capacity : ℕ). HasCapacityFor capacity store.rows.scratch) same kept.capacity.scratch;
        };
        agenda = subst (λ (capacity : ℕ). HasAgendaFor capacity store.agenda) same kept.agenda;
      }
