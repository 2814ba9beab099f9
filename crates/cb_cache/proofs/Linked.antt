-- What a link leaves the same, and what a row has once it is extended.
use Rattle.std.proofs.Common.{◌≡◌, ◌⊎◌, ◌↔◌, ℕ, ◌+◌, ◌<◌, ◌≤◌, List, [], Bool, true, false, Ok, Option, length, slice_index_or, refl, sym, ap, subst, inl, inr, arith}
use Rattle.std.proofs.lemmas.Bool.{cases_Bool, cases_lt}
use Rattle.std.proofs.lemmas.List.{get_or_past}
use Rattle.cb_lanes.specs.Words.{bit_of}
use Rattle.cb_model.specs.declared.node.NodeName.{NodeName}
use Rattle.cb_model.specs.Classes.{NamesEvent}
use Rattle.cb_model.proofs.Rising.{node_cmp_total, node_cmp_exact}
use Rattle.cb_network.specs.declared.edit.Edit.{Edit}
use Rattle.cb_network.specs.declared.edit.Edit.TheVariants.{Create, Delete, Link, Unlink, Mute, Unmute}
use Rattle.cb_network.specs.Causes.{Causes}
use Rattle.cb_network.specs.Topology.{Topology}
use Rattle.cb_network.specs.Edits.{IsAfter}
use Rattle.cb_network.specs.Nodes.{IsNodeOf, IsProblem, IsCount}
use Rattle.cb_network.proofs.Sets.{len_of_part}
use Rattle.cb_change.specs.Costs.{IsEditCost, IsTotal, IsNewlyCaused, IsTouchedBelow, CountsAtMost}
use Rattle.cb_change.specs.Laws.{OnlyAdds}
use Rattle.cb_change.specs.Touched.{IsDirty}
use Rattle.cb_change.proofs.Kept.{caused_is_node, chain_over}
use Rattle.cb_change.proofs.Steps.{Grows, grows}
use Rattle.cb_nodes.specs.declared.id.NodeId.{NodeId}
use Rattle.cb_pool.specs.declared.slot.Slot.{Slot}
use Rattle.cb_pool.specs.Pool.{Pool, slot_row}
use Rattle.cb_successors.specs.Rows.{Has, ones}
use Rattle.cb_successors.specs.Graphs.{LeadsTo}
use Rattle.cb_successors.proofs.Chains.{chains_joined}
use Rattle.cb_topo.specs.Numbered.{Numbered, topology_of, IsNodeNamed}
use Rattle.cb_graph.specs.Edges.{EdgeAt, number}
use Rattle.cb_graph.proofs.Chains.{lead_to_caused, named_once}
use Rattle.cb_cache.specs.Cached.{IsReachedRow}
use Rattle.cb_cache.specs.Extended.{IsAfterLink, IsLedByWords, IsExpanded, IsSettledBut, HasLed, HasTouched, MakesLink}
use Rattle.cb_cache.specs.Kept.{AreRight}
use Rattle.cb_cache.specs.Reached.{HasSlot}
use Rattle.cb_cache.proofs.Edited.{close, old_number, row_settled}
use Rattle.cb_cache.proofs.Opened.{node_of_problem}
use Rattle.cb_cache.proofs.Pooled.{as_taken}
use Rattle.cb_cache.proofs.Sizes.{led_named, led_low, row_where, set_of_row}
use Rattle.cb_cache.proofs.Visiting.{row_reached}

pub link_adds : (edit : Edit) → MakesLink edit → OnlyAdds edit
link_adds (Create name class) none = absurd none
link_adds (Delete name) none = absurd none
link_adds (Link a rel b) _ = tt
link_adds (Unlink a rel b) none = absurd none
link_adds (Mute event name) none = absurd none
link_adds (Unmute event name) none = absurd none

-- the same problems
same_problems : (t u : Topology) (edit : Edit) → MakesLink edit → IsAfter t edit (Ok u) → (p : NodeName) → IsProblem t p ↔ IsProblem u p
same_problems t u (Create name class) none after p = absurd none
same_problems t u (Delete name) none after p = absurd none
same_problems t u (Link a rel b) _ (accepted, (r, s, pair, is)) p = subst (λ (w : Topology). IsProblem t p ↔ IsProblem w p) (sym is) (
  λ x. record { class = x.class; of_class = x.of_class; event = x.event; problem = x.problem; named = x.named },
  λ x. record { class = x.class; of_class = x.of_class; event = x.event; problem = x.problem; named = x.named },
)
same_problems t u (Unlink a rel b) none after p = absurd none
same_problems t u (Mute event name) none after p = absurd none
same_problems t u (Unmute event name) none after p = absurd none

-- what such an edit costs
pub link_cost : (t u : Topology) (edit : Edit) → MakesLink edit → (steps new_steps : ℕ)
    → CountsAtMost (IsTotal (IsDirty t u) (λ p n. IsNewlyCaused t u p n ⊎ IsTouchedBelow t u p n)) steps new_steps → CountsAtMost (IsEditCost t edit u) steps new_steps
link_cost t u (Create name class) none steps new_steps counts = absurd none
link_cost t u (Delete name) none steps new_steps counts = absurd none
link_cost t u (Link a rel b) _ steps new_steps counts = counts
link_cost t u (Unlink a rel b) none steps new_steps counts = absurd none
link_cost t u (Mute event name) none steps new_steps counts = absurd none
link_cost t u (Unmute event name) none steps new_steps counts = absurd none

module _ (old new : Numbered) (edit : Edit) (touched : List Bool) (slots : List (Option Slot)) (p : Pool) (linked : IsAfterLink old edit new touched slots p) where
  abbrev t : Topology
  t = topology_of old

  abbrev u : Topology
  u = topology_of new

  adds : OnlyAdds edit
  adds = link_adds edit linked.link

  grown : Grows t u
  grown = grows t u edit linked.edited.applies.after adds

  stays_node : (s : NodeName) → IsNodeOf t s → IsNodeOf u s
  stays_node s (event, at) = (
    event,
    record {
      class = at.class;
      of_class = grown.instances s.instance at.class at.of_class;
      named = subst (λ m. NamesEvent m at.class s.event event) (close old new edit linked.edited).model at.named;
    },
  )

  -- a number keeps its name
  pub kept_number : (k : ℕ) (s : NodeName) → IsNodeNamed old (number k) s → IsNodeNamed new (number k) s
  kept_number k s is = linked.edited.applies.nodes (number k) s is (stays_node s (linked.edited.whole.live (number k) s is))

  caused_still : (q s : NodeName) → Causes t q s → Causes u q s
  caused_still q s causes = (causes.0, chain_over t u (close old new edit linked.edited) grown q causes.0 s causes.1)

  same : (q : NodeName) → IsProblem t q ↔ IsProblem u q
  same = same_problems t u edit linked.link linked.edited.applies.after

  module _ (i : ℕ) (slot : Slot) (has : HasSlot slots i slot) where
    -- whose row it is
    abbrev pub who : (q : NodeName) × IsNodeNamed old (number i) q × IsProblem t q
    who = linked.right.only i slot has

    abbrev pub who_later : (q : NodeName) × IsNodeNamed new (number i) q
    who_later = (who.0, kept_number i who.0 who.1)

    abbrev row : List ℕ
    row = slot_row p slot

    was_reached : IsReachedRow old i row
    was_reached =
        let was = linked.right.rows i slot has in
        row_reached (EdgeAt old) i p slot row (was.1.0, refl) was

    pub row_taken : slice_index_or p.taken slot.0 false ≡ true
    row_taken = (linked.right.rows i slot has).1.0

    pub settled_but : IsSettledBut (EdgeAt new) touched row
    settled_but k next bit untouched edge =
        row_settled old new edit linked.edited i who.0 who.1 adds row was_reached k next bit (λ is. untouched ((linked.marked k).1 is)) edge

    -- what the problem led to before, with its name
    led_before : (k : ℕ) → bit_of row k ≡ true → (s : NodeName) × IsNodeNamed old (number k) s × Causes t who.0 s
    led_before k bit =
        let leads = (was_reached k).0 bit in
        let s = led_named old linked.edited.whole i leads.0 k leads.1 who.0 who.1 in
        (s.0, s.1, (lead_to_caused old linked.edited.whole i k who.0 s.0 who.1 s.1).0 leads)

    -- what the row leads to is what the problem leads to
    pub led_now : (k : ℕ) → IsLedByWords (EdgeAt new) row k ↔ LeadsTo (EdgeAt new) i k
    led_now k = (
      λ (from, bit, leads).
          let (s, named, causes) = led_before from bit in
          let first = (lead_to_caused new linked.edited.whole_after i from who.0 s who_later.1 (kept_number from s named)).1 (caused_still who.0 s causes) in
          chains_joined (EdgeAt new) i first.0 from k first.1 leads,
      λ leads. (i, (was_reached i).1 ([], refl), leads),
    )

    -- what causes no bit before isn't caused before
    not_before : (k : ℕ) (x : NodeName) → IsNodeNamed new (number k) x → ¬ (bit_of row k ≡ true) → ¬ Causes t who.0 x
    not_before k x named off causes =
        let node = caused_is_node t who.0 causes.0 x causes.1 (linked.edited.whole.live (number i) who.0 who.1) in
        off ((was_reached k).1 ((lead_to_caused old linked.edited.whole i k who.0 x who.1 (old_number old new edit linked.edited k x named node)).1 causes))

    -- a node that is expanded, by its name
    pub expanded_named : (k : ℕ) → IsExpanded (EdgeAt new) touched row k → (x : NodeName) × IsNodeNamed new (number k) x × (IsNewlyCaused t u who.0 x ⊎ IsTouchedBelow t u who.0 x)
    expanded_named k (inl (is, bit)) =
        let (x, named, touch) = (linked.marked k).0 is in
        let (s, its, causes) = led_before k bit in
        (x, kept_number k x named, inr (touch, subst (Causes t who.0) (named_once old (number k) s x its named) causes))
    expanded_named k (inr (led, off)) =
        let leads = (led_now k).0 led in
        let (x, named) = led_named new linked.edited.whole_after i leads.0 k leads.1 who.0 who_later.1 in
        (x, named, inl ((lead_to_caused new linked.edited.whole_after i k who.0 x who_later.1 named).0 leads, not_before k x named off))

    -- a problem whose row has a touched node is dirty
    pub is_dirty : HasTouched touched row → IsDirty t u who.0
    is_dirty (k, is, bit) =
        let (x, named, touch) = (linked.marked k).0 is in
        let (s, its, causes) = led_before k bit in
        record { problem = who.2; causes = (x, touch, subst (Causes t who.0) (named_once old (number k) s x its named) causes) }

    -- a row of nodes that are expanded has no more than are touched below or newly caused
    pub expanded_few : (nodes : List Bool) (n : ℕ) → ((k : ℕ) → Has nodes k → IsExpanded (EdgeAt new) touched row k)
        → IsCount (λ x. IsNewlyCaused t u who.0 x ⊎ IsTouchedBelow t u who.0 x) n → ones nodes ≤ n
    expanded_few nodes n each count =
        let N : ℕ → NodeName → Type 0 = λ k name. IsNodeNamed new (number k) name in
        let here : (k : ℕ) → 0 + k ≡ k = λ k. omega arith in
        let made = set_of_row N
        (λ a b name x y. ap (λ (z : NodeId). z.0) (linked.edited.whole_after.one (number a) (number b) name x y))
        (λ a x y v w. named_once new (number a) x y v w)
        nodes 0 (λ k in_row. let (x, named, kind) = expanded_named k (each k in_row) in (x, subst (λ j. N j x) (sym (here k)) named)) in
        let less = len_of_part node_cmp_total node_cmp_exact made.0 count.nodes (λ x h.
        let (k, in_row, its) = (made.1 x).0 h in
        let (y, named, kind) = expanded_named k (each k in_row) in
        (count.members x).1 (subst (λ z. IsNewlyCaused t u who.0 z ⊎ IsTouchedBelow t u who.0 z) (named_once new (number k) y x named (subst (λ j. N j x) (here k) its)) kind)) in
        let few = made.2 in
        let all = count.len in
        omega arith

    -- a node that is newly caused, or touched and caused before, is expanded
    named_expanded : (x : NodeName) → (IsNewlyCaused t u who.0 x ⊎ IsTouchedBelow t u who.0 x) → (k : ℕ) × IsNodeNamed new (number k) x × IsExpanded (EdgeAt new) touched row k
    named_expanded x (inl (causes, fresh)) =
        let node = caused_is_node u who.0 causes.0 x causes.1 (linked.edited.whole_after.live (number i) who.0 who_later.1) in
        let at = linked.edited.whole_after.named x node in
        let leads = (lead_to_caused new linked.edited.whole_after i at.0.0 who.0 x who_later.1 at.1).1 causes in
        (at.0.0, at.1, inr ((led_now at.0.0).1 leads, λ bit. not_fresh at.0.0 at.1 bit fresh))
      where
        not_fresh : (k : ℕ) → IsNodeNamed new (number k) x → bit_of row k ≡ true → (¬ Causes t who.0 x) → ⊥
        not_fresh k named bit fresh =
            let (s, its, before) = led_before k bit in
            fresh (subst (Causes t who.0) (named_once new (number k) s x (kept_number k s its) named) before)
    named_expanded x (inr (touch, causes)) =
        let node = caused_is_node t who.0 causes.0 x causes.1 (linked.edited.whole.live (number i) who.0 who.1) in
        let at = linked.edited.whole.named x node in
        let marks = (linked.marked at.0.0).1 (x, at.1, touch) in
        let bit = (was_reached at.0.0).1 ((lead_to_caused old linked.edited.whole i at.0.0 who.0 x who.1 at.1).1 causes) in
        (at.0.0, kept_number at.0.0 x at.1, inl (marks, bit))

    expanded_low : (k : ℕ) → IsExpanded (EdgeAt new) touched row k → k < length new.nodes
    expanded_low k (inl (has, bit)) = elim (cases_lt k (length touched)) [
      | inl lt ↦ let e = linked.capacity in omega arith
      | inr le ↦ absurd (let e = get_or_past touched k false le in cc)
    ]
    expanded_low k (inr (led, off)) = led_low new linked.edited.whole_after i who.0 who_later.1 k ((led_now k).0 led)

    -- the rows before and after tell which nodes are expanded, and so how many
    module _ (after : List ℕ) (is : (k : ℕ) → (bit_of after k ≡ true) ↔ IsLedByWords (EdgeAt new) row k) where
      decide : (k : ℕ) → IsExpanded (EdgeAt new) touched row k ⊎ (¬ IsExpanded (EdgeAt new) touched row k)
      decide k = elim (cases_Bool (bit_of row k)) [
        | inl on ↦ elim (cases_Bool (slice_index_or touched k false)) [
          | inl marked ↦ inl (inl (marked, on))
          | inr clear ↦ inr (λ x. elim x [
            | inl here ↦ let has = here.0 in cc
            | inr other ↦ other.1 on
          ])
        ]
        | inr off ↦ elim (cases_Bool (bit_of after k)) [
          | inl led ↦ inl (inr ((is k).0 led, λ on. cc))
          | inr out ↦ inr (λ x. elim x [
            | inl here ↦ let on = here.1 in cc
            | inr other ↦ let led = (is k).1 other.0 in cc
          ])
        ]
      ]

      pub exactly_expanded : (size : ℕ) × IsCount (λ x. IsNewlyCaused t u who.0 x ⊎ IsTouchedBelow t u who.0 x) size
      exactly_expanded =
          let N : ℕ → NodeName → Type 0 = λ k name. IsNodeNamed new (number k) name in
          let here : (k : ℕ) → 0 + k ≡ k = λ k. omega arith in
          let nodes = row_where (IsExpanded (EdgeAt new) touched row) decide (length new.nodes) in
          let made = set_of_row N
          (λ a b name x y. ap (λ (z : NodeId). z.0) (linked.edited.whole_after.one (number a) (number b) name x y))
          (λ a x y v w. named_once new (number a) x y v w)
          nodes.0 0 (λ k in_row. let (x, named, kind) = expanded_named k ((nodes.1 k).0 in_row).1 in (x, subst (λ j. N j x) (sym (here k)) named)) in (
            ones nodes.0,
            record {
              nodes = made.0;
              members = λ x. (
                λ h.
                    let (k, in_row, its) = (made.1 x).0 h in
                    let (y, named, kind) = expanded_named k ((nodes.1 k).0 in_row).1 in
                    subst (λ z. IsNewlyCaused t u who.0 z ⊎ IsTouchedBelow t u who.0 z) (named_once new (number k) y x named (subst (λ j. N j x) (here k) its)) kind,
                λ kind.
                    let (k, named, expanded) = named_expanded x kind in
                    (made.1 x).1 (k, (nodes.1 k).1 (expanded_low k expanded, expanded), subst (λ j. N j x) (sym (here k)) named),
              );
              len = made.2;
            },
          )

  -- a dirty problem has a row, and a touched node is in it
  pub dirty_row : (q : NodeName) → IsDirty t u q → (i : ℕ) × (slot : Slot) × IsNodeNamed new (number i) q × HasSlot slots i slot × HasTouched touched (slot_row p slot)
  dirty_row q dirty =
      let at = linked.edited.whole.named q (node_of_problem t q dirty.problem) in
      let own = linked.right.all at.0.0 (q, at.1, dirty.problem) in
      let (x, touch, causes) = dirty.causes in
      let there = linked.edited.whole.named x (caused_is_node t q causes.0 x causes.1 (linked.edited.whole.live at.0 q at.1)) in
      let marks = (linked.marked there.0.0).1 (x, there.1, touch) in
      let bit = (was_reached at.0.0 own.0 own.1 there.0.0).1 ((lead_to_caused old linked.edited.whole at.0.0 there.0.0 q x at.1 there.1).1 causes) in
      (at.0.0, own.0, kept_number at.0.0 q at.1, own.1, (there.0.0, marks, bit))

  -- rows that are extended are right
  pub right_later : (after : Pool) → after.taken ≡ p.taken → ((i : ℕ) (slot : Slot) → HasSlot slots i slot → HasLed (EdgeAt new) after slot (slot_row p slot)) → AreRight new slots after
  right_later after same_taken led = record {
    rows = λ i slot has.
        let (words, there, is) = led i slot has in
        (words, there, λ k. (λ bit. (led_now i slot has k).0 ((is k).0 bit), λ leads. (is k).1 ((led_now i slot has k).1 leads)));
    only = λ i slot has. let (q, named, problem) = who i slot has in (q, kept_number i q named, (same q).0 problem);
    all = λ i (q, named, problem).
        let was = (same q).1 problem in
        linked.right.all i (q, old_number old new edit linked.edited i q named (node_of_problem t q was), was);
    apart = linked.right.apart;
    owned = λ slot taken. linked.right.owned slot (as_taken p after slot same_taken taken);
  }
