-- Edges from the nodes of parents, by numbers and by names.
use Rattle.std.proofs.Common.{◌≡◌, ◌↔◌, ◌⊎◌, inl, inr, ℕ, ◌+◌, ◌-◌, ◌<◌, List, [], ◌∷◌, ◌++◌, Bool, true, false, length, get_or, replicate, refl, sym, ap, subst, ◌∙◌, Option, None, Some, arith}
use Rattle.std.specs.Prelude.{slice_get, slice_set}
use Rattle.std.specs.List.{Contains}
use Rattle.std.proofs.lemmas.Bool.{cases_lt}
use Rattle.std.proofs.lemmas.Option.{same_Some, slice_get_within, slice_get-get_or}
use Rattle.cb_model.proofs.Numbers.{contains_at, place_in, slice_get-push_before, slice_get-push_last}
use Rattle.cb_network.specs.Causes.{Edge}
use Rattle.cb_validity.specs.Spans.{StandsFor}
use Rattle.cb_validity.proofs.SpanLaws.{stands_for_one}
use Rattle.cb_nodes.specs.declared.id.NodeId.{NodeId}
use Rattle.cb_successors.specs.Rows.{Has}
use Rattle.cb_successors.proofs.Marks.{has_set, set_cases, nothing}
use Rattle.cb_breadth.specs.Lists.{AreBelow, IsAmong}
use Rattle.cb_breadth.proofs.Lists.{appended, has_still, only_item}
use Rattle.cb_topo.specs.Numbered.{Numbered, topology_of, IsNodeNamed}
use Rattle.cb_graph.specs.Edges.{EdgeAt, number}
use Rattle.cb_graph.proofs.Chains.{named_once}
use Rattle.cb_levels.specs.declared.levels.LevelEntry.{LevelEntry}
use Rattle.cb_levels.specs.declared.levels.Levels.{Levels}
use Rattle.cb_levels.specs.Checks.{LevelEntryIs, IsParentEarlier, HasEdgeFromParent}
use Rattle.cb_explain.specs.declared.listed.ListedNodes.{ListedNodes}
use Rattle.cb_explain.specs.Checking.{ListsNumber, HavePositions, AreListedNodes}
use Rattle.cb_explain.specs.Surveyed.{IsChildAmong, IsLedBefore}
use Rattle.cb_explain.proofs.Listing.{live_below, number_at}

-- the items of a list, by their positions

pub among_more : (xs : List ℕ) (x k : ℕ) → IsAmong xs k → IsAmong (xs ++ (x ∷ [])) k
among_more xs x k among = (among.0, slice_get-push_before xs among.0 x k among.1)

pub among_last : (xs : List ℕ) (x : ℕ) → IsAmong (xs ++ (x ∷ [])) x
among_last xs x = (length xs, slice_get-push_last xs (length xs) x refl)

pub among_cases : (xs : List ℕ) (x k : ℕ) → IsAmong (xs ++ (x ∷ [])) k → IsAmong xs k ⊎ (x ≡ k)
among_cases xs x k among = elim (appended xs x among.0 k among.1) [
  | inl before ↦ inl (among.0, before)
  | inr last ↦ inr last.1
]

pub contains_among : (xs : List ℕ) (k : ℕ) → Contains xs k ↔ IsAmong xs k
contains_among xs k = (λ in'. place_in xs k in', λ among. contains_at xs among.0 k among.1)

-- the edge that an entry states

module _ (n : Numbered) (levels : Levels) (listed : ListedNodes) (are : AreListedNodes n levels listed) (position : ℕ) (entry : LevelEntry)
    (at : slice_get levels.entries position ≡ Some entry) (from : NodeId) (from_at : slice_get listed.nodes.items (entry.parent - 1) ≡ Some from) (to : NodeId)
    (lists : ListsNumber n levels position to) where
  same_entry : lists.entry ≡ entry
  same_entry = same_Some lists.entry entry (sym lists.is.is ∙ at)

  names : StandsFor levels.nodes entry.node lists.node
  names = subst (λ (e : LevelEntry). StandsFor levels.nodes e.node lists.node) same_entry lists.is.names

  pub has_edge : EdgeAt n from.0 to.0 → LevelEntryIs levels position (HasEdgeFromParent (topology_of n) levels)
  has_edge led =
      let t = topology_of n in
      let p = are.each (entry.parent - 1) from from_at in
      let first : led.from ≡ p.node = named_once n from led.from p.node led.from_is p.named in
      let second : led.to ≡ lists.node = named_once n to led.to lists.node led.to_is lists.named in
      let edge : Edge t p.node lists.node = subst (λ x. Edge t x lists.node) first (subst (λ y. Edge t led.from y) second led.edge) in
      let has : HasEdgeFromParent t levels entry = record {
        from = p.entry;
        source = p.node;
        target = lists.node;
        from_is = p.is;
        to_is = names;
        edge = edge;
      } in
      (entry, at, has)

  pub edge_led : LevelEntryIs levels position (HasEdgeFromParent (topology_of n) levels) → EdgeAt n from.0 to.0
  edge_led is =
      let t = topology_of n in
      let same : is.0 ≡ entry = same_Some is.0 entry (sym is.1 ∙ at) in
      let has = subst (HasEdgeFromParent t levels) same is.2 in
      let low = slice_get_within listed.nodes.items (entry.parent - 1) from from_at in
      let p = number_at n levels listed are (entry.parent - 1) has.from has.source low has.from_is in
      let from_is : p.0 ≡ from = same_Some p.0 from (sym p.1 ∙ from_at) in
      let to_is : lists.node ≡ has.target = stands_for_one levels.nodes entry.node lists.node has.target names has.to_is in
      record {
        from = has.source;
        to = has.target;
        from_is = subst (λ (i : NodeId). IsNodeNamed n i has.source) from_is p.2;
        to_is = subst (IsNodeNamed n to) to_is lists.named;
        edge = has.edge;
      }

-- the same of a listed entry
module _ (n : Numbered) (levels : Levels) (listed : ListedNodes) (are : AreListedNodes n levels listed) where
  abbrev nodes : List NodeId
  nodes = listed.nodes.items

  pub edge_of_led : (bound position : ℕ) → IsLedBefore n levels nodes bound position → LevelEntryIs levels position (HasEdgeFromParent (topology_of n) levels)
  edge_of_led bound position led =
      let same : led.parent ≡ led.entry.parent - 1 = let e = led.parent_is in omega arith in
      has_edge n levels listed are position led.entry led.is led.from (subst (λ k. slice_get nodes k ≡ Some led.from) same led.from_is) led.to
      (are.each position led.to led.to_is) led.edge

  pub led_of_edge : (position : ℕ) (to : NodeId) → slice_get nodes position ≡ Some to → LevelEntryIs levels position (IsParentEarlier position)
      → LevelEntryIs levels position (HasEdgeFromParent (topology_of n) levels) → IsLedBefore n levels nodes (length nodes) position
  led_of_edge position to to_is parent edge =
      let entry = parent.0 in
      let some = parent.2.0 in
      let most = parent.2.1 in
      let here = slice_get_within nodes position to to_is in
      let low : entry.parent - 1 < length nodes = omega arith in
      let none : NodeId = record { 0 = 0 } in
      let from = get_or nodes (entry.parent - 1) none in
      record {
        entry = entry;
        parent = entry.parent - 1;
        from = from;
        to = to;
        is = parent.1;
        parent_is = omega arith;
        low = low;
        from_is = slice_get-get_or nodes (entry.parent - 1) none low;
        to_is = to_is;
        edge = edge_led n levels listed are position entry parent.1 from (slice_get-get_or nodes (entry.parent - 1) none low) to (are.each position to to_is) edge;
      }

-- entries that are marked

module _ (levels : Levels) (nodes : List NodeId) (parent : ℕ) where
  pub child_more : (xs : List ℕ) (x position : ℕ) → IsChildAmong levels nodes parent xs position → IsChildAmong levels nodes parent (xs ++ (x ∷ [])) position
  child_more xs x position child =
      record { entry = child.entry; id = child.id; is = child.is; parent_is = child.parent_is; id_is = child.id_is; among = among_more xs x child.id.0 child.among }

  pub child_last : (xs : List ℕ) (x position : ℕ) → IsChildAmong levels nodes parent (x ∷ []) position → IsChildAmong levels nodes parent (xs ++ (x ∷ [])) position
  child_last xs x position child =
      let same : x ≡ child.id.0 = (only_item x child.among.0 child.id.0 child.among.1).1 in
      record {
        entry = child.entry;
        id = child.id;
        is = child.is;
        parent_is = child.parent_is;
        id_is = child.id_is;
        among = subst (IsAmong (xs ++ (x ∷ []))) same (among_last xs x);
      }

  pub child_cases : (xs : List ℕ) (x position : ℕ) → IsChildAmong levels nodes parent (xs ++ (x ∷ [])) position
      → IsChildAmong levels nodes parent xs position ⊎ IsChildAmong levels nodes parent (x ∷ []) position
  child_cases xs x position child = elim (among_cases xs x child.id.0 child.among) [
    | inl before ↦ inl (record { entry = child.entry; id = child.id; is = child.is; parent_is = child.parent_is; id_is = child.id_is; among = before })
    | inr last ↦ inr (record {
      entry = child.entry;
      id = child.id;
      is = child.is;
      parent_is = child.parent_is;
      id_is = child.id_is;
      among = (0, ap Some last);
    })
  ]

  -- one successor more
  pub marked_more : (xs : List ℕ) (x : ℕ) (first old new : List Bool)
      → ((i : ℕ) → Has old i ↔ (Has first i ⊎ IsChildAmong levels nodes parent xs i))
      → ((i : ℕ) → Has new i ↔ (Has old i ⊎ IsChildAmong levels nodes parent (x ∷ []) i))
      → (i : ℕ) → Has new i ↔ (Has first i ⊎ IsChildAmong levels nodes parent (xs ++ (x ∷ [])) i)
  marked_more xs x first old new before now i = (
    λ has. elim ((now i).0 has) [
      | inl had ↦ elim ((before i).0 had) [ inl began ↦ inl began | inr child ↦ inr (child_more xs x i child) ]
      | inr child ↦ inr (child_last xs x i child)
    ],
    λ either. (now i).1 (elim either [
      | inl began ↦ inl ((before i).1 (inl began))
      | inr child ↦ elim (child_cases xs x i child) [ inl earlier ↦ inl ((before i).1 (inr earlier)) | inr last ↦ inr last ]
    ]),
  )

  module _ (positions : List (Option ℕ)) (table : HavePositions nodes positions) (node : ℕ) where
    -- nothing is marked for a node that isn't listed
    pub no_child : slice_get positions node ≡ Some None → (position : ℕ) → ¬ IsChildAmong levels nodes parent (node ∷ []) position
    no_child none position child =
        let same : node ≡ child.id.0 = (only_item node child.among.0 child.id.0 child.among.1).1 in
        let there = table.each position child.id child.id_is in
        let both : Some None ≡ Some (Some position) = sym none ∙ subst (λ k. slice_get positions k ≡ Some (Some position)) (sym same) there in
        cc

    module _ (here : ℕ) (at : slice_get positions node ≡ Some (Some here)) where
      child_here : (position : ℕ) → IsChildAmong levels nodes parent (node ∷ []) position → position ≡ here
      child_here position child =
          let same : node ≡ child.id.0 = (only_item node child.among.0 child.id.0 child.among.1).1 in
          let there = table.each position child.id child.id_is in
          let both : Some (Some position) ≡ Some (Some here) = sym (subst (λ k. slice_get positions k ≡ Some (Some position)) (sym same) there) ∙ at in
          same_Some position here (same_Some (Some position) (Some here) both)

      -- or for one with another parent
      pub other_parent : (entry : LevelEntry) → slice_get levels.entries here ≡ Some entry → (entry.parent ≡ parent + 1 → ⊥) → (position : ℕ)
          → ¬ IsChildAmong levels nodes parent (node ∷ []) position
      other_parent entry entry_is other position child =
          let same : position ≡ here = child_here position child in
          let one : entry ≡ child.entry = same_Some entry child.entry (sym entry_is ∙ subst (λ k. slice_get levels.entries k ≡ Some child.entry) same child.is) in
          other (ap (λ (e : LevelEntry). e.parent) one ∙ child.parent_is)

      pub child_marked : (entry : LevelEntry) → slice_get levels.entries here ≡ Some entry → entry.parent ≡ parent + 1 → (old : List Bool) → here < length old
          → (i : ℕ) → Has (slice_set old here true) i ↔ (Has old i ⊎ IsChildAmong levels nodes parent (node ∷ []) i)
      child_marked entry entry_is parent_is old low i = (
        λ has. elim (set_cases old here i has) [
          | inl same ↦ inr (subst (IsChildAmong levels nodes parent (node ∷ [])) (sym same) (record {
            entry = entry;
            id = number node;
            is = entry_is;
            parent_is = parent_is;
            id_is = table.only node here at;
            among = (0, refl);
          }))
          | inr had ↦ inl had
        ],
        λ either. elim either [
          | inl had ↦ has_still old here i low had
          | inr child ↦ subst (Has (slice_set old here true)) (sym (child_here i child)) (has_set old here low)
        ],
      )

-- one parent more

pub led_more : (n : Numbered) (levels : Levels) (nodes : List NodeId) (parent : ℕ) (from : NodeId) (successors : List ℕ) (old new : List Bool)
    → slice_get nodes parent ≡ Some from → ((k : ℕ) → Contains successors k ↔ EdgeAt n from.0 k)
    → ((i : ℕ) → Has old i ↔ IsLedBefore n levels nodes parent i) → ((i : ℕ) → Has new i ↔ (Has old i ⊎ IsChildAmong levels nodes parent successors i))
    → (i : ℕ) → Has new i ↔ IsLedBefore n levels nodes (parent + 1) i
led_more n levels nodes parent from successors old new at edges before now i = (
  λ has. elim ((now i).0 has) [
    | inl had ↦
        let led = (before i).0 had in
        record {
          entry = led.entry;
          parent = led.parent;
          from = led.from;
          to = led.to;
          is = led.is;
          parent_is = led.parent_is;
          low = let low = led.low in omega arith;
          from_is = led.from_is;
          to_is = led.to_is;
          edge = led.edge;
        }
    | inr child ↦ record {
      entry = child.entry;
      parent = parent;
      from = from;
      to = child.id;
      is = child.is;
      parent_is = child.parent_is;
      low = omega arith;
      from_is = at;
      to_is = child.id_is;
      edge = (edges child.id.0).0 ((contains_among successors child.id.0).1 child.among);
    }
  ],
  λ led. (now i).1 (elim (cases_lt led.parent parent) [
    | inl low ↦ inl ((before i).1 (record {
      entry = led.entry;
      parent = led.parent;
      from = led.from;
      to = led.to;
      is = led.is;
      parent_is = led.parent_is;
      low = low;
      from_is = led.from_is;
      to_is = led.to_is;
      edge = led.edge;
    }))
    | inr high ↦
        let low = led.low in
        let last : led.parent ≡ parent = omega arith in
        let one : led.from ≡ from = same_Some led.from from (sym led.from_is ∙ (ap (slice_get nodes) last ∙ at)) in
        let edge = subst (λ (x : NodeId). EdgeAt n x.0 led.to.0) one led.edge in
        inr (record {
          entry = led.entry;
          id = led.to;
          is = led.is;
          parent_is = led.parent_is ∙ ap (λ k. k + 1) last;
          id_is = led.to_is;
          among = (contains_among successors led.to.0).0 ((edges led.to.0).1 edge);
        })
  ]),
)

pub none_led : (n : Numbered) (levels : Levels) (nodes : List NodeId) (size i : ℕ) → Has (replicate size false) i ↔ IsLedBefore n levels nodes 0 i
none_led n levels nodes size i = (λ has. absurd (nothing size i has), λ led. absurd (let low = led.low in omega arith))

-- the parent of an entry is before it
pub parent_low : (levels : Levels) (position : ℕ) (entry : LevelEntry) → slice_get levels.entries position ≡ Some entry → LevelEntryIs levels position (IsParentEarlier position)
    → entry.parent - 1 < position
parent_low levels position entry at is =
    let same = ap (λ (e : LevelEntry). e.parent) (same_Some is.0 entry (sym is.1 ∙ at)) in
    let some = is.2.0 in
    let most = is.2.1 in
    omega arith

-- the ends of edges are below the capacity
pub ends_below : (n : Numbered) (from : ℕ) (successors : List ℕ) → ((k : ℕ) → Contains successors k ↔ EdgeAt n from k) → AreBelow (length n.nodes) successors
ends_below n from successors edges i k at =
    let edge = (edges k).0 (contains_at successors i k at) in
    live_below n (number k) (edge.to, edge.to_is)
