-- The nodes that entries list, by their numbers and by their names.
use Rattle.std.proofs.Common.{◌≡◌, ◌≢◌, ◌⊎◌, inl, inr, ℕ, ◌+◌, ◌-◌, ◌<◌, List, [], ◌∷◌, ◌++◌, length, get_or, replicate, sym, ap, subst, ◌∙◌, Option, None, Some, arith}
use Rattle.std.specs.Prelude.{slice_get, slice_set}
use Rattle.std.proofs.lemmas.Bool.{cases_eq, cases_lt}
use Rattle.std.proofs.lemmas.List.{get_or_past, length-append, length-set, length-replicate}
use Rattle.std.proofs.lemmas.Option.{same_Some, slice_get_within, slice_get-get_or}
use Rattle.cb_model.specs.declared.node.NodeName.{NodeName}
use Rattle.cb_model.proofs.Numbers.{slice_get-set_other, slice_get-set_same, slice_get-set_here, slice_get-replicate, slice_get-push_before, slice_get-push_last}
use Rattle.cb_validity.specs.Spans.{StandsFor}
use Rattle.cb_breadth.proofs.Lists.{appended}
use Rattle.cb_nodes.specs.declared.id.NodeId.{NodeId}
use Rattle.cb_topo.specs.Numbered.{Numbered, IsNodeNamed, IsLiveNode, IsWhole}
use Rattle.cb_graph.specs.Edges.{number}
use Rattle.cb_graph.proofs.Chains.{named_once}
use Rattle.cb_levels.specs.declared.levels.LevelEntry.{LevelEntry}
use Rattle.cb_levels.specs.declared.levels.Levels.{Levels}
use Rattle.cb_levels.specs.Listed.{IsEntryAt}
use Rattle.cb_levels.specs.Valid.{BeginsAtProblem}
use Rattle.cb_network.specs.Topology.{Topology}
use Rattle.cb_network.specs.Nodes.{IsNodeOf}
use Rattle.cb_levels.specs.Checks.{LevelEntryIs, IsParentEarlier, IsFirstListed, IsOneAbove}
use Rattle.cb_levels.proofs.Lists.{listed_one}
use Rattle.cb_explain.specs.declared.listed.ListedNodes.{ListedNodes}
use Rattle.cb_explain.specs.Checking.{AreGoodNodes, IsRootNumber, ListsNumber, HavePositions, AreListedNodes, HaveParents, IsRightNode}

-- the number of a node is below the capacity
pub live_below : (n : Numbered) (id : NodeId) → IsLiveNode n id → id.0 < length n.nodes
live_below n id live = elim (cases_lt id.0 (length n.nodes)) [
  | inl lt ↦ lt
  | inr past ↦ absurd (let none = get_or_past n.nodes id.0 None past in let some = live.1.is in cc)
]

pub lists_live : (n : Numbered) (levels : Levels) (position : ℕ) (id : NodeId) → ListsNumber n levels position id → IsLiveNode n id
lists_live n levels position id lists = (lists.node, lists.named)

-- positions

pub no_positions : (capacity : ℕ) → HavePositions [] (replicate capacity None)
no_positions capacity = record {
  each = λ position id at. absurd (cc);
  only = λ k position at. absurd (let e = slice_get-replicate capacity k None (Some position) at in cc);
}

module _ (nodes : List NodeId) (positions : List (Option ℕ)) (old : HavePositions nodes positions) where
  -- a node is listed, or it isn't
  pub listed_or_not : (k : ℕ) → k < length positions → ((position : ℕ) × (slice_get nodes position ≡ Some (number k))) ⊎ (slice_get positions k ≡ Some None)
  listed_or_not k low =
      let at = slice_get-get_or positions k None low in
      elim (get_or positions k None) as (λ p. slice_get positions k ≡ Some p → ((position : ℕ) × (slice_get nodes position ≡ Some (number k))) ⊎ (slice_get positions k ≡ Some None)) [
        | None ↦ λ is. inr is
        | Some position ↦ λ is. inl (position, old.only k position is)
      ] at

  -- what isn't listed stands at no position
  pub none_there : (k : ℕ) → slice_get positions k ≡ Some None → (position : ℕ) → slice_get nodes position ≢ Some (number k)
  none_there k is position at =
      let both : Some (Some position) ≡ Some None = sym (old.each position (number k) at) ∙ is in
      absurd (cc)

  pub one_position : (id : NodeId) (i j : ℕ) → slice_get nodes i ≡ Some id → slice_get nodes j ≡ Some id → i ≡ j
  one_position id i j at_i at_j =
      let both : Some (Some i) ≡ Some (Some j) = sym (old.each i id at_i) ∙ old.each j id at_j in
      same_Some i j (same_Some (Some i) (Some j) both)

  pub position_more : (id : NodeId) → slice_get positions id.0 ≡ Some None
      → HavePositions (nodes ++ (id ∷ [])) (slice_set positions id.0 (Some (length nodes)))
  position_more id new =
      let low = slice_get_within positions id.0 None new in
      record {
        each = λ position other at. elim (appended nodes id position other at) [
          | inl before ↦
              let there = old.each position other before in
              let unlike : id.0 ≡ other.0 → ⊥ = λ same.
              let both : Some None ≡ Some (Some position) = sym new ∙ subst (λ k. slice_get positions k ≡ Some (Some position)) (sym same) there in
              absurd (cc)
              in
              slice_get-set_other positions id.0 other.0 (Some (length nodes)) unlike ∙ there
          | inr last ↦
              let here = slice_get-set_here positions id.0 (Some (length nodes)) low in
              subst (λ (x : NodeId). slice_get (slice_set positions id.0 (Some (length nodes))) x.0 ≡ Some (Some position)) last.1
              (here ∙ ap (λ p. Some (Some p)) (sym last.0))
        ];
        only = λ k position at. elim (cases_eq k id.0) [
          | inl same ↦
              let now = subst (λ j. slice_get (slice_set positions id.0 (Some (length nodes))) j ≡ Some (Some position)) same at in
              let written = slice_get-set_same positions id.0 (Some (length nodes)) (Some position) now in
              let is : length nodes ≡ position = same_Some (length nodes) position written in
              subst (λ j. slice_get (nodes ++ (id ∷ [])) position ≡ Some (number j)) (sym same) (slice_get-push_last nodes position id is)
          | inr other ↦
              slice_get-push_before nodes position id (number k)
              (old.only k position (sym (slice_get-set_other positions id.0 k (Some (length nodes)) (λ e. other (sym e))) ∙ at))
        ];
      }

-- entries and their nodes

pub no_nodes : (n : Numbered) (levels : Levels) (listed : ListedNodes) → IsWhole n → listed.nodes.items ≡ [] → listed.positions.items ≡ replicate (length n.nodes) None
    → AreListedNodes n levels listed
no_nodes n levels listed whole none empty = record {
  whole = whole;
  within = let e = ap length none in omega arith;
  capacity = ap length empty ∙ length-replicate (length n.nodes) None;
  each = λ position id at. absurd (let e = subst (λ xs. slice_get xs position ≡ Some id) none at in cc);
  table = subst (λ ps. HavePositions listed.nodes.items ps) (sym empty) (subst (λ xs. HavePositions xs (replicate (length n.nodes) None)) (sym none) (no_positions (length n.nodes)));
}

module _ (n : Numbered) (levels : Levels) (old new : ListedNodes) (id : NodeId) (are : AreListedNodes n levels old)
    (lists : ListsNumber n levels (length old.nodes.items) id) (unlisted : slice_get old.positions.items id.0 ≡ Some None)
    (nodes : new.nodes.items ≡ old.nodes.items ++ (id ∷ []))
    (positions : new.positions.items ≡ slice_set old.positions.items id.0 (Some (length old.nodes.items))) where
  size : length new.nodes.items ≡ length old.nodes.items + 1
  size = ap length nodes ∙ length-append old.nodes.items (id ∷ [])

  pub listed_more : AreListedNodes n levels new
  listed_more = record {
    whole = are.whole;
    within = let low = slice_get_within levels.entries (length old.nodes.items) lists.entry lists.is.is in let s = size in omega arith;
    capacity = ap length positions ∙ (length-set old.positions.items id.0 (Some (length old.nodes.items)) ∙ are.capacity);
    each = λ position other at. elim (appended old.nodes.items id position other (subst (λ xs. slice_get xs position ≡ Some other) nodes at)) [
      | inl before ↦ are.each position other before
      | inr last ↦
          subst (λ (x : NodeId). ListsNumber n levels position x) last.1 (subst (λ k. ListsNumber n levels k id) (sym last.0) lists)
    ];
    table = subst (λ ps. HavePositions new.nodes.items ps) (sym positions)
        (subst (λ xs. HavePositions xs (slice_set old.positions.items id.0 (Some (length old.nodes.items)))) (sym nodes)
        (position_more old.nodes.items old.positions.items are.table id unlisted));
  }

pub parents_more : (n : Numbered) (levels : Levels) (listed : ListedNodes) (id : NodeId) → HaveParents levels (length listed.nodes.items) → IsRightNode n levels listed id
    → HaveParents levels (length listed.nodes.items + 1)
parents_more n levels listed id have right = λ position later low. elim (cases_lt position (length listed.nodes.items)) [
  | inl before ↦ have position later before
  | inr at ↦
      let same : length listed.nodes.items ≡ position = omega arith in
      subst (λ k. LevelEntryIs levels k (IsParentEarlier k) × LevelEntryIs levels k (IsOneAbove levels)) same (right.parent, right.level)
]

module _ (n : Numbered) (levels : Levels) (listed : ListedNodes) (are : AreListedNodes n levels listed) where
  -- what an entry lists has its number at the entry's position
  pub number_at : (position : ℕ) (entry : LevelEntry) (x : NodeName) → position < length listed.nodes.items → IsEntryAt levels position entry x
      → (id : NodeId) × (slice_get listed.nodes.items position ≡ Some id) × IsNodeNamed n id x
  number_at position entry x low at =
      let none : NodeId = record { 0 = 0 } in
      let id = get_or listed.nodes.items position none in
      let there = slice_get-get_or listed.nodes.items position none low in
      let lists = are.each position id there in
      let same : lists.node ≡ x = listed_one levels position lists.entry entry lists.node x lists.is at in
      (id, there, subst (IsNodeNamed n id) same lists.named)

  -- a name that is listed is that of a listed number
  pub listed_by_name : (id : NodeId) (position : ℕ) (entry : LevelEntry) (x : NodeName) → position < length listed.nodes.items → IsEntryAt levels position entry x
      → IsNodeNamed n id x → slice_get listed.nodes.items position ≡ Some id
  listed_by_name id position entry x low at named =
      let there = number_at position entry x low at in
      there.1 ∙ ap Some (are.whole.one there.0 id x there.2 named)

  -- no entry before lists the node of a listed one
  pub first_listed : (position : ℕ) → position < length listed.nodes.items → IsFirstListed levels position
  first_listed position low before x y node less at_before at_position =
      let one = number_at position y node low at_position in
      let other = listed_by_name one.0 before x node (omega arith) at_before one.2 in
      let same = one_position listed.nodes.items listed.positions.items are.table one.0 before position other one.1 in
      omega arith

  module _ (id : NodeId) (lists : ListsNumber n levels (length listed.nodes.items) id) where
    pub first_if_new : slice_get listed.positions.items id.0 ≡ Some None → IsFirstListed levels (length listed.nodes.items)
    first_if_new new before x y node less at_before at_next =
        let same : lists.node ≡ node = listed_one levels (length listed.nodes.items) lists.entry y lists.node node lists.is at_next in
        let there = listed_by_name id before x node less at_before (subst (IsNodeNamed n id) same lists.named) in
        none_there listed.nodes.items listed.positions.items are.table id.0 new before there

    pub not_first : (position : ℕ) → slice_get listed.positions.items id.0 ≡ Some (Some position) → ¬ IsFirstListed levels (length listed.nodes.items)
    not_first position at first =
        let there = are.table.only id.0 position at in
        let earlier = are.each position id there in
        let low = slice_get_within listed.nodes.items position id there in
        let same : earlier.node ≡ lists.node = named_once n id earlier.node lists.node earlier.named lists.named in
        first position earlier.entry lists.entry earlier.node low earlier.is (subst (IsEntryAt levels (length listed.nodes.items) lists.entry) (sym same) lists.is)

-- the root is what the number of the first entry stands for
pub begins_name : (t : Topology) (levels : Levels) (root : NodeName) → BeginsAtProblem t levels root → (entry : LevelEntry) → slice_get levels.entries 0 ≡ Some entry
    → StandsFor levels.nodes entry.node root
begins_name t levels root begins entry at =
    let first = begins.first in
    let same : begins.entry ≡ entry = same_Some begins.entry entry (sym first.is ∙ at) in
    subst (λ (e : LevelEntry). StandsFor levels.nodes e.node root) same first.names

-- the number of a good node stands for a node of the topology
pub live_node : (t : Topology) (nodes : List NodeName) → AreGoodNodes t nodes (length nodes) → (number : ℕ) (node : NodeName) → StandsFor nodes number node → IsNodeOf t node
live_node t nodes good number node stands =
    let g = good (number - 1) (slice_get_within nodes (number - 1) node stands.is) in
    subst (IsNodeOf t) (same_Some g.node node (sym g.is ∙ stands.is)) g.live

-- the entry is one level above its parent
pub one_above : (levels : Levels) (position : ℕ) (entry from : LevelEntry) → slice_get levels.entries position ≡ Some entry
    → slice_get levels.entries (entry.parent - 1) ≡ Some from → LevelEntryIs levels position (IsOneAbove levels) → entry.level ≡ from.level + 1
one_above levels position entry from at from_at is =
    let same : is.0 ≡ entry = same_Some is.0 entry (sym is.1 ∙ at) in
    let above = subst (IsOneAbove levels) same is.2 in
    let one : above.0 ≡ from = same_Some above.0 from (sym above.1 ∙ from_at) in
    above.2 ∙ ap (λ (e : LevelEntry). e.level + 1) one

-- only the root is listed
pub root_listed : (n : Numbered) (levels : Levels) (id : NodeId) (first new : ListedNodes) → IsWhole n → IsRootNumber n levels id → first.nodes.items ≡ []
    → first.positions.items ≡ replicate (length n.nodes) None → new.nodes.items ≡ first.nodes.items ++ (id ∷ [])
    → new.positions.items ≡ slice_set first.positions.items id.0 (Some (length first.nodes.items)) → AreListedNodes n levels new
root_listed n levels id first new whole root none empty nodes positions =
    let begins = root.begins in
    let size : 0 ≡ length first.nodes.items = sym (ap length none) in
    let lists : ListsNumber n levels (length first.nodes.items) id =
    subst (λ k. ListsNumber n levels k id) size (record { entry = begins.entry; node = root.root; is = begins.first; named = root.named })
    in
    let low = live_below n id (root.root, root.named) in
    let blank : List (Option ℕ) = replicate (length n.nodes) None in
    let long : length blank ≡ length n.nodes = length-replicate (length n.nodes) None in
    let there = slice_get-get_or blank id.0 None (omega arith) in
    let absent : None ≡ get_or blank id.0 None = slice_get-replicate (length n.nodes) id.0 None (get_or blank id.0 None) there in
    let unlisted = subst (λ (ps : List (Option ℕ)). slice_get ps id.0 ≡ Some None) (sym empty) (there ∙ ap Some (sym absent)) in
    listed_more n levels first new id (no_nodes n levels first whole none empty) lists unlisted nodes positions
