-- A search from a problem, and the code that it gives.
use Rattle.std.proofs.Common.{◌≡◌, ℕ, ◌+◌, ◌-◌, ◌<◌, List, Bool, length, slice_index_or, take, drop, Result, Ok, Err, OnOk, Some, slice_get, sym, subst, ◌∙◌, inl, inr, arith}
use Rattle.std.specs.List.{All}
use Rattle.std.proofs.lemmas.Bool.{cases_lt}
use Rattle.std.proofs.lemmas.List.{get_or-drop, length-drop, take_all}
use Rattle.std.proofs.lemmas.Option.{slice_get-get_or, slice_get_within, same_Some}
use Rattle.cb_nodes.specs.declared.id.NodeId.{NodeId}
use Rattle.cb_breadth.specs.declared.visit.Order.{Order}
use Rattle.cb_breadth.specs.declared.visit.Visit.{Visit}
use Rattle.cb_breadth.specs.Orders.{Follows, IsByNumber, IsOrder}
use Rattle.cb_breadth.specs.Trees.{HasNode, IsTree, visit}
use Rattle.cb_breadth.proofs.ByNumber.{node_there, order_by_number}
use Rattle.cb_breadth.proofs.Led.{tree_has}
use Rattle.cb_topo.specs.Numbered.{Numbered, IsLiveNode}
use Rattle.cb_topo.proofs.Positions.{live_below}
use Rattle.cb_graph.specs.Edges.{EdgeAt, number}
use Rattle.cb_cache.specs.Numbers.{AreOnce}
use Rattle.cb_matrix.specs.Codes.{IsCodeWhere}
use Rattle.cb_matrix.specs.Coded.{IsCodeFrom}

-- edges lead to numbers below the count of the nodes
pub edge_below : (n : Numbered) (from to : ℕ) → EdgeAt n from to → to < length n.nodes
edge_below n from to leads = live_below n (number to) (leads.to, leads.to_is)

-- the nodes that are visited are among these
pub tree_below : (edge : ℕ → ℕ → Type 0) (nodes : List ℕ) (root : ℕ) (visits : List Visit) → IsTree (Follows edge nodes) root visits → root < length nodes
    → All (λ (v : Visit). v.node < length nodes) visits
tree_below edge nodes root visits tree low k d lt =
    let v = slice_index_or visits k d in
    let at : slice_get visits k ≡ Some v = slice_get-get_or visits k d lt in
    elim (cases_lt 0 k) [
      | inl pos ↦ let has = tree.edges k v pos at in slice_get_within nodes v.node has.leads.to has.leads.to_is
      | inr le ↦
          let first : 0 ≡ k = omega arith in
          let same : visit root 0 ≡ v = same_Some (visit root 0) v (sym tree.begins ∙ subst (λ i. slice_get visits i ≡ Some v) (sym first) at) in
          subst (λ (w : Visit). w.node < length nodes) same low
    ]

module _ (n : Numbered) (columns : List NodeId) (id : NodeId) (order : Order) (is : IsByNumber (length n.nodes) order) (live : IsLiveNode n id) where
  pub is_order : IsOrder (EdgeAt n) (length n.nodes) order.nodes.items order.ranks.items
  is_order = order_by_number (EdgeAt n) (length n.nodes) order is (edge_below n)

  -- the columns that are visited are those that the node leads to
  pub visited_code : (visits : List Visit) → IsTree (Follows (EdgeAt n) order.nodes.items) id.0 visits → (code : List Bool)
      → IsCodeWhere columns (HasNode order.nodes.items visits) code → IsCodeFrom n columns id code
  visited_code visits tree code coded =
      let there = subst (λ nodes. slice_get nodes id.0 ≡ Some id.0) (sym is.nodes) (node_there (length n.nodes) id.0 (live_below n id live)) in
      let has = tree_has (EdgeAt n) (length n.nodes) order.nodes.items order.ranks.items is_order id.0 id.0 there visits tree in
      record {
        width = coded.width;
        each = λ place node at. (λ on. (has node).0 ((coded.each place node at).0 on), λ leads. (coded.each place node at).1 ((has node).1 leads));
      }

-- what holds of all items holds of the last ones
pub all_after : {X : Type 0} (P : X → Type 0) (xs : List X) (count : ℕ) → All P xs → All P (drop count xs)
all_after P xs count all k d lt =
    let long = length-drop count xs in
    subst P (sym (get_or-drop count xs k d)) (all (count + k) d (omega arith))

-- and where no item stands twice, none does among the last ones
pub once_after : (ids : List NodeId) (count : ℕ) → AreOnce ids → AreOnce (drop count ids)
once_after ids count once i j d lt low same =
    let long = length-drop count ids in
    once (count + i) (count + j) d (omega arith) (omega arith) (sym (get_or-drop count ids i d) ∙ same ∙ get_or-drop count ids j d)

-- a slice from a position on has the last items
pub slice_after : {X : Type 0} (xs : List X) (count : ℕ) → take (length xs - count) (drop count xs) ≡ drop count xs
slice_after xs count = take_all (length xs - count) (drop count xs) (let long = length-drop count xs in omega arith)

-- what holds in any case holds where a result is Ok
pub in_any_case : {T E : Type 0} (r : Result T E) (P : Type 0) → P → OnOk r P
in_any_case (Ok x) P p = p
in_any_case (Err x) P p = tt
