-- All numbers as an order of the nodes.
use Rattle.std.proofs.Common.{◌≡◌, ℕ, zero, suc, ◌+◌, ◌<◌, List, [], ◌∷◌, ◌++◌, Some, length, slice_get, sym, ap, subst, ◌∙◌, arith}
use Rattle.std.specs.List.{range_with_len}
use Rattle.std.proofs.lemmas.List.FromFn.{length-range_with_len, get_or-range_with_len}
use Rattle.std.proofs.lemmas.Option.{slice_get-get_or, slice_get_within, get_or_from_slice_get}
use Rattle.cb_successors.specs.Graphs.{EdgeChain, LeadsTo}
use Rattle.cb_breadth.specs.declared.visit.Order.{Order}
use Rattle.cb_breadth.specs.Orders.{IsByNumber, IsOrder, Follows}
use Rattle.cb_breadth.specs.Trees.{CountsReached}

more : (from count : ℕ) → range_with_len from count ++ (from + count) ∷ [] ≡ range_with_len from (suc count)
more from zero = ap (λ k. k ∷ []) (let e : from + 0 ≡ from = omega arith in e)
more from (suc count) =
    let further : from + suc count ≡ from + 1 + count = omega arith in
    ap (λ ks. from ∷ ks) (ap (λ k. range_with_len (from + 1) count ++ k ∷ []) further ∙ more (from + 1) count)

-- one number more
pub all_numbers : (count : ℕ) → range_with_len 0 count ++ count ∷ [] ≡ range_with_len 0 (count + 1)
all_numbers count =
    let here : count ≡ 0 + count = omega arith in
    let next : suc count ≡ count + 1 = omega arith in
    ap (λ k. range_with_len 0 count ++ k ∷ []) here ∙ more 0 count ∙ ap (range_with_len 0) next

module _ (count : ℕ) where
  pub node_there : (node : ℕ) → node < count → slice_get (range_with_len 0 count) node ≡ Some node
  node_there node low =
      let long = length-range_with_len 0 count in
      slice_get-get_or (range_with_len 0 count) node 0 (omega arith) ∙ ap Some (get_or-range_with_len 0 count node 0 low ∙ (let e : 0 + node ≡ node = omega arith in e))

  pub node_at : (rank node : ℕ) → slice_get (range_with_len 0 count) rank ≡ Some node → (rank < count) × (rank ≡ node)
  node_at rank node at =
      let long = length-range_with_len 0 count in
      let within = slice_get_within (range_with_len 0 count) rank node at in
      let low : rank < count = omega arith in
      let here : rank ≡ 0 + rank = omega arith in
      (low, here ∙ sym (get_or-range_with_len 0 count rank 0 low) ∙ get_or_from_slice_get (range_with_len 0 count) rank node 0 at)

module _ (edge : ℕ → ℕ → Type 0) (count : ℕ) (order : Order) (is : IsByNumber count order) (below : (from to : ℕ) → edge from to → to < count) where
  pub order_by_number : IsOrder edge count order.nodes.items order.ranks.items
  order_by_number = record {
    capacity = ap length is.ranks ∙ length-range_with_len 0 count;
    ranked = λ rank node at.
        let there = node_at count rank node (subst (λ xs. slice_get xs rank ≡ Some node) is.nodes at) in (
          (let low = there.0 in let same = there.1 in omega arith),
          rw is.ranks (node_there count node (let low = there.0 in let same = there.1 in omega arith) ∙ ap Some (sym there.1)),
        );
    closed = λ from to leads. (to, rw is.nodes (node_there count to (below from to leads)));
  }

  -- what follows by ranks are the edges of the numbers
  edge_of : (a b : ℕ) → Follows edge order.nodes.items a b → edge a b
  edge_of a b follows =
      let from = node_at count a follows.from (subst (λ xs. slice_get xs a ≡ Some follows.from) is.nodes follows.from_is) in
      let to = node_at count b follows.to (subst (λ xs. slice_get xs b ≡ Some follows.to) is.nodes follows.to_is) in
      subst (λ x. edge x b) (sym from.1) (subst (edge follows.from) (sym to.1) follows.leads)

  chain_of : (a : ℕ) (rest : List ℕ) (b : ℕ) → EdgeChain (Follows edge order.nodes.items) a rest b → EdgeChain edge a rest b
  chain_of a [] b same = same
  chain_of a (x ∷ rest) b chain = (edge_of a x chain.0, chain_of x rest b chain.1)

  pub led_by_number : (a b : ℕ) → LeadsTo (Follows edge order.nodes.items) a b → LeadsTo edge a b
  led_by_number a b (rest, chain) = (rest, chain_of a rest b chain)

  -- steps that are bounded by ranks are bounded by the numbers
  pub reached_by_number : (root steps new_steps : ℕ) → CountsReached (Follows edge order.nodes.items) root (length order.nodes.items) steps new_steps → CountsReached edge root count steps new_steps
  reached_by_number root steps new_steps counts = record {
    row = counts.row;
    long = counts.long ∙ ap length is.nodes ∙ length-range_with_len 0 count;
    each = λ node has. led_by_number root node (counts.each node has);
    few = counts.few;
  }
