-- A tree of visits has exactly the nodes that its root leads to.
use Rattle.std.proofs.Common.{◌≡◌, ◌↔◌, inl, inr, ℕ, zero, suc, ◌+◌, ◌-◌, ◌<◌, List, [], ◌∷◌, Some, slice_get, sym, subst, ◌∙◌, arith}
use Rattle.std.proofs.lemmas.Bool.{cases_lt}
use Rattle.std.proofs.lemmas.Option.{same_Some}
use Rattle.cb_successors.specs.Graphs.{EdgeChain, LeadsTo}
use Rattle.cb_successors.proofs.Chains.{chain_more}
use Rattle.cb_breadth.specs.declared.visit.Visit.{Visit}
use Rattle.cb_breadth.specs.Orders.{IsOrder, Follows}
use Rattle.cb_breadth.specs.Trees.{HasNode, IsTree, visit}

module _ (edge : ℕ → ℕ → Type 0) (count : ℕ) (nodes ranks : List ℕ) (order : IsOrder edge count nodes ranks) (root from : ℕ)
    (at : slice_get nodes root ≡ Some from) (visits : List Visit) (tree : IsTree (Follows edge nodes) root visits) where
  has_next : (a b : ℕ) → HasNode nodes visits a → edge a b → HasNode nodes visits b
  has_next a b has leads =
      let to = order.closed a b leads in
      let next : Follows edge nodes has.rank to.0 = record { from = a; to = b; from_is = has.at; to_is = to.1; leads = leads } in
      let there = tree.closed has.visited.place (visit has.rank has.visited.parent) to.0 has.visited.is next in
      record { rank = to.0; at = to.1; visited = there }

  has_all : (a : ℕ) (rest : List ℕ) (b : ℕ) → EdgeChain edge a rest b → HasNode nodes visits a → HasNode nodes visits b
  has_all a [] b same has = subst (HasNode nodes visits) same has
  has_all a (x ∷ rest) b chain has = has_all x rest b chain.1 (has_next a x has chain.0)

  -- the visit at a place below some number
  led : (bound i : ℕ) (v : Visit) (node : ℕ) → i < bound → slice_get visits i ≡ Some v → slice_get nodes v.node ≡ Some node → LeadsTo edge from node
  led zero i v node low is there = absurd (omega arith)
  led (suc bound) i v node low is there = elim (cases_lt 0 i) [
    | inl pos ↦
        let has = tree.edges i v pos is in
        let (some, earlier) = tree.earlier i v pos is in
        let before = led bound (v.parent - 1) has.from has.leads.from (omega arith) has.from_is has.leads.from_is in
        let same : has.leads.to ≡ node = same_Some has.leads.to node (sym has.leads.to_is ∙ there) in
        chain_more edge from before.0 has.leads.from node before.1 (subst (edge has.leads.from) same has.leads.leads)
    | inr le ↦
        let none : 0 ≡ i = omega arith in
        let same : visit root 0 ≡ v = same_Some (visit root 0) v (sym tree.begins ∙ subst (λ k. slice_get visits k ≡ Some v) (sym none) is) in
        let here : from ≡ node = same_Some from node (sym at ∙ subst (λ (w : Visit). slice_get nodes w.node ≡ Some node) (sym same) there) in
        ([], here)
  ]

  pub tree_has : (node : ℕ) → HasNode nodes visits node ↔ LeadsTo edge from node
  tree_has node = (
    λ has. led (has.visited.place + 1) has.visited.place (visit has.rank has.visited.parent) node (omega arith) has.visited.is has.at,
    λ leads. has_all from leads.0 node leads.1 (record { rank = root; at = at; visited = record { place = 0; parent = 0; is = tree.begins } }),
  )
