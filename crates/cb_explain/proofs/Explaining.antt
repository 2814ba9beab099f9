-- What an explainer knows after a search.
use Rattle.std.proofs.Common.{◌≡◌, ℕ, zero, suc, ◌+◌, ◌-◌, ◌≤◌, List, [], ◌∷◌, Option, None, Some, length, slice_get, sym, ap, subst, ◌∙◌, arith}
use Rattle.std.specs.Prelude.{Result, IfOk, OnOk}
use Rattle.std.specs.declared.result.Result.TheVariants.{Ok, Err}
use Rattle.std.specs.List.{All, AllZip}
use Rattle.std.proofs.lemmas.List.Elements.{All-head, All-tail}
use Rattle.std.proofs.lemmas.Option.{slice_get_within}
use Rattle.cb_model.specs.declared.node.NodeName.{NodeName}
use Rattle.cb_successors.specs.Rows.{Has}
use Rattle.cb_nodes.specs.declared.id.NodeId.{NodeId}
use Rattle.cb_breadth.specs.declared.visit.LevelVisit.{LevelVisit}
use Rattle.cb_breadth.specs.declared.visit.Order.{Order}
use Rattle.cb_breadth.specs.Levels.{CountsVisits}
use Rattle.cb_breadth.specs.Orders.{Follows}
use Rattle.cb_validity.specs.Spans.{StandsFor}
use Rattle.cb_chains.specs.Names.{name_by_position}
use Rattle.cb_chains.specs.Explained.{ExplainsColumns, chains_in}
use Rattle.cb_chains.specs.Trees.{without_levels, ComeAfterParents, chain_at, chains_at}
use Rattle.cb_topo.specs.Numbered.{Numbered, topology_of, IsNodeNamed, AreNamed, IsWhole}
use Rattle.cb_graph.specs.Edges.{EdgeAt}
use Rattle.cb_span.specs.Orders.{AreRanked, IsAtRank, IsOrderOf, IsRank}
use Rattle.cb_span.proofs.Zips.{zip_right}
use Rattle.cb_explain.specs.declared.explainer.Explainer.{Explainer}
use Rattle.cb_explain.specs.Levelled.{AreRanksBelow}
use Rattle.cb_explain.specs.Made.{AreRanks}
use Rattle.cb_explain.specs.Chained.{AreEndsOf, IsEndIfVisited, ends_in}
use Rattle.cb_explain.specs.Explained.{HasSearched, HasChainsTo, IsNameOnChain, CountsCaused}
use Rattle.cb_explain.proofs.Levelling.{ranks_below, are_ranks, live_rank}
use Rattle.cb_explain.proofs.Chains.{after_parents, short_at, uncaused, counts_few}
use Rattle.cb_explain.proofs.Ending.{few_visits}

-- what follows from two facts of what was made, and what holds whether or not it was made
pub both_ok : {T E : Type 0} (r : Result T E) (P Q R : T → Type 0) → ((x : T) → P x → Q x → R x) → IfOk r P → IfOk r Q → IfOk r R
both_ok (Ok x) P Q R also p q = also x p q
both_ok (Err e) P Q R also p q = tt

pub ok_anyway : {T E : Type 0} (r : Result T E) (P : Type 0) → P → OnOk r P
ok_anyway (Ok x) P p = p
ok_anyway (Err e) P p = tt

-- names of marked numbers
module _ (n : Numbered) (e : Explainer) where
  marked_chain : (nodes : List ℕ) (names : List NodeName) → AllZip (IsAtRank n e.order) nodes names → All (Has e.used) nodes → AllZip (IsNameOnChain n e) nodes names
  marked_chain [] [] zip all = tt
  marked_chain [] (y ∷ ys) zip all = absurd zip
  marked_chain (x ∷ xs) [] zip all = absurd zip
  marked_chain (x ∷ xs) (y ∷ ys) zip all =
      (record { marked = All-head (Has e.used) x xs all; at = zip.0 }, marked_chain xs ys zip.1 (All-tail (Has e.used) x xs all))

  pub marked_chains : (tree : List (List ℕ)) (chains : List (List NodeName)) → AllZip (AllZip (IsAtRank n e.order)) tree chains → All (All (Has e.used)) tree
      → AllZip (AllZip (IsNameOnChain n e)) tree chains
  marked_chains [] [] zip all = tt
  marked_chains [] (y ∷ ys) zip all = absurd zip
  marked_chains (x ∷ xs) [] zip all = absurd zip
  marked_chains (x ∷ xs) (y ∷ ys) zip all =
      (marked_chain x y zip.0 (All-head (All (Has e.used)) x xs all), marked_chains xs ys zip.1 (All-tail (All (Has e.used)) x xs all))

module _ (n : Numbered) (e : Explainer) (p : NodeName) (visits : List LevelVisit) (has : HasSearched n p e visits) where
  abbrev nodes : List ℕ
  nodes = e.order.nodes.items

  abbrev edge : ℕ → ℕ → Type 0
  edge = Follows (EdgeAt n) nodes

  abbrev At : ℕ → NodeName → Type 0
  At = IsAtRank n e.order

  ranks : AreRanks (topology_of n) edge At
  ranks = let is = has.explainer in are_ranks n e.order is.order is.whole

  pub visits_below : AreRanksBelow (length nodes) visits
  visits_below = let at = has.at_root in ranks_below (EdgeAt n) nodes has.root visits has.tree (slice_get_within nodes has.root at.node at.at)

  pub visits_after : ComeAfterParents (without_levels visits)
  visits_after = after_parents (topology_of n) edge At ranks has.root p has.at_root visits has.tree

  pub visits_few : length visits ≤ length nodes
  visits_few = few_visits visits (length nodes) has.tree.once visits_below

  at_rank : (id : NodeId) (rank : ℕ) → IsRank e.order id rank → (s : NodeName) → IsNodeNamed n id s → At rank s
  at_rank id rank ranked s named = record { node = id.0; at = ranked.node_is; named = named }

  -- the chains that end where these nodes are visited
  pub chains_found : (ids : List NodeId) (names : List NodeName) (found : List (Option ℕ)) → AreNamed n ids names → AllZip (IsEndIfVisited e.order visits) ids found
      → (chains : List (Option (List NodeName))) × ExplainsColumns (topology_of n) names p chains
      × AllZip (AllZip At) (chains_at (without_levels visits) (ends_in found)) (chains_in chains)
  chains_found [] [] [] named zip = ([], tt, tt)
  chains_found [] [] (f ∷ found) named zip = absurd zip
  chains_found [] (s ∷ names) found named zip = absurd named
  chains_found (id ∷ ids) [] found named zip = absurd named
  chains_found (id ∷ ids) (s ∷ names) [] named zip = absurd zip
  chains_found (id ∷ ids) (s ∷ names) (None ∷ found) named zip =
      let (rank, ranked, none) = zip.0 in
      let (chains, each, spelled) = chains_found ids names found named.1 zip.1 in
      let not = uncaused (topology_of n) edge At ranks has.root p has.at_root visits has.tree rank s (at_rank id rank ranked s named.0) none in
      (None ∷ chains, (not, each), spelled)
  chains_found (id ∷ ids) (s ∷ names) (Some end ∷ found) named zip =
      let (rank, ranked, is) = zip.0 in
      let (chains, each, spelled) = chains_found ids names found named.1 zip.1 in
      let at : At is.visit.node s = subst (λ k. At k s) (sym is.of) (at_rank id rank ranked s named.0) in
      let (chain, spells, short) = short_at (topology_of n) edge At ranks has.root p has.at_root visits has.tree (is.position + 1) is.position is.visit s (omega arith) is.is at in
      (Some chain ∷ chains, (short, each), (subst (λ k. AllZip At (chain_at (without_levels visits) k) chain) (sym is.end_is) spells, spelled))

  -- a tree of the chains that end there, whose nodes are marked
  pub has_chains : (e' : Explainer) → e'.order ≡ e.order → (ids : List NodeId) (names : List NodeName) (ends : List ℕ) (tree : List (List ℕ)) → AreNamed n ids names
      → AreEndsOf e.order visits ids ends → tree ≡ chains_at (without_levels visits) ends → All (All (Has e'.used)) tree → HasChainsTo n e' p names tree
  has_chains e' same ids names ends tree named are is marked =
      let (chains, each, spelled) = chains_found ids names are.found named are.each in
      let here : AllZip (AllZip At) tree (chains_in chains) = subst (λ (l : List (List ℕ)). AllZip (AllZip At) l (chains_in chains))
      (sym (is ∙ ap (chains_at (without_levels visits)) are.are)) spelled
      in
      record {
        found = chains;
        each = each;
        named = marked_chains n e' tree (chains_in chains) (subst (λ (o : Order). AllZip (AllZip (IsAtRank n o)) tree (chains_in chains)) (sym same) here) marked;
      }

-- nodes of a topology have ranks
pub columns_ranked : (n : Numbered) (order : Order) → IsOrderOf n order → (ids : List NodeId) (names : List NodeName) → AreNamed n ids names → AreRanked order ids
columns_ranked n order ord ids names named i id at =
    let there = zip_right (IsNodeNamed n) ids names named i id at in
    live_rank n order ord id (there.0, there.2)

-- the name that a number stands for is that at the number
pub stands_name : (names : List NodeName) (number : ℕ) (name : NodeName) → StandsFor names number name → name_by_position names number ≡ Some name
stands_name names zero name stands = absurd (let counted = stands.counted in omega arith)
stands_name names (suc i) name stands = let one : i ≡ suc i - 1 = omega arith in ap (slice_get names) one ∙ stands.is

-- a search from the node of a number counts no more steps than it causes nodes
pub counts_caused : (n : Numbered) (order : Order) → IsOrderOf n order → IsWhole n → (id : NodeId) (root : ℕ) → IsRank order id root → (old new : ℕ)
    → CountsVisits (Follows (EdgeAt n) order.nodes.items) root old new → CountsCaused n id old new
counts_caused n order ord whole id root ranked old new counts name count named all =
    counts_few (topology_of n) (Follows (EdgeAt n) order.nodes.items) (IsAtRank n order) (are_ranks n order ord whole) root name
    (record { node = id.0; at = ranked.node_is; named = named }) old new count counts all
