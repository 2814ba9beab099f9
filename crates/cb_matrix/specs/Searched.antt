-- What searches from problems cost, and where they have begun.
use Rattle.std.specs.Prelude.{◌≤◌, ◌+◌, ℕ, List, length, sum}
use Rattle.std.specs.List.{AllZip}
use Rattle.cb_breadth.specs.Orders.{IsByNumber}
use Rattle.cb_breadth.specs.Searches.{IsSearchOf}
use Rattle.cb_cache.specs.Filled.{HasSize}
use Rattle.cb_graph.specs.Edges.{EdgeAt}
use Rattle.cb_matrix.specs.declared.searched.Searcher.{Searcher}
use Rattle.cb_nodes.specs.declared.id.NodeId.{NodeId}
use Rattle.cb_topo.specs.Numbered.{Numbered}

-- it goes over all nodes by their numbers, and what it knows of successors is of this topology
pub record IsSearcher (n : Numbered) (searcher : Searcher) : Type 0 where
  pub order : IsByNumber (length n.nodes) searcher.order
  pub known : IsSearchOf (EdgeAt n) searcher.order searcher.searches

-- no more steps were made than these nodes cause nodes, together
abbrev pub CostsWithin : Numbered → List NodeId → ℕ → ℕ → Type 0
CostsWithin n ids steps new_steps = (sizes : List ℕ) → AllZip (HasSize n) ids sizes → new_steps ≤ steps + sum sizes
