-- What an explainer knows.
use Rattle.std.specs.Prelude.{◌≡◌, ℕ, ◌+◌, ◌≤◌, List, Option, length}
use Rattle.std.specs.List.{AllZip}
use Rattle.cb_model.specs.declared.node.NodeName.{NodeName}
use Rattle.cb_network.specs.Causes.{Causes}
use Rattle.cb_network.specs.Nodes.{IsCount}
use Rattle.cb_nodes.specs.declared.id.NodeId.{NodeId}
use Rattle.cb_successors.specs.Rows.{Has}
use Rattle.cb_breadth.specs.declared.visit.LevelVisit.{LevelVisit}
use Rattle.cb_breadth.specs.Levels.{IsLevelTree}
use Rattle.cb_breadth.specs.Orders.{Follows}
use Rattle.cb_breadth.specs.Searches.{IsSearchOf}
use Rattle.cb_chains.specs.Explained.{ExplainsColumns, chains_in}
use Rattle.cb_topo.specs.Numbered.{Numbered, topology_of, IsNodeNamed, IsWhole}
use Rattle.cb_graph.specs.Edges.{EdgeAt}
use Rattle.cb_span.specs.Orders.{IsAtRank, IsOrderOf}
use Rattle.cb_explain.specs.declared.explainer.Explainer.{Explainer}
use Rattle.cb_explain.specs.Chained.{HavePositions}

-- it is one of this topology: all nodes in order, the successors that searches share, and for each rank a position and a mark
pub record IsExplainerOf (n : Numbered) (e : Explainer) : Type 0 where
  pub order : IsOrderOf n e.order
  pub whole : IsWhole n
  pub searches : IsSearchOf (EdgeAt n) e.order e.searches
  pub size : length e.positions.items ≡ length e.order.nodes.items
  pub marks : length e.used ≡ length e.order.nodes.items

-- it is one of this topology, and these are the visits of a search by levels from the problem p, found by their positions
pub record HasSearched (n : Numbered) (p : NodeName) (e : Explainer) (visits : List LevelVisit) : Type 0 where
  pub explainer : IsExplainerOf n e
  pub root : ℕ
  pub at_root : IsAtRank n e.order root p
  pub tree : IsLevelTree (Follows (EdgeAt n) e.order.nodes.items) root visits
  pub positions : HavePositions visits e.positions.items

-- the node of this number is on a chain that was found, and has this name
pub record IsNameOnChain (n : Numbered) (e : Explainer) (node : ℕ) (name : NodeName) : Type 0 where
  pub marked : Has e.used node
  pub at : IsAtRank n e.order node name

-- the tree has the short chains from the problem to those of the columns that it causes, in order
pub record HasChainsTo (n : Numbered) (e : Explainer) (problem : NodeName) (columns : List NodeName) (tree : List (List ℕ)) : Type 0 where
  pub found : List (Option (List NodeName))
  pub each : ExplainsColumns (topology_of n) columns problem found
  pub named : AllZip (AllZip (IsNameOnChain n e)) tree (chains_in found)

-- the nodes on the chains that were found before still have their numbers
pub record KeepsNodesOnChains (old new : Explainer) : Type 0 where
  pub order : new.order ≡ old.order
  pub marks : (node : ℕ) → Has old.used node → Has new.used node

-- no more steps are counted than the node of this number causes nodes
abbrev pub CountsCaused : Numbered → NodeId → ℕ → ℕ → Type 0
CountsCaused n id old new = (name : NodeName) (count : ℕ) → IsNodeNamed n id name → IsCount (Causes (topology_of n) name) count → new ≤ old + count
