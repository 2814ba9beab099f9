-- How far a node is from a problem that causes it, and one shortest chain between them.
use Rattle.std.specs.Prelude.{◌≡◌, ◌≢◌, ℕ, ◌+◌, ◌≤◌, List, [], ◌∷◌, length, reverse}
use Rattle.std.specs.declared.cmp.Ordering.TheVariants.{Less}
use Rattle.cb_model.specs.declared.node.NodeName.{NodeName}
use Rattle.cb_model.specs.NodeOrder.{node_cmp}
use Rattle.cb_network.specs.Topology.{Topology}
use Rattle.cb_network.specs.Causes.{Edge, Chain}

-- the least number of edges of a chain from p to s is n
pub record IsLevel (t : Topology) (p s : NodeName) (n : ℕ) : Type 0 where
  pub between : List NodeName
  pub chain : Chain t p between s
  pub long : length between ≡ n
  pub least : (others : List NodeName) → Chain t p others s → n ≤ length others

-- of the nodes one level below s that have an edge to it, q is the least
pub record IsPrevious (t : Topology) (p s q : NodeName) : Type 0 where
  pub level : ℕ
  pub below : IsLevel t p q level
  pub here : IsLevel t p s (level + 1)
  pub edge : Edge t q s
  pub least : (r : NodeName) → IsLevel t p r level → Edge t r s → node_cmp r q ≢ Less

-- these nodes lead from s back to p: the first is the previous one of s, each further one that of the node before it
abbrev pub LeadBack : Topology → NodeName → NodeName → List NodeName → Type 0
LeadBack t p s [] = s ≡ p
LeadBack t p s (q ∷ rest) = IsPrevious t p s q × LeadBack t p q rest

-- the nodes from p to s, each the previous one of the next
pub record IsShortChain (t : Topology) (p s : NodeName) (nodes : List NodeName) : Type 0 where
  pub back : List NodeName
  pub lead : LeadBack t p s back
  pub is : nodes ≡ reverse (s ∷ back)
