-- The numbers of problems.
use Rattle.std.specs.Prelude.{◌≢◌, ◌↔◌, ◌≤◌, List, length}
use Rattle.std.specs.List.{AllPairs, Contains}
use Rattle.cb_model.specs.declared.node.NodeName.{NodeName}
use Rattle.cb_network.specs.Nodes.{IsProblem}
use Rattle.cb_network.specs.Sound.{problem_limit}
use Rattle.cb_nodes.specs.declared.id.NodeId.{NodeId}
use Rattle.cb_topo.specs.Numbered.{Numbered, topology_of, IsNodeNamed}

-- the number is that of a problem
abbrev pub IsProblemNumber : Numbered → NodeId → Type 0
IsProblemNumber n id = (name : NodeName) × IsNodeNamed n id name × IsProblem (topology_of n) name

-- no number stands twice
abbrev pub AreOnce : List NodeId → Type 0
AreOnce ids = AllPairs (λ a b. a ≢ b) ids

-- these are the numbers of all problems, each once
pub record AreProblemNumbers (n : Numbered) (ids : List NodeId) : Type 0 where
  pub once : AreOnce ids
  pub each : (id : NodeId) → Contains ids id ↔ IsProblemNumber n id
  pub few : length ids ≤ problem_limit
