-- Problems that words name.
use Rattle.std.specs.Prelude.{List, ℕ}
use Rattle.cb_model.specs.declared.node.NodeName.{NodeName}
use Rattle.cb_network.specs.Nodes.{IsProblem}
use Rattle.cb_network.specs.Topology.{Topology}
use Rattle.cb_nodes.specs.declared.id.NodeId.{NodeId}
use Rattle.cb_topo.specs.Numbered.{Numbered, topology_of, IsNodeNamed}
use Rattle.cb_outcome.specs.Jobs.{NamesNode}

-- the number is that of the problem that the word names
pub record IsProblemNamed (n : Numbered) (word : List ℕ) (id : NodeId) : Type 0 where
  pub name : NodeName
  pub spelled : NamesNode word name
  pub named : IsNodeNamed n id name
  pub problem : IsProblem (topology_of n) name

-- the word names no problem
abbrev pub NamesNoProblem : Topology → List ℕ → Type 0
NamesNoProblem t word = (problem : NodeName) → NamesNode word problem → ¬ IsProblem t problem
