-- The groups of a finding can be explained by an explanation of its network.
use Rattle.std.proofs.Common.{List, sym, subst}
use Rattle.std.specs.List.{All}
use Rattle.cb_model.specs.declared.node.NamedGroup.{NamedGroup}
use Rattle.cb_model.specs.declared.node.NodeName.{NodeName}
use Rattle.cb_finding.specs.declared.finding.Finding.{Finding}
use Rattle.cb_finding.specs.Finding.{IsBurst}
use Rattle.cb_network.specs.Nodes.{AreColumns}
use Rattle.cb_network.specs.Topology.{Topology}
use Rattle.cb_network.proofs.One.{columns_are_one}
use Rattle.cb_topo.specs.Numbered.{Numbered, topology_of, IsNodeNamed, AreNamed}
use Rattle.cb_topo.proofs.Naming.{one_name}
use Rattle.cb_outcome.proofs.ChainsOne.{zip_is_one}
use Rattle.cb_chain_commands.specs.declared.explanation.Explanation.{Explanation}
use Rattle.cb_chain_commands.specs.Explaining.{IsExplanation, CanBeExplained}
use Rattle.cb_chain_commands.proofs.Explainable.{all_explainable}

-- the columns of an explanation are those of its network
module _ (n : Numbered) (made : Explanation) (is : IsExplanation n made) where
  names_here : AreNamed made.graph made.columns is.names
  names_here = subst (λ (m : Numbered). AreNamed m made.columns is.names) (sym is.graph) is.named

  pub columns_named : (columns : List NodeName) → AreColumns (topology_of n) columns → AreNamed made.graph made.columns columns
  columns_named columns all = subst (AreNamed made.graph made.columns) (columns_are_one (topology_of n) is.names columns is.columns all) names_here

  pub named_columns : (columns : List NodeName) → AreNamed made.graph made.columns columns → AreColumns (topology_of n) columns
  named_columns columns named =
      subst (AreColumns (topology_of n)) (zip_is_one (IsNodeNamed made.graph) (one_name made.graph) made.columns is.names columns names_here named) is.columns

-- the groups of a finding can be explained
pub explainable_groups : (t : Topology) (raised : List NodeName) (finding : Finding) (burst : IsBurst t raised finding) (columns : List NodeName) → AreColumns t columns
    → All (CanBeExplained t columns) finding.groups
explainable_groups t raised finding burst columns all =
    subst (λ (cs : List NodeName). All (CanBeExplained t cs) finding.groups) (columns_are_one t burst.columns columns burst.matrix.columns_are all)
    (subst (λ (gs : List NamedGroup). All (CanBeExplained t burst.columns) gs) (sym burst.found.groups_are)
    (all_explainable t burst.columns burst.groups burst.matrix burst.found.answer.groups))
