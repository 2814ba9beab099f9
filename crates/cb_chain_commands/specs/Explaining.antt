-- Chains, as they are found for one problem after the other.
use Rattle.std.specs.Prelude.{◌≡◌, ℕ, ◌≤◌, ◌+◌, List, Option, Some, true, slice_get}
use Rattle.std.specs.List.{All, AllZip, Contains, flat_map}
use Rattle.cb_model.specs.declared.node.NamedGroup.{NamedGroup}
use Rattle.cb_model.specs.declared.node.NodeName.{NodeName}
use Rattle.cb_finding.specs.declared.finding.Finding.{Finding}
use Rattle.cb_network.specs.Causes.{Causes}
use Rattle.cb_network.specs.Nodes.{IsProblem, AreColumns}
use Rattle.cb_network.specs.Topology.{Topology}
use Rattle.cb_topo.specs.Numbered.{Numbered, topology_of, AreNamed}
use Rattle.cb_explain.specs.declared.explainer.Explainer.{Explainer}
use Rattle.cb_explain.specs.Explained.{IsExplainerOf, IsNameOnChain, KeepsNodesOnChains}
use Rattle.cb_report.specs.ChainTexts.{explained_text}
use Rattle.cb_outcome.specs.Costs.{IsTotalCaused}
use Rattle.cb_outcome.specs.Explained.{ExplainsMembers, ExplainsGroups}
use Rattle.cb_chain_commands.specs.declared.explanation.Explanation.{Explanation}

-- the explanation is of this network: its columns are numbered, and it can be searched
pub record IsExplanation (n : Numbered) (e : Explanation) : Type 0 where
  pub graph : e.graph ≡ n
  pub names : List NodeName
  pub columns : AreColumns (topology_of n) names
  pub named : AreNamed n e.columns names
  pub explainer : IsExplainerOf n e.explainer

-- it is of the same network as before, with the same columns, and the nodes on the chains that were found keep their numbers
pub record KeepsNetwork (old new : Explanation) : Type 0 where
  pub graph : new.graph ≡ old.graph
  pub columns : new.columns ≡ old.columns
  pub nodes : KeepsNodesOnChains old.explainer new.explainer

-- the trees, one for each member, have chains that explain the members
pub record HaveMemberChains (n : Numbered) (e : Explainer) (columns members : List NodeName) (trees : List (List (List ℕ))) : Type 0 where
  pub chains : List (List NodeName)
  pub explains : ExplainsMembers (topology_of n) columns members chains
  pub named : AllZip (AllZip (IsNameOnChain n e)) (flat_map (λ tree. tree) trees) chains

-- the lists of trees, one for each group, have chains that explain the groups
pub record HaveGroupChains (n : Numbered) (e : Explainer) (columns : List NodeName) (groups : List NamedGroup) (trees : List (List (List (List ℕ)))) : Type 0
  where
    pub chains : List (List (List NodeName))
    pub explains : ExplainsGroups (topology_of n) columns groups chains
    pub named : AllZip (λ (ts : List (List (List ℕ))). AllZip (AllZip (IsNameOnChain n e)) (flat_map (λ tree. tree) ts)) trees chains

-- these are the names of the nodes on the chains that were found
abbrev pub AreNamesOf : Explanation → List (Option NodeName) → Type 0
AreNamesOf e names = (node : ℕ) (name : NodeName) → IsNameOnChain e.graph e.explainer node name → slice_get names node ≡ Some (Some name)

-- no more steps are counted than these problems cause nodes, those of each counted for itself
abbrev pub CountsFrom : Topology → List NodeName → ℕ → ℕ → Type 0
CountsFrom t problems old new = (total : ℕ) → IsTotalCaused t problems total → new ≤ old + total

-- the members are problems, and no member of the quiet group causes a column
pub record CanBeExplained (t : Topology) (columns : List NodeName) (group : NamedGroup) : Type 0 where
  pub problems : All (IsProblem t) group.members
  pub quiet : group.quiet ≡ true → (member column : NodeName) → Contains group.members member → Contains columns column → ¬ Causes t member column

-- the bytes are the text of the finding with chains that explain its groups
abbrev pub IsExplainedBy : Topology → List NodeName → Finding → List ℕ → Type 0
IsExplainedBy t columns finding bytes =
    (chains : List (List (List NodeName))) × ExplainsGroups t columns finding.groups chains × (bytes ≡ explained_text finding chains)
