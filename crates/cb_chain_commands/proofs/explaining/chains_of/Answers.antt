use Rattle.std.proofs.Common.{◌≡◌, List, ℕ, Some, map, slice_get, refl, sym, subst}
use Rattle.std.specs.List.{All}
use Rattle.cb_model.specs.declared.node.NodeName.{NodeName}
use Rattle.cb_topo.specs.Numbered.{Numbered, topology_of}
use Rattle.cb_chains.specs.Names.{IsNamedNumber, named_chains}
use Rattle.cb_explain.specs.Explained.{IsNameOnChain}
use Rattle.cb_explain.proofs.Explaining.{both_ok}
use Rattle.cb_outcome.specs.Costs.{problems_explained}
use Rattle.cb_outcome.specs.Explained.{ExplainsGroups}
use Rattle.cb_chain_commands.specs.Explaining.{IsExplanation, CanBeExplained, CountsFrom}
use Rattle.cb_chain_commands.proofs.Adding.{names_explain, all_named}
use Rattle.cb_chain_commands.proofs.Counting.{counts_same}
use Rattle.cb_chain_commands.proofs.Finding.{columns_named, named_columns}
use Rattle.cb_chain_commands.proofs.explaining.chains_of.Goals as goal

pub returns-in_err-explanation-clause-cost : goal.returns-in_err-explanation-clause-cost
returns-in_err-explanation-clause-cost g c =
    counts_same (topology_of c.args.graph) (problems_explained c.args.groups.now) c.args.steps.now c.args.steps.now refl

pub trees_of_groups-requires-clause-network : goal.trees_of_groups-requires-clause-network
trees_of_groups-requires-clause-network g c =
    let made = c.in_ok-explanation.explanation in
    subst (λ (n : Numbered). IsExplanation n made) (sym c.in_ok-explanation.ensures.graph) c.in_ok-explanation.ensures

pub trees_of_groups-requires-clause-groups : goal.trees_of_groups-requires-clause-groups
trees_of_groups-requires-clause-groups g c = λ columns named.
    let made = c.in_ok-explanation.explanation in
    subst (λ (n : Numbered). All (CanBeExplained (topology_of n) columns) c.args.groups.now) (sym c.in_ok-explanation.ensures.graph)
    (c.requires columns (named_columns c.args.graph made c.in_ok-explanation.ensures columns named))

pub with_names-requires : goal.with_names-requires
with_names-requires g c =
    let new = c.trees_of_groups.new.explanation in
    subst (λ (n : Numbered). IsExplanation n new) (sym c.in-Ok.ensures.same.graph) c.in-Ok.ensures.network

pub returns-in-Ok-clause-chains : goal.returns-in-Ok-clause-chains
returns-in-Ok-clause-chains g c =
    let old = c.in_ok-explanation.explanation in
    let new = c.trees_of_groups.new.explanation in
    let trees = c.in-Ok.trees in
    both_ok c.with_names.result _ _ _ (λ made names same. λ columns all.
    let have = c.in-Ok.ensures.chains columns (columns_named c.args.graph old c.in_ok-explanation.ensures columns all) in
    let are : (node : ℕ) (name : NodeName) → IsNameOnChain old.graph new.explainer node name → slice_get made.names node ≡ Some (Some name) = λ node name is. names node name (subst (λ (n : Numbered). IsNameOnChain n new.explainer node name) (sym c.in-Ok.ensures.same.graph) is) in
    subst (λ (ts : List (List (List (List ℕ)))). ExplainsGroups (topology_of c.args.graph) columns c.args.groups.now (map (named_chains made.names) ts)) (sym same)
    (subst (λ (n : Numbered). ExplainsGroups (topology_of n) columns c.args.groups.now (map (named_chains made.names) trees)) c.in_ok-explanation.ensures.graph
    (names_explain old.graph new.explainer made.names are columns c.args.groups.now trees have))) c.with_names.ensures.names c.with_names.ensures.trees

pub returns-in-Ok-clause-named : goal.returns-in-Ok-clause-named
returns-in-Ok-clause-named g c =
    let old = c.in_ok-explanation.explanation in
    let is = c.in_ok-explanation.ensures in
    let new = c.trees_of_groups.new.explanation in
    let trees = c.in-Ok.trees in
    both_ok c.with_names.result _ _ _ (λ made names same.
    let have = c.in-Ok.ensures.chains is.names (columns_named c.args.graph old is is.names is.columns) in
    let are : (node : ℕ) (name : NodeName) → IsNameOnChain old.graph new.explainer node name → slice_get made.names node ≡ Some (Some name) = λ node name here. names node name (subst (λ (n : Numbered). IsNameOnChain n new.explainer node name) (sym c.in-Ok.ensures.same.graph) here) in
    subst (All (All (All (All (IsNamedNumber made.names))))) (sym same)
    (all_named old.graph new.explainer made.names are is.names c.args.groups.now trees have)) c.with_names.ensures.names c.with_names.ensures.trees

pub returns-in-Ok-clause-cost : goal.returns-in-Ok-clause-cost
returns-in-Ok-clause-cost g c =
    subst (λ (n : Numbered). CountsFrom (topology_of n) (problems_explained c.args.groups.now) c.args.steps.now c.trees_of_groups.new.steps)
    c.in_ok-explanation.ensures.graph c.trees_of_groups.ensures.cost

pub returns-in-Err-clause-cost : goal.returns-in-Err-clause-cost
returns-in-Err-clause-cost g c =
    subst (λ (n : Numbered). CountsFrom (topology_of n) (problems_explained c.args.groups.now) c.args.steps.now c.trees_of_groups.new.steps)
    c.in_ok-explanation.ensures.graph c.trees_of_groups.ensures.cost
