use Rattle.std.proofs.Common.{List, [], ◌∷◌, ◌++◌, ◌+◌, ℕ, take, refl, sym, subst, arith}
use Rattle.std.proofs.lemmas.List.{take_all}
use Rattle.cb_model.specs.declared.node.NamedGroup.{NamedGroup}
use Rattle.cb_model.proofs.Numbers.{take_more, all_at}
use Rattle.cb_topo.specs.Numbered.{Numbered, topology_of}
use Rattle.cb_outcome.specs.Costs.{members_but_of_quiet, problems_explained}
use Rattle.cb_chain_commands.specs.Explaining.{CanBeExplained, HaveMemberChains, HaveGroupChains, CountsFrom}
use Rattle.cb_chain_commands.proofs.Counting.{counts_same, groups_next, groups_some}
use Rattle.cb_chain_commands.proofs.Adding.{no_groups, groups_more, groups_still, nothing_searched, is_of_itself, names_were, searched_more}
use Rattle.cb_chain_commands.proofs.explaining.trees_of_groups.Goals as goal

pub returns-in_err-all-clause-cost : goal.returns-in_err-all-clause-cost
returns-in_err-all-clause-cost g c =
    counts_same (topology_of c.args.explanation.now.graph) (problems_explained c.args.groups.now) c.args.steps.now c.args.steps.now refl

pub loop-at-init : goal.loop-at-init
loop-at-init g c =
    let now = c.args.explanation.now in (
      nothing_searched now _ c.requires.network (λ columns.
          subst (λ (ts : List (List (List (List ℕ)))). HaveGroupChains now.graph now.explainer columns [] ts) (sym c.in_ok-all.ensures.items)
          (no_groups now.graph now.explainer columns)),
      counts_same (topology_of now.graph) [] c.args.steps.now c.args.steps.now refl,
    )

pub trees_of_group-requires-clause-network : goal.trees_of_group-requires-clause-network
trees_of_group-requires-clause-network g c = is_of_itself c.args.explanation.now c.loop-at.explanation _ c.loop-at.invariant.0

pub trees_of_group-requires-clause-group : goal.trees_of_group-requires-clause-group
trees_of_group-requires-clause-group g c = λ columns named.
    let old = c.args.explanation.now in
    let before = c.loop-at.invariant.0 in
    subst (λ (n : Numbered). CanBeExplained (topology_of n) columns c.at.result.now) (sym before.same.graph)
    (all_at (CanBeExplained (topology_of old.graph) columns) c.args.groups.now c.loop-at.at c.at.result.now c.at.ensures
    (c.requires.groups columns (names_were old c.loop-at.explanation _ before columns named)))

pub loop-at-preserved : goal.loop-at-preserved
loop-at-preserved g c =
    let old = c.args.explanation.now in
    let now = c.loop-at.explanation in
    let new = c.trees_of_group.new.explanation in
    let n = old.graph in
    let groups = c.args.groups.now in
    let i = c.loop-at.at in
    let group = c.at.result.now in
    let all = c.loop-at.all.items in
    let trees = c.in_ok-trees.trees in
    let before = c.loop-at.invariant.0 in
    let cost = subst (λ (m : Numbered). CountsFrom (topology_of m) (members_but_of_quiet group.quiet group.members) c.loop-at.steps c.trees_of_group.new.steps)
    before.same.graph c.trees_of_group.ensures.cost
    in (
      searched_more old now _ before new _ c.in_ok-trees.ensures.network c.in_ok-trees.ensures.same (λ columns named have.
          let here : HaveMemberChains n new.explainer columns group.members trees =
          subst (λ (m : Numbered). HaveMemberChains m new.explainer columns group.members trees) before.same.graph (c.in_ok-trees.ensures.chains columns named)
          in
          let still = groups_still n now.explainer new.explainer c.in_ok-trees.ensures.same.nodes columns (take i groups) all have in
          subst (λ (ts : List (List (List (List ℕ)))). HaveGroupChains n new.explainer columns (take (i + 1) groups) ts) (sym c.in_ok-push.ensures.items)
          (subst (λ (gs : List NamedGroup). HaveGroupChains n new.explainer columns gs (all ++ trees ∷ [])) (sym (take_more groups i group c.at.ensures))
          (groups_more n new.explainer columns (take i groups) group all trees still here))),
      groups_next (topology_of n) groups i group c.args.steps.now c.loop-at.steps c.trees_of_group.new.steps c.at.ensures c.loop-at.invariant.1 cost,
    )

pub returns-in_err-trees-clause-cost : goal.returns-in_err-trees-clause-cost
returns-in_err-trees-clause-cost g c =
    let t = topology_of c.args.explanation.now.graph in
    let groups = c.args.groups.now in
    let i = c.loop-at.at in
    let group = c.at.result.now in
    let cost = subst (λ (m : Numbered). CountsFrom (topology_of m) (members_but_of_quiet group.quiet group.members) c.loop-at.steps c.trees_of_group.new.steps)
    c.loop-at.invariant.0.same.graph c.trees_of_group.ensures.cost
    in
    groups_some t groups (i + 1) c.args.steps.now c.trees_of_group.new.steps
    (groups_next t groups i group c.args.steps.now c.loop-at.steps c.trees_of_group.new.steps c.at.ensures c.loop-at.invariant.1 cost)

pub returns-in_err-push-clause-cost : goal.returns-in_err-push-clause-cost
returns-in_err-push-clause-cost g c =
    let t = topology_of c.args.explanation.now.graph in
    let groups = c.args.groups.now in
    let i = c.loop-at.at in
    let group = c.at.result.now in
    let cost = subst (λ (m : Numbered). CountsFrom (topology_of m) (members_but_of_quiet group.quiet group.members) c.loop-at.steps c.trees_of_group.new.steps)
    c.loop-at.invariant.0.same.graph c.trees_of_group.ensures.cost
    in
    groups_some t groups (i + 1) c.args.steps.now c.trees_of_group.new.steps
    (groups_next t groups i group c.args.steps.now c.loop-at.steps c.trees_of_group.new.steps c.at.ensures c.loop-at.invariant.1 cost)

pub returns-clause-network : goal.returns-clause-network
returns-clause-network g c = c.loop-at.invariant.0.network

pub returns-clause-same : goal.returns-clause-same
returns-clause-same g c = c.loop-at.invariant.0.same

pub returns-clause-chains : goal.returns-clause-chains
returns-clause-chains g c = λ columns named.
    let past = c.loop-at-test.false in
    let end = c.len-at-end.ensures in
    let n = c.args.explanation.now.graph in
    let e = c.loop-at.explanation.explainer in
    subst (λ (ts : List (List (List (List ℕ)))). HaveGroupChains n e columns c.args.groups.now ts) (sym c.of.ensures)
    (subst (λ (gs : List NamedGroup). HaveGroupChains n e columns gs c.loop-at.all.items) (take_all c.loop-at.at c.args.groups.now (omega (arith, past, end)))
    (c.loop-at.invariant.0.chains columns named))

pub returns-clause-cost : goal.returns-clause-cost
returns-clause-cost g c =
    groups_some (topology_of c.args.explanation.now.graph) c.args.groups.now c.loop-at.at c.args.steps.now c.loop-at.steps c.loop-at.invariant.1
