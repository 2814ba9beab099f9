use Rattle.std.proofs.Common.{◌≡◌, List, sym, subst, ◌∙◌}
use Rattle.std.proofs.lemmas.Bool.{false≢true}
use Rattle.cb_model.specs.declared.node.NodeName.{NodeName}
use Rattle.cb_network.specs.Nodes.{IsProblem}
use Rattle.cb_validity.specs.Spans.{StandsFor}
use Rattle.cb_validity.proofs.SpanLaws.{stands_for_one}
use Rattle.cb_validity.proofs.Canonicals.{problem_is_node}
use Rattle.cb_topo.specs.Numbered.{topology_of}
use Rattle.cb_explain.proofs.Listing.{begins_name}
use Rattle.cb_explain.proofs.listed.root_of.Goals as goal

pub returns-in_default-clause-none : goal.returns-in_default-clause-none
returns-in_default-clause-none c = λ root begins.
    let t = topology_of c.args.topology.now in
    let levels = c.args.levels.now in
    let first = c.at-first.result.now in
    let found = c.in-Some.ensures.found in
    let stands = subst (λ (ns : List NodeName). StandsFor ns first.node found.0) c.as_slice.ensures found.1 in
    let same : found.0 ≡ root = stands_for_one levels.nodes first.node found.0 root stands (begins_name t levels root begins first c.at-first.ensures) in
    let is = (c.is_problem.ensures found.0 found.2).1 (subst (IsProblem t) (sym same) begins.problem) in
    false≢true (sym c.if-is_problem.false ∙ is)

pub returns-in_default-2-clause-none : goal.returns-in_default-2-clause-none
returns-in_default-2-clause-none c = λ root begins.
    let t = topology_of c.args.topology.now in
    let levels = c.args.levels.now in
    let first = c.at-first.result.now in
    let stands = subst (λ (ns : List NodeName). StandsFor ns first.node root) (sym c.as_slice.ensures) (begins_name t levels root begins first c.at-first.ensures) in
    c.in_default.ensures.none root stands (problem_is_node t root begins.problem)
