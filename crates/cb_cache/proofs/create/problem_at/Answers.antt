use Rattle.std.proofs.Common.{◌≡◌, sym, subst, ◌∙◌}
use Rattle.std.proofs.lemmas.Bool.{false≢true}
use Rattle.cb_instances.specs.Net.{IsNamed, event_name}
use Rattle.cb_nodes.specs.declared.node.Node.{Node}
use Rattle.cb_nodes.specs.Table.{node_of}
use Rattle.cb_nodes.proofs.Listing.{one_node}
use Rattle.cb_topo.specs.Numbered.{topology_of, IsNodeNamed}
use Rattle.cb_cache.proofs.create.problem_at.Goals as goal

pub returns-else-is_problem-clause-none : goal.returns-else-is_problem-clause-none
returns-else-is_problem-clause-none c = λ id is (name, named, problem).
    let n = c.args.topology.now in
    let node = node_of c.args.instance c.args.event in
    let same : named.node ≡ node = one_node n.nodes id named.node node named.is is in
    let here : IsNodeNamed n c.in_ok-node.node name = record {
      node = node;
      is = c.in_ok-node.ensures.found;
      instance = subst (λ (x : Node). IsNamed n.net x.instance name.instance) same named.instance;
      event = subst (λ (x : Node). event_name (topology_of n).model x.event ≡ name.event) same named.event;
    } in
    false≢true (sym c.if-is_problem.false ∙ (c.is_problem.ensures name here).1 problem)
