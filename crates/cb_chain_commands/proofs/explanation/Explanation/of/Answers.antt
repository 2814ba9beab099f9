use Rattle.std.proofs.Common.{refl, subst}
use Rattle.cb_network.specs.Nodes.{AreColumns}
use Rattle.cb_topo.specs.Numbered.{Numbered, topology_of, AreNamed}
use Rattle.cb_explain.specs.Explained.{IsExplainerOf}
use Rattle.cb_chain_commands.proofs.explanation.Explanation.of.Goals as goal

pub returns : goal.returns
returns c =
    let same = c.topology-topology.ensures in
    let (names, columns, named) = c.in_ok-columns.ensures in
    record {
      graph = refl;
      names = names;
      columns = subst (λ (n : Numbered). AreColumns (topology_of n) names) same columns;
      named = subst (λ (n : Numbered). AreNamed n c.in_ok-columns.columns names) same named;
      explainer = subst (λ (n : Numbered). IsExplainerOf n c.in_ok-explainer.explainer) same c.in_ok-explainer.ensures;
    }
