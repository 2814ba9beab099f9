use Rattle.std.proofs.Common.{sym, subst}
use Rattle.std.proofs.lemmas.Result.{IfOk-weaker}
use Rattle.cb_topo.specs.Numbered.{Numbered}
use Rattle.cb_explain.specs.Explained.{IsNameOnChain}
use Rattle.cb_chain_commands.proofs.explanation.Explanation.into_names.Goals as goal

pub returns : goal.returns
returns c =
    IfOk-weaker c.into_names-names.result _ _ (λ names all. λ node name is.
    all node name (subst (λ (n : Numbered). IsNameOnChain n c.args.self.explainer node name) (sym c.topology.ensures) is)) c.into_names-names.ensures
