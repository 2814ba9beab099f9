use Rattle.cb_explain.specs.Explained.{IsExplainerOf}
use Rattle.cb_test_causes.proofs.chains.explain_cases.Given as goal

abbrev pub invariant-loop-case : goal.invariant-loop-case
invariant-loop-case g l = IsExplainerOf l.graph l.explainer
