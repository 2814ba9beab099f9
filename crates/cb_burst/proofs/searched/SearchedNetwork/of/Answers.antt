use Rattle.std.proofs.Common.{ℕ, ◌≤◌, ◌+◌, subst}
use Rattle.cb_change.specs.Costs.{IsOpenCost}
use Rattle.cb_topo.specs.Numbered.{Numbered, topology_of}
use Rattle.cb_burst.proofs.searched.SearchedNetwork.of.Goals as goal

pub returns-in-Ok-clause-cost : goal.returns-in-Ok-clause-cost
returns-in-Ok-clause-cost g c =
    subst (λ (n : Numbered). (cost : ℕ) → IsOpenCost (topology_of n) cost → c.search.new.steps ≤ c.args.steps.now + cost) c.in_ok-graph.ensures c.search.ensures.cost

pub returns-in-Err-clause-cost : goal.returns-in-Err-clause-cost
returns-in-Err-clause-cost g c =
    subst (λ (n : Numbered). (cost : ℕ) → IsOpenCost (topology_of n) cost → c.search.new.steps ≤ c.args.steps.now + cost) c.in_ok-graph.ensures c.search.ensures.cost
