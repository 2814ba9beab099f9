use Rattle.std.proofs.Common.{IfOk, subst, ◌∙◌, [], arith}
use Rattle.cb_change.specs.Costs.{IsOpenCost, CountsAtMost}
use Rattle.cb_change.proofs.Totals.{every_open_cost}
use Rattle.cb_topo.specs.Numbered.{Numbered, topology_of}
use Rattle.cb_network.proofs.Typed.{typed_is_regular}
use Rattle.cb_session.specs.State.{State, StandsForEntries}
use Rattle.cb_log_commands.proofs.correlate.open_session.Goals as goal

pub returns-in_err-graph-clause-regular : goal.returns-in_err-graph-clause-regular
returns-in_err-graph-clause-regular g c = typed_is_regular (topology_of c.args.topology).model c.model-typed.ensures.typed

pub returns-in_err-cache-clause-regular : goal.returns-in_err-cache-clause-regular
returns-in_err-cache-clause-regular g c = typed_is_regular (topology_of c.args.topology).model c.model-typed.ensures.typed

pub returns-clause-regular : goal.returns-clause-regular
returns-clause-regular g c = typed_is_regular (topology_of c.args.topology).model c.model-typed.ensures.typed

pub returns-clause-stands : goal.returns-clause-stands
returns-clause-stands g c =
    subst (λ (n : Numbered). IfOk c.session_for.result (λ (session : State). StandsForEntries session (topology_of n) []))
    (c.in_ok-cache.ensures.graph ∙ c.in_ok-graph.ensures) c.session_for.ensures.stands

pub returns-in_err-cache-clause-cost : goal.returns-in_err-cache-clause-cost
returns-in_err-cache-clause-cost g c = λ cost is. let same = c.in_err-cache.ensures.steps in omega (arith, same)

pub returns-clause-cost : goal.returns-clause-cost
returns-clause-cost g c =
    every_open_cost (topology_of c.args.topology) c.args.steps.now c.open.new.steps
    (subst (λ (n : Numbered). CountsAtMost (IsOpenCost (topology_of n)) c.args.steps.now c.open.new.steps) c.in_ok-graph.ensures c.in_ok-cache.ensures.cost)
