use Rattle.std.proofs.Common.{List, ℕ, subst, sym, ap}
use Rattle.cb_finding.specs.Finding.{IsBurst}
use Rattle.cb_topo.specs.Numbered.{Numbered, topology_of}
use Rattle.cb_file_kinds.proofs.Chain.{if_ok_more}
use Rattle.cb_outcome.specs.Costs.{problems_explained}
use Rattle.cb_outcome.specs.Outcome.{done}
use Rattle.cb_chain_commands.specs.Explaining.{IsExplainedBy, CountsFrom}
use Rattle.cb_chain_commands.proofs.Counting.{opening_cost, whole_cost}
use Rattle.cb_chain_commands.proofs.explaining.lines_of_explain.Goals as goal

pub returns-in_err-found-clause-cost : goal.returns-in_err-found-clause-cost
returns-in_err-found-clause-cost g c = λ cost is.
    opening_cost (topology_of c.args.topology) c.args.raised.now c.args.steps.now c.search_all.new.steps cost c.search_all.ensures.cost is

pub explained-requires : goal.explained-requires
explained-requires g c =
    let found = c.in_ok-found.found in (
      c.args.raised.now,
      subst (λ (n : Numbered). IsBurst (topology_of n) c.args.raised.now found.finding) (sym c.in_ok-found.ensures.graph) c.in_ok-found.ensures.finding,
    )

pub returns-clause-lines : goal.returns-clause-lines
returns-clause-lines g c =
    let found = c.in_ok-found.found in
    let finding = found.finding in
    let raised = c.args.raised.now in
    let burst = c.in_ok-found.ensures.finding in
    if_ok_more c.explained.result _ _ (λ lines explained. λ whole.
    let all : (burst : IsBurst (topology_of c.args.topology) raised finding) → IsExplainedBy (topology_of c.args.topology) burst.columns finding lines =
    subst (λ (n : Numbered). (burst : IsBurst (topology_of n) raised finding) → IsExplainedBy (topology_of n) burst.columns finding lines)
    c.in_ok-found.ensures.graph (explained raised)
    in
    let (chains, explains, text) = all burst in
    record { finding = finding; burst = burst; chains = chains; explains = explains; gives = ap (λ (out : List ℕ). done out whole) text }) c.explained.ensures.lines

pub returns-clause-cost : goal.returns-clause-cost
returns-clause-cost g c = λ cost is.
    let found = c.in_ok-found.found in
    let more = subst (λ (n : Numbered). CountsFrom (topology_of n) (problems_explained found.finding.groups) c.search_all.new.steps c.explained.new.steps)
    c.in_ok-found.ensures.graph c.explained.ensures.cost
    in
    whole_cost (topology_of c.args.topology) c.args.raised.now found.finding c.args.steps.now c.search_all.new.steps c.explained.new.steps cost
    c.in_ok-found.ensures.finding c.search_all.ensures.cost more is
