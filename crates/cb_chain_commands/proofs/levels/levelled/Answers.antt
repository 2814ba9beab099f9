use Rattle.std.proofs.Common.{Some, refl, subst, inr}
use Rattle.cb_topo.specs.Numbered.{Numbered, topology_of}
use Rattle.cb_report.specs.declared.fault.Fault.TheVariants as faults
use Rattle.cb_chain_commands.specs.Named.{IsProblemNamed, NamesNoProblem}
use Rattle.cb_chain_commands.proofs.Levelling.{gives_levels, counts_none, counts_named}
use Rattle.cb_chain_commands.proofs.levels.levelled.Goals as goal

pub returns-in_default-clause-gives : goal.returns-in_default-clause-gives
returns-in_default-clause-gives g c = λ whole.
    inr (record {
      none = subst (λ (n : Numbered). NamesNoProblem (topology_of n) c.args.word) c.topology.ensures c.in_default.ensures.none;
      gives = λ i. record { out = c.new.ensures.items i; fault = Some (faults.NoProblem c.args.word); whole = whole };
    })

pub returns-in_default-clause-cost : goal.returns-in_default-clause-cost
returns-in_default-clause-cost g c = counts_none c.args.graph.now c.args.word c.args.steps.now c.args.steps.now refl

pub text_of_levels-requires : goal.text_of_levels-requires
text_of_levels-requires g c =
    let is = subst (λ (n : Numbered). IsProblemNamed n c.args.word c.in-Some.problem) c.topology.ensures c.in-Some.ensures.some in
    record { name = is.name; named = is.named; problem = is.problem }

pub returns-in_err-bytes-clause-cost : goal.returns-in_err-bytes-clause-cost
returns-in_err-bytes-clause-cost g c =
    let is = subst (λ (n : Numbered). IsProblemNamed n c.args.word c.in-Some.problem) c.topology.ensures c.in-Some.ensures.some in
    counts_named c.args.graph.now c.args.word c.in-Some.problem is c.args.steps.now c.text_of_levels.new.steps c.text_of_levels.ensures.cost

pub returns-clause-gives : goal.returns-clause-gives
returns-clause-gives g c = λ whole.
    let is = subst (λ (n : Numbered). IsProblemNamed n c.args.word c.in-Some.problem) c.topology.ensures c.in-Some.ensures.some in
    let (levels, at, text) = c.in_ok-bytes.ensures.text in
    gives_levels c.args.graph.now c.args.word c.in-Some.problem levels c.in_ok-bytes.bytes.items is at text whole

pub returns-clause-cost : goal.returns-clause-cost
returns-clause-cost g c =
    let is = subst (λ (n : Numbered). IsProblemNamed n c.args.word c.in-Some.problem) c.topology.ensures c.in-Some.ensures.some in
    counts_named c.args.graph.now c.args.word c.in-Some.problem is c.args.steps.now c.text_of_levels.new.steps c.text_of_levels.ensures.cost
