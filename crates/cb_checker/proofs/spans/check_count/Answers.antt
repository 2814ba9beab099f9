use Rattle.std.proofs.Common.{◌≡◌, ◌<◌, ◌+◌, [], ◌∷◌, length, sym, subst, Some, arith}
use Rattle.std.specs.Prelude.{Err, slice_get}
use Rattle.cb_validity.specs.declared.verdict.Rejected.TheVariants.{ExtraSpan}
use Rattle.cb_validity.specs.Checks.{Judges, no_more_problems, no_more_spans}
use Rattle.cb_topo.specs.Numbered.{topology_of}
use Rattle.cb_graph.proofs.Chains.{named_once}
use Rattle.cb_checker.proofs.Spanning.{no_span, extra_span, right_count}
use Rattle.cb_checker.proofs.spans.check_count.Goals as goal

pub returns-then-len-clause-judges : goal.returns-then-len-clause-judges
returns-then-len-clause-judges c = λ whole names named.
    let n = c.args.topology.now in
    let id = c.at.result.now in
    let at = subst (λ k. slice_get c.args.problems.now k ≡ Some id) c.len-then-len.ensures c.at.ensures in
    no_span n c.args.problems.now c.args.spans.now whole names named id c.in-Ok.problem at c.in-Ok.ensures
    (λ a is. named_once n id a c.in-Ok.problem is c.in-Ok.ensures)

pub returns-then-len-2-clause-judges : goal.returns-then-len-2-clause-judges
returns-then-len-2-clause-judges c = λ whole names named.
    let n = c.args.topology.now in
    let spans = c.args.spans.now in
    let more : length c.args.problems.now < length spans = omega (arith, c.if-len-2.true, c.len-3.ensures, c.len-4.ensures) in
    subst (λ m. Judges (topology_of n) whole (no_more_problems names spans ∷ no_more_spans names spans ∷ []) (Err (ExtraSpan (m + 1)))) (sym c.len-then-len-2.ensures)
    (extra_span n c.args.problems.now spans whole names named more)

pub returns-clause-judges : goal.returns-clause-judges
returns-clause-judges c = λ whole names named.
    let same : length c.args.problems.now ≡ length c.args.spans.now =
    omega (arith, c.if-len.false, c.if-len-2.false, c.len.ensures, c.len-2.ensures, c.len-3.ensures, c.len-4.ensures)
    in
    right_count c.args.topology.now c.args.problems.now c.args.spans.now whole names named same
