use Rattle.std.proofs.Common.{ℕ, subst, arith}
use Rattle.std.proofs.lemmas.Result.{IfOk-weaker}
use Rattle.cb_network.specs.Nodes.{IsProblem}
use Rattle.cb_network.proofs.Counts.{count_is_one}
use Rattle.cb_topo.specs.Numbered.{topology_of}
use Rattle.cb_cache.specs.Most.{HasAtMost}
use Rattle.cb_cache.specs.Prepared.{IsEmptyFor}
use Rattle.cb_cache.proofs.rows.capacity_now.Goals as goal

pub returns : goal.returns
returns c =
    let t = topology_of c.args.topology.now in
    let most : HasAtMost t c.problem_count.result = λ k is.
    let same = count_is_one (IsProblem t) k c.problem_count.result is c.problem_count.ensures.count in
    omega arith in
    IfOk-weaker c.make_capacity.result _ _ (λ unfilled empty.
    (c.problem_count.result, most, subst (λ (capacity : ℕ). IsEmptyFor capacity c.problem_count.result unfilled) c.node_capacity.ensures.value empty)) c.make_capacity.ensures
