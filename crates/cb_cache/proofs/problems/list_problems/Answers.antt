use Rattle.cb_cache.proofs.Gathered.{gathered_permuted}
use Rattle.cb_cache.proofs.problems.list_problems.Goals as goal

pub returns-clause-problems : goal.returns-clause-problems
returns-clause-problems c = gathered_permuted c.args.topology.now c.push_problems.new.list.items c.scatter.new.items.items c.scatter.ensures.items c.push_problems.ensures.problems
