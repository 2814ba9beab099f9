use Rattle.std.proofs.Common.{◌≡◌, ◌++◌}
use Rattle.cb_gen.specs.Topology.{created, of_sites}
use Rattle.cb_gen.proofs.topology.push_all_created.Given as goal

abbrev pub invariant-loop-site : goal.invariant-loop-site
invariant-loop-site l = l.out.items ≡ l.fn.out.items ++ of_sites created l.site
