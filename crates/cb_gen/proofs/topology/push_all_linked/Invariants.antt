use Rattle.std.proofs.Common.{◌≡◌, ◌++◌}
use Rattle.cb_gen.specs.Topology.{ring_links, of_sites}
use Rattle.cb_gen.proofs.topology.push_all_linked.Given as goal

abbrev pub invariant-loop-site : goal.invariant-loop-site
invariant-loop-site l = l.out.items ≡ l.fn.out.items ++ of_sites (ring_links l.sites) l.site
