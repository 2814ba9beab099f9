use Rattle.std.proofs.Common.{sym, subst}
use Rattle.cb_instances.specs.Net.{Net}
use Rattle.cb_nodes.specs.Table.{Table}
use Rattle.cb_topo.specs.Numbered.{IsWhole}
use Rattle.cb_topo.proofs.Naming.{whole}
use Rattle.cb_topo.proofs.topology.Topology.change.Goals as goal

pub returns-in_err-self-inside-clause-whole : goal.returns-in_err-self-inside-clause-whole
returns-in_err-self-inside-clause-whole c =
    let net = c.self.inside.net in
    let nodes = c.self.inside.nodes in
    let same = c.in_err-self-inside.ensures in
    let was : IsWhole (record { net = net; nodes = nodes }) = whole (record { net = net; nodes = nodes }) c.self.inside.counts c.self.invariant.topology in
    subst (λ (m : Net). IsWhole (record { net = m; nodes = c.make.new.nodes })) (sym same.net)
    (subst (λ (t : Table). IsWhole (record { net = net; nodes = t })) (sym same.nodes) was)

pub invariant_of-self-2 : goal.invariant_of-self-2
invariant_of-self-2 c = record { topology = c.in_ok-self-inside.ensures.ok.kept; settled = tt }

pub returns-clause-whole : goal.returns-clause-whole
returns-clause-whole c = whole (record { net = c.make.new.net; nodes = c.make.new.nodes }) c.in_ok-self-inside.field-0 c.in_ok-self-inside.ensures.ok.kept
