-- How a numbered topology is written as a number.
use Rattle.std.specs.Prelude.{refl}
use Rattle.std.specs.Coded.{Coded, code_by, coded×, coded_list, coded_option}
use Rattle.cb_instances.specs.Encoding.{net_encoding}
use Rattle.cb_instances.specs.Net.{Net}
use Rattle.cb_nodes.specs.contracts.node.Node as node
use Rattle.cb_nodes.specs.Table.{Table}
use Rattle.cb_topo.specs.Numbered.{Numbered}

-- a numbered topology is stored as the pair of its fields
abbrev pub numbered_encoding : Coded Numbered
numbered_encoding =
    code_by (Net × Table) (coded× net_encoding (coded_list (coded_option node.the_row.coded))) (λ n. (n.net, n.nodes)) (λ p. record { net = p.0; nodes = p.1 }) (λ _. refl)
