-- How a net is written as a number.
use Rattle.std.specs.Prelude.{ℕ, List, Option, refl}
use Rattle.std.specs.Coded.{Coded, code_by, coded×, coded_ℕ, coded_list, coded_option}
use Rattle.std.specs.FinMap as map
use Rattle.std.specs.FinSet as set
use Rattle.cb_model.specs.contracts.id.ClassId as class_id
use Rattle.cb_model.specs.contracts.id.RelId as rel_id
use Rattle.cb_model.specs.contracts.node.NodeName as node_name
use Rattle.cb_model.specs.contracts.tables.Tables as tables
use Rattle.cb_model.specs.declared.id.ClassId.{ClassId}
use Rattle.cb_model.specs.declared.id.RelId.{RelId}
use Rattle.cb_model.specs.declared.tables.Tables.{Tables}
use Rattle.cb_model.specs.NodeOrder.{node_cmp}
use Rattle.cb_model.specs.Order.{name_cmp}
use Rattle.cb_network.specs.Topology.{Topology, Link, link_cmp}
use Rattle.cb_instances.specs.Net.{Net}
use Rattle.cb_network.specs.Words.{InstanceName}

abbrev pub name_encoding : Coded (List ℕ)
name_encoding = coded_list coded_ℕ

abbrev pub link_encoding : Coded Link
link_encoding = code_by (List ℕ × (RelId × List ℕ)) (coded× name_encoding (coded× rel_id.the_row.coded name_encoding)) (λ l. (l.from, (l.rel, l.to))) (λ p. record { from = p.0; rel = p.1.0; to = p.1.1 }) (λ _. refl)

abbrev pub topology_encoding : Coded Topology
topology_encoding =
    code_by
    (Tables × (map.FinMap name_cmp ClassId × (set.FinSet link_cmp × set.FinSet node_cmp)))
    (coded× tables.the_row.coded (coded× (map.code name_encoding class_id.the_row.coded) (coded× (set.code link_encoding) (set.code node_name.the_row.coded))))
    (λ t. (t.model, (t.instances, (t.links, t.mutes))))
    (λ p. record { model = p.0; instances = p.1.0; links = p.1.1.0; mutes = p.1.1.1 })
    (λ _. refl)

-- a net is stored as the tuple of its fields
abbrev pub net_encoding : Coded Net
net_encoding =
    code_by
    (Topology × (List (Option InstanceName) × (ℕ × ℕ)))
    (coded× topology_encoding (coded× (coded_list (coded_option name_encoding)) (coded× coded_ℕ coded_ℕ)))
    (λ n. (n.topology, (n.names, (n.capacity, n.next))))
    (λ p. record { topology = p.0; names = p.1.0; capacity = p.1.1.0; next = p.1.1.1 })
    (λ _. refl)
