-- An edit that is made on the parts of a topology.
use Rattle.std.specs.Prelude.{◌≡◌}
use Rattle.std.specs.FinSet as set
use Rattle.cb_model.specs.NodeOrder.{node_cmp}
use Rattle.cb_network.specs.declared.edit.Edit.{Edit}
use Rattle.cb_network.specs.Topology.{link_cmp}
use Rattle.cb_network.specs.Edits.{Changes}
use Rattle.cb_instances.specs.Net.{Net}
use Rattle.cb_nodes.specs.Table.{Table}
use Rattle.cb_accept.specs.declared.counts.NodeCounts.{NodeCounts}
use Rattle.cb_topo.specs.Applied.{Applies}
use Rattle.cb_topo.specs.Kept.{IsTopologyOf}

-- the edit makes the new parts of the old, and what is kept stays so with these counts
pub record Makes (net : Net) (nodes : Table) (edit : Edit) (new_net : Net) (new_nodes : Table) (counts : NodeCounts) : Type 0 where
  pub applies : Applies (record { net = net; nodes = nodes }) edit (record { net = new_net; nodes = new_nodes })
  pub kept : IsTopologyOf new_net new_nodes counts

-- the net with other links and mutes
abbrev pub rewired : Net → set.FinSet link_cmp → set.FinSet node_cmp → Net
rewired net links mutes = record net { topology = record net.topology { links = links; mutes = mutes } }

-- the edit changes links and mutes alone
pub record RewiresNet (old : Net) (edit : Edit) (new : Net) : Type 0 where
  pub links : set.FinSet link_cmp
  pub mutes : set.FinSet node_cmp
  pub is : new ≡ rewired old links mutes
  pub changes : Changes old.topology edit new.topology
