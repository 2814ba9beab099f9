-- The topology without any instance.
use Rattle.std.proofs.Common.{ℕ, List, [], arith}
use Rattle.std.specs.FinMap as map
use Rattle.std.specs.FinSet as set
use Rattle.cb_model.specs.declared.id.ClassId.{ClassId}
use Rattle.cb_model.specs.declared.id.EventId.{EventId}
use Rattle.cb_model.specs.declared.tables.Tables.{Tables}
use Rattle.cb_model.specs.Order.{name_cmp}
use Rattle.cb_model.specs.WellTyped.{WellTyped}
use Rattle.cb_network.specs.Topology.{link_cmp, HasClass}
use Rattle.cb_network.specs.Edits.{link_of}
use Rattle.cb_network.proofs.Accepted.{empty_is_sound}
use Rattle.cb_network.proofs.Kept.{class_of}
use Rattle.cb_instances.specs.declared.id.InstanceId.{InstanceId}
use Rattle.cb_instances.specs.Net.{Net, empty_net, IsLiveInstance, HasEventAt, IsWholeNet}
use Rattle.cb_nodes.specs.declared.id.NodeId.{NodeId}
use Rattle.cb_nodes.specs.declared.node.Node.{Node}
use Rattle.cb_nodes.specs.Table.{Table, IsNode, NumbersEvent as HasEventIn, IsOne}
use Rattle.cb_accept.specs.declared.counts.NodeCounts.{NodeCounts}
use Rattle.cb_accept.specs.Counts.{AreCounts}
use Rattle.cb_topo.specs.Kept.{IsTopologyOf}

module _ (tables : Tables) (typed : WellTyped tables) where
  abbrev net : Net
  net = empty_net tables

  abbrev nodes : Table
  nodes = []

  no_class : (name : List ℕ) (c : ClassId) → HasClass net.topology name c → ⊥
  no_class name c is = let none = map.get-empty {X = ClassId} name_cmp name in cc

  whole : IsWholeNet net
  whole = record {
    one = λ i j name a b. absurd (cc);
    named = λ name live. let (c, is) = class_of net.topology name live in absurd (no_class name c is);
    live = λ i name is. absurd (cc);
    ends = λ a r b link. let none = set.contains-empty link_cmp (link_of a r b) in absurd (cc);
  }

  one : IsOne nodes
  one i j node is is' = absurd (cc)

  live : (id : NodeId) (node : Node) → IsNode nodes id node → IsLiveInstance net node.instance
  live id node is = absurd (cc)

  had : (id : NodeId) (node : Node) → IsNode nodes id node → HasEventAt net node.instance node.event
  had id node is = absurd (cc)

  all : (i : InstanceId) (e : EventId) → IsLiveInstance net i → HasEventAt net i e → HasEventIn nodes i e
  all i e (name, is) has = absurd (cc)

  pub empty_kept : (counts : NodeCounts) → AreCounts net.topology counts → IsTopologyOf net nodes counts
  empty_kept counts are = record {
    sound = empty_is_sound tables;
    typed = typed;
    whole = whole;
    classed = λ name c is. absurd (no_class name c is);
    table = record { one = one; live = live; had = had; all = all; few = omega arith };
    counted = are;
  }
