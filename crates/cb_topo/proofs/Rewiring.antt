-- Other links and mutes leave instances, nodes and counts as they were.
use Rattle.std.proofs.Common.{length, sym, subst}
use Rattle.std.specs.FinSet as set
use Rattle.cb_model.specs.NodeOrder.{node_cmp}
use Rattle.cb_model.specs.declared.node.NodeName.{NodeName}
use Rattle.cb_network.specs.declared.edit.Edit.{Edit}
use Rattle.cb_network.specs.Topology.{link_cmp}
use Rattle.cb_network.specs.Nodes.{IsNodeOf, IsProblem, IsSymptomNode}
use Rattle.cb_network.specs.Sound.{Sound}
use Rattle.cb_network.specs.Laws.{HasGoodName}
use Rattle.cb_network.specs.Edits.{Changes, IsAccepted}
use Rattle.cb_network.proofs.Accepted.{edit_keeps_sound}
use Rattle.cb_network.proofs.Counts.{nodes_are, problems_are, symptoms_are, same_count}
use Rattle.cb_network.proofs.Kept.{live_of}
use Rattle.cb_instances.specs.Net.{Net, IsWholeNet}
use Rattle.cb_nodes.specs.Table.{Table}
use Rattle.cb_accept.specs.declared.counts.NodeCounts.{NodeCounts}
use Rattle.cb_accept.specs.Counts.{AreCounts}
use Rattle.cb_topo.specs.Applied.{IsNodeCapacityAfter, IsInstanceCapacityAfter}
use Rattle.cb_topo.specs.Kept.{IsTopologyOf, FitsTable}
use Rattle.cb_topo.specs.Made.{Makes, RewiresNet, rewired}
use Rattle.cb_network.proofs.Typed.{typed_is_regular}

module _ (n : Net) (links : set.FinSet link_cmp) (mutes : set.FinSet node_cmp) where
  abbrev new : Net
  new = rewired n links mutes

  nodes_stay : (q : NodeName) → IsNodeOf n.topology q → IsNodeOf new.topology q
  nodes_stay q is = (nodes_are new.topology q).1 ((nodes_are n.topology q).0 is)

  nodes_were : (q : NodeName) → IsNodeOf new.topology q → IsNodeOf n.topology q
  nodes_were q is = (nodes_are n.topology q).1 ((nodes_are new.topology q).0 is)

  problems_same : (q : NodeName) → (IsProblem n.topology q → IsProblem new.topology q) × (IsProblem new.topology q → IsProblem n.topology q)
  problems_same q = (
    λ is. (problems_are new.topology q).1 ((problems_are n.topology q).0 is),
    λ is. (problems_are n.topology q).1 ((problems_are new.topology q).0 is),
  )

  symptoms_same : (q : NodeName) → (IsSymptomNode n.topology q → IsSymptomNode new.topology q) × (IsSymptomNode new.topology q → IsSymptomNode n.topology q)
  symptoms_same q = (
    λ is. (symptoms_are new.topology q).1 ((symptoms_are n.topology q).0 is),
    λ is. (symptoms_are n.topology q).1 ((symptoms_are new.topology q).0 is),
  )

  counts_stay : (counts : NodeCounts) → AreCounts n.topology counts → AreCounts new.topology counts
  counts_stay counts are = record {
    nodes = same_count (IsNodeOf n.topology) (IsNodeOf new.topology) (λ q. (nodes_stay q, nodes_were q)) counts.nodes are.nodes;
    problems = same_count (IsProblem n.topology) (IsProblem new.topology) problems_same counts.problems are.problems;
    symptoms = same_count (IsSymptomNode n.topology) (IsSymptomNode new.topology) symptoms_same counts.symptoms are.symptoms;
  }

  whole_stays : IsWholeNet n → Sound new.topology → IsWholeNet new
  whole_stays whole sound = record {
    one = whole.one;
    named = whole.named;
    live = whole.live;
    ends = λ a r b link.
        let fits = sound.fit a r b link in
        let (i, from) = whole.named a (live_of n.topology a fits.class_a fits.a_is) in
        let (j, to) = whole.named b (live_of n.topology b fits.class_b fits.b_is) in
        (i, j, from, to);
  }

  fits_stay : (nodes : Table) → FitsTable n nodes → FitsTable new nodes
  fits_stay nodes fits = record {
    one = fits.one;
    live = fits.live;
    had = fits.had;
    all = fits.all;
    few = fits.few;
  }

  pub rewired_kept : (nodes : Table) (counts : NodeCounts) → IsTopologyOf n nodes counts → Sound new.topology → IsTopologyOf new nodes counts
  rewired_kept nodes counts kept sound = record {
    sound = sound;
    typed = kept.typed;
    whole = whole_stays kept.whole sound;
    classed = kept.classed;
    table = fits_stay nodes kept.table;
    counted = counts_stay counts kept.counted;
  }

  -- an edit of links and mutes alone is made on the whole
  pub rewired_makes : (nodes : Table) (counts : NodeCounts) (edit : Edit) → IsTopologyOf n nodes counts → HasGoodName edit
      → IsAccepted n.topology edit → IsNodeCapacityAfter (record { net = n; nodes = nodes }) edit (length nodes) → IsInstanceCapacityAfter (record { net = n; nodes = nodes }) edit n.capacity
      → Changes n.topology edit new.topology → Makes n nodes edit new nodes counts
  rewired_makes nodes counts edit kept good accepted capacity above changes =
      let sound = edit_keeps_sound n.topology new.topology edit (typed_is_regular n.topology.model kept.typed) good kept.sound (accepted, changes) in
      record {
        applies = record {
          after = (accepted, changes);
          instances = λ i x is live. is;
          nodes = λ k q named is_node. record { node = named.node; is = named.is; instance = named.instance; event = named.event };
          node_capacity = capacity;
          instance_capacity = above;
        };
        kept = rewired_kept nodes counts kept sound;
      }

pub rewires_makes : (n m : Net) (nodes : Table) (counts : NodeCounts) (edit : Edit) → IsTopologyOf n nodes counts → HasGoodName edit
    → IsAccepted n.topology edit → IsNodeCapacityAfter (record { net = n; nodes = nodes }) edit (length nodes) → IsInstanceCapacityAfter (record { net = n; nodes = nodes }) edit n.capacity
    → RewiresNet n edit m → Makes n nodes edit m nodes counts
rewires_makes n m nodes counts edit kept good accepted capacity above rewires =
    let changes = subst (λ (k : Net). Changes n.topology edit k.topology) rewires.is rewires.changes in
    subst (λ k. Makes n nodes edit k nodes counts) (sym rewires.is)
    (rewired_makes n rewires.links rewires.mutes nodes counts edit kept good accepted capacity above changes)
