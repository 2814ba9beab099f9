-- How many nodes, problems and symptom nodes a topology has.
use Rattle.std.specs.Prelude.{◌≡◌, ◌≤◌}
use Rattle.cb_model.specs.declared.id.ClassId.{ClassId}
use Rattle.cb_model.specs.declared.tables.Tables.{Tables}
use Rattle.cb_model.specs.Limits.{event_limit}
use Rattle.cb_network.specs.Topology.{Topology, IsLive, HasClass, empty_topology}
use Rattle.cb_network.specs.Nodes.{IsNodeOf, IsProblem, IsSymptomNode, IsCount}
use Rattle.cb_network.specs.Sound.{node_limit, problem_limit, symptom_limit}
use Rattle.cb_network.specs.Edits.{with_instance, without_instance}
use Rattle.cb_accept.specs.declared.counts.NodeCounts.{NodeCounts}
use Rattle.cb_network.specs.Words.{InstanceName}

-- these are the topology's numbers of nodes, problems and symptom nodes
pub record AreCounts (t : Topology) (counts : NodeCounts) : Type 0 where
  pub nodes : IsCount (IsNodeOf t) counts.nodes
  pub problems : IsCount (IsProblem t) counts.problems
  pub symptoms : IsCount (IsSymptomNode t) counts.symptoms

-- no number is above its limit
pub record AreWithin (counts : NodeCounts) : Type 0 where
  pub nodes : counts.nodes ≤ node_limit
  pub problems : counts.problems ≤ problem_limit
  pub symptoms : counts.symptoms ≤ symptom_limit

-- a topology of one instance of the class alone has these counts, whatever its name
abbrev pub AreOwn : Tables → ClassId → NodeCounts → Type 0
AreOwn tables class own = (name : InstanceName) → AreCounts (with_instance (empty_topology tables) name class) own

-- no number is above that of the events that a class may have
pub record AreOfOneClass (counts : NodeCounts) : Type 0 where
  pub nodes : counts.nodes ≤ event_limit
  pub problems : counts.problems ≤ event_limit
  pub symptoms : counts.symptoms ≤ event_limit

-- a topology of the model with the first counts has the second ones once it has a further instance of the class
abbrev pub CountWith : Tables → NodeCounts → ClassId → NodeCounts → Type 0
CountWith tables old class new = (t : Topology) (name : InstanceName) → t.model ≡ tables → ¬ IsLive t name → AreCounts t old
    → AreCounts (with_instance t name class) new

-- a topology of the model with the first counts has the second ones once it has lost an instance of the class
abbrev pub CountWithout : Tables → NodeCounts → ClassId → NodeCounts → Type 0
CountWithout tables old class new = (t : Topology) (name : InstanceName) → t.model ≡ tables → HasClass t name class → AreCounts t old
    → AreCounts (without_instance t name) new
