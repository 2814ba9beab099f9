-- What is kept is within the limits.
use Rattle.std.proofs.Common.{ℕ, ◌+◌, ◌≤◌, max, List, length, is_some, arith}
use Rattle.std.proofs.lemmas.List.Sums.{count_by-le-length}
use Rattle.cb_model.specs.declared.id.ClassId.{ClassId}
use Rattle.cb_model.specs.declared.id.EventId.{EventId}
use Rattle.cb_model.specs.declared.node.NodeName.{NodeName}
use Rattle.cb_model.specs.declared.tables.Tables.{Tables}
use Rattle.cb_model.specs.Views.{AreEventsOf}
use Rattle.cb_model.specs.WellTyped.{WellTyped}
use Rattle.cb_network.specs.Nodes.{IsNodeOf, IsProblem, IsSymptomNode, IsCount, IsCountWithin}
use Rattle.cb_network.specs.Sound.{node_limit, problem_limit, symptom_limit}
use Rattle.cb_network.proofs.Counts.{count_is_one}
use Rattle.cb_instances.specs.Net.{Net}
use Rattle.cb_nodes.specs.Table.{Table, count_of, capacity_with}
use Rattle.cb_accept.specs.declared.counts.NodeCounts.{NodeCounts}
use Rattle.cb_accept.specs.Counts.{AreWithin}
use Rattle.cb_accept.proofs.Own.{few_events}
use Rattle.cb_topo.specs.Kept.{IsTopologyOf}

-- the number itself is within the limit
count_within : (P : NodeName → Type 0) (n limit : ℕ) → IsCount P n → IsCountWithin P limit → n ≤ limit
count_within P n limit count (k, counted, few) = let same = count_is_one P n k count counted in omega arith

pub kept_within : (net : Net) (nodes : Table) (counts : NodeCounts) → IsTopologyOf net nodes counts → AreWithin counts
kept_within net nodes counts kept = record {
  nodes = count_within (IsNodeOf net.topology) counts.nodes node_limit kept.counted.nodes kept.sound.few_nodes;
  problems = count_within (IsProblem net.topology) counts.problems problem_limit kept.counted.problems kept.sound.few_problems;
  symptoms = count_within (IsSymptomNode net.topology) counts.symptoms symptom_limit kept.counted.symptoms kept.sound.few_symptoms;
}

-- the numbers in use stay few with the events of a further instance
pub few_numbers : (tables : Tables) → WellTyped tables → (nodes : Table) → length nodes ≤ node_limit → (c : ClassId) (events : List EventId)
    → AreEventsOf tables c events → capacity_with nodes (length events) ≤ 4294967296
few_numbers tables typed nodes few c events are =
    let some = few_events tables c typed events are in
    let counted = count_by-le-length is_some nodes in
    limited (length nodes) (count_of nodes) (length events) few counted some
  where
    limited : (n k m : ℕ) → n ≤ node_limit → k ≤ n → m ≤ 256 → max n (k + m) ≤ 4294967296
    limited n k m few counted some = omega arith
