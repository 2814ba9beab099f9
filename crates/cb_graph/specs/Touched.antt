-- Nodes that an edit touches, by numbers, found before it is made.
use Rattle.std.specs.Prelude.{◌≡◌, ◌≢◌, ◌⊎◌, ◌↔◌, ℕ, List, [], ◌∷◌, Bool, Some, slice_get}
use Rattle.cb_model.specs.declared.id.ClassId.{ClassId}
use Rattle.cb_model.specs.declared.id.EventId.{EventId}
use Rattle.cb_model.specs.declared.id.RelId.{RelId}
use Rattle.cb_model.specs.declared.tables.Place.{Place}
use Rattle.cb_model.specs.declared.tables.RuleRow.{RuleRow}
use Rattle.cb_model.specs.declared.node.NodeName.{NodeName}
use Rattle.cb_model.specs.Classes.{HasRule}
use Rattle.cb_network.specs.declared.edit.Edit.{Edit}
use Rattle.cb_network.specs.declared.edit.Edit.TheVariants.{Delete, Link, Unlink}
use Rattle.cb_network.specs.Topology.{Topology, HasClass}
use Rattle.cb_network.specs.Edits.{NamesPair}
use Rattle.cb_change.specs.Touched.{IsTouched}
use Rattle.cb_instances.specs.declared.id.InstanceId.{InstanceId}
use Rattle.cb_instances.specs.Net.{Net, IsNamed, IsLiveInstance, LinkAt, name_at}
use Rattle.cb_successors.specs.Rows.{Has}
use Rattle.cb_topo.specs.Numbered.{Numbered, topology_of, IsNodeNamed}
use Rattle.cb_graph.specs.declared.moves.Moves.{Moves}
use Rattle.cb_graph.specs.declared.moves.Moves.TheVariants.{Pair, AllOf}
use Rattle.cb_graph.specs.Edges.{number}
use Rattle.cb_graph.specs.Walks.{IsEventNumber, RunsAt, instance}

-- the node of this number is touched by the edit that makes the new topology
abbrev pub IsTouchedNumber : Numbered → Topology → ℕ → Type 0
IsTouchedNumber old new k = (name : NodeName) × IsNodeNamed old (number k) name × IsTouched (topology_of old) new name

-- these are the instances of these names, and the relation of this name with its inverse
pub record ArePair (n : Net) (a rel b : List ℕ) (from : InstanceId) (r : RelId) (to : InstanceId) (s : RelId) : Type 0 where
  pub from_is : IsNamed n from a
  pub to_is : IsNamed n to b
  pub names : NamesPair n.topology a rel r s

-- these are the links between instances of these names
abbrev pub ArePairOf : Net → List ℕ → List ℕ → List ℕ → Moves → Type 0
ArePairOf n a rel b (Pair from r to s) = ArePair n a rel b from r to s
ArePairOf n a rel b (AllOf id) = ⊥

-- these are all links of the instance of this name
abbrev pub AreAllOf : Net → List ℕ → Moves → Type 0
AreAllOf n name (Pair from r to s) = ⊥
AreAllOf n name (AllOf id) = IsNamed n id name

-- these are the links that the edit moves
abbrev pub AreMovedBy : Net → Edit → Moves → Type 0
AreMovedBy n (Link a rel b) moves = ArePairOf n a rel b moves
AreMovedBy n (Unlink a rel b) moves = ArePairOf n a rel b moves
AreMovedBy n (Delete name) moves = AreAllOf n name moves
AreMovedBy n edit moves = ⊥

-- the instances at their ends are live
abbrev pub HaveEnds : Net → Moves → Type 0
HaveEnds n (Pair from r to s) = IsLiveInstance n from × IsLiveInstance n to
HaveEnds n (AllOf id) = IsLiveInstance n id

-- one of the links leads from the instance by the relation, to one that stays if the instance goes
abbrev pub StartsAt : Net → Moves → RelId → InstanceId → Type 0
StartsAt n (Pair from r to s) q i = ((q ≡ r) × (i ≡ from)) ⊎ ((q ≡ s) × (i ≡ to))
StartsAt n (AllOf id) q i = LinkAt n i q id

-- links by the first of these places lead from the instance to where one of those that move starts, by the place that they come to
abbrev pub ComesAt : Net → Moves → InstanceId → List Place → Type 0
ComesAt n moves i [] = ⊥
ComesAt n moves i (place ∷ rest) = (last : InstanceId) × RunsAt n place.rel place.plus i last
    × (StartsAt n moves place.rel last ⊎ ((j : InstanceId) × LinkAt n last place.rel j × ComesAt n moves j rest))

-- the row has exactly the instances from which the path comes to a link that moves
abbrev pub IsWhereComes : Net → Moves → List Place → List Bool → Type 0
IsWhereComes n moves path row = (k : ℕ) → Has row k ↔ ComesAt n moves (instance k) path

-- the instance is there still when the links have moved
abbrev pub Remains : Moves → InstanceId → Type 0
Remains (Pair from r to s) i = Unit {0}
Remains (AllOf id) i = i ≢ id

-- the class of the instance has the rule, and the instance stays
pub record RemainsWith (n : Net) (moves : Moves) (rule : ℕ) (i : InstanceId) : Type 0 where
  pub class : ClassId
  pub of_class : HasClass n.topology (name_at n i) class
  pub has : HasRule n.topology.model class rule
  pub remains : Remains moves i

-- this is the number of the event at the instance, which stays and has the rule
pub record IsCauseNumber (n : Numbered) (moves : Moves) (rule : ℕ) (cause : EventId) (i : InstanceId) (k : ℕ) : Type 0 where
  pub remains : RemainsWith n.net moves rule i
  pub is : IsEventNumber n cause i k

-- the rule's path comes to a link that moves, from an instance that has the rule, and this is the number of its cause there
pub record TouchesBy (n : Numbered) (moves : Moves) (rule : ℕ) (k : ℕ) : Type 0 where
  pub row : RuleRow
  pub of_row : slice_get (topology_of n).model.rules rule ≡ Some row
  pub at : InstanceId
  pub comes : ComesAt n.net moves at row.path
  pub is : IsCauseNumber n moves rule row.cause at k
