-- The order of all nodes, by that of the instances and that of the events of each class.
use Rattle.std.specs.Prelude.{◌≡◌, ◌↔◌, ◌++◌, ℕ, List, length, map, Some, slice_get}
use Rattle.std.specs.Global.{Global}
use Rattle.std.specs.List.{All, AllPairs, Contains}
use Rattle.std.specs.List.Sorted.{IsPermutation}
use Rattle.std.specs.declared.vec.Vec.{Vec}
use Rattle.std.specs.declared.cmp.Ordering.TheVariants.{Less}
use Rattle.cb_model.specs.declared.id.ClassId.{ClassId}
use Rattle.cb_model.specs.declared.id.EventId.{EventId}
use Rattle.cb_model.specs.declared.tables.Tables.{Tables}
use Rattle.cb_model.specs.Classes.{HasEvent}
use Rattle.cb_model.specs.Order.{name_cmp, Rises}
use Rattle.cb_instances.specs.declared.id.InstanceId.{InstanceId}
use Rattle.cb_instances.specs.Net.{Net, IsLiveInstance, HasEventAt, name_at, event_name}
use Rattle.cb_nodes.specs.declared.id.NodeId.{NodeId}
use Rattle.cb_topo.specs.declared.sorted.Named.{Named}
use Rattle.cb_topo.specs.Numbered.{Numbered, topology_of}
use Rattle.cb_topo.specs.Settled.{AreRisingNodes, IsAt}

abbrev pub name_given : {T : Type 0} → Named T → List ℕ
name_given one = one.name.now

abbrev pub id_named : {T : Type 0} → Named T → T
id_named one = one.id

-- these are what the names stand for, in the order of the names
pub record AreInNameOrder {T : Type 0} (named : List (Named T)) (ids : List T) : Type 0 where
  pub moved : List (Named T)
  pub same : IsPermutation named moved
  pub rise : Rises name_cmp (map name_given moved)
  pub are : ids ≡ map id_named moved

-- these are all instances, and their names rise
pub record AreInstancesInOrder (net : Net) (instances : List InstanceId) : Type 0 where
  pub live : All (IsLiveInstance net) instances
  pub rise : AllPairs (λ i j. name_cmp (name_at net i) (name_at net j) ≡ Less) instances
  pub all : (i : InstanceId) → IsLiveInstance net i → Contains instances i

-- the names of these events rise
abbrev pub AreRisingEvents : Tables → List EventId → Type 0
AreRisingEvents tables = AllPairs (λ e f. name_cmp (event_name tables e) (event_name tables f) ≡ Less)

-- these are the events of the class, and their names rise
pub record AreEventsInOrder (tables : Tables) (c : ClassId) (events : List EventId) : Type 0 where
  pub rise : AreRisingEvents tables events
  pub exactly : (e : EventId) → Contains events e ↔ HasEvent tables c e

-- there is a list for each class, which has its events in order
pub record AreEventsOfClasses (tables : Tables) (lists : List (Vec EventId Global)) : Type 0 where
  pub each : (c : ClassId) (events : Vec EventId Global) → slice_get lists c.0 ≡ Some events → AreEventsInOrder tables c events.items
  pub all : length lists ≡ length tables.classes

-- these are the events that the instance has by its class, and their names rise
pub record AreEventsOfInstance (n : Numbered) (i : InstanceId) (events : List EventId) : Type 0 where
  pub rise : AreRisingEvents (topology_of n).model events
  pub exactly : (e : EventId) → Contains events e ↔ HasEventAt n.net i e

-- after the nodes that were listed come those at the instance, and their names rise
pub record ListsNodesAt (n : Numbered) (i : InstanceId) (old new : List NodeId) : Type 0 where
  pub ids : List NodeId
  pub rising : AreRisingNodes n ids
  pub exactly : (id : NodeId) → Contains ids id ↔ IsAt n i id
  pub listed : new ≡ old ++ ids
