-- A topology whose instances have numbers.
use Rattle.std.specs.Prelude.{◌≡◌, ◌≢◌, ◌+◌, max, ℕ, List, [], Option, Some, None, slice_index_or, slice_get, slice_set}
use Rattle.std.specs.List.{AllPairs}
use Rattle.cb_model.specs.Classes.{HasEvent}
use Rattle.cb_model.specs.declared.id.ClassId.{ClassId}
use Rattle.cb_model.specs.declared.id.EventId.{EventId}
use Rattle.cb_model.specs.declared.id.RelId.{RelId}
use Rattle.cb_model.specs.declared.node.NodeName.{NodeName}
use Rattle.cb_model.specs.declared.tables.EventRow.{EventRow}
use Rattle.cb_model.specs.declared.tables.RelRow.{RelRow}
use Rattle.cb_model.specs.declared.tables.Tables.{Tables}
use Rattle.cb_network.specs.Topology.{Topology, empty_topology, HasLink, IsMuted, HasClass, IsLive as IsLiveName}
use Rattle.cb_network.specs.Edits.{with_instance, without_instance, with_link, without_link, with_mute, without_mute, node_name_of}
use Rattle.cb_instances.specs.declared.id.InstanceId.{InstanceId}
use Rattle.cb_network.specs.Words.{InstanceName, Word}

-- a topology, the name of the instance of each number, a number above all of them, and the number that the next instance gets
pub record Net : Type 0 where
  pub topology : Topology
  pub names : List (Option InstanceName)
  pub capacity : ℕ
  pub next : ℕ

-- no instance
abbrev pub empty_net : Tables → Net
empty_net tables = record { topology = empty_topology tables; names = []; capacity = 0; next = 0 }

-- what a number has, if it has something
abbrev pub slot : {X : Type 0} → List (Option X) → ℕ → Option X
slot xs i = slice_index_or xs i None

-- the instance of this number has this name
abbrev pub IsNamed : Net → InstanceId → InstanceName → Type 0
IsNamed n id name = slot n.names id.0 ≡ Some name

-- the number is that of an instance
abbrev pub IsLiveInstance : Net → InstanceId → Type 0
IsLiveInstance n id = (name : InstanceName) × IsNamed n id name

-- the number is that of no instance
abbrev pub IsFree : Net → InstanceId → Type 0
IsFree n id = slot n.names id.0 ≡ None

-- a link leads from the one instance to the other by the relation
pub record LinkAt (n : Net) (i : InstanceId) (r : RelId) (j : InstanceId) : Type 0 where
  pub from : InstanceName
  pub to : InstanceName
  pub from_is : IsNamed n i from
  pub to_is : IsNamed n j to
  pub linked : HasLink n.topology from r to

-- this number has x now, and each other what it had
pub record SetsOnly {X : Type 0} (old new : List (Option X)) (i : InstanceId) (x : Option X) : Type 0 where
  pub this : slot new i.0 ≡ x
  pub others : (j : InstanceId) → j ≢ i → slot new j.0 ≡ slot old j.0

-- the net has an instance more, of this name and class, under a number that was free
pub record Creates (old new : Net) (id : InstanceId) (name : InstanceName) (class : ClassId) : Type 0 where
  pub free : IsFree old id
  pub named : SetsOnly old.names new.names id (Some name)
  pub made : new.topology ≡ with_instance old.topology name class
  pub capacity : new.capacity ≡ max old.capacity (old.next + 1)

-- no item stands twice
abbrev pub Once : {X : Type 0} → List X → Type 0
Once xs = AllPairs (λ x y. x ≢ y) xs

abbrev pub inverse_in : RelId → Option RelRow → RelId
inverse_in r None = r
inverse_in r (Some row) = row.inverse

-- the inverse of a relation of the tables
abbrev pub inverse_of : Tables → RelId → RelId
inverse_of tables r = inverse_in r (slice_get tables.relations r.0)

abbrev pub name_or : Option InstanceName → InstanceName
name_or None = []
name_or (Some name) = name

-- the name of the instance of this number
abbrev pub name_at : Net → InstanceId → InstanceName
name_at n id = name_or (slot n.names id.0)

-- the net with the link and its inverse
abbrev pub linked : Net → InstanceId → RelId → InstanceId → Net
linked n i r j = record n { topology = with_link n.topology (name_at n i) r (inverse_of n.topology.model r) (name_at n j) }

-- the net without the link and without its inverse
abbrev pub unlinked : Net → InstanceId → RelId → InstanceId → Net
unlinked n i r j = record n { topology = without_link n.topology (name_at n i) r (inverse_of n.topology.model r) (name_at n j) }

-- the net without the instance, its links and its mutes; its number is the next
abbrev pub net_without : Net → InstanceId → Net
net_without n i = record n { topology = without_instance n.topology (name_at n i); names = slice_set n.names i.0 None; next = i.0 }

-- names tell instances apart, and links end at instances
pub record IsWholeNet (n : Net) : Type 0 where
  pub one : (i j : InstanceId) (name : InstanceName) → IsNamed n i name → IsNamed n j name → i ≡ j
  pub named : (name : InstanceName) → IsLiveName n.topology name → (i : InstanceId) × IsNamed n i name
  pub live : (i : InstanceId) (name : InstanceName) → IsNamed n i name → IsLiveName n.topology name
  pub ends : (a : InstanceName) (r : RelId) (b : InstanceName) → HasLink n.topology a r b → (i : InstanceId) × (j : InstanceId) × IsNamed n i a × IsNamed n j b

abbrev pub name_in_row : Option EventRow → Word
name_in_row None = []
name_in_row (Some row) = row.name

-- the name of an event of the tables
abbrev pub event_name : Tables → EventId → Word
event_name tables e = name_in_row (slice_get tables.events e.0)

-- the node of an event at the instance of this number
abbrev pub node_at : Net → InstanceId → EventId → NodeName
node_at n id e = node_name_of (event_name n.topology.model e) (name_at n id)

-- the class of the instance has the event
abbrev pub HasEventAt : Net → InstanceId → EventId → Type 0
HasEventAt n id e = (c : ClassId) × HasClass n.topology (name_at n id) c × HasEvent n.topology.model c e

-- the event is muted at the instance
abbrev pub IsMutedAt : Net → InstanceId → EventId → Type 0
IsMutedAt n id e = IsMuted n.topology (node_at n id e)

-- the net with the event muted at the instance
abbrev pub muted : Net → InstanceId → EventId → Net
muted n id e = record n { topology = with_mute n.topology (node_at n id e) }

-- the net without that mute
abbrev pub unmuted : Net → InstanceId → EventId → Net
unmuted n id e = record n { topology = without_mute n.topology (node_at n id e) }
