-- The topology that slots show.
use Rattle.std.specs.Prelude.{◌≡◌, ◌↔◌, ℕ, ◌-◌, ◌^◌, min, List, [], ◌∷◌, Option, Some, None, map}
use Rattle.std.specs.List.{Contains, flat_map}
use Rattle.std.specs.FinMap as fin_map
use Rattle.std.specs.FinSet as set
use Rattle.cb_model.specs.declared.id.ClassId.{ClassId}
use Rattle.cb_model.specs.declared.id.EventId.{EventId}
use Rattle.cb_model.specs.declared.id.RelId.{RelId}
use Rattle.cb_model.specs.declared.node.NodeName.{NodeName}
use Rattle.cb_model.specs.declared.tables.Tables.{Tables}
use Rattle.cb_network.specs.Topology.{Topology, Link, HasClass, HasLink, IsMuted}
use Rattle.cb_network.specs.Edits.{link_of, node_name_of}
use Rattle.cb_instances.specs.declared.id.InstanceId.{InstanceId}
use Rattle.cb_instances.specs.declared.instance.Instance.{Instance}
use Rattle.cb_instances.specs.declared.links.LinkRow.{LinkRow}
use Rattle.cb_instances.specs.Net.{Net, slot, event_name}
use Rattle.cb_instances.specs.Slots.{Slots, At, NamedAt, ListsInstance}
use Rattle.cb_network.specs.Words.{InstanceName}

abbrev pub name_in : Option Instance → Option InstanceName
name_in None = None
name_in (Some x) = Some x.name

abbrev pub instance_entries : Option Instance → List (InstanceName × ClassId)
instance_entries None = []
instance_entries (Some x) = (x.name, x.class) ∷ []

abbrev pub links_to : InstanceName → RelId → Option Instance → List Link
links_to a r None = []
links_to a r (Some y) = link_of a r y.name ∷ []

abbrev pub links_by : Slots → InstanceName → LinkRow → List Link
links_by slots a row = flat_map (λ j. links_to a row.rel (slot slots j.0)) row.to.items

abbrev pub links_in : Slots → Option Instance → List Link
links_in slots None = []
links_in slots (Some x) = flat_map (links_by slots x.name) x.links.rows.items

abbrev pub mutes_in : Tables → Option Instance → List NodeName
mutes_in tables None = []
mutes_in tables (Some x) = map (λ e. node_name_of (event_name tables e) x.name) x.muted.items

-- the instances in the slots, with what they list
abbrev pub topology_of_slots : Tables → Slots → Topology
topology_of_slots tables slots = record {
  model = tables;
  instances = fin_map.from_entries (flat_map instance_entries slots);
  links = set.from_list (flat_map (links_in slots) slots);
  mutes = set.from_list (flat_map (mutes_in tables) slots);
}

-- the number that the next instance gets, by the key that is vacant: no instance gets the last key, above which there is no number
abbrev pub next_of : ℕ → ℕ
next_of key = min key (2 ^ 64 - 2)

-- the topology that slots show, with their names
abbrev pub seen : Tables → Slots → ℕ → ℕ → Net
seen tables slots capacity next = record { topology = topology_of_slots tables slots; names = map name_in slots; capacity = capacity; next = next }

-- some slot has an instance of this name and class
pub record HoldsInstance (slots : Slots) (name : InstanceName) (c : ClassId) : Type 0 where
  pub at : InstanceId
  pub instance : Instance
  pub is : At slots at instance
  pub named : instance.name ≡ name
  pub of_class : instance.class ≡ c

-- some slot has an instance of name a that lists one of name b under the relation
pub record HoldsLink (slots : Slots) (a : InstanceName) (r : RelId) (b : InstanceName) : Type 0 where
  pub from : InstanceId
  pub to : InstanceId
  pub from_is : NamedAt slots from a
  pub to_is : NamedAt slots to b
  pub lists : ListsInstance slots from r to

-- some slot has an instance of the node's name at which the node's event is muted
pub record HoldsMute (tables : Tables) (slots : Slots) (n : NodeName) : Type 0 where
  pub at : InstanceId
  pub instance : Instance
  pub event : EventId
  pub is : At slots at instance
  pub named : instance.name ≡ n.instance
  pub muted : Contains instance.muted.items event
  pub event_named : event_name tables event ≡ n.event

-- the topology has what the slots hold, and nothing else
pub record Shows (slots : Slots) (t : Topology) : Type 0 where
  pub instances : (name : InstanceName) (c : ClassId) → HasClass t name c ↔ HoldsInstance slots name c
  pub links : (a : InstanceName) (r : RelId) (b : InstanceName) → HasLink t a r b ↔ HoldsLink slots a r b
  pub mutes : (n : NodeName) → IsMuted t n ↔ HoldsMute t.model slots n
