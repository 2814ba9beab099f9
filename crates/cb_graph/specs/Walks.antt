-- Walks along links, by numbers of instances.
use Rattle.std.specs.Prelude.{◌≡◌, ◌<◌, ◌≤◌, ◌↔◌, ℕ, Bool, List, [], ◌∷◌, length}
use Rattle.std.specs.List.{Contains}
use Rattle.cb_model.specs.declared.id.EventId.{EventId}
use Rattle.cb_model.specs.declared.id.RelId.{RelId}
use Rattle.cb_model.specs.declared.rule.Rule.{Rule}
use Rattle.cb_model.specs.declared.tables.Place.{Place}
use Rattle.cb_network.specs.Causes.{Ahead}
use Rattle.cb_instances.specs.declared.id.InstanceId.{InstanceId}
use Rattle.cb_instances.specs.Net.{Net, LinkAt, IsLiveInstance}
use Rattle.cb_nodes.specs.Table.{IsNode, node_of}
use Rattle.cb_successors.specs.Rows.{Has}
use Rattle.cb_topo.specs.Numbered.{Numbered}
use Rattle.cb_graph.specs.Edges.{number}

-- the number of an instance
abbrev pub instance : ℕ → InstanceId
instance k = record { 0 = k }

-- links by the relation lead from the first instance to the second: with the plus any number of links, or none; without it none, so the two are one
abbrev pub RunsAt : Net → RelId → Bool → InstanceId → InstanceId → Type 0
RunsAt n r plus i j = Ahead (λ x y. LinkAt n x r y) plus i j

-- links by the places in turn lead from the first instance to the second
abbrev pub LeadsAt : Net → InstanceId → List Place → InstanceId → Type 0
LeadsAt n i [] j = i ≡ j
LeadsAt n i (place ∷ rest) j = (last : InstanceId) × RunsAt n place.rel place.plus i last
    × (next : InstanceId) × LinkAt n last place.rel next × LeadsAt n next rest j

-- such links lead to the instance of this number from one that the row has
abbrev pub IsRunTo : Net → RelId → Bool → List Bool → ℕ → Type 0
IsRunTo n r plus row k = (i : InstanceId) × Has row i.0 × RunsAt n r plus i (instance k)

-- a link leads to the instance of this number
abbrev pub IsLinked : Net → RelId → InstanceId → ℕ → Type 0
IsLinked n r i k = LinkAt n i r (instance k)

-- the row has exactly the instances that the path leads to
abbrev pub IsWhereLeads : Net → InstanceId → List Place → List Bool → Type 0
IsWhereLeads n from path row = (k : ℕ) → Has row k ↔ LeadsAt n from path (instance k)

-- the row has a position for each instance, and as many as its numbers may need
pub record CoversInstances (n : Net) (row : List Bool) : Type 0 where
  pub capacity : n.capacity ≤ length row
  pub each : (id : InstanceId) → IsLiveInstance n id → id.0 < length row

-- the instances of the row are live
abbrev pub HasLive : Net → List Bool → Type 0
HasLive n row = (id : InstanceId) → Has row id.0 → IsLiveInstance n id

-- the instances are live
abbrev pub AllLive : Net → List InstanceId → Type 0
AllLive n list = (id : InstanceId) → Contains list id → IsLiveInstance n id

-- this is the number of the event at the instance
abbrev pub IsEventNumber : Numbered → EventId → InstanceId → ℕ → Type 0
IsEventNumber n e i k = IsNode n.nodes (number k) (node_of i e)

-- the rule has this cause, and at the instance it brings about the node of this number
pub record BringsAbout (n : Numbered) (i : InstanceId) (cause : EventId) (rule : Rule) (k : ℕ) : Type 0 where
  pub caused : rule.cause ≡ cause
  pub at : InstanceId
  pub leads : LeadsAt n.net i rule.path at
  pub is : IsEventNumber n rule.effect at k
