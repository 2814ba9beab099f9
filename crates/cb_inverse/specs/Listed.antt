-- The links and the mutes of an instance, as far as they are listed.
use Rattle.std.specs.Prelude.{◌≡◌, ◌≢◌, ◌<◌, ◌⊎◌, ◌++◌, ◌∷◌, [], ℕ, List}
use Rattle.std.specs.List.{AllPairs, AllZip, Contains}
use Rattle.cb_model.specs.declared.id.ClassId.{ClassId}
use Rattle.cb_model.specs.declared.id.EventId.{EventId}
use Rattle.cb_model.specs.declared.id.RelId.{RelId}
use Rattle.cb_model.specs.declared.node.NodeName.{NodeName}
use Rattle.cb_model.specs.Views.{AreEventsOf}
use Rattle.cb_network.specs.declared.edit.Edit.{Edit}
use Rattle.cb_network.specs.Topology.{Topology, Link as TheLink, HasClass, HasLink, IsMuted}
use Rattle.cb_network.specs.Edits.{link_of}
use Rattle.cb_history.specs.Inverse.{IsFirstSide, AreLinksOf, AreMutesOf, LinksAgain, MutesAgain}
use Rattle.cb_instances.specs.declared.id.InstanceId.{InstanceId}
use Rattle.cb_instances.specs.Net.{Net, IsNamed, IsMutedAt, event_name, name_at, node_at}

-- the links from the instance that were looked at, without those to itself by the greater relation, each once
pub record AreSidesSeen (t : Topology) (name : List ℕ) (IsSeen : TheLink → Type 0) (links : List TheLink) : Type 0 where
  pub from : (link : TheLink) → Contains links link → link.from ≡ name
  pub stand : (link : TheLink) → Contains links link → HasLink t link.from link.rel link.to
  pub first : (link : TheLink) → Contains links link → IsFirstSide t.model name link
  pub seen : (link : TheLink) → Contains links link → IsSeen link
  pub all : (link : TheLink) → HasLink t link.from link.rel link.to → link.from ≡ name → IsFirstSide t.model name link → IsSeen link → Contains links link
  pub once : AllPairs (λ one other. one ≢ other) links

-- edits that make these links
pub record AreLinkEdits (t : Topology) (name : List ℕ) (IsSeen : TheLink → Type 0) (edits : List Edit) : Type 0 where
  pub links : List TheLink
  pub are : AreSidesSeen t name IsSeen links
  pub make : AllZip (LinksAgain t) links edits

-- edits that make all its links
pub record AreAllLinked (t : Topology) (name : List ℕ) (edits : List Edit) : Type 0 where
  pub links : List TheLink
  pub are : AreLinksOf t name links
  pub make : AllZip (LinksAgain t) links edits

-- its relation is before this position
abbrev pub IsBeforePosition : ℕ → TheLink → Type 0
IsBeforePosition position link = link.rel.0 < position

-- one of these instances has the name
abbrev pub IsAmongNamed : Net → List InstanceId → List ℕ → Type 0
IsAmongNamed n ids name = (id : InstanceId) × Contains ids id × IsNamed n id name

-- its relation is before this one, or it is this one and the link leads to one of these instances
abbrev pub IsBeforeOrAmong : Net → RelId → List InstanceId → TheLink → Type 0
IsBeforeOrAmong n rel ids link = IsBeforePosition rel.0 link ⊎ ((link.rel ≡ rel) × IsAmongNamed n ids link.to)

-- the events of the instance's class
abbrev pub AreClassEvents : Topology → List ℕ → List EventId → Type 0
AreClassEvents t name events = (class : ClassId) × HasClass t name class × AreEventsOf t.model class events

-- the muted nodes of the instance that are of one of these events, each once
pub record AreMutesAt (t : Topology) (name : List ℕ) (events : List EventId) (nodes : List NodeName) : Type 0 where
  pub each : (node : NodeName) → Contains nodes node → IsMuted t node × (node.instance ≡ name)
  pub seen : (node : NodeName) → Contains nodes node → (e : EventId) × Contains events e × (event_name t.model e ≡ node.event)
  pub all : (e : EventId) → Contains events e → (node : NodeName) → IsMuted t node → node.instance ≡ name → event_name t.model e ≡ node.event → Contains nodes node
  pub once : AllPairs (λ one other. one ≢ other) nodes

-- edits that mute them
pub record AreMuteEdits (t : Topology) (name : List ℕ) (events : List EventId) (edits : List Edit) : Type 0 where
  pub nodes : List NodeName
  pub are : AreMutesAt t name events nodes
  pub make : AllZip MutesAgain nodes edits

-- edits that mute all its muted nodes
pub record AreAllMuted (t : Topology) (name : List ℕ) (edits : List Edit) : Type 0 where
  pub nodes : List NodeName
  pub are : AreMutesOf t name nodes
  pub make : AllZip MutesAgain nodes edits

-- where P holds, an edit is added, and nothing elsewhere
abbrev pub AddsWhere : Type 0 → (Edit → Type 0) → List Edit → List Edit → Type 0
AddsWhere P IsMade old new = (P × ((edit : Edit) × IsMade edit × (new ≡ old ++ edit ∷ []))) ⊎ ((¬ P) × (new ≡ old))

-- the link by these numbers
abbrev pub link_at : Net → InstanceId → RelId → InstanceId → TheLink
link_at n id rel to = link_of (name_at n id) rel (name_at n to)

-- the link is added, but not one to itself by the greater relation
abbrev pub AddsFirstSide : Net → InstanceId → RelId → InstanceId → List Edit → List Edit → Type 0
AddsFirstSide n id rel to = AddsWhere (IsFirstSide n.topology.model (name_at n id) (link_at n id rel to)) (LinksAgain n.topology (link_at n id rel to))

-- a Mute is added where the event is muted
abbrev pub AddsMute : Net → InstanceId → EventId → List Edit → List Edit → Type 0
AddsMute n id event = AddsWhere (IsMutedAt n id event) (MutesAgain (node_at n id event))
