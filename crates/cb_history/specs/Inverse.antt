-- Edits that undo an edit.
use Rattle.std.specs.Prelude.{◌≡◌, ◌⊎◌, ◌≤◌, ℕ, List, [], ◌∷◌, ◌++◌, Ok}
use Rattle.std.specs.List.{AllPairs, AllZip, Contains}
use Rattle.cb_model.specs.declared.id.ClassId.{ClassId}
use Rattle.cb_model.specs.declared.id.RelId.{RelId}
use Rattle.cb_model.specs.declared.node.NodeName.{NodeName}
use Rattle.cb_model.specs.declared.tables.Tables.{Tables}
use Rattle.cb_model.specs.Classes.{NamesClass}
use Rattle.cb_network.specs.declared.edit.Edit.{Edit}
use Rattle.cb_network.specs.declared.edit.Edit.TheVariants.{Create, Delete, Link, Unlink, Mute, Unmute}
use Rattle.cb_network.specs.Topology.{Topology, Link as TheLink, HasClass, HasLink, IsMuted}
use Rattle.cb_network.specs.Sound.{IsInverse}
use Rattle.cb_network.specs.Edits.{IsAfter, IsRelationAt, link_of, node_name_of}

-- each of these edits is accepted in turn, and the last one makes this topology
abbrev pub AllMake : Topology → List Edit → Topology → Type 0
AllMake t [] u = t ≡ u
AllMake t (edit ∷ edits) u = (next : Topology) × IsAfter t edit (Ok next) × AllMake next edits u

-- the second link is the first the other way, by the inverse relation
pub record IsReversed (tables : Tables) (one other : TheLink) : Type 0 where
  pub from : other.from ≡ one.to
  pub to : other.to ≡ one.from
  pub rel : IsInverse tables one.rel other.rel

-- the two are equal, or the second is the first the other way
abbrev pub IsSameLink : Tables → TheLink → TheLink → Type 0
IsSameLink tables one other = (one ≡ other) ⊎ IsReversed tables one other

-- one of these is the link, or is it the other way
abbrev pub ListsLink : Tables → List TheLink → TheLink → Type 0
ListsLink tables links link = (one : TheLink) × Contains links one × IsSameLink tables one link

-- the link has the instance at an end
abbrev pub IsLinkAtEnd : List ℕ → TheLink → Type 0
IsLinkAtEnd name link = (link.from ≡ name) ⊎ (link.to ≡ name)

-- links from the instance that stand; each link that has the instance at an end is listed, in one of its directions and once
pub record AreLinksOf (t : Topology) (name : List ℕ) (links : List TheLink) : Type 0 where
  pub from : (link : TheLink) → Contains links link → link.from ≡ name
  pub stand : (link : TheLink) → Contains links link → HasLink t link.from link.rel link.to
  pub all : (link : TheLink) → HasLink t link.from link.rel link.to → IsLinkAtEnd name link → ListsLink t.model links link
  pub once : AllPairs (λ one other. ¬ IsSameLink t.model one other) links

-- of a link of the instance to itself and the one back, the one of lesser relation; any other link
abbrev pub IsFirstSide : Tables → List ℕ → TheLink → Type 0
IsFirstSide tables name link = (back : RelId) → IsInverse tables link.rel back → link.to ≡ name → link.rel.0 ≤ back.0

-- the links from the instance, without those to itself by the greater relation, each once
pub record AreFirstSides (t : Topology) (name : List ℕ) (links : List TheLink) : Type 0 where
  pub from : (link : TheLink) → Contains links link → link.from ≡ name
  pub stand : (link : TheLink) → Contains links link → HasLink t link.from link.rel link.to
  pub first : (link : TheLink) → Contains links link → IsFirstSide t.model name link
  pub all : (link : TheLink) → HasLink t link.from link.rel link.to → link.from ≡ name → IsFirstSide t.model name link → Contains links link
  pub once : AllPairs (λ one other. ¬ (one ≡ other)) links

-- exactly the muted nodes of the instance, each once
pub record AreMutesOf (t : Topology) (name : List ℕ) (nodes : List NodeName) : Type 0 where
  pub each : (node : NodeName) → Contains nodes node → IsMuted t node × (node.instance ≡ name)
  pub all : (node : NodeName) → IsMuted t node → node.instance ≡ name → Contains nodes node
  pub once : AllPairs (λ one other. ¬ (one ≡ other)) nodes

-- the edit makes an instance of this name and of the class that it has
abbrev pub CreatesAgain : Topology → List ℕ → Edit → Type 0
CreatesAgain t name (Create new class) = (name ≡ new) × ((c : ClassId) × HasClass t name c × NamesClass t.model class c)
CreatesAgain t name edit = ⊥

-- the edit makes the link
abbrev pub LinksAgain : Topology → TheLink → Edit → Type 0
LinksAgain t link (Link a rel b) = (r : RelId) × IsRelationAt t a rel r × (link ≡ link_of a r b)
LinksAgain t link edit = ⊥

-- the edit mutes the node
abbrev pub MutesAgain : NodeName → Edit → Type 0
MutesAgain node (Mute event name) = node ≡ node_name_of event name
MutesAgain node edit = ⊥

-- a Create of the instance, then an edit for each of its links, then one for each of its mutes
pub record Rebuilds (t : Topology) (name : List ℕ) (edits : List Edit) : Type 0 where
  pub create : Edit
  pub creates : CreatesAgain t name create
  pub links : List TheLink
  pub are_links : AreLinksOf t name links
  pub link_edits : List Edit
  pub link : AllZip (LinksAgain t) links link_edits
  pub nodes : List NodeName
  pub are_mutes : AreMutesOf t name nodes
  pub mute_edits : List Edit
  pub mute : AllZip MutesAgain nodes mute_edits
  pub is : edits ≡ create ∷ (link_edits ++ mute_edits)

-- the edits undo what this one does to the topology
abbrev pub Inverts : Topology → Edit → List Edit → Type 0
Inverts t (Create name class) edits = edits ≡ Delete name ∷ []
Inverts t (Delete name) edits = Rebuilds t name edits
Inverts t (Link a rel b) edits = edits ≡ Unlink a rel b ∷ []
Inverts t (Unlink a rel b) edits = edits ≡ Link a rel b ∷ []
Inverts t (Mute event name) edits = edits ≡ Unmute event name ∷ []
Inverts t (Unmute event name) edits = edits ≡ Mute event name ∷ []
