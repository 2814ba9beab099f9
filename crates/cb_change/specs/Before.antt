-- What an edit touches, by the topology before it and by the links that it adds or takes away.
use Rattle.std.specs.Prelude.{◌≡◌, ◌⊎◌, List, [], ◌∷◌}
use Rattle.cb_model.specs.declared.id.RelId.{RelId}
use Rattle.cb_model.specs.declared.tables.Place.{Place}
use Rattle.cb_network.specs.declared.edit.Edit.{Edit}
use Rattle.cb_network.specs.declared.edit.Edit.TheVariants.{Delete, Link, Unlink}
use Rattle.cb_network.specs.Words.{InstanceName}
use Rattle.cb_network.specs.Topology.{Topology, HasLink}
use Rattle.cb_network.specs.Edits.{NamesPair}
use Rattle.cb_network.specs.Causes.{Ahead}

-- x, q and y are those of the link from a to b by r, or of the link back by s
abbrev pub IsEitherWay : InstanceName → RelId → InstanceName → InstanceName → RelId → RelId → InstanceName → Type 0
IsEitherWay x q y a r s b = ((x ≡ a) × (q ≡ r) × (y ≡ b)) ⊎ ((x ≡ b) × (q ≡ s) × (y ≡ a))

-- the link comes or goes with the edit: it is the named one or its inverse, or it has the deleted instance at an end
abbrev pub MovesLink : Topology → Edit → InstanceName → RelId → InstanceName → Type 0
MovesLink t (Link a rel b) x q y = (r : RelId) × (s : RelId) × NamesPair t a rel r s × IsEitherWay x q y a r s b
MovesLink t (Unlink a rel b) x q y = (r : RelId) × (s : RelId) × NamesPair t a rel r s × IsEitherWay x q y a r s b
MovesLink t (Delete name) x q y = HasLink t x q y × ((x ≡ name) ⊎ (y ≡ name))
MovesLink t edit x q y = ⊥

-- links of the topology by the first of these places lead from a to a link that the edit adds or takes away; that link is by the next place
abbrev pub LeadsToChange : Topology → (InstanceName → RelId → InstanceName → Type 0) → InstanceName → List Place → Type 0
LeadsToChange t moves a [] = ⊥
LeadsToChange t moves a (place ∷ rest) = (last : InstanceName) × Ahead (λ x y. HasLink t x place.rel y) place.plus a last
    × (next : InstanceName) × (moves last place.rel next ⊎ (HasLink t last place.rel next × LeadsToChange t moves next rest))
