-- Which node causes which.
use Rattle.std.specs.Prelude.{◌≡◌, ◌↔◌, ℕ, Bool, List, [], ◌∷◌, true, false}
use Rattle.std.specs.FinSet as set
use Rattle.cb_model.specs.declared.id.ClassId.{ClassId}
use Rattle.cb_model.specs.declared.tables.Place.{Place}
use Rattle.cb_model.specs.declared.node.NodeName.{NodeName}
use Rattle.cb_model.specs.Classes.{HasRule, NamesEvent}
use Rattle.cb_model.specs.NodeOrder.{node_cmp}
use Rattle.cb_network.specs.Topology.{Topology, HasClass, HasLink}
use Rattle.cb_network.specs.Nodes.{IsEventAt}
use Rattle.cb_network.specs.Words.{InstanceName}

-- steps lead from a to the first of these items and from each to the next, and the last one is b; where there are none, a is b
abbrev pub Run : {X : Type 0} → (X → X → Type 0) → X → List X → X → Type 0
Run Step a [] b = a ≡ b
Run Step a (next ∷ rest) b = Step a next × Run Step next rest b

-- what comes before the last step of a place: with the plus any number of steps of the same kind, without it none
abbrev pub Ahead : {X : Type 0} → (X → X → Type 0) → Bool → X → X → Type 0
Ahead {X} Step true a b = (between : List X) × Run Step a between b
Ahead Step false a b = a ≡ b

-- links by the places in turn lead from a to b: for each place one link by its relation, or with the plus one or more
abbrev pub Leads : Topology → InstanceName → List Place → InstanceName → Type 0
Leads t a [] b = a ≡ b
Leads t a (place ∷ rest) b = (last : InstanceName) × Ahead (λ x y. HasLink t x place.rel y) place.plus a last
    × (next : InstanceName) × HasLink t last place.rel next × Leads t next rest b

-- p's class has a rule whose cause is p's event; its path leads from p's instance to q's, where q's event is its effect
pub record Edge (t : Topology) (p q : NodeName) : Type 0 where
  pub class : ClassId
  pub of_class : HasClass t p.instance class
  pub rule : ℕ
  pub has : HasRule t.model class rule
  pub cause : NamesEvent t.model class p.event has.row.cause
  pub leads : Leads t p.instance has.row.path q.instance
  pub effect : IsEventAt t q has.row.effect

-- there is an edge from p to the first of these nodes and from each to the next, and the last is s; without any, p is s
abbrev pub Chain : Topology → NodeName → List NodeName → NodeName → Type 0
Chain t p [] s = p ≡ s
Chain t p (q ∷ rest) s = Edge t p q × Chain t q rest s

-- a chain of zero or more edges leads from p to s
abbrev pub Causes : Topology → NodeName → NodeName → Type 0
Causes t p s = (between : List NodeName) × Chain t p between s

-- p causes exactly the nodes of this set
abbrev pub Reaches : Topology → NodeName → set.FinSet node_cmp → Type 0
Reaches t p reached = (s : NodeName) → (set.contains reached s ≡ true) ↔ Causes t p s
