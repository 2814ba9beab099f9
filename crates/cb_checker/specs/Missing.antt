-- Successors, and those that aren't listed.
use Rattle.std.specs.Prelude.{◌≡◌, ◌≢◌, ◌<◌, ◌⊎◌, ℕ, List, Bool, Option, None, Some, slice_get}
use Rattle.std.specs.List.{Contains}
use Rattle.std.specs.declared.cmp.Ordering.TheVariants.{Less}
use Rattle.cb_model.specs.declared.node.NodeName.{NodeName}
use Rattle.cb_model.specs.NodeOrder.{node_cmp}
use Rattle.cb_nodes.specs.declared.id.NodeId.{NodeId}
use Rattle.cb_successors.specs.Rows.{Has}
use Rattle.cb_topo.specs.Numbered.{Numbered, IsNodeNamed}
use Rattle.cb_graph.specs.Edges.{EdgeAt, number}

-- of the nodes whose numbers are so, none has a name that stands before this one, which one of them has
pub record IsLeastName (n : Numbered) (P : ℕ → Type 0) (name : NodeName) : Type 0 where
  pub node : ℕ
  pub is : P node
  pub named : IsNodeNamed n (number node) name
  pub least : (k : ℕ) (other : NodeName) → P k → IsNodeNamed n (number k) other → node_cmp other name ≢ Less

-- the name of the least of these nodes, if there are any
abbrev pub IsLeastIfAny : Numbered → (ℕ → Type 0) → Option NodeName → Type 0
IsLeastIfAny n P None = (k : ℕ) → ¬ P k
IsLeastIfAny n P (Some name) = IsLeastName n P name

-- it is one of these, and isn't listed
abbrev pub IsUnlistedOf : List ℕ → List Bool → ℕ → Type 0
IsUnlistedOf nodes listed k = Contains nodes k × (¬ Has listed k)

abbrev pub IsLeastUnlisted : Numbered → List ℕ → List Bool → Option NodeName → Type 0
IsLeastUnlisted n nodes listed least = IsLeastIfAny n (IsUnlistedOf nodes listed) least

-- an edge leads to it, and it isn't listed
abbrev pub IsMissing : Numbered → ℕ → List Bool → ℕ → Type 0
IsMissing n from listed k = EdgeAt n from k × (¬ Has listed k)

abbrev pub IsLeastMissing : Numbered → ℕ → List Bool → Option NodeName → Type 0
IsLeastMissing n from listed least = IsLeastIfAny n (IsMissing n from listed) least

-- of the first placed nodes all successors are listed
abbrev pub AreClosedTo : Numbered → List NodeId → List Bool → ℕ → Type 0
AreClosedTo n placed listed to = (place : ℕ) (id : NodeId) → place < to → slice_get placed place ≡ Some id → (k : ℕ) → ¬ IsMissing n id.0 listed k

-- the lesser of two names, or the second where there is no first
abbrev pub IsLesser : Option NodeName → NodeName → NodeName → Type 0
IsLesser None name lesser = lesser ≡ name
IsLesser (Some least) name lesser = ((lesser ≡ least) × (node_cmp least name ≡ Less)) ⊎ ((lesser ≡ name) × (node_cmp least name ≢ Less))
