-- What holds of topologies and causes, whatever the program does.
use Rattle.std.specs.Prelude.{◌≡◌, ◌↔◌, ℕ, List, [], ◌∷◌, Bool, true, false, IsTrue, ⊤, Result, Ok}
use Rattle.std.specs.FinSet as set
use Rattle.std.specs.List.{Contains}
use Rattle.cb_text.specs.Names.{IsInstance}
use Rattle.cb_model.specs.declared.node.NodeName.{NodeName}
use Rattle.cb_model.specs.declared.tables.Place.{Place}
use Rattle.cb_model.specs.declared.tables.Tables.{Tables}
use Rattle.cb_model.specs.NodeOrder.{node_cmp}
use Rattle.cb_model.specs.WellTyped.{WellTyped}
use Rattle.cb_network.specs.declared.edit.Edit.{Edit}
use Rattle.cb_network.specs.declared.edit.Edit.TheVariants.{Create}
use Rattle.cb_network.specs.declared.edit.EditRefusal.{EditRefusal}
use Rattle.cb_network.specs.Topology.{Topology, HasLink, empty_topology}
use Rattle.cb_network.specs.Nodes.{IsNodeOf, IsProblem, IsSymptomNode, AreColumns, AreProblems, IsCount}
use Rattle.cb_network.specs.Sound.{Sound}
use Rattle.cb_network.specs.Regular.{IsRegular}
use Rattle.cb_network.specs.Edits.{IsAfter, IsAfterAll}
use Rattle.cb_network.specs.Causes.{Leads, Edge, Causes, Reaches}

-- without the plus a place is one link
abbrev pub PlainIsOne : Type 0
PlainIsOne = (t : Topology) (place : Place) (a b : List ℕ) → place.plus ≡ false → Leads t a (place ∷ []) b ↔ HasLink t a place.rel b

-- steps lead from a to the first of these items, from each to the next, and from the last one to b
abbrev pub Linked : {X : Type 0} → (X → X → Type 0) → X → List X → X → Type 0
Linked Step a [] b = Step a b
Linked Step a (next ∷ rest) b = Step a next × Linked Step next rest b

-- with the plus a place is one link or more: some list of at least two instances begins with a and ends with b, and each neighbouring pair is a link
abbrev pub PlusIsOneOrMore : Type 0
PlusIsOneOrMore = (t : Topology) (place : Place) (a b : List ℕ) → place.plus ≡ true
    → Leads t a (place ∷ []) b ↔ ((between : List (List ℕ)) × Linked (λ x y. HasLink t x place.rel y) a between b)

-- every node causes itself
abbrev pub CausesItself : Type 0
CausesItself = (t : Topology) (p : NodeName) → Causes t p p

-- what is caused by something that p causes is caused by p
abbrev pub CausesFurther : Type 0
CausesFurther = (t : Topology) (p q s : NodeName) → Causes t p q → Causes t q s → Causes t p s

-- an edge is a cause
abbrev pub EdgeCauses : Type 0
EdgeCauses = (t : Topology) (p q : NodeName) → Edge t p q → Causes t p q

-- no edge leads out of the nodes for which the test holds
abbrev pub IsClosed : Topology → (NodeName → Bool) → Type 0
IsClosed t test = (p q : NodeName) → IsTrue (test p) → Edge t p q → IsTrue (test q)

-- a closed set that has p has every node that p causes
abbrev pub ClosedHasCaused : Type 0
ClosedHasCaused = (t : Topology) (test : NodeName → Bool) (p s : NodeName) → IsClosed t test → IsTrue (test p) → Causes t p s
    → IsTrue (test s)

-- a node has one reached set
abbrev pub ReachedIsOne : Type 0
ReachedIsOne = (t : Topology) (p : NodeName) (x y : set.FinSet node_cmp) → Reaches t p x → Reaches t p y → x ≡ y

-- a topology has one list of columns
abbrev pub ColumnsAreOne : Type 0
ColumnsAreOne = (t : Topology) (xs ys : List NodeName) → AreColumns t xs → AreColumns t ys → xs ≡ ys

-- a topology has one list of problems
abbrev pub ProblemsAreOne : Type 0
ProblemsAreOne = (t : Topology) (xs ys : List NodeName) → AreProblems t xs → AreProblems t ys → xs ≡ ys

-- nodes are counted in one way
abbrev pub CountIsOne : Type 0
CountIsOne = (t : Topology) (m n : ℕ) → (IsCount (IsNodeOf t) m → IsCount (IsNodeOf t) n → m ≡ n)
    × (IsCount (IsProblem t) m → IsCount (IsProblem t) n → m ≡ n)
    × (IsCount (IsSymptomNode t) m → IsCount (IsSymptomNode t) n → m ≡ n)

-- the tables of a checked model are as the laws of edits ask
abbrev pub TypedIsRegular : Type 0
TypedIsRegular = (tables : Tables) → WellTyped tables → IsRegular tables

-- an edit comes out in one way
abbrev pub AfterIsOne : Type 0
AfterIsOne = (t : Topology) (edit : Edit) (a b : Result Topology EditRefusal) → IsRegular t.model → IsAfter t edit a
    → IsAfter t edit b → a ≡ b

-- a list of edits comes out in one way
abbrev pub AfterAllIsOne : Type 0
AfterAllIsOne = (t : Topology) (edits : List Edit) (u v : Topology) → IsRegular t.model → IsAfterAll t edits u
    → IsAfterAll t edits v → u ≡ v

-- the topology without any instance is sound
abbrev pub EmptyIsSound : Type 0
EmptyIsSound = (tables : Tables) → Sound (empty_topology tables)

-- the name of a new instance is one by the grammar
abbrev pub HasGoodName : Edit → Type 0
HasGoodName (Create name class) = IsInstance name
HasGoodName edit = ⊤

-- an accepted edit of a sound topology leaves it sound
abbrev pub EditKeepsSound : Type 0
EditKeepsSound = (t u : Topology) (edit : Edit) → IsRegular t.model → HasGoodName edit → Sound t → IsAfter t edit (Ok u)
    → Sound u

-- all edits of a list, those that are refused among them, leave a sound topology sound
abbrev pub EditsKeepSound : Type 0
EditsKeepSound = (t u : Topology) (edits : List Edit) → IsRegular t.model
    → ((edit : Edit) → Contains edits edit → HasGoodName edit) → Sound t
    → IsAfterAll t edits u → Sound u
