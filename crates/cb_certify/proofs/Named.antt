-- Groups and columns by names and by numbers.
use Rattle.std.proofs.Common.{◌≡◌, ◌≢◌, ℕ, zero, suc, ◌<◌, List, [], ◌∷◌, length, get_or, refl, sym, ap, subst, arith, Some, false}
use Rattle.std.specs.Prelude.{slice_get, Option, None}
use Rattle.std.specs.List.{All}
use Rattle.std.specs.List.Sorted.{IsStrictlyIncreasing}
use Rattle.std.proofs.lemmas.List.Elements.{All-nil, All-cons}
use Rattle.std.proofs.lemmas.Option.{slice_get-get_or}
use Rattle.cb_model.specs.declared.node.GroupName.{GroupName}
use Rattle.cb_model.specs.declared.node.GroupName.TheVariants.{Quiet, Least}
use Rattle.cb_model.specs.declared.node.NodeName.{NodeName}
use Rattle.cb_model.specs.declared.node.NamedGroup.{NamedGroup}
use Rattle.cb_model.proofs.Spread.{map_at, map_there}
use Rattle.cb_coding.specs.declared.group.Group.{Group}
use Rattle.cb_codes.specs.Groups.{named, named_of}
use Rattle.cb_network.specs.Topology.{Topology}
use Rattle.cb_network.specs.Nodes.{IsColumn, AreColumns}
use Rattle.cb_finding.specs.Finding.{IsCalled}
use Rattle.cb_finding.specs.Matrix.{IsMatrix}
use Rattle.cb_validity.specs.Laws.{HavePlaces}
use Rattle.cb_validity.proofs.Canonicals.{contains_from_get}
use Rattle.cb_validity.proofs.Codebooks.{group_at, called_by, places_rise}
use Rattle.cb_nodes.specs.declared.id.NodeId.{NodeId}
use Rattle.cb_topo.specs.Numbered.{Numbered, topology_of, IsNodeNamed, AreNamed}
use Rattle.cb_topo.proofs.Naming.{one_name}
use Rattle.cb_span.specs.Made.{IsSideAt, IsSideNamed, AreColumnsAt as AreSpanColumns}
use Rattle.cb_certify.specs.Columns.{AreAt, HaveColumnPlaces}
use Rattle.cb_certify.specs.Members.{IsLeastMember, HasLeastMember, IsCalledBy, IsSideLive}
use Rattle.cb_validity.specs.Codebooks.{least_of}

-- the group of a name at a place after the first
named_later : (groups : List Group) (i : ℕ) (g : NamedGroup) → 0 < i → slice_get (named_of groups) i ≡ Some g
    → (coded : Group) × (slice_get groups i ≡ Some coded) × (g.members ≡ coded.members)
named_later [] i g later at = cc
named_later (quiet ∷ groups) zero g later at = absurd (omega arith)
named_later (quiet ∷ groups) (suc i) g later at =
    let (coded, there, same) = map_at (named false) groups i g at in
    (coded, there, ap (λ (x : NamedGroup). x.members) (sym same))

-- what a later group's least member is, it is called by
pub called_later : (groups : List Group) (i : ℕ) (node : NodeName) → 0 < i → IsLeastMember (named_of groups) i node → IsCalled groups i (Least node)
called_later groups i node later is =
    let (coded, at, same) = named_later groups i is.group later is.at in
    (later, coded, at, subst (λ (names : List NodeName). slice_get names 0 ≡ Some node) same is.first)

first_of : {X : Type 0} (xs : List X) → xs ≢ [] → (x : X) × (slice_get xs 0 ≡ Some x)
first_of [] some = absurd (some refl)
first_of (x ∷ xs) some = (x, refl)

named_there : (groups : List Group) (i : ℕ) (g : Group) → 0 < i → slice_get groups i ≡ Some g → slice_get (named_of groups) i ≡ Some (named false g)
named_there [] i g later at = cc
named_there (quiet ∷ groups) zero g later at = absurd (omega arith)
named_there (quiet ∷ groups) (suc i) g later at = map_there (named false) groups i g at

module _ (t : Topology) (columns : List NodeName) (groups : List Group) (matrix : IsMatrix t columns groups) where
  -- each group but the first has a member
  pub has_member : (i : ℕ) → 0 < i → i < length groups → HasLeastMember (named_of groups) i
  has_member i later within =
      let none : Group = record { code = []; members = [] } in
      let group = get_or groups i none in
      let at = slice_get-get_or groups i none within in
      let is = group_at t columns groups matrix i group later at in
      let (node, first) = first_of group.members is.some in
      (node, record { group = named false group; at = named_there groups i group later at; first = first })

-- the numbers of what groups are called by
module _ (n : Numbered) (columns : List NodeName) (groups : List Group) (matrix : IsMatrix (topology_of n) columns groups) where
  -- are those of nodes
  pub side_live : (i : ℕ) (id : Option NodeId) → IsCalledBy n groups i id → IsSideLive n id
  side_live i None is = tt
  side_live i (Some id) (node, named, called) = (node, named)

  -- and of problems
  pub side_called : (i : ℕ) (id : Option NodeId) → IsCalledBy n groups i id → IsSideAt n id
  side_called i None is = tt
  side_called i (Some id) (node, named, called) = record { name = node; named = named; problem = (called_by (topology_of n) columns groups matrix i node called).problem }

  -- what has such a number the group is called by
  pub name_called : (i : ℕ) (id : Option NodeId) (name : GroupName) → IsCalledBy n groups i id → IsSideNamed n id (least_of name) → IsCalled groups i name
  name_called i None Quiet is named = is
  name_called i None (Least node) is named = absurd named
  name_called i (Some id) Quiet is named = absurd named
  name_called i (Some id) (Least other) (node, its, called) named =
      subst (λ (x : NodeName). IsCalled groups i (Least x)) (one_name n id node other its named) called

-- a number that may be there has one name
pub one_side : (n : Numbered) (id : Option NodeId) (a b : Option NodeName) → IsSideNamed n id a → IsSideNamed n id b → a ≡ b
one_side n None None None p q = refl
one_side n None None (Some b) p q = absurd q
one_side n None (Some a) b p q = absurd p
one_side n (Some id) None b p q = absurd p
one_side n (Some id) (Some a) None p q = absurd q
one_side n (Some id) (Some a) (Some b) p q = ap (λ (x : NodeName). Some x) (one_name n id a b p q)

-- numbers have one list of names
pub names_are_one : (n : Numbered) (ids : List NodeId) (xs ys : List NodeName) → AreNamed n ids xs → AreNamed n ids ys → xs ≡ ys
names_are_one n [] [] [] p q = refl
names_are_one n [] [] (y ∷ ys) p q = absurd q
names_are_one n [] (x ∷ xs) ys p q = absurd p
names_are_one n (id ∷ ids) [] ys p q = absurd p
names_are_one n (id ∷ ids) (x ∷ xs) [] p q = absurd q
names_are_one n (id ∷ ids) (x ∷ xs) (y ∷ ys) p q =
    let here : x ≡ y = one_name n id x y p.0 q.0 in
    let rest = names_are_one n ids xs ys p.1 q.1 in
    cc

-- the number and the name at a place
pub name_at : (n : Numbered) (ids : List NodeId) (names : List NodeName) → AreNamed n ids names → (k : ℕ) (id : NodeId) → slice_get ids k ≡ Some id
    → (name : NodeName) × (slice_get names k ≡ Some name) × IsNodeNamed n id name
name_at n [] [] zip k id at = cc
name_at n [] (x ∷ names) zip k id at = absurd zip
name_at n (i ∷ ids) [] zip k id at = absurd zip
name_at n (i ∷ ids) (x ∷ names) zip zero id at = let same : i ≡ id = cc in (x, refl, subst (λ (j : NodeId). IsNodeNamed n j x) same zip.0)
name_at n (i ∷ ids) (x ∷ names) zip (suc k) id at = name_at n ids names zip.1 k id at

-- the numbers at some places have the names at these places
pub named_at : (n : Numbered) (all : List NodeId) (names : List NodeName) → AreNamed n all names → (places : List ℕ) (ids : List NodeId) → AreAt all places ids
    → HaveColumnPlaces n names places ids
named_at n all names named [] [] are = ([], tt, tt)
named_at n all names named [] (id ∷ ids) are = absurd are
named_at n all names named (place ∷ places) [] are = absurd are
named_at n all names named (place ∷ places) (id ∷ ids) are =
    let (name, stands, its) = name_at n all names named place id are.0 in
    let (columns, rest_named, have) = named_at n all names named places ids are.1 in
    (name ∷ columns, (its, rest_named), (stands, have))

-- places within a list have names
pub names_at : (all : List NodeName) (places : List ℕ) → All (λ place. place < length all) places → (columns : List NodeName) × HavePlaces all columns places
names_at all [] within = ([], tt)
names_at all (place ∷ places) within =
    let none : NodeName = record { event = []; instance = [] } in
    let at = slice_get-get_or all place none (within 0 0 (omega arith)) in
    let (columns, have) = names_at all places (λ k d lt. within (suc k) d (omega arith)) in
    (get_or all place none ∷ columns, (at, have))

-- what has a place among columns is a column
each_column : (t : Topology) (all columns : List NodeName) (places : List ℕ) → AreColumns t all → HavePlaces all columns places → All (IsColumn t) columns
each_column t all [] [] are have = All-nil (IsColumn t)
each_column t all [] (p ∷ places) are have = absurd have
each_column t all (c ∷ columns) [] are have = absurd have
each_column t all (c ∷ columns) (p ∷ places) are have =
    All-cons (IsColumn t) c columns (are.each c (contains_from_get all p c have.0)) (each_column t all columns places are have.1)

pub columns_stand : (n : Numbered) (all : List NodeName) → AreColumns (topology_of n) all → (places : List ℕ) → IsStrictlyIncreasing places
    → (ids : List NodeId) → HaveColumnPlaces n all places ids → AreSpanColumns n ids
columns_stand n all are places rise ids (columns, named, have) = record {
  columns = columns;
  named = named;
  each = each_column (topology_of n) all columns places are have;
  rise = places_rise all columns places are.rise have rise;
}
