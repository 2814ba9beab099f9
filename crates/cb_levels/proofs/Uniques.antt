-- A problem has one canonical list of levels.
use Rattle.std.proofs.Common.{◌≡◌, ℕ, zero, suc, ◌-◌, List, [], ◌∷◌, map, get_or, refl, sym, ap, subst, ◌∙◌, arith, Some, inl, inr}
use Rattle.std.specs.Prelude.{slice_get}
use Rattle.std.specs.List.{Contains}
use Rattle.std.specs.declared.cmp.Ordering.TheVariants.{Less}
use Rattle.std.proofs.lemmas.List.{length-map, get_or-map}
use Rattle.std.proofs.lemmas.Option.{same_Some, slice_get-get_or}
use Rattle.cb_model.specs.declared.node.NodeName.{NodeName}
use Rattle.cb_model.specs.Order.{Rises}
use Rattle.cb_model.specs.NodeOrder.{node_cmp}
use Rattle.cb_model.proofs.Rising.{node_strict, same_rising}
use Rattle.cb_network.specs.Topology.{Topology}
use Rattle.cb_validity.specs.Spans.{StandsFor}
use Rattle.cb_validity.proofs.SpanLaws.{stands_for_one}
use Rattle.cb_validity.proofs.Uniques.{one_number, lists_from_gets, got}
use Rattle.cb_validity.proofs.Canonicals.{contains_from_get}
use Rattle.cb_levels.specs.declared.levels.LevelEntry.{LevelEntry}
use Rattle.cb_levels.specs.declared.levels.Levels.{Levels}
use Rattle.cb_levels.specs.Level.{IsPrevious}
use Rattle.cb_levels.specs.Listed.{IsEntryAt}
use Rattle.cb_levels.specs.Canonical.{AreCanonicalLevels, entry_cmp}
use Rattle.cb_levels.proofs.One.{level_is_one, previous_is_one}
use Rattle.cb_levels.proofs.Order.{less_cases}
use Rattle.cb_levels.proofs.Canonicals.{listed_once}

-- an entry without its parent
abbrev bare : LevelEntry → LevelEntry
bare e = record { node = e.node; level = e.level; parent = 0 }

entry_strict : (x y : LevelEntry) → entry_cmp x y ≡ Less → entry_cmp y x ≡ Less → ⊥
entry_strict x y a b =
    elim (less_cases x y a) [
      | inl lower ↦ elim (less_cases y x b) [
        | inl higher ↦ omega arith
        | inr both ↦ let e = both.0 in omega arith
      ]
      | inr both ↦ elim (less_cases y x b) [
        | inl higher ↦ let e = both.0 in omega arith
        | inr too ↦ let e = both.1 in let f = too.1 in omega arith
      ]
    ]

-- what stands at a position of a list stands there bare in the bare list, and the other way round
bare_at : (xs : List LevelEntry) (k : ℕ) (x : LevelEntry) → slice_get xs k ≡ Some x → slice_get (map bare xs) k ≡ Some (bare x)
bare_at [] k x at = absurd (cc)
bare_at (y ∷ ys) zero x at = ap (λ e. Some (bare e)) (same_Some y x at)
bare_at (y ∷ ys) (suc k) x at = bare_at ys k x at

from_bare : (xs : List LevelEntry) (k : ℕ) (z : LevelEntry) → slice_get (map bare xs) k ≡ Some z
    → (x : LevelEntry) × (slice_get xs k ≡ Some x) × (bare x ≡ z)
from_bare [] k z at = absurd (cc)
from_bare (y ∷ ys) zero z at = (y, refl, same_Some (bare y) z at)
from_bare (y ∷ ys) (suc k) z at = from_bare ys k z at

bare_rises : (xs : List LevelEntry) → Rises entry_cmp xs → Rises entry_cmp (map bare xs)
bare_rises xs rise i j d below within =
    let long = length-map xs bare in
    let first = get_or-map bare xs i d d (omega arith) in
    let second = get_or-map bare xs j d d (omega arith) in
    let less : entry_cmp (bare (get_or xs i d)) (bare (get_or xs j d)) ≡ Less = rise i j d below (omega arith) in
    subst (λ x. entry_cmp x (get_or (map bare xs) j d) ≡ Less) (sym first) (subst (λ y. entry_cmp (bare (get_or xs i d)) y ≡ Less) (sym second) less)

-- canonical levels over the same nodes
module _ (t : Topology) (p : NodeName) (nodes : List NodeName) where
  abbrev with_entries : List LevelEntry → Levels
  with_entries entries = record { nodes = nodes; entries = entries }

  -- an entry lists a node
  node_of : (xs : List LevelEntry) → AreCanonicalLevels t p (with_entries xs) → (k : ℕ) (x : LevelEntry) → slice_get xs k ≡ Some x
      → (n : NodeName) × IsEntryAt (with_entries xs) k x n
  node_of xs is zero x at =
      let first = is.first in
      let listed = first.listed in
      let same : first.entry ≡ x = same_Some first.entry x (sym listed.is ∙ at) in
      (p, subst (λ e. IsEntryAt (with_entries xs) 0 e p) same listed)
  node_of xs is (suc k) x at = let f = is.parents (suc k) x (omega arith) at in (f.node, record { is = at; names = f.names })

  module _ (xs ys : List LevelEntry) (cx : AreCanonicalLevels t p (with_entries xs)) (cy : AreCanonicalLevels t p (with_entries ys)) where
    -- what the one lists the other lists, but for the parent
    moved : (z : LevelEntry) → Contains (map bare xs) z → Contains (map bare ys) z
    moved z in_xs =
        let long = length-map xs bare in
        let low = in_xs.1 in
        let x = from_bare xs in_xs.0 z (slice_get-get_or (map bare xs) in_xs.0 z low ∙ ap Some in_xs.2) in
        let n = node_of xs cx in_xs.0 x.0 x.1 in
        let there = ((cy.lists).caused n.0).1 (((cx.lists).caused n.0).0 (in_xs.0, x.0, n.1)) in
        let y = there.1 in
        let at = there.2 in
        let level : y.level ≡ x.0.level = level_is_one t p n.0 y.level x.0.level ((cy.lists).each there.0 y n.0 at) ((cx.lists).each in_xs.0 x.0 n.0 n.1) in
        let names = n.1 in
        let number : y.node ≡ x.0.node = one_number nodes cx.rise y.node x.0.node n.0 at.names names.names in
        let same : bare y ≡ bare x.0 = λ i. record { node = number i; level = level i; parent = 0 } in
        contains_from_get (map bare ys) there.0 z (bare_at ys there.0 y at.is ∙ ap Some (same ∙ x.2))

  module _ (xs ys : List LevelEntry) (cx : AreCanonicalLevels t p (with_entries xs)) (cy : AreCanonicalLevels t p (with_entries ys)) where
    same_bare : map bare xs ≡ map bare ys
    same_bare = same_rising entry_cmp entry_strict (map bare xs) (map bare ys) (bare_rises xs cx.order) (bare_rises ys cy.order)
        (moved xs ys cx cy) (moved ys xs cy cx)

    -- at each position of the one there is an entry of the other with the same node and level
    same_at : (k : ℕ) (x : LevelEntry) → slice_get xs k ≡ Some x → (y : LevelEntry) × (slice_get ys k ≡ Some y) × (bare y ≡ bare x)
    same_at k x at = from_bare ys k (bare x) (ap (λ zs. slice_get zs k) (sym same_bare) ∙ bare_at xs k x at)

    same_parent : (k : ℕ) (x y : LevelEntry) → slice_get xs k ≡ Some x → slice_get ys k ≡ Some y → y.node ≡ x.node → x.parent ≡ y.parent
    same_parent zero x y at_x at_y number =
        let fx = cx.first in
        let fy = cy.first in
        let ex : fx.entry ≡ x = same_Some fx.entry x (sym (fx.listed).is ∙ at_x) in
        let ey : fy.entry ≡ y = same_Some fy.entry y (sym (fy.listed).is ∙ at_y) in
        ap (λ (e : LevelEntry). e.parent) (sym ex) ∙ (fx.alone ∙ (sym fy.alone ∙ ap (λ (e : LevelEntry). e.parent) ey))
    same_parent (suc k) x y at_x at_y number =
        let fx = cx.parents (suc k) x (omega arith) at_x in
        let fy = cy.parents (suc k) y (omega arith) at_y in
        let names : StandsFor nodes x.node fy.node = subst (λ m. StandsFor nodes m fy.node) number fy.names in
        let node : fy.node ≡ fx.node = stands_for_one nodes x.node fy.node fx.node names fx.names in
        let from_x : IsPrevious t p fy.node fx.previous = subst (λ n. IsPrevious t p n fx.previous) (sym node) fx.previous_is in
        let previous : fx.previous ≡ fy.previous = previous_is_one t p fy.node fx.previous fy.previous from_x fy.previous_is in
        let listed = fx.from_is in
        let there = same_at fx.position fx.from listed.is in
        let number' : fx.from.node ≡ there.0.node = ap (λ (e : LevelEntry). e.node) (sym there.2) in
        let names' : StandsFor nodes there.0.node fx.previous = subst (λ m. StandsFor nodes m fx.previous) number' listed.names in
        let moved_to : IsEntryAt (with_entries ys) fx.position there.0 fy.previous = subst (λ n. IsEntryAt (with_entries ys) fx.position there.0 n) previous
        (record { is = there.1; names = names' })
        in
        let position = listed_once t p (with_entries ys) cy fx.position fy.position there.0 fy.from fy.previous moved_to fy.from_is in
        let a = fx.parent in
        let b = fy.parent in
        omega arith

  module _ (xs ys : List LevelEntry) (cx : AreCanonicalLevels t p (with_entries xs)) (cy : AreCanonicalLevels t p (with_entries ys)) where
    -- where the one has an entry, the other has the same
    same_entry : (k : ℕ) (x : LevelEntry) → slice_get xs k ≡ Some x → slice_get ys k ≡ Some x
    same_entry k x at =
        let y = same_at xs ys cx cy k x at in
        let number : y.0.node ≡ x.node = ap (λ (e : LevelEntry). e.node) y.2 in
        let level : y.0.level ≡ x.level = ap (λ (e : LevelEntry). e.level) y.2 in
        let parent : y.0.parent ≡ x.parent = sym (same_parent xs ys cx cy k x y.0 at y.1 number) in
        let same : y.0 ≡ x = λ i. record { node = number i; level = level i; parent = parent i } in
        y.1 ∙ ap Some same

  one_list : (xs ys : List LevelEntry) → AreCanonicalLevels t p (with_entries xs) → AreCanonicalLevels t p (with_entries ys) → xs ≡ ys
  one_list xs ys cx cy = lists_from_gets xs ys (λ k. elim (got xs k) [
    | inl x ↦ x.1 ∙ sym (same_entry xs ys cx cy k x.0 x.1)
    | inr none ↦ elim (got ys k) [
      | inl y ↦ same_entry ys xs cy cx k y.0 y.1 ∙ sym y.1
      | inr none' ↦ none ∙ sym none'
    ]
  ])

-- the nodes of the one are those of the other
node_moved : (t : Topology) (p : NodeName) (a b : Levels) → AreCanonicalLevels t p a → AreCanonicalLevels t p b → (n : NodeName) → Contains a.nodes n → Contains b.nodes n
node_moved t p a b ca cb n in_a =
    let there = ((cb.lists).caused n).1 (((ca.lists).caused n).0 (ca.used n in_a)) in
    let listed = there.2 in
    let names = listed.names in
    contains_from_get b.nodes (there.1.node - 1) n names.is

pub canonical_is_one : (t : Topology) (p : NodeName) (a b : Levels) → AreCanonicalLevels t p a → AreCanonicalLevels t p b → a ≡ b
canonical_is_one t p a b ca cb =
    let nodes : a.nodes ≡ b.nodes = same_rising node_cmp node_strict a.nodes b.nodes ca.rise cb.rise (node_moved t p a b ca cb) (node_moved t p b a cb ca) in
    let over : AreCanonicalLevels t p (record { nodes = a.nodes; entries = b.entries }) =
    subst (λ ns. AreCanonicalLevels t p (record { nodes = ns; entries = b.entries })) (sym nodes) cb
    in
    let entries = one_list t p a.nodes a.entries b.entries ca over in
    λ i. record { nodes = nodes i; entries = entries i }
