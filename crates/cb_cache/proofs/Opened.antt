-- Once every problem is searched from, the rows are right, and the steps are no more than what all problems cause.
use Rattle.std.proofs.Common.{◌≡◌, ◌≢◌, ◌↔◌, ℕ, zero, suc, ◌<◌, ◌≤◌, List, [], ◌∷◌, length, sum, replicate, Option, Some, None, slice_index_or, refl, subst, inl, inr, arith}
use Rattle.std.specs.List.{All, AllZip, AllPairs, Contains}
use Rattle.std.proofs.lemmas.List.Elements.{Contains-get_or}
use Rattle.cb_model.proofs.Numbers.{slice_get-replicate}
use Rattle.cb_model.proofs.Rising.{contains_cases, contains_head, contains_tail, nothing_in_empty, node_cmp_total, node_cmp_exact}
use Rattle.cb_model.specs.declared.node.NodeName.{NodeName}
use Rattle.cb_model.specs.Order.{Rises}
use Rattle.cb_model.specs.NodeOrder.{node_cmp}
use Rattle.cb_network.specs.Causes.{Causes}
use Rattle.cb_network.specs.Topology.{Topology}
use Rattle.cb_network.specs.Nodes.{IsProblem, IsNodeOf, IsCount, IsCountWithin}
use Rattle.cb_network.proofs.Counts.{count_of_rising}
use Rattle.cb_network.proofs.Sets.{len_of_part}
use Rattle.cb_change.specs.Costs.{IsOpenCost, IsTotal, CountsAtMost}
use Rattle.cb_nodes.specs.declared.id.NodeId.{NodeId}
use Rattle.cb_pool.specs.declared.slot.Slot.{Slot}
use Rattle.cb_pool.specs.Pool.{Pool, IsTaken}
use Rattle.cb_topo.specs.Numbered.{Numbered, topology_of, IsNodeNamed, IsLiveNode, AreNamed, IsWhole}
use Rattle.cb_graph.specs.Edges.{number}
use Rattle.cb_graph.proofs.Chains.{named_once}
use Rattle.cb_cache.specs.Reached.{HasSlot}
use Rattle.cb_cache.specs.Filled.{AddsRows, HaveNoSlots, HasSize, CostAtMost}
use Rattle.cb_cache.specs.Cached.{AreRows}
use Rattle.cb_cache.specs.Numbers.{AreOnce, AreProblemNumbers}
use Rattle.cb_cache.specs.Kept.{OwnSlots, AreRight}

-- the name of a listed number, and the number of a listed name
pub name_of : (n : Numbered) (ids : List NodeId) (names : List NodeName) → AreNamed n ids names → (id : NodeId) → Contains ids id → (name : NodeName) × Contains names name × IsNodeNamed n id name
name_of n [] names zip id has = absurd (nothing_in_empty id has)
name_of n (a ∷ ids) [] zip id has = absurd zip
name_of n (a ∷ ids) (x ∷ names) zip id has = elim (contains_cases a ids id has) [
  | inl same ↦ (x, contains_head x names, subst (λ (k : NodeId). IsNodeNamed n k x) same zip.0)
  | inr later ↦ let f = name_of n ids names zip.1 id later in (f.0, contains_tail x names f.0 f.1, f.2)
]

pub number_of : (n : Numbered) (ids : List NodeId) (names : List NodeName) → AreNamed n ids names → (name : NodeName) → Contains names name → (id : NodeId) × Contains ids id × IsNodeNamed n id name
number_of n [] [] zip name has = absurd (nothing_in_empty name has)
number_of n [] (x ∷ names) zip name has = absurd zip
number_of n (a ∷ ids) [] zip name has = absurd zip
number_of n (a ∷ ids) (x ∷ names) zip name has = elim (contains_cases x names name has) [
  | inl same ↦ (a, contains_head a ids, subst (IsNodeNamed n a) same zip.0)
  | inr later ↦ let f = number_of n ids names zip.1 name later in (f.0, contains_tail a ids f.0 f.1, f.2)
]

-- the names of two numbers at two places
at_place : (n : Numbered) (ids : List NodeId) (names : List NodeName) → AreNamed n ids names → (i : ℕ) (d : NodeId) (e : NodeName) → i < length ids
    → (i < length names) × IsNodeNamed n (slice_index_or ids i d) (slice_index_or names i e)
at_place n [] names zip i d e lt = absurd (omega arith)
at_place n (a ∷ ids) [] zip i d e lt = absurd zip
at_place n (a ∷ ids) (x ∷ names) zip zero d e lt = (omega arith, zip.0)
at_place n (a ∷ ids) (x ∷ names) zip (suc i) d e lt = let f = at_place n ids names zip.1 i d e (omega arith) in (omega (arith, f.0), f.1)

-- no number has a slot where no place has one
pub no_slot : (capacity : ℕ) (slots : List (Option Slot)) → slots ≡ replicate capacity None → (i : ℕ) (slot : Slot) → ¬ HasSlot slots i slot
no_slot capacity slots is i slot has = let e = slice_get-replicate capacity i None (Some slot) (subst (λ xs. HasSlot xs i slot) is has) in cc

module _ (capacity : ℕ) (slots : List (Option Slot)) (is : slots ≡ replicate capacity None) where
  pub no_slots_for : (ids : List NodeId) → HaveNoSlots slots ids
  no_slots_for ids id slot _ has = no_slot capacity slots is id.0 slot has

  pub no_rows : (n : Numbered) (p : Pool) → AreRows n slots p
  no_rows n p i slot has = absurd (no_slot capacity slots is i slot has)

  pub none_apart : OwnSlots slots
  none_apart i j slot has _ = absurd (no_slot capacity slots is i slot has)

-- the names of numbers of nodes
names_for : (n : Numbered) (ids : List NodeId) → All (IsLiveNode n) ids → (names : List NodeName) × AreNamed n ids names
names_for n [] live = ([], tt)
names_for n (a ∷ ids) live =
    let here = live 0 a (omega arith) in
    let rest = names_for n ids (λ i d lt. live (suc i) d (omega arith)) in
    (here.0 ∷ rest.0, (here.1, rest.1))

-- the problems are no more than there can be
pub few_of_rising : (P Q : NodeName → Type 0) (xs : List NodeName) (limit : ℕ) → Rises node_cmp xs → ((q : NodeName) → Contains xs q ↔ Q q)
    → ((q : NodeName) → Q q → P q) → IsCountWithin P limit → length xs ≤ limit
few_of_rising P Q xs limit rise are part within =
    let count = count_of_rising Q xs rise are in
    let all = within.1 in
    let less = len_of_part node_cmp_total node_cmp_exact count.nodes all.nodes (λ q has. (all.members q).1 (part q ((count.members q).0 has))) in
    let m = count.len in
    let k = all.len in
    let low = within.2 in
    omega arith

pub length_named : (n : Numbered) (ids : List NodeId) (names : List NodeName) → AreNamed n ids names → length ids ≡ length names
length_named n [] [] zip = refl
length_named n [] (x ∷ names) zip = absurd zip
length_named n (a ∷ ids) [] zip = absurd zip
length_named n (a ∷ ids) (x ∷ names) zip = let e = length_named n ids names zip.1 in omega arith

sized : (n : Numbered) (ids : List NodeId) (names : List NodeName) (sizes : List ℕ) → AreNamed n ids names → AllZip (HasSize n) ids sizes
    → AllZip (λ p k. IsCount (Causes (topology_of n) p) k) names sizes
sized n [] [] [] named zip = tt
sized n [] (x ∷ names) sizes named zip = absurd named
sized n [] [] (k ∷ sizes) named zip = absurd zip
sized n (a ∷ ids) [] sizes named zip = absurd named
sized n (a ∷ ids) (x ∷ names) [] named zip = absurd zip
sized n (a ∷ ids) (x ∷ names) (k ∷ sizes) named zip = (zip.0 x named.0, sized n ids names sizes named.1 zip.1)

pub node_of_problem : (t : Topology) (p : NodeName) → IsProblem t p → IsNodeOf t p
node_of_problem t p x = (x.event, record { class = x.class; of_class = x.of_class; named = (x.problem.has, x.named) })

-- these are the numbers of the nodes of which P holds
abbrev pub AreNumbersOf : Numbered → (NodeName → Type 0) → List NodeId → Type 0
AreNumbersOf n P ids = (id : NodeId) → Contains ids id ↔ ((name : NodeName) × IsNodeNamed n id name × P name)

-- searches from listed nodes cost no more than the total over these
module _ (n : Numbered) (whole : IsWhole n) (ids : List NodeId) (once : AreOnce ids) (P : NodeName → Type 0) (are : AreNumbersOf n P ids)
    (nodes : (p : NodeName) → P p → IsNodeOf (topology_of n) p) where
  pub numbers_live : All (IsLiveNode n) ids
  numbers_live k d lt = let there = (are (slice_index_or ids k d)).0 (Contains-get_or ids k d lt) in (there.0, there.1)

  called : (called : List NodeName) × AreNamed n ids called
  called = names_for n ids numbers_live

  called_once : AllPairs (λ p q. p ≢ q) called.0
  called_once i j d lt low same =
      let zero : NodeId = record { 0 = 0 } in
      let long = length_named n ids called.0 called.1 in
      let first = at_place n ids called.0 called.1 i zero d (omega arith) in
      let second = at_place n ids called.0 called.1 j zero d (omega arith) in
      once i j zero lt (omega arith) (whole.one (slice_index_or ids i zero) (slice_index_or ids j zero) (slice_index_or called.0 j d)
      (subst (λ p. IsNodeNamed n (slice_index_or ids i zero) p) same first.1) second.1)

  called_all : (p : NodeName) → Contains called.0 p ↔ P p
  called_all p = (
    λ has.
        let at = number_of n ids called.0 called.1 p has in
        let there = (are at.0).0 at.1 in
        subst P (named_once n at.0 there.0 p there.1 at.2) there.2,
    λ holds.
        let at = whole.named p (nodes p holds) in
        let there = name_of n ids called.0 called.1 at.0 ((are at.0).1 (p, at.1, holds)) in
        subst (Contains called.0) (named_once n at.0 there.0 p there.2 at.1) there.1,
  )

  pub within_total : (steps new_steps : ℕ) → CostAtMost n ids steps new_steps → CountsAtMost (IsTotal P (Causes (topology_of n))) steps new_steps
  within_total steps new_steps most = record {
    cost = sum most.sizes;
    is_cost = record {
      names = called.0;
      once = called_once;
      each = called_all;
      sizes = most.sizes;
      sized = sized n ids called.0 most.sizes called.1 most.sized;
      total_is = refl;
    };
    few = most.few;
  }

module _ (n : Numbered) (whole : IsWhole n) (ids : List NodeId) (are : AreProblemNumbers n ids) where
  pub are_right : (slots new_slots : List (Option Slot)) (p new : Pool) → ((i : ℕ) (slot : Slot) → ¬ HasSlot slots i slot) → ((slot : Slot) → ¬ IsTaken p slot)
      → AddsRows n ids slots new_slots p new → AreRight n new_slots new
  are_right slots new_slots p new none free adds = record {
    rows = adds.rows;
    only = λ i slot has. elim (adds.only i slot has) [
      | inl old ↦ absurd (none i slot old)
      | inr listed ↦ (are.each (number i)).0 listed
    ];
    all = λ i problem. adds.all (number i) ((are.each (number i)).1 problem);
    apart = adds.apart;
    owned = λ slot taken. elim (adds.taken slot taken) [
      | inl before ↦ absurd (free slot before)
      | inr now ↦ now
    ];
  }

  pub all_live : All (IsLiveNode n) ids
  all_live = numbers_live n whole ids are.once (IsProblem (topology_of n)) are.each (node_of_problem (topology_of n))

  pub within_cost : (steps new_steps : ℕ) → CostAtMost n ids steps new_steps → CountsAtMost (IsOpenCost (topology_of n)) steps new_steps
  within_cost = within_total n whole ids are.once (IsProblem (topology_of n)) are.each (node_of_problem (topology_of n))
