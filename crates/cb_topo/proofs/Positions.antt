-- The positions of the first of some nodes, by their numbers; and what their names say of these numbers.
use Rattle.std.proofs.Common.{◌≡◌, ℕ, zero, suc, ◌+◌, ◌<◌, ◌≤◌, List, [], ◌∷◌, length, replicate, Option, None, Some, slice_get, refl, sym, ap, subst, ◌∙◌, inl, inr, arith}
use Rattle.std.specs.Prelude.{slice_set}
use Rattle.std.specs.declared.cmp.Ordering.TheVariants.{Less}
use Rattle.std.specs.List.{slice_index_or}
use Rattle.std.specs.Option.{IsSome}
use Rattle.std.proofs.lemmas.Bool.{cases_eq, cases_lt, cases_order}
use Rattle.std.proofs.lemmas.List.{get_or_past, length-set, length-replicate}
use Rattle.std.proofs.lemmas.Option.{same_Some, slice_get_within, get_or_from_slice_get}
use Rattle.cb_model.proofs.Numbers.{slice_get-set_other, slice_get-set_same, slice_get-set_here, slice_get-replicate}
use Rattle.cb_model.proofs.Rising.{node_strict, node_cmp_total, node_cmp_exact}
use Rattle.cb_model.specs.declared.node.NodeName.{NodeName}
use Rattle.cb_model.specs.NodeOrder.{node_cmp}
use Rattle.cb_model.specs.Order.{Rises}
use Rattle.cb_network.specs.Nodes.{IsColumn, AreColumns, IsCount}
use Rattle.cb_network.specs.Sound.{Sound, symptom_limit}
use Rattle.cb_network.specs.Topology.{Topology}
use Rattle.cb_network.proofs.Counts.{count_of_rising}
use Rattle.cb_network.proofs.Sets.{len_of_part}
use Rattle.cb_nodes.specs.declared.id.NodeId.{NodeId}
use Rattle.cb_topo.specs.Columns.{AreDistinctIds, AreIdsBelow, IsPositionOf, IsPositionTable}
use Rattle.cb_topo.specs.Numbered.{Numbered, IsNodeNamed, IsLiveNode, AreNamed}
use Rattle.cb_topo.proofs.Naming.{one_name}

-- for the number of each node its position among the first of these, if it is one
pub record IsTableTo (capacity : ℕ) (ids : List NodeId) (to : ℕ) (positions : List (Option ℕ)) : Type 0 where
  pub size : length positions ≡ capacity
  pub each : (id : NodeId) (i : ℕ) → slice_get positions id.0 ≡ Some (Some i) → slice_get ids i ≡ Some id
  pub all : (id : NodeId) (i : ℕ) → i < to → slice_get ids i ≡ Some id → slice_get positions id.0 ≡ Some (Some i)

pub no_positions : (capacity : ℕ) (ids : List NodeId) → IsTableTo capacity ids 0 (replicate capacity None)
no_positions capacity ids = record {
  size = length-replicate capacity None;
  each = λ id i is. absurd (let e = slice_get-replicate capacity id.0 None (Some i) is in cc);
  all = λ id i low is. absurd (omega arith);
}

same_id : (i j : NodeId) → i.0 ≡ j.0 → i ≡ j
same_id i j e = λ k. record { 0 = e k }

module _ (capacity : ℕ) (ids : List NodeId) (to : ℕ) (positions : List (Option ℕ)) (id : NodeId) (once : AreDistinctIds ids) (below : AreIdsBelow capacity ids)
    (old : IsTableTo capacity ids to positions) (here : slice_get ids to ≡ Some id) where
  earlier : (other : NodeId) (i : ℕ) → i < to + 1 → slice_get ids i ≡ Some other → (other.0 ≡ id.0 → ⊥) → i < to
  earlier other i low is unlike = elim (cases_lt i to) [
    | inl less ↦ less
    | inr high ↦
        let last : i ≡ to = omega arith in
        let both : Some other ≡ Some id = sym is ∙ (ap (slice_get ids) last ∙ here) in
        absurd (unlike (ap (λ (x : NodeId). x.0) (same_Some other id both)))
  ]

  pub one_more_position : IsTableTo capacity ids (to + 1) (slice_set positions id.0 (Some to))
  one_more_position = record {
    size = length-set positions id.0 (Some to) ∙ old.size;
    each = λ other i is. elim (cases_eq other.0 id.0) [
      | inl same ↦
          let now = subst (λ k. slice_get (slice_set positions id.0 (Some to)) k ≡ Some (Some i)) same is in
          let written = slice_get-set_same positions id.0 (Some to) (Some i) now in
          let at : to ≡ i = cc in
          subst (λ p. slice_get ids p ≡ Some other) at (subst (λ (x : NodeId). slice_get ids to ≡ Some x) (sym (same_id other id same)) here)
      | inr unlike ↦ old.each other i (sym (slice_get-set_other positions id.0 other.0 (Some to) (λ e. unlike (sym e))) ∙ is)
    ];
    all = λ other i low is. elim (cases_eq other.0 id.0) [
      | inl same ↦
          let at : to ≡ i = once to i other (subst (λ (x : NodeId). slice_get ids to ≡ Some x) (sym (same_id other id same)) here) is in
          let within : id.0 < length positions = (let e = below to id here in let f = old.size in omega arith) in
          subst (λ k. slice_get (slice_set positions id.0 (Some to)) k ≡ Some (Some i)) (sym same)
          (slice_get-set_here positions id.0 (Some to) within ∙ ap (λ p. Some (Some p)) at)
      | inr unlike ↦
          slice_get-set_other positions id.0 other.0 (Some to) (λ e. unlike (sym e)) ∙ old.all other i (earlier other i low is unlike) is
    ];
  }

pub all_positions : (capacity : ℕ) (ids : List NodeId) (to : ℕ) (positions : List (Option ℕ)) → length ids ≤ to → IsTableTo capacity ids to positions → IsPositionTable ids positions
all_positions capacity ids to positions end old = record {
  each = old.each;
  all = λ id i is. old.all id i (let e = slice_get_within ids i id is in omega arith) is;
}

-- what is read at a node's number
module _ (ids : List NodeId) (positions : List (Option ℕ)) (are : IsPositionTable ids positions) (id : NodeId) where
  pub position_there : (found : Option ℕ) → slice_get positions id.0 ≡ Some found → IsPositionOf ids id found
  position_there None at = λ i is.
      let both : Some (Some i) ≡ Some None = sym (are.all id i is) ∙ at in
      absurd (cc)
  position_there (Some place) at = λ i. (
    λ is.
        let both : Some (Some i) ≡ Some (Some place) = sym (are.all id i is) ∙ at in
        same_Some i place (same_Some (Some i) (Some place) both),
    λ same. subst (λ k. slice_get ids k ≡ Some id) (sym same) (are.each id place at),
  )

  pub no_position_past : length positions ≤ id.0 → IsPositionOf ids id None
  no_position_past past = λ i is. let low = slice_get_within positions id.0 (Some i) (are.all id i is) in absurd (omega arith)

-- a node that is among them has a position, and that is where it is
pub has_position : (ids : List NodeId) (id : NodeId) (found : Option ℕ) (i : ℕ) → IsPositionOf ids id found → slice_get ids i ≡ Some id → IsSome found
has_position ids id None i is at = absurd (is i at)
has_position ids id (Some position) i is at = refl

pub at_position : (ids : List NodeId) (id : NodeId) (found : Option ℕ) (position : ℕ) → found ≡ Some position → IsPositionOf ids id found → slice_get ids position ≡ Some id
at_position ids id found position same is = (subst (IsPositionOf ids id) same is position).1 refl

-- the name of the number at a position
pub name_there : (n : Numbered) (ids : List NodeId) (names : List NodeName) → AreNamed n ids names → (i : ℕ) (id : NodeId) → slice_get ids i ≡ Some id
    → (name : NodeName) × (slice_get names i ≡ Some name) × IsNodeNamed n id name
name_there n [] names zip i id at = absurd (cc at)
name_there n (a ∷ ids) [] zip i id at = absurd zip
name_there n (a ∷ ids) (x ∷ names) zip zero id at = let same : a ≡ id = cc at in (x, refl, subst (λ (k : NodeId). IsNodeNamed n k x) same zip.0)
name_there n (a ∷ ids) (x ∷ names) zip (suc i) id at = name_there n ids names zip.1 i id at

-- in a list in order no name is there twice
apart : (names : List NodeName) (i j : ℕ) (x : NodeName) → Rises node_cmp names → slice_get names i ≡ Some x → slice_get names j ≡ Some x → i < j → ⊥
apart names i j x rise at_i at_j low =
    let below = rise i j x low (slice_get_within names j x at_j) in
    let less : node_cmp x x ≡ Less =
    subst (λ y. node_cmp x y ≡ Less) (get_or_from_slice_get names j x x at_j)
    (subst (λ y. node_cmp y (slice_index_or names j x) ≡ Less) (get_or_from_slice_get names i x x at_i) below)
    in
    node_strict x x less less

-- and so no number of one of them
pub distinct_of_rising : (n : Numbered) (ids : List NodeId) (names : List NodeName) → Rises node_cmp names → AreNamed n ids names → AreDistinctIds ids
distinct_of_rising n ids names rise named i j id at_i at_j =
    let one = name_there n ids names named i id at_i in
    let other = name_there n ids names named j id at_j in
    let same : other.0 ≡ one.0 = one_name n id other.0 one.0 other.2 one.2 in
    let there : slice_get names j ≡ Some one.0 = other.1 ∙ ap Some same in
    elim (cases_order i j) [
      | inl is ↦ is
      | inr (inl less) ↦ absurd (apart names i j one.0 rise one.1 there less)
      | inr (inr more) ↦ absurd (apart names j i one.0 rise there one.1 more)
    ]

-- the number of a node is below the capacity
pub live_below : (n : Numbered) (id : NodeId) → IsLiveNode n id → id.0 < length n.nodes
live_below n id live = elim (cases_lt id.0 (length n.nodes)) [
  | inl lt ↦ lt
  | inr past ↦ absurd (let none = get_or_past n.nodes id.0 None past in let some = live.1.is in cc)
]

pub named_below : (n : Numbered) (ids : List NodeId) (names : List NodeName) → AreNamed n ids names → AreIdsBelow (length n.nodes) ids
named_below n ids names named i id at = let there = name_there n ids names named i id at in live_below n id (there.0, there.2)

pub length_named : (n : Numbered) (ids : List NodeId) (names : List NodeName) → AreNamed n ids names → length ids ≡ length names
length_named n [] [] zip = refl
length_named n [] (x ∷ names) zip = absurd zip
length_named n (a ∷ ids) [] zip = absurd zip
length_named n (a ∷ ids) (x ∷ names) zip = let e = length_named n ids names zip.1 in omega arith

-- a sound topology has no more columns than symptoms
pub few_columns : (t : Topology) → Sound t → (names : List NodeName) → AreColumns t names → length names ≤ symptom_limit
few_columns t sound names are =
    let count : IsCount (IsColumn t) (length names) = count_of_rising (IsColumn t) names are.rise (λ q. (are.each q, are.all q)) in
    let within = sound.few_symptoms in
    let all = within.1 in
    let less = len_of_part node_cmp_total node_cmp_exact count.nodes all.nodes (λ q has. (all.members q).1 ((count.members q).0 has).symptom) in
    let m = count.len in
    let k = all.len in
    let low = within.2 in
    omega arith
