-- What problems cause together is what it costs to search from each.
use Rattle.std.proofs.Common.{◌≡◌, ◌≢◌, ◌⊎◌, ◌↔◌, ℕ, List, [], ◌∷◌, sum, slice_index_or, refl, sym, ap, subst, ◌∙◌, inl, inr, arith}
use Rattle.std.specs.List.{AllPairs, AllZip, Contains}
use Rattle.std.specs.Ordering.{ordering_reverse}
use Rattle.std.specs.declared.cmp.Ordering.TheVariants.{Less, Equal, Greater}
use Rattle.std.proofs.lemmas.List.Kept.{AllPairs-cons}
use Rattle.std.proofs.lemmas.List.Elements.{Contains-get_or}
use Rattle.cb_model.specs.declared.node.NodeName.{NodeName}
use Rattle.cb_model.specs.NodeOrder.{node_cmp}
use Rattle.cb_model.specs.Order.{Rises}
use Rattle.cb_model.proofs.Rising.{node_cmp_total, node_cmp_exact, node_strict, rises_head, rises_tail, contains_cases, contains_head, contains_tail, nothing_in_empty}
use Rattle.cb_network.specs.Causes.{Causes}
use Rattle.cb_network.specs.Nodes.{IsProblem, IsCount}
use Rattle.cb_network.specs.Topology.{Topology}
use Rattle.cb_change.specs.Costs.{IsOpenCost}
use Rattle.cb_change.proofs.Totals.{one_total}
use Rattle.cb_validity.specs.Totals.{IsReach, IsTotalReach}
use Rattle.cb_validity.specs.Laws.{TotalReachIsOpenCost}

rises_cons : (x : NodeName) (xs : List NodeName) → ((z : NodeName) → Contains xs z → node_cmp x z ≡ Less) → Rises node_cmp xs → Rises node_cmp (x ∷ xs)
rises_cons x xs below rise = AllPairs-cons (λ a b. node_cmp a b ≡ Less) x xs (λ k d lt. below (slice_index_or xs k d) (Contains-get_or xs k d lt)) rise

members_cons : (x : NodeName) (xs : List NodeName) (q : NodeName) → Contains (x ∷ xs) q ↔ ((x ≡ q) ⊎ Contains xs q)
members_cons x xs q = (
  λ has. contains_cases x xs q has,
  λ h. elim h [ inl same ↦ subst (Contains (x ∷ xs)) same (contains_head x xs) | inr later ↦ contains_tail x xs q later ],
)

-- these names and one more, in order
record IsWith (x : NodeName) (xs : List NodeName) : Type 0 where
  list : List NodeName
  rise : Rises node_cmp list
  each : (q : NodeName) → Contains list q ↔ ((x ≡ q) ⊎ Contains xs q)

put_in : (x : NodeName) (xs : List NodeName) → Rises node_cmp xs → IsWith x xs
put_in x [] rise = record { list = x ∷ []; rise = rises_cons x [] (λ z has. absurd (nothing_in_empty z has)) rise; each = members_cons x [] }
put_in x (y ∷ ys) rise = elim (node_cmp x y) as (λ o. node_cmp x y ≡ o → IsWith x (y ∷ ys)) [
  | Less ↦ λ e. record {
    list = x ∷ y ∷ ys;
    rise = rises_cons x (y ∷ ys) (λ z has. elim (contains_cases y ys z has) [
      | inl same ↦ subst (λ w. node_cmp x w ≡ Less) same e
      | inr later ↦ node_cmp_total.trans x y z e (rises_head node_cmp y ys rise z later)
    ]) rise;
    each = members_cons x (y ∷ ys);
  }
  | Equal ↦ λ e. record {
    list = y ∷ ys;
    rise = rise;
    each = λ q. (
      λ has. inr has,
      λ h. elim h [
        | inl same ↦ subst (Contains (y ∷ ys)) (sym (node_cmp_exact x y e) ∙ same) (contains_head y ys)
        | inr has ↦ has
      ],
    );
  }
  | Greater ↦ λ e.
      let rest = put_in x ys (rises_tail node_cmp y ys rise) in
      let before : node_cmp y x ≡ Less = node_cmp_total.antisymm y x ∙ ap ordering_reverse e in
      record {
        list = y ∷ rest.list;
        rise = rises_cons y rest.list (λ z has. elim ((rest.each z).0 has) [
          | inl same ↦ subst (λ w. node_cmp y w ≡ Less) same before
          | inr later ↦ rises_head node_cmp y ys rise z later
        ]) rest.rise;
        each = λ q. (
          λ has. elim (contains_cases y rest.list q has) [
            | inl first ↦ inr (subst (Contains (y ∷ ys)) first (contains_head y ys))
            | inr other ↦ elim ((rest.each q).0 other) [
              | inl same ↦ inl same
              | inr later ↦ inr (contains_tail y ys q later)
            ]
          ],
          λ h. elim h [
            | inl same ↦ contains_tail y rest.list q ((rest.each q).1 (inl same))
            | inr has ↦ elim (contains_cases y ys q has) [
              | inl first ↦ subst (Contains (y ∷ rest.list)) first (contains_head y rest.list)
              | inr later ↦ contains_tail y rest.list q ((rest.each q).1 (inr later))
            ]
          ],
        );
      }
] refl

-- the names of a list in order
record IsInOrder (xs : List NodeName) : Type 0 where
  list : List NodeName
  rise : Rises node_cmp list
  each : (q : NodeName) → Contains list q ↔ Contains xs q

in_order : (xs : List NodeName) → IsInOrder xs
in_order [] = record { list = []; rise = λ i j d lt within. absurd (omega arith); each = λ q. (λ has. has, λ has. has) }
in_order (x ∷ xs) =
    let rest = in_order xs in
    let all = put_in x rest.list rest.rise in
    record {
      list = all.list;
      rise = all.rise;
      each = λ q. (
        λ has. elim ((all.each q).0 has) [
          | inl same ↦ subst (Contains (x ∷ xs)) same (contains_head x xs)
          | inr later ↦ contains_tail x xs q ((rest.each q).0 later)
        ],
        λ has. (all.each q).1 (elim (contains_cases x xs q has) [ inl same ↦ inl same | inr later ↦ inr ((rest.each q).1 later) ]),
      );
    }

once_of : (xs : List NodeName) → Rises node_cmp xs → AllPairs (λ p q. p ≢ q) xs
once_of xs rise i j d lt within same =
    let a = slice_index_or xs i d in
    let below : node_cmp a a ≡ Less = subst (λ w. node_cmp a w ≡ Less) (sym same) (rise i j d lt within) in
    node_strict a a below below

module _ (t : Topology) where
  abbrev HasCount : NodeName → ℕ → Type 0
  HasCount p n = IsCount (Causes t p) n

  counts_of : (names : List NodeName) (sizes : List ℕ) → AllZip (IsReach t) names sizes → AllZip HasCount names sizes
  counts_of [] [] zip = tt
  counts_of [] (n ∷ sizes) zip = absurd zip
  counts_of (p ∷ names) [] zip = absurd zip
  counts_of (p ∷ names) (n ∷ sizes) zip =
      let first = zip.0 in
      (record { nodes = first.reached; members = first.is; len = first.size_is }, counts_of names sizes zip.1)

  reach_of : (names : List NodeName) (sizes : List ℕ) → AllZip HasCount names sizes → (q : NodeName) → Contains names q → (n : ℕ) × IsReach t q n
  reach_of [] sizes zip q has = absurd (nothing_in_empty q has)
  reach_of (p ∷ names) [] zip q has = absurd zip
  reach_of (p ∷ names) (n ∷ sizes) zip q has = elim (contains_cases p names q has) [
    | inl same ↦
        let first : HasCount q n = subst (λ r. HasCount r n) same zip.0 in
        (n, record { reached = first.nodes; is = first.members; size_is = first.len })
    | inr later ↦ reach_of names sizes zip.1 q later
  ]

  reaches_of : (list : List NodeName) → ((q : NodeName) → Contains list q → (n : ℕ) × IsReach t q n) → (sizes : List ℕ) × AllZip (IsReach t) list sizes
  reaches_of [] reach = ([], tt)
  reaches_of (p ∷ list) reach =
      let first = reach p (contains_head p list) in
      let rest = reaches_of list (λ q has. reach q (contains_tail p list q has)) in
      (first.0 ∷ rest.0, (first.1, rest.1))

  opened : (total : ℕ) → IsTotalReach t total → IsOpenCost t total
  opened total is = record {
    names = is.problems;
    once = once_of is.problems is.problems_are.rise;
    each = λ p. (is.problems_are.each p, is.problems_are.all p);
    sizes = is.together.sizes;
    sized = counts_of is.problems is.together.sizes is.together.sizes_are;
    total_is = is.together.total_is;
  }

  reached : (total : ℕ) → IsOpenCost t total → IsTotalReach t total
  reached total cost =
      let ordered = in_order cost.names in
      let sizes = reaches_of ordered.list (λ q has. reach_of cost.names cost.sizes cost.sized q ((ordered.each q).0 has)) in
      let made : IsTotalReach t (sum sizes.0) = record {
        problems = ordered.list;
        problems_are = record {
          rise = ordered.rise;
          each = λ q has. (cost.each q).0 ((ordered.each q).0 has);
          all = λ q problem. (ordered.each q).1 ((cost.each q).1 problem);
        };
        together = record { sizes = sizes.0; sizes_are = sizes.1; total_is = refl };
      } in
      subst (λ (n : ℕ). IsTotalReach t n) (one_total (IsProblem t) (Causes t) (sum sizes.0) total (opened (sum sizes.0) made) cost) made

pub total_reach_is_open_cost : TotalReachIsOpenCost
total_reach_is_open_cost t total = (opened t total, reached t total)
