-- Those of finitely many items that are such that P stand in one list in order.
use Rattle.std.proofs.Common.{◌≡◌, ◌⊎◌, ◌↔◌, List, [], ◌∷◌, slice_index_or, refl, sym, ap, subst, ◌∙◌, inl, inr, arith}
use Rattle.std.specs.List.{Contains}
use Rattle.std.specs.Cmp.{IsTotalOrder}
use Rattle.std.specs.Ordering.{ordering_reverse}
use Rattle.std.specs.declared.cmp.Ordering.{Ordering}
use Rattle.std.specs.declared.cmp.Ordering.TheVariants.{Less, Equal, Greater}
use Rattle.std.proofs.lemmas.List.Kept.{AllPairs-cons}
use Rattle.std.proofs.lemmas.List.Elements.{Contains-get_or}
use Rattle.cb_model.specs.declared.node.NodeName.{NodeName}
use Rattle.cb_model.specs.NodeOrder.{node_cmp}
use Rattle.cb_model.specs.Order.{Rises}
use Rattle.cb_model.proofs.Rising.{node_cmp_total, node_cmp_exact, rises_head, rises_tail, contains_cases, contains_head, contains_tail, nothing_in_empty}
use Rattle.cb_network.specs.Nodes.{AreInOrder}
use Rattle.cb_network.proofs.Decided.{Decision, decide_same}

-- of each two items such that P one comes before the other, if they aren't one
pub record IsOrderOf {X : Type 0} (cmp : X → X → Ordering) (P : X → Type 0) : Type 0 where
  pub compare : (x y : X) → P x → P y → (x ≡ y) ⊎ ((cmp x y ≡ Less) ⊎ (cmp y x ≡ Less))
  pub through : (x y z : X) → P x → P y → P z → cmp x y ≡ Less → cmp y z ≡ Less → cmp x z ≡ Less

-- a total order is one, where items that tie are one
pub order_of_total : {X : Type 0} (cmp : X → X → Ordering) (P : X → Type 0) → IsTotalOrder cmp
    → ((x y : X) → P x → P y → cmp x y ≡ Equal → x ≡ y) → IsOrderOf cmp P
order_of_total cmp P total exact = record {
  compare = λ x y p q. elim (cmp x y) as (λ o. cmp x y ≡ o → (x ≡ y) ⊎ ((cmp x y ≡ Less) ⊎ (cmp y x ≡ Less))) [
    | Less ↦ λ is. inr (inl is)
    | Equal ↦ λ is. inl (exact x y p q is)
    | Greater ↦ λ is. inr (inr (total.antisymm y x ∙ ap ordering_reverse is))
  ] refl;
  through = λ x y z p q r. total.trans x y z;
}

-- the items in order that stand beside one of a list and are such that P
pub record Gathered {X Y : Type 0} (cmp : X → X → Ordering) (P : X → Type 0) (R : Y → X → Type 0) (ys : List Y) : Type 0 where
  pub items : List X
  pub rise : Rises cmp items
  pub each : (x : X) → Contains items x ↔ ((y : Y) × Contains ys y × R y x × P x)

module _ {X : Type 0} (cmp : X → X → Ordering) (P : X → Type 0) (order : IsOrderOf cmp P) where
  rises_more : (x : X) (xs : List X) → ((z : X) → Contains xs z → cmp x z ≡ Less) → Rises cmp xs → Rises cmp (x ∷ xs)
  rises_more x xs below rise = AllPairs-cons (λ a b. cmp a b ≡ Less) x xs (λ k d lt. below (slice_index_or xs k d) (Contains-get_or xs k d lt)) rise

  -- a list with one item more
  record HasMore (x : X) (xs : List X) : Type 0 where
    items : List X
    rise : Rises cmp items
    each : (z : X) → Contains items z ↔ ((z ≡ x) ⊎ Contains xs z)

  put_in_front : (x : X) (xs : List X) → ((z : X) → Contains xs z → cmp x z ≡ Less) → Rises cmp xs → HasMore x xs
  put_in_front x xs below rise = record {
    items = x ∷ xs;
    rise = rises_more x xs below rise;
    each = λ z. (
      λ has. elim (contains_cases x xs z has) [ inl e ↦ inl (sym e) | inr later ↦ inr later ],
      λ h. elim h [ inl e ↦ subst (Contains (x ∷ xs)) (sym e) (contains_head x xs) | inr has ↦ contains_tail x xs z has ],
    );
  }

  put : (x : X) (xs : List X) → P x → ((z : X) → Contains xs z → P z) → Rises cmp xs → HasMore x xs
  put x [] p all rise = put_in_front x [] (λ z has. absurd (nothing_in_empty z has)) rise
  put x (y ∷ ys) p all rise = elim (order.compare x y p (all y (contains_head y ys))) [
    | inl same ↦ record {
      items = y ∷ ys;
      rise = rise;
      each = λ z. (λ has. inr has, λ h. elim h [ inl e ↦ subst (Contains (y ∷ ys)) (sym (e ∙ same)) (contains_head y ys) | inr has ↦ has ]);
    }
    | inr (inl before) ↦ put_in_front x (y ∷ ys) (λ z has. elim (contains_cases y ys z has) [
      | inl e ↦ subst (λ w. cmp x w ≡ Less) e before
      | inr later ↦ order.through x y z p (all y (contains_head y ys)) (all z has) before (rises_head cmp y ys rise z later)
    ]) rise
    | inr (inr after) ↦
        let more = put x ys p (λ z has. all z (contains_tail y ys z has)) (rises_tail cmp y ys rise) in
        record {
          items = y ∷ more.items;
          rise = rises_more y more.items (λ z has. elim ((more.each z).0 has) [
            | inl e ↦ subst (λ w. cmp y w ≡ Less) (sym e) after
            | inr later ↦ rises_head cmp y ys rise z later
          ]) more.rise;
          each = λ z. (
            λ has. elim (contains_cases y more.items z has) [
              | inl e ↦ inr (subst (Contains (y ∷ ys)) e (contains_head y ys))
              | inr later ↦ elim ((more.each z).0 later) [ inl e ↦ inl e | inr old ↦ inr (contains_tail y ys z old) ]
            ],
            λ h. elim h [
              | inl e ↦ contains_tail y more.items z ((more.each z).1 (inl e))
              | inr has ↦ elim (contains_cases y ys z has) [
                | inl e ↦ subst (Contains (y ∷ more.items)) e (contains_head y more.items)
                | inr later ↦ contains_tail y more.items z ((more.each z).1 (inr later))
              ]
            ],
          );
        }
  ]

  module _ {Y : Type 0} (R : Y → X → Type 0) (one : (y : Y) (x z : X) → R y x → P x → R y z → P z → x ≡ z)
      (find : (y : Y) → Decision ((x : X) × R y x × P x)) where
    -- what one stands beside comes in
    found_more : (y : Y) (ys : List Y) (x : X) → R y x → P x → Gathered cmp P R ys → Gathered cmp P R (y ∷ ys)
    found_more y ys x beside p rest =
        let more = put x rest.items p (λ z has. ((rest.each z).0 has).3) rest.rise in
        record {
          items = more.items;
          rise = more.rise;
          each = λ z. (
            λ has. elim ((more.each z).0 has) [
              | inl e ↦ (y, contains_head y ys, subst (R y) (sym e) beside, subst P (sym e) p)
              | inr old ↦ let h = (rest.each z).0 old in (h.0, contains_tail y ys h.0 h.1, h.2, h.3)
            ],
            λ (v, has, r, q). (more.each z).1 (elim (contains_cases y ys v has) [
              | inl e ↦ inl (one y z x (subst (λ u. R u z) (sym e) r) q beside p)
              | inr later ↦ inr ((rest.each z).1 (v, later, r, q))
            ]),
          );
        }

    none_more : (y : Y) (ys : List Y) → (¬ ((x : X) × R y x × P x)) → Gathered cmp P R ys → Gathered cmp P R (y ∷ ys)
    none_more y ys none rest = record {
      items = rest.items;
      rise = rest.rise;
      each = λ z. (
        λ has. let h = (rest.each z).0 has in (h.0, contains_tail y ys h.0 h.1, h.2, h.3),
        λ (v, has, r, q). elim (contains_cases y ys v has) [
          | inl e ↦ absurd (none (z, subst (λ u. R u z) (sym e) r, q))
          | inr later ↦ (rest.each z).1 (v, later, r, q)
        ],
      );
    }

    pub gather : (ys : List Y) → Gathered cmp P R ys
    gather [] = record {
      items = [];
      rise = λ i j d lt within. absurd (omega arith);
      each = λ x. (λ has. absurd (nothing_in_empty x has), λ h. absurd (nothing_in_empty h.0 h.1));
    }
    gather (y ∷ ys) = elim (find y) [
      | inl (x, beside, p) ↦ found_more y ys x beside p (gather ys)
      | inr none ↦ none_more y ys none (gather ys)
    ]

-- all nodes such that P can be listed in order, where they are among those of a list
pub nodes_in_order : (P : NodeName → Type 0) → ((n : NodeName) → Decision (P n)) → (all : List NodeName) → ((n : NodeName) → P n → Contains all n)
    → (nodes : List NodeName) × AreInOrder P nodes
nodes_in_order P decide all within =
    let gathered = gather node_cmp P (order_of_total node_cmp P node_cmp_total (λ x y p q. node_cmp_exact x y)) (λ x n. x ≡ n)
    (λ y x z e p f q. sym e ∙ f)
    (λ n. decide_same (P n) ((x : NodeName) × (n ≡ x) × P x) (λ p. (n, refl, p)) (λ (x, e, p). subst P (sym e) p) (decide n)) all
    in (
      gathered.items,
      record {
        rise = gathered.rise;
        each = λ n has. ((gathered.each n).0 has).3;
        all = λ n p. (gathered.each n).1 (n, within n p, refl, p);
      },
    )
