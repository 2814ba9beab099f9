-- The position of a node among columns, by its number.
use Rattle.std.proofs.Common.{◌≡◌, ℕ, zero, suc, ◌<◌, List, [], ◌∷◌, length, slice_get, Bool, true, false, Option, None, Some, refl, sym, ap, subst, ◌∙◌, get_or, inl, inr, arith}
use Rattle.std.specs.Prelude.{IfSome}
use Rattle.std.specs.Cmp.{tied_itself, Equal-is}
use Rattle.std.specs.Ordering.{eq_by_cmp, is_eq}
use Rattle.std.proofs.lemmas.Bool.{cases_Bool, cases_eq, eq-eqb, ne_eqb}
use Rattle.std.proofs.lemmas.List.Folds.{list_any_at, list_any_none}
use Rattle.std.proofs.lemmas.Option.{same_Some, slice_get_within}
use Rattle.cb_model.specs.declared.node.NodeName.{NodeName}
use Rattle.cb_model.specs.NodeOrder.{node_cmp}
use Rattle.cb_model.proofs.Rising.{node_cmp_total, node_cmp_exact}
use Rattle.cb_network.specs.Nodes.{IsNodeOf}
use Rattle.cb_finding.specs.Finding.{is_among}
use Rattle.cb_nodes.specs.declared.id.NodeId.{NodeId}
use Rattle.cb_topo.specs.Columns.{IsPositionOf}
use Rattle.cb_topo.specs.Numbered.{Numbered, topology_of, IsNodeNamed, AreNamed, IsWhole}
use Rattle.cb_topo.proofs.Naming.{one_name}
use Rattle.cb_topo.proofs.Positions.{name_there}
use Rattle.cb_decode.specs.Found.{IsPlaceAmong}

-- two nodes are one, or the order tells them apart
told_apart : (x y : NodeName) → ¬ (x ≡ y) → eq_by_cmp node_cmp x y ≡ false
told_apart x y other = elim (cases_Bool (eq_by_cmp node_cmp x y)) [
  | inl tied ↦ absurd (other (node_cmp_exact x y ((Equal-is (node_cmp x y)).0 tied)))
  | inr apart ↦ apart
]

tied : (x y : NodeName) → x ≡ y → eq_by_cmp node_cmp x y ≡ true
tied x y e = ap (λ z. eq_by_cmp node_cmp z y) e ∙ ap is_eq (tied_itself node_cmp_total y)

one_node : (x y : NodeName) → eq_by_cmp node_cmp x y ≡ true → x ≡ y
one_node x y e = node_cmp_exact x y ((Equal-is (node_cmp x y)).0 e)

-- the number of the name at a position
number_there : (n : Numbered) (ids : List NodeId) (names : List NodeName) → AreNamed n ids names → (i : ℕ) (d : NodeName) → i < length names
    → (id : NodeId) × (slice_get ids i ≡ Some id) × IsNodeNamed n id (get_or names i d)
number_there n [] [] zip i d lt = absurd (omega arith)
number_there n [] (x ∷ names) zip i d lt = absurd zip
number_there n (a ∷ ids) [] zip i d lt = absurd zip
number_there n (a ∷ ids) (x ∷ names) zip zero d lt = (a, refl, zip.0)
number_there n (a ∷ ids) (x ∷ names) zip (suc i) d lt = number_there n ids names zip.1 i d (omega arith)

module _ (n : Numbered) (whole : IsWhole n) (ids : List NodeId) (node : NodeName) (names : List NodeName) (named : AreNamed n ids names) where
  module _ (id : NodeId) (is : IsNodeNamed n id node) where
    -- where the node's name stands, its number stands
    its_number : (i : ℕ) (d : NodeName) → i < length names → get_or names i d ≡ node → slice_get ids i ≡ Some id
    its_number i d lt e =
        let (other, there, its) = number_there n ids names named i d lt in
        there ∙ ap Some (whole.one other id node (subst (IsNodeNamed n other) e its) is)

    its_name : (i : ℕ) (d : NodeName) → i < length names → slice_get ids i ≡ Some id → get_or names i d ≡ node
    its_name i d lt at =
        let (other, there, its) = number_there n ids names named i d lt in
        one_name n id (get_or names i d) node (subst (λ k. IsNodeNamed n k (get_or names i d)) (same_Some other id (sym there ∙ at)) its) is

    pub placed : (found : Option ℕ) → IsPositionOf ids id found → IsPlaceAmong names node found
    placed None none = λ i d lt. told_apart (get_or names i d) node (λ e. none i (its_number i d lt e))
    placed (Some place) alone =
        let (name, at, own) = name_there n ids names named place id ((alone place).1 refl) in (
          slice_get_within names place name at,
          λ i d lt. elim (cases_eq i place) [
            | inl e ↦ tied (get_or names i d) node (its_name i d lt ((alone i).1 e)) ∙ sym (eq-eqb i place e)
            | inr other ↦ told_apart (get_or names i d) node (λ e. other ((alone i).0 (its_number i d lt e))) ∙ sym (ne_eqb i place other)
          ],
        )

  pub placed_nowhere : ¬ IsNodeOf (topology_of n) node → IsPlaceAmong names node None
  placed_nowhere none = λ i d lt. told_apart (get_or names i d) node (λ e.
      let (other, there, its) = number_there n ids names named i d lt in
      none (whole.live other node (subst (IsNodeNamed n other) e its)))

-- a position that a node has is within them
pub within_ids : (ids : List NodeId) (id : NodeId) (found : Option ℕ) → IsPositionOf ids id found → IfSome found (λ position. position < length ids)
within_ids ids id None none = tt
within_ids ids id (Some position) alone = slice_get_within ids position id ((alone position).1 refl)

-- with a position it is one of these
pub is_known : (names : List NodeName) (node : NodeName) (place : ℕ) → IsPlaceAmong names node (Some place) → is_among names node ≡ true
is_known names node place at =
    let there = one_node (get_or names place node) node (at.1 place node at.0 ∙ eq-eqb place place refl) in
    list_any_at (eq_by_cmp node_cmp node) names place node at.0 (tied node (get_or names place node) (sym there))

-- and without one it is none
pub is_unknown : (names : List NodeName) (node : NodeName) → IsPlaceAmong names node None → is_among names node ≡ false
is_unknown names node none = list_any_none (eq_by_cmp node_cmp node) names (λ i d lt.
    elim (cases_Bool (eq_by_cmp node_cmp node (get_or names i d))) [
      | inl same ↦ (let e = tied (get_or names i d) node (sym (one_node node (get_or names i d) same)) in absurd (let no = none i d lt in cc))
      | inr apart ↦ apart
    ])
