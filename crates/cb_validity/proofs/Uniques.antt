-- Over the same nodes a root has one canonical span.
use Rattle.std.proofs.Common.{◌≡◌, ℕ, zero, suc, ◌+◌, ◌-◌, ◌<◌, ◌≤◌, ◌⊎◌, List, [], ◌∷◌, get_or, refl, sym, ap, subst, ◌∙◌, arith, Some, None, inl, inr}
use Rattle.std.specs.Prelude.{slice_get}
use Rattle.std.proofs.lemmas.Bool.{cases_order, cases_lt}
use Rattle.std.proofs.lemmas.Option.{same_Some, slice_get_within, slice_get-get_or}
use Rattle.cb_model.specs.declared.node.NodeName.{NodeName}
use Rattle.cb_model.specs.Order.{Rises}
use Rattle.cb_model.specs.NodeOrder.{node_cmp}
use Rattle.cb_network.specs.Topology.{Topology}
use Rattle.cb_cert.specs.declared.certificate.Entry.{Entry}
use Rattle.cb_cert.specs.declared.certificate.Span.{Span}
use Rattle.cb_validity.specs.Spans.{AreNodes, StandsFor, IsListedAt, ListsNode, IsSpanOf}
use Rattle.cb_validity.specs.Canonical.{IsCanonicalSpan}
use Rattle.cb_validity.proofs.SpanLaws.{span_lists_caused}
use Rattle.cb_validity.proofs.Canonicals.{one_place}

-- a node has one number
pub one_number : (nodes : List NodeName) → Rises node_cmp nodes → (i j : ℕ) (n : NodeName) → StandsFor nodes i n → StandsFor nodes j n → i ≡ j
one_number nodes rise i j n a b =
    let places = one_place nodes rise (i - 1) (j - 1) n a.is b.is in
    let some_i = a.counted in
    let some_j = b.counted in
    omega arith

-- lists that agree at each place are one
pub lists_from_gets : {X : Type 0} (xs ys : List X) → ((k : ℕ) → slice_get xs k ≡ slice_get ys k) → xs ≡ ys
lists_from_gets [] [] same = refl
lists_from_gets [] (y ∷ ys) same = let e = same 0 in cc
lists_from_gets (x ∷ xs) [] same = let e = same 0 in cc
lists_from_gets (x ∷ xs) (y ∷ ys) same =
    let here = same 0 in
    let rest = lists_from_gets xs ys (λ k. same (suc k)) in
    cc

-- there is an item at the place, or the list ends before it
pub got : {X : Type 0} (xs : List X) (k : ℕ) → ((x : X) × (slice_get xs k ≡ Some x)) ⊎ (slice_get xs k ≡ None)
got [] k = inr refl
got (x ∷ xs) zero = inl (x, refl)
got (x ∷ xs) (suc k) = got xs k

-- two spans have the same entries before a place
abbrev Agree : Span → Span → ℕ → Type 0
Agree x y k = (i : ℕ) → i < k → slice_get x.entries i ≡ slice_get y.entries i

turned : (x y : Span) (k : ℕ) → Agree x y k → Agree y x k
turned x y k agree i low = sym (agree i low)

module _ (t : Topology) (nodes : List NodeName) (root : NodeName) (rise : Rises node_cmp nodes) where
  -- what stands at a place of one span stands at no lesser place of the other
  not_before : (x y : Span) → IsSpanOf t nodes root x → (k m : ℕ) → Agree x y k → (n : NodeName) → IsListedAt nodes x k n
      → IsListedAt nodes y m n → k ≤ m
  not_before x y is k m agree n here there =
      elim (cases_lt m k) [
        | inl below ↦
            let at : IsListedAt nodes x m n = record { entry = there.entry; is = agree m below ∙ there.is; names = there.names } in
            let same = is.once m k n at here in
            omega arith
        | inr above ↦ omega arith
      ]

  -- what one span lists the other lists
  moved : (x y : Span) → IsSpanOf t nodes root x → IsSpanOf t nodes root y → (n : NodeName) → ListsNode nodes x n → ListsNode nodes y n
  moved x y is_x is_y n listed = (span_lists_caused t nodes root y is_y n).1 ((span_lists_caused t nodes root x is_x n).0 listed)

  module _ (x y : Span) (cx : IsCanonicalSpan t nodes root x) (cy : IsCanonicalSpan t nodes root y) (k : ℕ) (agree : Agree x y k) where
    -- the node of an entry after the first
    node_at : (a : Entry) → 0 < k → slice_get x.entries k ≡ Some a → (n : NodeName) × IsListedAt nodes x k n
    node_at a some at =
        let has = (cx.is).edges k a some at in
        (has.to, record { entry = a; is = at; names = has.to_is })

    -- where the one has an entry, the other has one
    not_shorter : (a : Entry) → 0 < k → slice_get x.entries k ≡ Some a → slice_get y.entries k ≡ None → ⊥
    not_shorter a some at none =
        let n = node_at a some at in
        let there = moved x y cx.is cy.is n.0 (k, n.1) in
        let late = not_before x y cx.is k there.0 agree n.0 n.1 there.1 in
        let within = slice_get_within y.entries there.0 there.1.entry there.1.is in
        let e : Some (get_or y.entries k a) ≡ None = sym (slice_get-get_or y.entries k a (omega arith)) ∙ none in
        cc

    -- the other's entry has no greater parent, and with the same parent no greater node
    not_greater : (a b : Entry) → 0 < k → slice_get x.entries k ≡ Some a → slice_get y.entries k ≡ Some b
        → (b.parent ≤ a.parent) × (a.parent ≡ b.parent → b.node ≤ a.node)
    not_greater a b some at_x at_y =
        let has = (cx.is).edges k a some at_x in
        let earlier = (cx.is).earlier k a some at_x in
        let here : IsListedAt nodes x k has.to = record { entry = a; is = at_x; names = has.to_is } in
        let there = moved x y cx.is cy.is has.to (k, here) in
        let m = there.0 in
        let c = there.1.entry in
        let late = not_before x y cx.is k m agree has.to here there.1 in
        let number = one_number nodes rise c.node a.node has.to there.1.names has.to_is in
        let from : IsListedAt nodes y (a.parent - 1) has.from = record {
          entry = has.from_is.entry;
          is = sym (agree (a.parent - 1) (omega arith)) ∙ has.from_is.is;
          names = has.from_is.names;
        } in
        let parent : c.parent ≤ (a.parent - 1) + 1 = cy.first (a.parent - 1) m c has.from has.to there.1.is there.1.names from has.edge (omega arith) in
        elim (cases_order k m) [
          | inl same ↦
              let e : b ≡ c = same_Some b c (sym at_y ∙ (ap (slice_get y.entries) same ∙ there.1.is)) in
              let p = ap (λ (z : Entry). z.parent) e in
              let q = ap (λ (z : Entry). z.node) e in
              (omega arith, λ eq. omega arith)
          | inr (inl below) ↦
              let p = cy.parents k m b c below at_y there.1.is in
              (omega arith, λ eq. let q = cy.siblings k m b c below at_y there.1.is (omega arith) in omega arith)
          | inr (inr above) ↦ absurd (omega arith)
        ]

  same_entry : (x y : Span) → IsCanonicalSpan t nodes root x → IsCanonicalSpan t nodes root y → (k : ℕ) → Agree x y k → (a b : Entry)
      → slice_get x.entries k ≡ Some a → slice_get y.entries k ≡ Some b → a ≡ b
  same_entry x y cx cy zero agree a b at_x at_y =
      let p = (cx.is).begins in
      let q = (cy.is).begins in
      let e : a ≡ p.entry = same_Some a p.entry (sym at_x ∙ p.first) in
      let f : b ≡ q.entry = same_Some b q.entry (sym at_y ∙ q.first) in
      let number = one_number nodes rise p.entry.node q.entry.node root p.names q.names in
      let node : a.node ≡ b.node = ap (λ (z : Entry). z.node) e ∙ (number ∙ ap (λ (z : Entry). z.node) (sym f)) in
      let parent : a.parent ≡ b.parent = ap (λ (z : Entry). z.parent) e ∙ (p.alone ∙ (sym q.alone ∙ ap (λ (z : Entry). z.parent) (sym f))) in
      λ i. record { node = node i; parent = parent i }
  same_entry x y cx cy (suc k) agree a b at_x at_y =
      let to = not_greater x y cx cy (suc k) agree a b (omega arith) at_x at_y in
      let from = not_greater y x cy cx (suc k) (turned x y (suc k) agree) b a (omega arith) at_y at_x in
      let parent : a.parent ≡ b.parent = omega (arith, to.0, from.0) in
      let node : a.node ≡ b.node = omega (arith, to.1 parent, from.1 (sym parent)) in
      λ i. record { node = node i; parent = parent i }

  not_ended : (x y : Span) → IsCanonicalSpan t nodes root x → IsCanonicalSpan t nodes root y → (k : ℕ) → Agree x y k → (a : Entry)
      → slice_get x.entries k ≡ Some a → slice_get y.entries k ≡ None → ⊥
  not_ended x y cx cy zero agree a at none = let q = (cy.is).begins in let e : Some q.entry ≡ None = sym q.first ∙ none in cc
  not_ended x y cx cy (suc k) agree a at none = not_shorter x y cx cy (suc k) agree a (omega arith) at none

  module _ (x y : Span) (cx : IsCanonicalSpan t nodes root x) (cy : IsCanonicalSpan t nodes root y) where
    same_at : (k : ℕ) → Agree x y k → slice_get x.entries k ≡ slice_get y.entries k
    same_at k agree =
        elim (got x.entries k) [
          | inl a ↦ elim (got y.entries k) [
            | inl b ↦ a.1 ∙ (ap Some (same_entry x y cx cy k agree a.0 b.0 a.1 b.1) ∙ sym b.1)
            | inr none ↦ absurd (not_ended x y cx cy k agree a.0 a.1 none)
          ]
          | inr none ↦ elim (got y.entries k) [
            | inl b ↦ absurd (not_ended y x cy cx k (turned x y k agree) b.0 b.1 none)
            | inr none' ↦ none ∙ sym none'
          ]
        ]

    agree_upto : (k : ℕ) → Agree x y k
    agree_upto zero i low = absurd (omega arith)
    agree_upto (suc k) i low = elim (cases_order i k) [
      | inl same ↦ subst (λ j. slice_get x.entries j ≡ slice_get y.entries j) (sym same) (same_at k (agree_upto k))
      | inr (inl below) ↦ agree_upto k i below
      | inr (inr above) ↦ absurd (omega arith)
    ]

    pub one_span : x ≡ y
    one_span =
        let entries = lists_from_gets x.entries y.entries (λ k. agree_upto (suc k) k (omega arith)) in
        λ i. record { entries = entries i }

pub canonical_span_is_one : (t : Topology) (nodes : List NodeName) (root : NodeName) (a b : Span) → AreNodes t nodes
    → IsCanonicalSpan t nodes root a → IsCanonicalSpan t nodes root b → a ≡ b
canonical_span_is_one t nodes root a b are p q = one_span t nodes root are.rise a b p q
