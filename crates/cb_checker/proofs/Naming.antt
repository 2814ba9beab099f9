-- Nodes of a certificate by their numbers and by their names.
use Rattle.std.proofs.Common.{◌≡◌, inl, inr, ℕ, zero, suc, ◌+◌, ◌-◌, ◌<◌, List, [], ◌∷◌, ◌++◌, length, refl, sym, ap, subst, ◌∙◌, Some, arith}
use Rattle.std.specs.Prelude.{slice_get}
use Rattle.std.specs.List.{AllZip}
use Rattle.std.specs.declared.cmp.Ordering.TheVariants.{Less}
use Rattle.std.proofs.lemmas.Bool.{cases_order}
use Rattle.std.proofs.lemmas.List.{length-append}
use Rattle.std.proofs.lemmas.Option.{same_Some, slice_get_within, get_or_from_slice_get}
use Rattle.cb_model.specs.declared.node.NodeName.{NodeName}
use Rattle.cb_model.specs.NodeOrder.{node_cmp}
use Rattle.cb_model.proofs.Rising.{node_strict}
use Rattle.cb_coding.proofs.Pushed.{pushed_cases}
use Rattle.cb_cert.specs.declared.certificate.Certificate.{Certificate}
use Rattle.cb_cert.specs.Format.{nodes_of}
use Rattle.cb_validity.specs.Spans.{StandsFor}
use Rattle.cb_nodes.specs.declared.id.NodeId.{NodeId}
use Rattle.cb_topo.specs.Numbered.{Numbered, IsNodeNamed, IsLiveNode}
use Rattle.cb_checker.specs.Known.{IsIdAt, AreLive, IsKnown}

pub zip_right : {X Y : Type 0} (R : X → Y → Type 0) (xs : List X) (ys : List Y) → AllZip R xs ys → (i : ℕ) (x : X) → slice_get xs i ≡ Some x
    → (y : Y) × (slice_get ys i ≡ Some y) × R x y
zip_right R [] ys all i x at = absurd (cc)
zip_right R (z ∷ xs) [] all i x at = absurd all
zip_right R (z ∷ xs) (y ∷ ys) all zero x at = (y, refl, subst (λ w. R w y) (same_Some z x at) all.0)
zip_right R (z ∷ xs) (y ∷ ys) all (suc i) x at = zip_right R xs ys all.1 i x at

pub zip_left : {X Y : Type 0} (R : X → Y → Type 0) (xs : List X) (ys : List Y) → AllZip R xs ys → (i : ℕ) (y : Y) → slice_get ys i ≡ Some y
    → (x : X) × (slice_get xs i ≡ Some x) × R x y
zip_left R [] [] all i y at = absurd (cc)
zip_left R [] (w ∷ ys) all i y at = absurd all
zip_left R (z ∷ xs) [] all i y at = absurd (cc)
zip_left R (z ∷ xs) (w ∷ ys) all zero y at = (z, refl, subst (λ v. R z v) (same_Some w y at) all.0)
zip_left R (z ∷ xs) (w ∷ ys) all (suc i) y at = zip_left R xs ys all.1 i y at

pub zip_each : {X Y : Type 0} (R : X → Y → Type 0) (xs : List X) (ys : List Y) → length ys ≡ length xs
    → ((i : ℕ) (x : X) (y : Y) → slice_get xs i ≡ Some x → slice_get ys i ≡ Some y → R x y) → AllZip R xs ys
zip_each R [] [] same each = tt
zip_each R [] (y ∷ ys) same each = absurd (omega arith)
zip_each R (x ∷ xs) [] same each = absurd (omega arith)
zip_each R (x ∷ xs) (y ∷ ys) same each = (each 0 x y refl refl, zip_each R xs ys (omega arith) (λ i z w a b. each (suc i) z w a b))

-- the first items go together
pub record Zipped {X Y : Type 0} (R : X → Y → Type 0) (to : ℕ) (xs : List X) (ys : List Y) : Type 0 where
  pub count : length xs ≡ to
  pub each : (i : ℕ) (x : X) (y : Y) → slice_get xs i ≡ Some x → slice_get ys i ≡ Some y → R x y

pub none_zipped : {X Y : Type 0} (R : X → Y → Type 0) (ys : List Y) → Zipped R 0 [] ys
none_zipped R ys = record { count = refl; each = λ i x y at there. absurd (cc) }

pub zipped_more : {X Y : Type 0} (R : X → Y → Type 0) (to : ℕ) (xs : List X) (ys : List Y) → Zipped R to xs ys → (x : X) (y : Y)
    → slice_get ys to ≡ Some y → R x y → Zipped R (to + 1) (xs ++ (x ∷ [])) ys
zipped_more R to xs ys old x y at is = record {
  count = length-append xs (x ∷ []) ∙ ap (λ n. n + 1) old.count;
  each = λ i z w there with_w. elim (pushed_cases xs x z i there) [
    | inl before ↦ old.each i z w before with_w
    | inr (last, same) ↦
        let end : i ≡ to = last ∙ old.count in
        let other : y ≡ w = same_Some y w (sym at ∙ subst (λ k. slice_get ys k ≡ Some w) end with_w) in
        subst (λ v. R z v) other (subst (λ v. R v y) same is)
  ];
}

pub all_zipped : {X Y : Type 0} (R : X → Y → Type 0) (to : ℕ) (xs : List X) (ys : List Y) → Zipped R to xs ys → to ≡ length ys → AllZip R xs ys
all_zipped R to xs ys old end = zip_each R xs ys (sym end ∙ sym old.count) old.each

pub one_id : (ids : List NodeId) (number : ℕ) (a b : NodeId) → IsIdAt ids number a → IsIdAt ids number b → a ≡ b
one_id ids number a b at_a at_b = same_Some a b (sym at_a.is ∙ at_b.is)

pub live_at : (n : Numbered) (ids : List NodeId) → AreLive n ids → (number : ℕ) (id : NodeId) → IsIdAt ids number id → IsLiveNode n id
live_at n ids live number id at = live (number - 1) id at.is

module _ (n : Numbered) (ids : List NodeId) (c : Certificate) (known : IsKnown n ids c) where
  pub stands : (number : ℕ) (id : NodeId) → IsIdAt ids number id → (name : NodeName) × StandsFor (nodes_of c) number name × IsNodeNamed n id name
  stands number id at =
      let z = zip_right (IsNodeNamed n) ids (nodes_of c) known.named (number - 1) id at.is in
      (z.0, record { counted = at.counted; is = z.1 }, z.2)

  pub has_id : (number : ℕ) (name : NodeName) → StandsFor (nodes_of c) number name → (id : NodeId) × IsIdAt ids number id × IsNodeNamed n id name
  has_id number name at =
      let z = zip_left (IsNodeNamed n) ids (nodes_of c) known.named (number - 1) name at.is in
      (z.0, record { counted = at.counted; is = z.1 }, z.2)

  -- numbers rise as names do
  pub names_rise : (i j : ℕ) (x y : NodeName) → StandsFor (nodes_of c) i x → StandsFor (nodes_of c) j y → i < j → node_cmp x y ≡ Less
  names_rise i j x y at_i at_j less =
      let a = at_i.counted in
      let low = slice_get_within (nodes_of c) (j - 1) y at_j.is in
      let rise = known.rise (i - 1) (j - 1) x (omega arith) low in
      rw (get_or_from_slice_get (nodes_of c) (i - 1) x x at_i.is, get_or_from_slice_get (nodes_of c) (j - 1) y x at_j.is) at rise

  pub numbers_rise : (i j : ℕ) (x y : NodeName) → StandsFor (nodes_of c) i x → StandsFor (nodes_of c) j y → node_cmp x y ≡ Less → i < j
  numbers_rise i j x y at_i at_j less = elim (cases_order i j) [
    | inl same ↦
        let one : x ≡ y = same_Some x y (sym at_i.is ∙ subst (λ k. slice_get (nodes_of c) (k - 1) ≡ Some y) (sym same) at_j.is) in
        let again = subst (λ z. node_cmp z y ≡ Less) one less in
        absurd (node_strict y y again again)
    | inr (inl below) ↦ below
    | inr (inr above) ↦ absurd (node_strict x y less (names_rise j i y x at_j at_i above))
  ]
