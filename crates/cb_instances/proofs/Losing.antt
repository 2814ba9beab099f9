-- A list that loses an item.
use Rattle.std.proofs.Common.{◌≡◌, ◌≢◌, ℕ, suc, ◌≤◌, List, [], ◌∷◌, length, get_or, Bool, true, false, nat_eq, Some, None, refl, sym, ap, subst, ◌∙◌, inl, inr, arith, position}
use Rattle.std.specs.Bool.{Decides}
use Rattle.std.specs.List.{Contains, IsAnyAnswer, position_or_len, swap_remove}
use Rattle.std.specs.List.Sorted.{IsPermutation}
use Rattle.std.proofs.lemmas.Bool.{cases_Bool}
use Rattle.std.proofs.lemmas.Bool.Decides.{nat_tests}
use Rattle.std.proofs.lemmas.Grind.{common_steps}
use Rattle.std.proofs.lemmas.List.Elements.{contains_decides, Decides-contains}
use Rattle.std.proofs.lemmas.List.Quantifiers.{position-Some}
use Rattle.std.proofs.lemmas.List.Sorted.{IsPermutation-swap_remove, IsPermutation-sym, Contains-permutation}
use Rattle.std.proofs.lemmas.List.Sums.{fails_before_first}
use Rattle.std.proofs.lemmas.Map.Keys.{IsDistinct-IsPermutation}
use Rattle.std.proofs.lemmas.Map.Made.{AllPairs-from_IsDistinct, IsDistinct-from_AllPairs}
use Rattle.cb_model.proofs.Rising.{contains_cases, contains_tail, nothing_in_empty}
use Rattle.cb_model.specs.declared.id.EventId.{EventId}
use Rattle.cb_instances.specs.Items.{Loses}
use Rattle.cb_instances.specs.declared.id.InstanceId.{InstanceId}
use Rattle.cb_instances.specs.Net.{Once}

pub once_tail : {X : Type 0} (x : X) (xs : List X) → Once (x ∷ xs) → Once xs
once_tail x xs once i j d lt le = once (suc i) (suc j) d (omega arith) (omega arith)

pub once_head : {X : Type 0} (x : X) (xs : List X) → Once (x ∷ xs) → ¬ Contains xs x
once_head x xs once (k, lt, e) = once 0 (suc k) x (omega arith) (omega arith) (sym e)

-- an empty list loses nothing
pub loses_nothing : {X : Type 0} (x : X) → Loses x [] []
loses_nothing x = record { others = λ y ne. (λ has. has, λ has. has); gone = λ once. nothing_in_empty x; once = λ once. once }

-- items that are distinguished by a test
module _ {X : Type 0} (same : X → X → Bool) (decides : (a b : X) → Decides (same a b) (a ≡ b)) where
  flips : (a b : X) → same a b ≡ same b a
  flips a b = elim (cases_Bool (same a b)) [
    | inl t ↦ t ∙ sym ((decides b a).1 (sym ((decides a b).0 t)))
    | inr f ↦ elim (cases_Bool (same b a)) [
      | inl t ↦ let u = (decides a b).1 (sym ((decides b a).0 t)) in absurd (cc)
      | inr g ↦ f ∙ sym g
    ]
  ]

  once_moved : (xs ys : List X) → IsPermutation xs ys → Once xs → Once ys
  once_moved xs ys moved once =
      AllPairs-from_IsDistinct decides ys (IsDistinct-IsPermutation same flips xs ys moved (IsDistinct-from_AllPairs decides xs once))

  -- where the place of an item is given to the last one
  pub loses_at : (xs : List X) (k : ℕ) (x taken : X) → position (λ y. same y x) xs ≡ Some k → taken ≡ get_or xs k taken → Loses x xs (swap_remove xs k taken)
  loses_at xs k x taken is read =
      let first = position-Some (λ y. same y x) xs k taken is in
      let is_x : taken ≡ x = (decides taken x).0 (subst (λ y. same y x ≡ true) (sym read) first.1) in
      let ys : List X = swap_remove xs k taken in
      let moved : IsPermutation xs (x ∷ ys) = subst (λ z. IsPermutation xs (z ∷ ys)) is_x (IsPermutation-swap_remove xs k taken first.0 read) in
      record {
        others = λ y ne. (
          λ has. Contains-permutation (x ∷ ys) xs y (IsPermutation-sym xs (x ∷ ys) moved) (contains_tail x ys y has),
          λ has. elim (contains_cases x ys y (Contains-permutation xs (x ∷ ys) y moved has)) [ inl e ↦ absurd (ne (sym e)) | inr later ↦ later ],
        );
        gone = λ once. once_head x ys (once_moved xs (x ∷ ys) moved once);
        once = λ once. once_tail x ys (once_moved xs (x ∷ ys) moved once);
      }

  -- where no place has it
  pub loses_none : (xs : List X) (x : X) → position (λ y. same y x) xs ≡ None → Loses x xs xs
  loses_none xs x is =
      let past : length xs ≤ position_or_len (λ y. same y x) xs = grind (arith, common_steps) in
      let none : ¬ Contains xs x = λ has. let f = fails_before_first (λ y. same y x) xs has.0 x (let lt = has.1 in omega arith) in let t = (decides (get_or xs has.0 x) x).1 has.2 in absurd (cc) in
      record { others = λ y ne. (λ has. has, λ has. has); gone = λ once. none; once = λ once. once }

  -- whether some item is this one
  pub any_is : (xs : List X) (x : X) (b : Bool) → IsAnyAnswer (λ y t. same y x ≡ t) xs b → Decides b (Contains xs x)
  any_is xs x b any = Decides-contains xs x b (contains_decides same decides xs x b any)

abbrev pub same_id : InstanceId → InstanceId → Bool
same_id a b = nat_eq a.0 b.0

pub decides_id : (a b : InstanceId) → Decides (same_id a b) (a ≡ b)
decides_id a b = (
  λ e. let n : a.0 ≡ b.0 = grind (arith, nat_tests) in λ i. record { 0 = n i },
  λ e. let n : a.0 ≡ b.0 = ap (λ (z : InstanceId). z.0) e in grind (arith, nat_tests),
)

abbrev pub same_event : EventId → EventId → Bool
same_event a b = nat_eq a.0 b.0

pub decides_event : (a b : EventId) → Decides (same_event a b) (a ≡ b)
decides_event a b = (
  λ e. let n : a.0 ≡ b.0 = grind (arith, nat_tests) in λ i. record { 0 = n i },
  λ e. let n : a.0 ≡ b.0 = ap (λ (z : EventId). z.0) e in grind (arith, nat_tests),
)

pub item_of : (a b : InstanceId) → nat_eq a.0 b.0 ≡ true → a ≡ b
item_of a b e = (decides_id a b).0 e

pub other_item : (a b : InstanceId) → nat_eq a.0 b.0 ≡ false → a ≢ b
other_item a b e same = let f = (decides_id a b).1 same in absurd (cc)

pub event_of : (a b : EventId) → nat_eq a.0 b.0 ≡ true → a ≡ b
event_of a b e = (decides_event a b).0 e

pub other_event : (a b : EventId) → nat_eq a.0 b.0 ≡ false → a ≢ b
other_event a b e same = let f = (decides_event a b).1 same in absurd (cc)
