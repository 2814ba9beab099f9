-- The row of a relation, and the rows after it is written.
use Rattle.std.proofs.Common.{◌≡◌, ◌≢◌, ℕ, suc, ◌<◌, ◌≤◌, List, [], ◌∷◌, ◌++◌, length, get_or, set, map, cond, nat_eq, true, false, Bool, Some, None, Ok, Err, refl, sym, ap, subst, ◌∙◌, inl, inr, arith, position}
use Rattle.std.specs.Prelude.{slice_get, slice_set, OnOk, OnErr, Result}
use Rattle.std.specs.List.{Contains, find, position_or_len}
use Rattle.std.proofs.Math.Seq.{map-set_same}
use Rattle.std.proofs.lemmas.Bool.{cases_Bool}
use Rattle.std.proofs.lemmas.Bool.Decides.{nat_tests}
use Rattle.std.proofs.lemmas.Grind.{common_steps}
use Rattle.std.proofs.lemmas.List.{map-append}
use Rattle.std.proofs.lemmas.List.Elements.{Contains-get_or}
use Rattle.std.proofs.lemmas.List.Folds.{find_at, find-set, find_past}
use Rattle.std.proofs.lemmas.List.Quantifiers.{all_pairs_push, position-Some}
use Rattle.std.proofs.lemmas.Option.{slice_get-get_or, slice_get_past}
use Rattle.cb_model.specs.declared.id.RelId.{RelId}
use Rattle.cb_model.proofs.Rising.{contains_cases, contains_tail, nothing_in_empty}
use Rattle.cb_instances.specs.declared.links.LinkRow.{LinkRow}
use Rattle.cb_instances.specs.Net.{Once}
use Rattle.cb_instances.specs.Rows.{is_of, find_row, row_of, OneRowEach, items_of, Puts}
use Rattle.cb_instances.proofs.Losing.{once_head, once_tail}

pub same_rel : (r s : RelId) → nat_eq r.0 s.0 ≡ true → r ≡ s
same_rel r s e = let n : r.0 ≡ s.0 = grind (arith, nat_tests) in λ i. record { 0 = n i }

pub rel_itself : (r : RelId) → nat_eq r.0 r.0 ≡ true
rel_itself r = grind (arith, nat_tests)

other_rel : (r s : RelId) → r ≢ s → nat_eq r.0 s.0 ≡ false
other_rel r s ne = elim (cases_Bool (nat_eq r.0 s.0)) [ inl same ↦ absurd (ne (same_rel r s same)) | inr other ↦ other ]

pub differs : (r s : RelId) → nat_eq r.0 s.0 ≡ false → r ≢ s
differs r s other same = let e : nat_eq r.0 s.0 ≡ true = subst (λ q. nat_eq r.0 q.0 ≡ true) same (rel_itself r) in absurd (cc)

-- the item at the first place that passes
module _ {X : Type 0} (p : X → Bool) (xs : List X) where
  pub place_is : (k : ℕ) → position p xs ≡ Some k → position_or_len p xs ≡ k
  place_is k is = grind (arith, common_steps)

  pub place_within : (k : ℕ) → position p xs ≡ Some k → k < length xs
  place_within k is = let at = place_is k is in grind (arith, common_steps)

  pub found_read : (k : ℕ) (x : X) → position p xs ≡ Some k → x ≡ get_or xs k x → find p xs ≡ Some x
  found_read k x is read = find_at p xs ∙ ap (slice_get xs) (place_is k is) ∙ slice_get-get_or xs k x (place_within k is) ∙ ap Some (sym read)

  pub read_passes : (k : ℕ) (x : X) → position p xs ≡ Some k → x ≡ get_or xs k x → p x ≡ true
  read_passes k x is read = subst (λ y. p y ≡ true) (sym read) (position-Some p xs k x is).1

  pub none_found : position p xs ≡ None → find p xs ≡ None
  none_found is =
      let past : length xs ≤ position_or_len p xs = grind (arith, common_steps) in
      find_at p xs ∙ slice_get_past xs (position_or_len p xs) past

-- a row is the one of its relation
pub own_row : (rows : List LinkRow) (row : LinkRow) → OneRowEach rows → Contains rows row → find_row rows row.rel ≡ Some row
own_row [] row apart has = absurd (nothing_in_empty row has)
own_row (x ∷ rows) row apart has = elim (contains_cases x rows row has) [
  | inl e ↦ rw (ap (λ (z : LinkRow). nat_eq z.rel.0 row.rel.0) e ∙ rel_itself row.rel) (ap Some e)
  | inr later ↦ elim (cases_Bool (nat_eq x.rel.0 row.rel.0)) [
    | inl same ↦
        let r : x.rel ≡ row.rel = same_rel x.rel row.rel same in
        absurd (once_head x.rel (map (λ z. z.rel) rows) apart (subst (Contains (map (λ z. z.rel) rows)) (sym r) (rel_listed rows row later)))
    | inr other ↦ rw other (own_row rows row (once_tail x.rel (map (λ z. z.rel) rows) apart) later)
  ]
]
  where
    rel_listed : (rows : List LinkRow) (row : LinkRow) → Contains rows row → Contains (map (λ z. z.rel) rows) row.rel
    rel_listed [] row has = absurd (nothing_in_empty row has)
    rel_listed (x ∷ rows) row has = elim (contains_cases x rows row has) [
      | inl e ↦ (0, omega arith, ap (λ (z : LinkRow). z.rel) e)
      | inr later ↦ contains_tail x.rel (map (λ z. z.rel) rows) row.rel (rel_listed rows row later)
    ]

-- a row that is found is among the rows, under its relation
pub row_listed : (rows : List LinkRow) (r : RelId) (row : LinkRow) → find_row rows r ≡ Some row → Contains rows row × (row.rel ≡ r)
row_listed [] r row is = absurd (cc)
row_listed (x ∷ rows) r row is = elim (cases_Bool (nat_eq x.rel.0 r.0)) [
  | inl same ↦
      let found : Some x ≡ Some row = rw same at is in
      let e : x ≡ row = cc in
      ((0, omega arith, e), ap (λ (z : LinkRow). z.rel) (sym e) ∙ same_rel x.rel r same)
  | inr other ↦
      let found : find_row rows r ≡ Some row = rw other at is in
      let rest = row_listed rows r row found in
      let at = rest.0 in
      ((suc at.0, omega arith, at.2), rest.1)
]

-- a row that is written in the place of its relation's
module _ (rows : List LinkRow) (r : RelId) (k : ℕ) (is : position (is_of r) rows ≡ Some k) (new : LinkRow) (of_r : is_of r new ≡ true) where
  pub set_this : find_row (slice_set rows k new) r ≡ Some new
  set_this = find-set (is_of r) rows k new (sym (place_is (is_of r) rows k is)) (place_within (is_of r) rows k is) of_r

  was_of_r : nat_eq (get_or rows k new).rel.0 r.0 ≡ true
  was_of_r = (position-Some (is_of r) rows k new is).1

  set_other : (q : RelId) → nat_eq r.0 q.0 ≡ false → find_row (slice_set rows k new) q ≡ find_row rows q
  set_other q ne =
      let old : is_of q (get_or rows k new) ≡ false = grind (arith, nat_tests, was_of_r) in
      let now : is_of q new ≡ false = grind (arith, nat_tests, of_r) in
      find_past (is_of q) rows k new new old now

  set_apart : OneRowEach rows → OneRowEach (slice_set rows k new)
  set_apart = subst Once (sym (map-set_same (λ (z : LinkRow). z.rel) rows k new new (same_rel new.rel r of_r ∙ sym (same_rel (get_or rows k new).rel r was_of_r))))

  pub set_puts : Puts rows (slice_set rows k new) r new.to.items
  set_puts = record {
    this = ap items_of set_this;
    others = λ q ne. set_other q (other_rel r q (λ e. ne (sym e)));
    apart = set_apart;
  }

-- a row more
module _ (new : LinkRow) where
  push_other : (rows : List LinkRow) (q : RelId) → nat_eq new.rel.0 q.0 ≡ false → find_row (rows ++ new ∷ []) q ≡ find_row rows q
  push_other [] q ne = rw ne refl
  push_other (x ∷ rows) q ne = ap (cond (nat_eq x.rel.0 q.0) (Some x)) (push_other rows q ne)

  pub push_this : (rows : List LinkRow) → find_row rows new.rel ≡ None → find_row (rows ++ new ∷ []) new.rel ≡ Some new
  push_this [] none = rw (rel_itself new.rel) refl
  push_this (x ∷ rows) none = elim (cases_Bool (nat_eq x.rel.0 new.rel.0)) [
    | inl same ↦ let found : Some x ≡ None = rw same at none in absurd (cc)
    | inr other ↦ let rest : find_row rows new.rel ≡ None = rw other at none in rw other (push_this rows rest)
  ]

  not_yet : (rows : List LinkRow) → find_row rows new.rel ≡ None → ¬ Contains (map (λ z. z.rel) rows) new.rel
  not_yet [] none has = nothing_in_empty new.rel has
  not_yet (x ∷ rows) none has = elim (cases_Bool (nat_eq x.rel.0 new.rel.0)) [
    | inl same ↦ let found : Some x ≡ None = rw same at none in absurd (cc)
    | inr other ↦ elim (contains_cases x.rel (map (λ z. z.rel) rows) new.rel has) [
      | inl e ↦ differs x.rel new.rel other e
      | inr later ↦ let rest : find_row rows new.rel ≡ None = rw other at none in not_yet rows rest later
    ]
  ]

  push_apart : (rows : List LinkRow) → find_row rows new.rel ≡ None → OneRowEach rows → OneRowEach (rows ++ new ∷ [])
  push_apart rows none apart =
      let rels : List RelId = map (λ z. z.rel) rows in
      let fresh = not_yet rows none in
      subst Once (sym (map-append (λ (z : LinkRow). z.rel) rows (new ∷ [])))
      (all_pairs_push (λ x y. x ≢ y) rels new.rel apart (λ k d lt e. fresh (subst (Contains rels) e (Contains-get_or rels k d lt))))

  pub push_puts : (rows : List LinkRow) → find_row rows new.rel ≡ None → Puts rows (rows ++ new ∷ []) new.rel new.to.items
  push_puts rows none = record {
    this = ap items_of (push_this rows none);
    others = λ q ne. push_other rows q (other_rel new.rel q (λ e. ne (sym e)));
    apart = push_apart rows none;
  }

-- nothing is put where the list is the one that was there
pub keeps_puts : (rows : List LinkRow) (r : RelId) → Puts rows rows r (row_of rows r)
keeps_puts rows r = record { this = refl; others = λ q ne. refl; apart = λ a. a }

pub on_ok : {A E : Type 0} (result : Result A E) (P Q : Type 0) → (P → Q) → OnOk result P → OnOk result Q
on_ok (Ok x) P Q to p = to p
on_ok (Err e) P Q to p = p

pub on_err : {A E : Type 0} (result : Result A E) (P : Type 0) → P → OnErr result P
on_err (Ok x) P p = tt
on_err (Err e) P p = p
