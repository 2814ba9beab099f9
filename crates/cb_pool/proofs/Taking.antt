-- Slots that are taken and given back.
use Rattle.std.proofs.Common.{◌≡◌, ◌≢◌, ◌⊎◌, ℕ, ◌+◌, ◌<◌, ◌≤◌, ◌^◌, List, [], ◌∷◌, ◌++◌, length, Bool, true, false, cond, vec_capacity, slice_index_or, slice_set, sym, ap, subst, ◌∙◌, inl, inr, arith}
use Rattle.std.specs.List.{AllPairs, Contains, count_by}
use Rattle.std.proofs.lemmas.List.{get_or-set_same, get_or-set_other, get_or_push, get_or_append_left, get_or_past, length-set, length_push}
use Rattle.std.proofs.lemmas.List.Elements.{Contains-push, Contains-append_left, Contains-push_cases}
use Rattle.std.proofs.lemmas.Bool.{cases_lt}
use Rattle.std.proofs.lemmas.List.Sums.{sum_by-set, sum_by-append}
use Rattle.cb_pool.specs.declared.slot.Slot.{Slot}
use Rattle.cb_pool.specs.declared.slots.Slots.{Slots}
use Rattle.cb_pool.specs.Kept.{AreSlotsKept, TakesSlot, IsOut}
use Rattle.cb_pool.proofs.Apart.{pairs_last, pairs_prefix, pairs_more}

same_slot : (i j : Slot) → i.0 ≡ j.0 → i ≡ j
same_slot i j e = λ k. record { 0 = e k }

abbrev one : Bool → ℕ
one out = cond out 1 0

count_out : (taken : List Bool) (i : ℕ) → i < length taken → slice_index_or taken i false ≡ false → count_by (λ out. out) (slice_set taken i true) ≡ count_by (λ out. out) taken + 1
count_out taken i lt free = let h = sum_by-set one taken i true false lt in let e : one (slice_index_or taken i false) ≡ 0 = ap one free in omega (arith, h, e)

count_back : (taken : List Bool) (i : ℕ) → i < length taken → IsOut taken i → count_by (λ out. out) (slice_set taken i false) + 1 ≡ count_by (λ out. out) taken
count_back taken i lt out = let h = sum_by-set one taken i false false lt in let e : one (slice_index_or taken i false) ≡ 1 = ap one out in omega (arith, h, e)

-- a free slot is there
pub free_within : (old : Slots) (prefix : List Slot) (slot : Slot) → AreSlotsKept old → old.free.items ≡ prefix ++ slot ∷ [] → slot.0 < length old.taken.items
free_within old prefix slot kept popped = kept.within slot (subst (λ xs. Contains xs slot) (sym popped) (Contains-push prefix slot))

-- and isn't taken
pub free_vacant : (old : Slots) (prefix : List Slot) (slot : Slot) → AreSlotsKept old → old.free.items ≡ prefix ++ slot ∷ [] → slice_index_or old.taken.items slot.0 false ≡ false
free_vacant old prefix slot kept popped = kept.vacant slot (subst (λ xs. Contains xs slot) (sym popped) (Contains-push prefix slot))

-- the last of the free slots is taken
pub taken_again : (old new : Slots) (slot : Slot) → AreSlotsKept old → old.free.items ≡ new.free.items ++ slot ∷ [] → vec_capacity new.free ≡ vec_capacity old.free
    → new.taken.items ≡ slice_set old.taken.items slot.0 true → vec_capacity new.taken ≡ vec_capacity old.taken → new.capacity ≡ old.capacity → AreSlotsKept new
taken_again old new slot kept popped listed written noted capacity =
    let has : Contains old.free.items slot = subst (λ xs. Contains xs slot) (sym popped) (Contains-push new.free.items slot) in
    let lt = kept.within slot has in
    let free = kept.vacant slot has in
    let prefix : (x : Slot) → Contains new.free.items x → Contains old.free.items x = λ x in_x. subst (λ xs. Contains xs x) (sym popped) (Contains-append_left new.free.items (slot ∷ []) x in_x) in
    let once : AllPairs (λ a b. a ≢ b) (new.free.items ++ slot ∷ []) = subst (AllPairs (λ a b. a ≢ b)) popped kept.once in
    let other : (x : Slot) → Contains new.free.items x → x.0 ≢ slot.0 = λ x in_x e. pairs_last (λ a b. a ≢ b) new.free.items slot once x in_x (same_slot x slot e) in
    let size : length new.taken.items ≡ length old.taken.items = ap length written ∙ length-set old.taken.items slot.0 true in
    let count : count_by (λ out. out) new.taken.items ≡ count_by (λ out. out) old.taken.items + 1 = ap (count_by (λ out. out)) written ∙ count_out old.taken.items slot.0 lt free in
    let fewer : length old.free.items ≡ length new.free.items + 1 = ap length popped ∙ length_push new.free.items slot in
    record {
      counted = omega (arith, kept.counted);
      within = λ x in_x. omega (arith, kept.within x (prefix x in_x));
      vacant = λ x in_x. ap (λ t. slice_index_or t x.0 false) written ∙ get_or-set_other old.taken.items slot.0 x.0 true false (other x in_x) ∙ kept.vacant x (prefix x in_x);
      once = pairs_prefix (λ a b. a ≢ b) new.free.items slot once;
      begun = omega (arith, kept.begun);
      noted = omega (arith, kept.noted);
      listed = omega (arith, kept.listed);
      few = omega (arith, kept.few);
    }

-- where a slot is taken, not all are free
pub some_taken : (old : Slots) (slot : Slot) → AreSlotsKept old → IsOut old.taken.items slot.0 → slot.0 < length old.taken.items → length old.free.items < length old.taken.items
some_taken old slot kept out lt = let e = count_back old.taken.items slot.0 lt out in omega (arith, kept.counted)

-- one more slot than were ever taken is taken
pub taken_next : (old new : Slots) → AreSlotsKept old → new.taken.items ≡ old.taken.items ++ true ∷ [] → new.free.items ≡ old.free.items → vec_capacity new.free ≡ vec_capacity old.free
    → vec_capacity new.taken ≡ vec_capacity old.taken → length old.taken.items < old.capacity → new.capacity ≡ old.capacity → AreSlotsKept new
taken_next old new kept pushed same listed noted spare capacity =
    let size : length new.taken.items ≡ length old.taken.items + 1 = ap length pushed ∙ length_push old.taken.items true in
    let count : count_by (λ out. out) new.taken.items ≡ count_by (λ out. out) old.taken.items + 1 = ap (count_by (λ out. out)) pushed ∙ sum_by-append one old.taken.items (true ∷ []) in
    let fewer : length new.free.items ≡ length old.free.items = ap length same in
    let was : (x : Slot) → Contains new.free.items x → Contains old.free.items x = λ x has. subst (λ xs. Contains xs x) same has in
    record {
      counted = omega (arith, kept.counted);
      within = λ x has. omega (arith, kept.within x (was x has));
      vacant = λ x has. ap (λ t. slice_index_or t x.0 false) pushed ∙ get_or_append_left old.taken.items (true ∷ []) false x.0 (kept.within x (was x has)) ∙ kept.vacant x (was x has);
      once = subst (AllPairs (λ a b. a ≢ b)) (sym same) kept.once;
      begun = omega (arith, kept.begun);
      noted = omega (arith, kept.noted);
      listed = omega (arith, kept.listed);
      few = omega (arith, kept.few);
    }

-- there is more capacity for the same slots
pub more_capacity : (old new : Slots) → AreSlotsKept old → new.taken.items ≡ old.taken.items → new.free.items ≡ old.free.items → old.capacity ≤ new.capacity → new.capacity ≤ vec_capacity new.taken
    → new.capacity ≤ vec_capacity new.free → new.capacity < 2 ^ 32 → AreSlotsKept new
more_capacity old new kept same same_free more noted listed few =
    let size : length new.taken.items ≡ length old.taken.items = ap length same in
    let count : count_by (λ out. out) new.taken.items ≡ count_by (λ out. out) old.taken.items = ap (count_by (λ out. out)) same in
    let fewer : length new.free.items ≡ length old.free.items = ap length same_free in
    let was : (x : Slot) → Contains new.free.items x → Contains old.free.items x = λ x has. subst (λ xs. Contains xs x) same_free has in
    record {
      counted = omega (arith, kept.counted);
      within = λ x has. omega (arith, kept.within x (was x has));
      vacant = λ x has. ap (λ t. slice_index_or t x.0 false) same ∙ kept.vacant x (was x has);
      once = subst (AllPairs (λ a b. a ≢ b)) (sym same_free) kept.once;
      begun = omega (arith, kept.begun);
      noted = noted;
      listed = listed;
      few = few;
    }

-- a slot within the list that is set is taken
pub set_takes : (old new : List Bool) (i : ℕ) → i < length old → slice_index_or old i false ≡ false → new ≡ slice_set old i true → TakesSlot old new i
set_takes old new i lt free written = record {
  free = free;
  out = ap (λ t. slice_index_or t i false) written ∙ get_or-set_same old i true false lt;
  others = λ j other. ap (λ t. slice_index_or t j false) written ∙ get_or-set_other old i j true false other;
}

-- so is one after the list
pub push_takes : (old new : List Bool) (i : ℕ) → i ≡ length old → new ≡ old ++ true ∷ [] → TakesSlot old new i
push_takes old new i end pushed = record {
  free = get_or_past old i false (omega arith);
  out = ap (λ t. slice_index_or t i false) pushed ∙ get_or_push old true false i (sym end);
  others = λ j other. ap (λ t. slice_index_or t j false) pushed ∙ elim (cases_lt j (length old)) [
    | inl lt ↦ get_or_append_left old (true ∷ []) false j lt
    | inr le ↦ get_or_past (old ++ true ∷ []) j false (omega (arith, length_push old true)) ∙ sym (get_or_past old j false le)
  ];
}

-- one that is cleared was taken
pub set_gives : (old new : List Bool) (i : ℕ) → i < length old → IsOut old i → new ≡ slice_set old i false → TakesSlot new old i
set_gives old new i lt out written = record {
  free = ap (λ t. slice_index_or t i false) written ∙ get_or-set_same old i false false lt;
  out = out;
  others = λ j other. sym (ap (λ t. slice_index_or t j false) written ∙ get_or-set_other old i j false false other);
}

-- a slot that is taken is there
pub out_within : (taken : List Bool) (i : ℕ) → IsOut taken i → i < length taken
out_within taken i out = elim (cases_lt i (length taken)) [
  | inl lt ↦ lt
  | inr le ↦ absurd (let e = get_or_past taken i false le in cc)
]

-- a slot that was taken is free
pub given_back : (old new : Slots) (slot : Slot) → AreSlotsKept old → IsOut old.taken.items slot.0 → slot.0 < length old.taken.items → new.taken.items ≡ slice_set old.taken.items slot.0 false
    → new.free.items ≡ old.free.items ++ slot ∷ [] → vec_capacity new.free ≡ vec_capacity old.free → vec_capacity new.taken ≡ vec_capacity old.taken
    → new.capacity ≡ old.capacity → AreSlotsKept new
given_back old new slot kept out lt written pushed listed noted capacity =
    let size : length new.taken.items ≡ length old.taken.items = ap length written ∙ length-set old.taken.items slot.0 false in
    let this : slice_index_or new.taken.items slot.0 false ≡ false = ap (λ t. slice_index_or t slot.0 false) written ∙ get_or-set_same old.taken.items slot.0 false false lt in
    let count : count_by (λ out. out) new.taken.items + 1 ≡ count_by (λ out. out) old.taken.items = ap (λ t. count_by (λ out. out) t + 1) written ∙ count_back old.taken.items slot.0 lt out in
    let more : length new.free.items ≡ length old.free.items + 1 = ap length pushed ∙ length_push old.free.items slot in
    let cases : (x : Slot) → Contains new.free.items x → Contains old.free.items x ⊎ (slot ≡ x) = λ x has. Contains-push_cases old.free.items slot x (subst (λ xs. Contains xs x) pushed has) in
    let other : (x : Slot) → Contains old.free.items x → x ≢ slot = λ x has e.
    let off : slice_index_or old.taken.items slot.0 false ≡ false = ap (λ (y : Slot). slice_index_or old.taken.items y.0 false) (sym e) ∙ kept.vacant x has in
    absurd (cc) in
    record {
      counted = omega (arith, kept.counted);
      within = λ x has. elim (cases x has) [
        | inl was ↦ omega (arith, kept.within x was)
        | inr e ↦ let same : slot.0 ≡ x.0 = ap (λ (y : Slot). y.0) e in omega arith
      ];
      vacant = λ x has. elim (cases x has) [
        | inl was ↦ ap (λ t. slice_index_or t x.0 false) written ∙ get_or-set_other old.taken.items slot.0 x.0 false false (λ e. other x was (same_slot x slot e)) ∙ kept.vacant x was
        | inr e ↦ ap (λ (y : Slot). slice_index_or new.taken.items y.0 false) (sym e) ∙ this
      ];
      once = subst (AllPairs (λ a b. a ≢ b)) (sym pushed) (pairs_more (λ a b. a ≢ b) old.free.items slot kept.once other);
      begun = omega (arith, kept.begun);
      noted = omega (arith, kept.noted);
      listed = omega (arith, kept.listed);
      few = omega (arith, kept.few);
    }
