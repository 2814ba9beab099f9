-- Slots that are read.
use Rattle.std.proofs.Common.{◌≡◌, ◌<◌, ℕ, zero, suc, List, [], ◌∷◌, Option, Some, None, IsSome, length, slice_index_or, refl, sym, ap, subst, ◌∙◌, arith}
use Rattle.std.proofs.lemmas.Option.{get_or_from_slice_get, slice_get-get_or}
use Rattle.cb_pool.specs.declared.slot.Slot.{Slot}
use Rattle.cb_cache.specs.Reached.{HasSlot}

-- what is read where there is a slot
pub slot_read : (slots : List (Option Slot)) (i : ℕ) (read : Option Slot) (slot : Slot) → read ≡ slice_index_or slots i read → HasSlot slots i slot → read ≡ Some slot
slot_read slots i read slot is has = is ∙ get_or_from_slice_get slots i (Some slot) read has

pub some_read : (read : Option Slot) (slot : Slot) → read ≡ Some slot → IsSome read
some_read read slot is = subst (λ o. IsSome o) (sym is) refl

pub inside : {X : Type 0} (x y : X) → Some x ≡ Some y → x ≡ y
inside x y e = cc

-- a number has one slot
pub one_slot : (slots : List (Option Slot)) (i : ℕ) (a b : Slot) → HasSlot slots i a → HasSlot slots i b → a ≡ b
one_slot slots i a b has_a has_b = let both : Some (Some a) ≡ Some (Some b) = sym has_a ∙ has_b in cc

-- what was read and is a slot is the number's
pub slot_there : (slots : List (Option Slot)) (i : ℕ) (read : Option Slot) (slot : Slot) → i < length slots → read ≡ slice_index_or slots i read → read ≡ Some slot → HasSlot slots i slot
slot_there slots i read slot low is some = slice_get-get_or slots i read low ∙ ap Some (sym is ∙ some)

-- a place where a slot was read has it
pub slot_at : (slots : List (Option Slot)) (i : ℕ) (slot : Slot) → slice_index_or slots i None ≡ Some slot → HasSlot slots i slot
slot_at [] i slot is = absurd (cc)
slot_at (o ∷ slots) zero slot is = ap Some is
slot_at (o ∷ slots) (suc i) slot is = slot_at slots i slot is

-- and one where none was read has none
pub no_slot_at : (slots : List (Option Slot)) (i : ℕ) (slot : Slot) → slice_index_or slots i None ≡ None → ¬ HasSlot slots i slot
no_slot_at slots i slot is has = let e = get_or_from_slice_get slots i (Some slot) None has in cc

pub slot_low : (slots : List (Option Slot)) (i : ℕ) (slot : Slot) → HasSlot slots i slot → i < length slots
slot_low [] i slot has = absurd (cc)
slot_low (o ∷ slots) zero slot has = omega arith
slot_low (o ∷ slots) (suc i) slot has = let lt = slot_low slots i slot has in omega arith
