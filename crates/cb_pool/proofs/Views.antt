-- What a pool shows once a slot is taken or given back, and once rows are wider.
use Rattle.std.proofs.Common.{◌≡◌, ◌≢◌, ℕ, ◌+◌, ◌-◌, ◌*◌, ◌<◌, ◌≤◌, ◌++◌, List, Bool, false, length, replicate, slice_index_or, refl, sym, ap, subst, ◌∙◌}
use Rattle.std.specs.Global.{Vec}
use Rattle.cb_pool.specs.declared.slot.Slot.{Slot}
use Rattle.cb_pool.specs.declared.slots.Slots.{Slots}
use Rattle.cb_pool.specs.Pool.{Pool, IsTaken, SameOthers, WiderRows, row_at, slot_row}
use Rattle.cb_pool.specs.Kept.{IsOut, IsPoolOf, TakesSlot, spare_of}
use Rattle.cb_pool.proofs.Rows.{row_fits}
use Rattle.cb_pool.proofs.Taking.{out_within}

-- the pool of these parts
abbrev pub pool_of : ℕ → List ℕ → List Bool → ℕ → Pool
pool_of width words taken spare = record { width = width; words = words; taken = taken; spare = spare }

pub slots_apart : (a b : Slot) → a ≢ b → a.0 ≢ b.0
slots_apart a b other same = other (λ k. record { 0 = same k })

-- a slot's row lies within the block
pub slot_fits : (width : ℕ) (words : Vec ℕ) (s : Slots) (p : Pool) (slot : Slot) → IsPoolOf width words s → pool_of width words.items s.taken.items (spare_of s) ≡ p → IsTaken p slot
    → width * slot.0 + width ≤ length words.items
slot_fits width words s p slot kept view_is taken =
    let out : IsOut s.taken.items slot.0 = ap (λ (q : Pool). slice_index_or q.taken slot.0 false) view_is ∙ taken in
    row_fits width slot.0 (length s.taken.items) words.items kept.block (out_within s.taken.items slot.0 out)

-- a slot that was free is taken
module _ (width spare spare' : ℕ) (words after : List ℕ) (taken taken' : List Bool) (slot : Slot) (block : length words ≡ width * length taken) (takes : TakesSlot taken taken' slot.0) where
  pub was_free : ¬ IsTaken (pool_of width words taken spare) slot
  was_free out = let e = takes.free in absurd (cc)

  -- others keep their rows, where the words of theirs stay
  pub others_kept : ((j : ℕ) → j ≢ slot.0 → width * j + width ≤ length words → row_at width after j ≡ row_at width words j)
      → SameOthers (pool_of width words taken spare) (pool_of width after taken' spare') slot
  others_kept stay other apart row =
      let differs = slots_apart other slot apart in
      let same = takes.others other.0 differs in
      let fits : IsOut taken other.0 → width * other.0 + width ≤ length words = λ out. row_fits width other.0 (length taken) words block (out_within taken other.0 out) in (
        λ has. (sym same ∙ has.0, has.1 ∙ stay other.0 differs (fits (sym same ∙ has.0))),
        λ has. (same ∙ has.0, has.1 ∙ sym (stay other.0 differs (fits has.0))),
      )

-- a slot that was taken is free
module _ (width spare spare' : ℕ) (words : List ℕ) (taken taken' : List Bool) (slot : Slot) (gives : TakesSlot taken' taken slot.0) where
  pub is_free : ¬ IsTaken (pool_of width words taken' spare') slot
  is_free out = let e = gives.free in absurd (cc)

  pub others_left : SameOthers (pool_of width words taken spare) (pool_of width words taken' spare') slot
  others_left other apart row =
      let same = gives.others other.0 (slots_apart other slot apart) in
      (λ has. (same ∙ has.0, has.1), λ has. (sym same ∙ has.0, has.1))

-- each row has zeros after it
pub wider_rows : (width wider spare : ℕ) (words after : List ℕ) (taken : List Bool)
    → ((i : ℕ) → i < length taken → row_at wider after i ≡ row_at width words i ++ replicate (wider - width) 0)
    → WiderRows (pool_of width words taken spare) (pool_of wider after taken spare)
wider_rows width wider spare words after taken each slot row =
    (λ has. (has.0, has.1 ∙ each slot.0 (out_within taken slot.0 has.0)), λ has. (has.0, has.1 ∙ sym (each slot.0 (out_within taken slot.0 has.0))))

-- a slot that is taken stays so where another one is
pub still_taken : (old new : Pool) (slot other : Slot) → SameOthers old new slot → ¬ IsTaken old slot → IsTaken old other → IsTaken new other
still_taken old new slot other same free taken =
    ((same other (λ (e : other ≡ slot). free (subst (IsTaken old) e taken)) (slot_row old other)).1 (taken, refl)).0

-- and where another one is given back
pub left_taken : (old new : Pool) (slot other : Slot) → SameOthers old new slot → other ≢ slot → IsTaken old other → IsTaken new other
left_taken old new slot other same apart taken = ((same other apart (slot_row old other)).1 (taken, refl)).0

-- and where rows are wider
pub wider_taken : (old new : Pool) (slot : Slot) → WiderRows old new → IsTaken old slot → IsTaken new slot
wider_taken old new slot wider taken = ((wider slot (slot_row old slot ++ replicate (new.width - old.width) 0)).1 (taken, refl)).0

-- a slot that was free isn't one that was taken
pub not_the_same : (p : Pool) (slot other : Slot) → ¬ IsTaken p slot → IsTaken p other → slot ≢ other
not_the_same p slot other free taken e = free (subst (IsTaken p) (sym e) taken)
