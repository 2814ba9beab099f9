-- How slots are kept, and how rows lie in one block of words.
use Rattle.std.specs.Prelude.{◌≡◌, ◌≢◌, ℕ, ◌+◌, ◌-◌, ◌*◌, ◌<◌, ◌≤◌, ◌^◌, List, Bool, true, false, length, count_by, replicate, slice_index_or, vec_capacity}
use Rattle.std.specs.Global.{Vec}
use Rattle.std.specs.List.{AllPairs, Contains}
use Rattle.cb_pool.specs.declared.slot.Slot.{Slot}
use Rattle.cb_pool.specs.declared.slots.Slots.{Slots}
use Rattle.cb_pool.specs.Pool.{row_at}

-- the slot at a position is taken
abbrev pub IsOut : List Bool → ℕ → Type 0
IsOut taken i = slice_index_or taken i false ≡ true

-- each slot that was ever taken is taken or free; the free ones are listed, each once; the lists have capacity for all slots
pub record AreSlotsKept (s : Slots) : Type 0 where
  pub counted : length s.free.items + count_by (λ out. out) s.taken.items ≡ length s.taken.items
  pub within : (slot : Slot) → Contains s.free.items slot → slot.0 < length s.taken.items
  pub vacant : (slot : Slot) → Contains s.free.items slot → slice_index_or s.taken.items slot.0 false ≡ false
  pub once : AllPairs (λ a b. a ≢ b) s.free.items
  pub begun : length s.taken.items ≤ s.capacity
  pub noted : s.capacity ≤ vec_capacity s.taken
  pub listed : s.capacity ≤ vec_capacity s.free
  pub few : s.capacity < 2 ^ 32

-- how many slots can be taken
abbrev pub spare_of : Slots → ℕ
spare_of s = length s.free.items + (s.capacity - length s.taken.items)

-- the slot at a position is taken, which was free, and others are as they were
pub record TakesSlot (old new : List Bool) (i : ℕ) : Type 0 where
  pub free : slice_index_or old i false ≡ false
  pub out : IsOut new i
  pub others : (j : ℕ) → j ≢ i → slice_index_or new j false ≡ slice_index_or old j false

-- the row at a position is zero, and others are as they were
pub record ClearsRow (width : ℕ) (old new : List ℕ) (i : ℕ) : Type 0 where
  pub zeros : row_at width new i ≡ replicate width 0
  pub others : (j : ℕ) → j ≢ i → width * j + width ≤ length old → row_at width new j ≡ row_at width old j

-- the block has the words of all slots that were ever taken, and capacity for those of all others
pub record IsPoolOf (width : ℕ) (words : Vec ℕ) (s : Slots) : Type 0 where
  pub block : length words.items ≡ width * length s.taken.items
  pub capacity : width * s.capacity ≤ vec_capacity words
  pub slots : AreSlotsKept s
