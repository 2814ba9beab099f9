-- Rows of words under slots.
use Rattle.std.specs.Prelude.{◌≡◌, ◌≢◌, ◌↔◌, ◌≤◌, ℕ, ◌-◌, ◌*◌, ◌++◌, List, Bool, true, false, length, take, drop, count_by, replicate, slice_index_or}
use Rattle.std.specs.Simd.Lanes.{put_chunk}
use Rattle.cb_pool.specs.declared.slot.Slot.{Slot}

-- how many words a row has, the words of all rows one row after the other, for each slot whether it is taken, and how many further rows can be taken without memory
pub record Pool : Type 0 where
  pub width : ℕ
  pub words : List ℕ
  pub taken : List Bool
  pub spare : ℕ

-- the row at a position; rows of one width lie one after the other
abbrev pub row_at : ℕ → List ℕ → ℕ → List ℕ
row_at width words i = take width (drop (width * i) words)

-- the slot is taken
abbrev pub IsTaken : Pool → Slot → Type 0
IsTaken p slot = slice_index_or p.taken slot.0 false ≡ true

-- a slot's row
abbrev pub slot_row : Pool → Slot → List ℕ
slot_row p slot = row_at p.width p.words slot.0

-- the slot is taken, and this is its row
abbrev pub SlotHasRow : Pool → Slot → List ℕ → Type 0
SlotHasRow p slot row = IsTaken p slot × (row ≡ slot_row p slot)

-- how many slots are taken
abbrev pub taken_count : Pool → ℕ
taken_count p = count_by (λ out. out) p.taken

-- the same slots are taken, with the same rows
abbrev pub SameRows : Pool → Pool → Type 0
SameRows old new = (slot : Slot) (row : List ℕ) → SlotHasRow new slot row ↔ SlotHasRow old slot row

-- every other slot is as it was
abbrev pub SameOthers : Pool → Pool → Slot → Type 0
SameOthers old new slot = (other : Slot) → other ≢ slot → (row : List ℕ) → SlotHasRow new other row ↔ SlotHasRow old other row

-- the same slots are taken, and each row has zeros after it
abbrev pub WiderRows : Pool → Pool → Type 0
WiderRows old new = (slot : Slot) (row : List ℕ) → SlotHasRow new slot row ↔ (IsTaken old slot × (row ≡ slot_row old slot ++ replicate (new.width - old.width) 0))

-- the pool with other words in a slot's row
abbrev pub with_row : Pool → Slot → List ℕ → Pool
with_row p slot row = record p { words = put_chunk (p.width * slot.0) p.words row }

-- words that are written into a slot's row, no more than it has, change no other row, and where they are as many as it has they are the row
pub record WritesOneRow (p : Pool) (slot : Slot) (row : List ℕ) : Type 0 where
  pub width : (with_row p slot row).width ≡ p.width
  pub spare : (with_row p slot row).spare ≡ p.spare
  pub taken : (other : Slot) → IsTaken (with_row p slot row) other ↔ IsTaken p other
  pub others : SameOthers p (with_row p slot row) slot
  pub there : length row ≡ length (slot_row p slot) → slot_row (with_row p slot row) slot ≡ row

abbrev pub OneRowIsWritten : Type 0
OneRowIsWritten = (p : Pool) (slot : Slot) (row : List ℕ) → length row ≤ p.width → WritesOneRow p slot row
