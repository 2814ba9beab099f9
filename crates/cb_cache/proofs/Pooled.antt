-- A row that is written into a pool, and slots that are taken.
use Rattle.std.proofs.Common.{◌≡◌, ◌≢◌, ◌≤◌, ℕ, List, Bool, [], length, slice_index_or, false, refl, sym, ap, ◌∙◌}
use Rattle.std.proofs.lemmas.Bool.{false≢true}
use Rattle.cb_pool.specs.declared.slot.Slot.{Slot}
use Rattle.cb_pool.specs.Pool.{Pool, SlotHasRow, IsTaken, SameOthers, slot_row, with_row}
use Rattle.cb_pool.proofs.Rows.{put_leaves, put_there}
use Rattle.cb_pool.proofs.Views.{slots_apart}

-- a row in the place of another
module _ (p : Pool) (slot : Slot) (row : List ℕ) where
  pub row_written : IsTaken p slot → length row ≡ length (slot_row p slot) → SlotHasRow (with_row p slot row) slot row
  row_written taken same = (taken, sym (put_there p.width slot.0 p.words row same))

  pub others_unwritten : length row ≤ p.width → SameOthers p (with_row p slot row) slot
  others_unwritten few other apart r =
      let same = put_leaves p.width slot.0 other.0 p.words row few (slots_apart other slot apart) in
      (λ has. (has.0, has.1 ∙ same), λ has. (has.0, has.1 ∙ sym same))

pub others_both : (p q r : Pool) (slot : Slot) → SameOthers p q slot → SameOthers q r slot → SameOthers p r slot
others_both p q r slot first second other apart row =
    (λ h. (first other apart row).0 ((second other apart row).0 h), λ h. (second other apart row).1 ((first other apart row).1 h))

-- another slot that is taken was taken
pub was_taken : (p new : Pool) (slot other : Slot) → SameOthers p new slot → other ≢ slot → IsTaken new other → IsTaken p other
was_taken p new slot other same apart taken = ((same other apart (slot_row new other)).0 (taken, refl)).0

-- so is one where the same slots are taken
pub as_taken : (p new : Pool) (slot : Slot) → new.taken ≡ p.taken → IsTaken new slot → IsTaken p slot
as_taken p new slot same taken = ap (λ (t : List Bool). slice_index_or t slot.0 false) (sym same) ∙ taken

-- an empty pool has no slot that is taken
pub none_taken : (p : Pool) (slot : Slot) → p.taken ≡ [] → ¬ IsTaken p slot
none_taken p slot none taken = false≢true (ap (λ (t : List Bool). slice_index_or t slot.0 false) (sym none) ∙ taken)
