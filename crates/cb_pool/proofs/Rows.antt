-- Rows in a block of words.
use Rattle.std.proofs.Common.{◌≡◌, ◌≢◌, ℕ, zero, suc, [], ◌∷◌, refl, take, bit_or, ◌+◌, ◌-◌, ◌*◌, ◌<◌, ◌≤◌, List, ◌++◌, length, min, drop, replicate, slice_index_or, sym, ap, subst, ◌∙◌, arith, inl, inr}
use Rattle.std.proofs.Math.Nat.{mul-le-mul_left}
use Rattle.std.specs.Simd.Lanes.{put_chunk, zip2}
use borrow.Rule.Slice.PartMut.{put_mid}
use Rattle.std.proofs.lemmas.List.{get_or-take, get_or-append_right, get_or_append_left, length-append, length-replicate, length-take, length-drop}
use Rattle.std.proofs.lemmas.Bool.{cases_lt}
use Rattle.std.proofs.lemmas.Grind.{same_number_lists}
use Rattle.std.proofs.lemmas.Simd.{length-chunk, get_or-chunk, length-zip2, length-put_chunk, get_or-put_chunk_below, get_or-put_chunk_at, get_or-put_chunk_above, put_chunk_is}
use Rattle.cb_pool.specs.Pool.{row_at}
use Rattle.cb_pool.specs.Kept.{ClearsRow}

-- a whole row before another
pub before : (width i j : ℕ) → i < j → width * i + width ≤ width * j
before width i j lt = let lt' : i + 1 ≤ j = omega arith in let e = mul-le-mul_left width lt' in omega arith

-- a row lies within the block
pub row_fits : (width i n : ℕ) (words : List ℕ) → length words ≡ width * n → i < n → width * i + width ≤ length words
row_fits width i n words block lt = let e = before width i n lt in omega arith

pub row_length : (width i : ℕ) (words : List ℕ) → width * i + width ≤ length words → length (row_at width words i) ≡ width
row_length width i words le = length-chunk (width * i) width words le

-- a row, word by word
pub row_is : (width i : ℕ) (words row : List ℕ) → width * i + width ≤ length words → length row ≡ width
    → ((k : ℕ) → k < width → slice_index_or words (width * i + k) 0 ≡ slice_index_or row k 0) → row_at width words i ≡ row
row_is width i words row le wide each =
    let long = row_length width i words le in
    same_number_lists (row_at width words i) row (long ∙ sym wide) (λ k lt. get_or-chunk (width * i) width words k 0 (omega arith) ∙ each k (omega arith))

-- rows whose words are the same
pub same_row : (width i : ℕ) (words after : List ℕ) → width * i + width ≤ length words → width * i + width ≤ length after
    → ((k : ℕ) → k < width → slice_index_or after (width * i + k) 0 ≡ slice_index_or words (width * i + k) 0) → row_at width after i ≡ row_at width words i
same_row width i words after le le' each =
    row_is width i after (row_at width words i) le' (row_length width i words le)
    (λ k lt. each k lt ∙ sym (get_or-chunk (width * i) width words k 0 lt))

module _ (width i : ℕ) (words row : List ℕ) (le : width * i + width ≤ length words) (wide : length row ≡ width) where
  abbrev after : List ℕ
  after = put_chunk (width * i) words row

  -- the row that was put is there
  pub row_put : row_at width after i ≡ row
  row_put =
      let same = length-put_chunk (width * i) words row in
      row_is width i after row (omega arith) wide (λ k lt. get_or-put_chunk_at (width * i) words row k 0 (omega arith) (omega arith))

  -- and every other row stays
  pub others_stay : (j : ℕ) → j ≢ i → width * j + width ≤ length words → row_at width after j ≡ row_at width words j
  others_stay j other fits =
      let same = length-put_chunk (width * i) words row in
      same_row width j words after fits (omega arith) (λ k lt. elim (cases_lt j i) [
        | inl below ↦ get_or-put_chunk_below (width * i) words row (width * j + k) 0 (let e = before width j i below in omega arith)
        | inr le' ↦ get_or-put_chunk_above (width * i) words row (width * j + k) 0 (let e = before width i j (omega arith) in omega arith)
      ])

-- a part that is written is a chunk that is put
pub mid_is_chunk : (a w k : ℕ) (xs ys : List ℕ) → k ≡ w → length ys ≡ w → a + w ≤ length xs → put_mid a k xs ys ≡ put_chunk a xs ys
mid_is_chunk a w k xs ys same wide le = ap (λ n. put_mid a n xs ys) (same ∙ sym wide) ∙ sym (put_chunk_is a xs ys (omega arith))

-- a row of zeros that is put clears the row there
pub put_clears : (width i : ℕ) (words new : List ℕ) → width * i + width ≤ length words → new ≡ put_chunk (width * i) words (replicate width 0) → ClearsRow width words new i
put_clears width i words new le is =
    let wide = length-replicate width 0 in
    record {
      zeros = ap (λ ws. row_at width ws i) is ∙ row_put width i words (replicate width 0) le wide;
      others = λ j other fits. ap (λ ws. row_at width ws j) is ∙ others_stay width i words (replicate width 0) le wide j other fits;
    }

-- a row after the block
module _ (width i : ℕ) (words row after : List ℕ) (block : length words ≡ width * i) (wide : length row ≡ width) (is : after ≡ words ++ row) where
  pub added_length : length after ≡ width * i + width
  added_length = ap length is ∙ length-append words row ∙ omega arith

  pub row_added : row_at width after i ≡ row
  row_added =
      let long = added_length in
      row_is width i after row (omega arith) wide (λ k lt.
      ap (λ ws. slice_index_or ws (width * i + k) 0) is
      ∙ get_or-append_right words row (width * i) (width * i + k) 0 block (omega arith)
      ∙ (let e : width * i + k - width * i ≡ k = omega arith in ap (λ n. slice_index_or row n 0) e))

  pub rows_stay : (j : ℕ) → width * j + width ≤ length words → row_at width after j ≡ row_at width words j
  rows_stay j fits =
      let long = added_length in
      same_row width j words after fits (omega arith) (λ k lt.
      ap (λ ws. slice_index_or ws (width * j + k) 0) is ∙ get_or_append_left words row 0 (width * j + k) (omega arith))

-- a row of zeros after the block
pub add_clears : (width i : ℕ) (words after : List ℕ) → length words ≡ width * i → after ≡ words ++ replicate width 0 → ClearsRow width words after i
add_clears width i words after block is =
    let wide = length-replicate width 0 in
    record {
      zeros = row_added width i words (replicate width 0) after block wide is;
      others = λ j other fits. rows_stay width i words (replicate width 0) after block wide is j fits;
    }

-- one more row with zeros after it
pub wider_more : (width wider i : ℕ) (words made new row : List ℕ) → width ≤ wider → length made ≡ wider * i → row ≡ row_at width words i → length row ≡ width
    → new ≡ made ++ (row ++ replicate (wider - length row) 0) → ((j : ℕ) → j < i → row_at wider made j ≡ row_at width words j ++ replicate (wider - width) 0)
    → (length new ≡ wider * i + wider) × ((j : ℕ) → j < i + 1 → row_at wider new j ≡ row_at width words j ++ replicate (wider - width) 0)
wider_more width wider i words made new row le block is wide added each =
    let rest : List ℕ = replicate (wider - length row) 0 in
    let whole : List ℕ = row ++ rest in
    let parts : length whole ≡ length row + length rest = length-append row rest in
    let zeros : length rest ≡ wider - length row = length-replicate (wider - length row) 0 in
    let long : length whole ≡ wider = omega (arith, parts, zeros, wide, le) in (
      added_length wider i made whole new block long added,
      λ j lt. elim (cases_lt j i) [
        | inl below ↦ rows_stay wider i made whole new block long added j (let e = before wider j i below in omega arith) ∙ each j below
        | inr above ↦ (let e : j ≡ i = omega arith in subst (λ n. row_at wider new n ≡ row_at width words n ++ replicate (wider - width) 0) (sym e)
            (row_added wider i made whole new block long added
            ∙ ap (λ n. row ++ replicate (wider - n) 0) wide ∙ ap (λ r. r ++ replicate (wider - width) 0) is))
      ],
    )

-- rows in blocks of one length have one length
row_lengths : (width i : ℕ) (words new : List ℕ) → length new ≡ length words → length (row_at width new i) ≡ length (row_at width words i)
row_lengths width i words new same =
    length-take width (drop (width * i) new) ∙ ap (min width) (length-drop (width * i) new ∙ ap (λ n. n - width * i) same ∙ sym (length-drop (width * i) words))
    ∙ sym (length-take width (drop (width * i) words))

-- words that are put into a row, no more than it has, leave the others, also where the block is cut short
pub put_leaves : (width i j : ℕ) (words row : List ℕ) → length row ≤ width → j ≢ i → row_at width (put_chunk (width * i) words row) j ≡ row_at width words j
put_leaves width i j words row few other =
    let new = put_chunk (width * i) words row in
    let most : length (row_at width new j) ≡ min width (length (drop (width * j) new)) = length-take width (drop (width * j) new) in
    same_number_lists (row_at width new j) (row_at width words j) (row_lengths width j words new (length-put_chunk (width * i) words row)) (λ k lt.
    get_or-chunk (width * j) width new k 0 (omega arith) ∙ elim (cases_lt j i) [
      | inl below ↦ get_or-put_chunk_below (width * i) words row (width * j + k) 0 (let e = before width j i below in omega arith)
      | inr le ↦ get_or-put_chunk_above (width * i) words row (width * j + k) 0 (let e = before width i j (omega arith) in omega arith)
    ] ∙ sym (get_or-chunk (width * j) width words k 0 (omega arith)))

-- and are the row where they are as many
pub put_there : (width i : ℕ) (words row : List ℕ) → length row ≡ length (row_at width words i) → row_at width (put_chunk (width * i) words row) i ≡ row
put_there width i words row same =
    let new = put_chunk (width * i) words row in
    let long = row_lengths width i words new (length-put_chunk (width * i) words row) in
    let most : length (row_at width words i) ≡ min width (length words - width * i) = length-take width (drop (width * i) words) ∙ ap (min width) (length-drop (width * i) words) in
    same_number_lists (row_at width new i) row (long ∙ sym same) (λ k lt.
    get_or-chunk (width * i) width new k 0 (omega arith) ∙ get_or-put_chunk_at (width * i) words row k 0 (omega arith) (omega arith))

put_none : (zs : List ℕ) → put_chunk 0 zs [] ≡ zs
put_none [] = refl
put_none (z ∷ zs) = refl

-- words that are put into the start of a list leave what stands after it
pub put_prefix : (i : ℕ) (xs zs ys : List ℕ) → i + length ys ≤ length xs → put_chunk i (xs ++ zs) ys ≡ put_chunk i xs ys ++ zs
put_prefix zero [] zs [] le = put_none zs
put_prefix zero [] zs (y ∷ ys) le = absurd (omega arith)
put_prefix (suc i) [] zs ys le = absurd (omega arith)
put_prefix zero (x ∷ xs) zs [] le = refl
put_prefix zero (x ∷ xs) zs (y ∷ ys) le = ap (λ l. y ∷ l) (put_prefix zero xs zs ys (omega arith))
put_prefix (suc i) (x ∷ xs) zs ys le = ap (λ l. x ∷ l) (put_prefix i xs zs ys (omega arith))

-- words before a place are those of the prefix up to it
pub take_within : (at width later : ℕ) (xs : List ℕ) → at + width ≤ later → later ≤ length xs → take (at + width - at) (drop at (take later xs)) ≡ take width (drop at xs)
take_within at width later xs apart within =
    let e : at + width - at ≡ width = omega arith in
    let long : length (take later xs) ≡ later = length-take later xs ∙ omega arith in
    let wide : length (take width (drop at (take later xs))) ≡ width = length-chunk at width (take later xs) (omega arith) in
    ap (λ n. take n (drop at (take later xs))) e
    ∙ same_number_lists (take width (drop at (take later xs))) (take width (drop at xs)) (wide ∙ sym (length-chunk at width xs (omega arith))) (λ k lt.
    get_or-chunk at width (take later xs) k 0 (omega arith) ∙ get_or-take later xs (at + k) 0 (omega arith) ∙ sym (get_or-chunk at width xs k 0 (omega arith)))

-- how long the union of two rows is
pub united_length : (at later width : ℕ) (xs : List ℕ) → at + width ≤ length xs → later + width ≤ length xs
    → length (zip2 bit_or (take width (drop at xs)) (take width (drop later xs))) ≡ width
united_length at later width xs le le' =
    let a = length-chunk at width xs le in
    length-zip2 bit_or (take width (drop at xs)) (take width (drop later xs)) (a ∙ sym (length-chunk later width xs le')) ∙ a
