-- The parts of the buffer in hand, after some were given and after more came.
use Rattle.std.proofs.Common.{◌≡◌, ℕ, ◌+◌, ◌-◌, ◌<◌, ◌≤◌, List, ◌++◌, length, take, drop, refl, sym, ap, ◌∙◌, arith, length-take, length-drop}
use Rattle.std.proofs.Math.Seq.{take-add}
use Rattle.std.proofs.lemmas.List.{take-take, drop-take, drop-drop, take_at}
use Rattle.std.specs.Prelude.{slice_range}
use Rattle.std.specs.List.{copy_within}
use Rattle.std.specs.Io.KnownBytes.{Consumes, IsAtEnd}
use Rattle.cb_io.specs.Hand.{Held, IsPart, with_text, ReadsPiece}
use Rattle.cb_io.specs.Outside.{FilesReport, left_of}
use Rattle.cb_io.specs.Pieces.{piece_limit}

-- a part has as many bytes as lie between its places
pub part_length : (items : List ℕ) (size from to : ℕ) → size ≡ length items → IsPart size from to → length (slice_range items from to) ≡ to - from
part_length items size from to whole part = omega (arith, whole, part.in_order, part.within, length-take (to - from) (drop from items), length-drop from items)

part_prefix : (items : List ℕ) (from to line : ℕ) → line ≤ to - from → slice_range items from (from + line) ≡ take line (slice_range items from to)
part_prefix items from to line few =
    let n : from + line - from ≡ line = omega arith in
    ap (λ k. take k (drop from items)) n ∙ sym (take-take line (to - from) (drop from items) few)

part_rest : (items : List ℕ) (from to beyond : ℕ) → beyond ≤ to - from → slice_range items (from + beyond) to ≡ drop beyond (slice_range items from to)
part_rest items from to beyond few =
    let n : to - (from + beyond) ≡ to - from - beyond = omega arith in
    let whole : beyond + (to - from - beyond) ≡ to - from = omega (arith, few) in
    ap (λ k. take k (drop (from + beyond) items)) n
    ∙ (ap (take (to - from - beyond)) (sym (drop-drop beyond from items))
    ∙ (sym (drop-take beyond (to - from - beyond) (drop from items)) ∙ ap (λ k. drop beyond (take k (drop from items))) whole))

-- the first bytes that were kept are the text, and those from a place on are kept
pub given : (items text : List ℕ) (from to line beyond size : ℕ) → size ≡ length items → IsPart size from to →
    line ≤ length (slice_range items from to) → beyond ≤ length (slice_range items from to) →
    let new : Held = record { text = slice_range items from (from + line); kept = slice_range items (from + beyond) to; size = size } in
    let old : Held = record { text = text; kept = slice_range items from to; size = size } in
    new ≡ with_text old line beyond
given items text from to line beyond size whole part few less =
    let length_is = part_length items size from to whole part in
    rw (part_prefix items from to line (omega (arith, few, length_is)), part_rest items from to beyond (omega (arith, less, length_is))) refl

-- what was kept is at the start
moved_prefix : (items : List ℕ) (size from to : ℕ) → size ≡ length items → IsPart size from to → take (to - from) (copy_within items from to 0) ≡ slice_range items from to
moved_prefix items size from to whole part =
    let kept : List ℕ = slice_range items from to in
    take_at kept _ (to - from) (part_length items size from to whole part)

-- more bytes came after what was kept
pub refilled : (items now text : List ℕ) (from to count size new_size : ℕ) (before after : FilesReport) (name : List ℕ) → size ≡ length items → IsPart size from to →
    (moved : List ℕ) → moved ≡ copy_within items from to 0 → take (to - from) now ≡ take (to - from) moved → to - from + count ≤ length now → to - from < length now → count ≤ piece_limit →
    Consumes (left_of before name) (left_of after name) (take count (drop (to - from) now)) →
    (count ≡ 0 → 0 < length (drop (to - from) now) → IsAtEnd (left_of after name)) →
    ReadsPiece (record { text = text; kept = slice_range items from to; size = size })
    (record { text = slice_range now 0 0; kept = slice_range now 0 (to - from + count); size = new_size }) before after name count
refilled items now text from to count size new_size before after name whole part moved moves same within capacity few came end =
    let beyond : List ℕ = drop (to - from) now in
    let all : to - from + count - 0 ≡ to - from + count = omega arith in
    record {
      more = take count beyond;
      kept = ap (λ k. take k now) all ∙ (take-add (to - from) count now ∙ ap (λ (l : List ℕ). l ++ take count beyond) (same ∙ (ap (take (to - from)) moves ∙ moved_prefix items size from to whole part)));
      count_is = omega (arith, within, length-take count beyond, length-drop (to - from) now);
      few = few;
      came = came;
      end = λ none. end none (omega (arith, capacity, length-drop (to - from) now));
    }
