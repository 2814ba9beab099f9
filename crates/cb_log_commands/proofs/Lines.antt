-- The lines of bytes that are put together of lines.
use Rattle.std.proofs.Common.{◌≡◌, ◌∙◌, ◌==◌, ◌+◌, ℕ, Bool, false, List, [], ◌∷◌, ◌++◌, append_assoc, append-nil, map, length, take, drop, refl, sym, ap, subst, inl, inr, arith}
use Rattle.std.specs.Prelude.{slice_index_or}
use Rattle.std.specs.List.{All, AllZip, Contains, slice_split, enumerate_from}
use Rattle.std.proofs.lemmas.Bool.Decides.{eqb_tells}
use Rattle.std.proofs.lemmas.List.{length-append, take-append-drop}
use Rattle.std.proofs.lemmas.List.Elements.{All-head, All-tail, All-contains_itself, Contains-append_left}
use Rattle.std.proofs.lemmas.List.Splits.{slice_split_at, slice_split_none}
use Rattle.cb_io.specs.LineReading.{IsOneLine}
use Rattle.cb_text.specs.Lines.{last_line, lines_of_parts}
use Rattle.cb_alarm.specs.Lines.{NumberedLine, numbered_line, ended_parts, ended_lines, log_lines}
use Rattle.cb_log_commands.specs.Telling.{joined, numbered}

abbrev Parts : Type 0
Parts = List (List ℕ)

abbrev lf : ℕ → Bool
lf b = b == 10

-- ---- bytes without a LF

no_lf : (bytes : List ℕ) → IsOneLine bytes → All (λ b. lf b ≡ false) bytes
no_lf bytes one k d low =
    elim (eqb_tells (slice_index_or bytes k d) 10) [
      | inl is ↦ absurd (one (subst (Contains bytes) is.1 (All-contains_itself bytes k d low)))
      | inr not ↦ not.0
    ]

-- a prefix of them has none either
pub one_prefix : (prefix rest : List ℕ) → IsOneLine (prefix ++ rest) → IsOneLine prefix
one_prefix prefix rest one contains = one (Contains-append_left prefix rest 10 contains)

pub one_take : (n : ℕ) (bytes : List ℕ) → IsOneLine bytes → IsOneLine (take n bytes)
one_take n bytes one = one_prefix (take n bytes) (drop n bytes) (subst IsOneLine (sym (take-append-drop n bytes)) one)

pub one_none : IsOneLine []
one_none (k, low, is) = absurd (omega (arith, low))

-- ---- the parts between LFs

split_joined : (lines : Parts) (rest : List ℕ) → All IsOneLine lines → slice_split lf (joined lines ++ rest) ≡ lines ++ slice_split lf rest
split_joined [] rest one = refl
split_joined (line ∷ lines) rest one =
    let moved : ((line ++ 10 ∷ []) ++ joined lines) ++ rest ≡ line ++ 10 ∷ (joined lines ++ rest) =
    append_assoc (line ++ 10 ∷ []) (joined lines) rest ∙ append_assoc line (10 ∷ []) (joined lines ++ rest) in
    let first = slice_split_at lf line 10 (joined lines ++ rest) (no_lf line (All-head IsOneLine line lines one)) refl in
    ap (slice_split lf) moved ∙ (first ∙ ap (λ (v : Parts). line ∷ v) (split_joined lines rest (All-tail IsOneLine line lines one)))

split_of : (lines : Parts) (part : List ℕ) → All IsOneLine lines → IsOneLine part → slice_split lf (joined lines ++ part) ≡ lines ++ part ∷ []
split_of lines part all one = split_joined lines part all ∙ ap (λ (v : Parts). lines ++ v) (slice_split_none lf part (no_lf part one))

all_ended : (lines : Parts) (part : List ℕ) → ended_parts (lines ++ part ∷ []) ≡ lines
all_ended [] part = refl
all_ended (line ∷ []) part = refl
all_ended (line ∷ next ∷ lines) part = ap (λ (v : Parts). line ∷ v) (all_ended (next ∷ lines) part)

all_lines : (lines : Parts) (part : List ℕ) → lines_of_parts (lines ++ part ∷ []) ≡ lines ++ last_line part
all_lines [] part = refl
all_lines (line ∷ []) part = refl
all_lines (line ∷ next ∷ lines) part = ap (λ (v : Parts). line ∷ v) (all_lines (next ∷ lines) part)

-- ---- the lines of a log

-- after lines that LFs end, bytes without one end no line
pub ended_are : (lines : Parts) (part : List ℕ) → All IsOneLine lines → IsOneLine part → ended_lines (joined lines ++ part) ≡ numbered lines
ended_are lines part all one = ap (λ (v : Parts). map numbered_line (enumerate_from 1 v)) (ap ended_parts (split_of lines part all one) ∙ all_ended lines part)

-- and they are the last line, where they are some
pub lines_are : (lines : Parts) (part : List ℕ) → All IsOneLine lines → IsOneLine part → log_lines (joined lines ++ part) ≡ numbered (lines ++ last_line part)
lines_are lines part all one = ap (λ (v : Parts). map numbered_line (enumerate_from 1 v)) (ap lines_of_parts (split_of lines part all one) ∙ all_lines lines part)

-- ---- one line more

-- it has the next number
pub numbered_more : (lines : Parts) (line : List ℕ) → numbered (lines ++ line ∷ []) ≡ numbered lines ++ numbered_line (length lines + 1, line) ∷ []
numbered_more lines line = from 1 lines ∙ ap (λ (n : ℕ). numbered lines ++ numbered_line (n, line) ∷ []) (omega arith)
  where
    from : (n : ℕ) (ls : Parts) → map numbered_line (enumerate_from n (ls ++ line ∷ [])) ≡ map numbered_line (enumerate_from n ls) ++ numbered_line (n + length ls, line) ∷ []
    from n [] = ap (λ (m : ℕ). numbered_line (m, line) ∷ []) (omega arith)
    from n (l ∷ ls) = ap (λ (v : List NumberedLine). numbered_line (n, l) ∷ v) (from (n + 1) ls ∙ ap (λ (m : ℕ). map numbered_line (enumerate_from (n + 1) ls) ++ numbered_line (m, line) ∷ []) (omega arith))

-- and comes after their bytes
pub joined_more : (lines : Parts) (line : List ℕ) → joined (lines ++ line ∷ []) ≡ joined lines ++ (line ++ 10 ∷ [])
joined_more [] line = append-nil (line ++ 10 ∷ [])
joined_more (l ∷ ls) line = ap (λ (v : List ℕ). (l ++ 10 ∷ []) ++ v) (joined_more ls line) ∙ sym (append_assoc (l ++ 10 ∷ []) (joined ls) (line ++ 10 ∷ []))

pub length_more : (lines : Parts) (line : List ℕ) → length (joined (lines ++ line ∷ [])) ≡ length (joined lines) + length line + 1
length_more lines line =
    let whole = ap length (joined_more lines line) in
    let parts = length-append (joined lines) (line ++ 10 ∷ []) in
    let ended = length-append line (10 ∷ []) in
    omega (arith, whole, parts, ended)

-- two lists place by place, and one item more of each
pub zip_more : {X Y : Type 0} (R : X → Y → Type 0) (xs : List X) (ys : List Y) (x : X) (y : Y) → AllZip R xs ys → R x y → AllZip R (xs ++ x ∷ []) (ys ++ y ∷ [])
zip_more R [] [] x y all r = (r, tt)
zip_more R [] (b ∷ ys) x y all r = absurd all
zip_more R (a ∷ xs) [] x y all r = absurd all
zip_more R (a ∷ xs) (b ∷ ys) x y (first, all) r = (first, zip_more R xs ys x y all r)
