-- A text has one reading.
use Rattle.std.proofs.Common.{◌≡◌, ◌≢◌, ◌⊎◌, ℕ, ◌+◌, List, [], ◌∷◌, ◌++◌, length, map, refl, sym, ap, subst, ◌∙◌, inl, inr}
use Rattle.std.specs.Prelude.{Result, Ok, Err}
use Rattle.std.specs.List.{All}
use Rattle.std.proofs.lemmas.List.{append_assoc, append-nil, append_cancel_left, map-append}
use Rattle.std.proofs.lemmas.List.Elements.{All-head, All-tail}
use Rattle.cb_text.specs.Lines.{lines_of}
use Rattle.cb_validity.proofs.Passing.{all_left}
use Rattle.cb_levels.specs.declared.fault.LevelText.{LevelText}
use Rattle.cb_levels.specs.declared.fault.LevelText.TheVariants as fault
use Rattle.cb_levels.specs.declared.levels.Levels.{Levels}
use Rattle.cb_levels.specs.declared.line.LevelLine.{LevelLine}
use Rattle.cb_levels.specs.declared.line.LevelLine.TheVariants as line
use Rattle.cb_levels.specs.Text.{level_lines, level_line_text, levels_text}
use Rattle.cb_levels.specs.Format.{IsLevels}
use Rattle.cb_levels.specs.Faults.{AreFirstLines, AreAllLines, IsLevelReading}
use Rattle.cb_levels.proofs.Known.{heads, lines_are_of_one}
use Rattle.cb_levels.proofs.LevelTexts.{IsSmallLine, all_small, line_text_one}
use Rattle.cb_levels.proofs.Prefixes.{fewer, whole_is_first, whole_ends, begins_header}
use Rattle.cb_levels.proofs.Spelling.{level_text_spells}

first_are_small : (lines : List LevelLine) → AreFirstLines lines → All IsSmallLine lines
first_are_small lines f = all_left IsSmallLine lines f.more (subst (All IsSmallLine) f.are (all_small f.of f.is))

-- levels begin with the header
head_is_header : (l : LevelLine) (ls : List LevelLine) → AreFirstLines (l ∷ ls) → l ≡ line.Header
head_is_header l ls f = let e = f.are in cc

nothing_is_first : AreFirstLines []
nothing_is_first = fewer [] (line.Header ∷ []) begins_header

-- a reading: the first lines, those after them, and that none of the latter may follow
record Reads (text : List ℕ) (before : List LevelLine) (rest : List (List ℕ)) : Type 0 where
  lines : lines_of text ≡ map level_line_text before ++ rest
  first : AreFirstLines before
  stuck : (l : LevelLine) (more : List (List ℕ)) → AreFirstLines (before ++ l ∷ []) → rest ≡ level_line_text l ∷ more → ⊥

-- of two readings neither is longer
no_longer : (text : List ℕ) (xs : List LevelLine) (l : LevelLine) (ls : List LevelLine) (us vs : List (List ℕ)) → Reads text xs us → Reads text (xs ++ l ∷ ls) vs → ⊥
no_longer text xs l ls us vs a b =
    let joined : map level_line_text xs ++ us ≡ map level_line_text xs ++ level_line_text l ∷ (map level_line_text ls ++ vs) =
    sym a.lines ∙ (b.lines ∙ (ap (λ (ts : List (List ℕ)). ts ++ vs) (map-append level_line_text xs (l ∷ ls)) ∙ append_assoc (map level_line_text xs) (map level_line_text (l ∷ ls)) vs))
    in
    let rest = append_cancel_left (map level_line_text xs) us (level_line_text l ∷ (map level_line_text ls ++ vs)) joined in
    let longer : AreFirstLines ((xs ++ l ∷ []) ++ ls) = subst AreFirstLines (sym (append_assoc xs (l ∷ []) ls)) b.first in
    a.stuck l (map level_line_text ls ++ vs) (fewer (xs ++ l ∷ []) ls longer) rest

-- two lists of lines with texts that agree: they are one, or one is longer
compare : (xs ys : List LevelLine) (us vs : List (List ℕ)) → All IsSmallLine xs → All IsSmallLine ys → map level_line_text xs ++ us ≡ map level_line_text ys ++ vs
    → ((xs ≡ ys) × (us ≡ vs)) ⊎ (((l : LevelLine) × (ls : List LevelLine) × (ys ≡ xs ++ l ∷ ls)) ⊎ ((l : LevelLine) × (ls : List LevelLine) × (xs ≡ ys ++ l ∷ ls)))
compare [] [] us vs small_x small_y e = inl (refl, e)
compare [] (y ∷ ys) us vs small_x small_y e = inr (inl (y, ys, refl))
compare (x ∷ xs) [] us vs small_x small_y e = inr (inr (x, xs, refl))
compare (x ∷ xs) (y ∷ ys) us vs small_x small_y e =
    let parts = heads (level_line_text x) (level_line_text y) (map level_line_text xs ++ us) (map level_line_text ys ++ vs) e in
    let same = line_text_one x y (All-head IsSmallLine x xs small_x) (All-head IsSmallLine y ys small_y) parts.0 in
    elim (compare xs ys us vs (All-tail IsSmallLine x xs small_x) (All-tail IsSmallLine y ys small_y) parts.1) [
      | inl one ↦ let rest = one.0 in inl (cc, one.1)
      | inr (inl longer) ↦ let rest = longer.2 in inr (inl (longer.0, longer.1, cc))
      | inr (inr longer) ↦ let rest = longer.2 in inr (inr (longer.0, longer.1, cc))
    ]

-- readings end at the same lines
same_lines : (text : List ℕ) (xs ys : List LevelLine) (us vs : List (List ℕ)) → Reads text xs us → Reads text ys vs → (xs ≡ ys) × (us ≡ vs)
same_lines text xs ys us vs a b =
    elim (compare xs ys us vs (first_are_small xs a.first) (first_are_small ys b.first) (sym a.lines ∙ b.lines)) [
      | inl one ↦ one
      | inr (inl longer) ↦ absurd (no_longer text xs longer.0 longer.1 us vs a (subst (λ zs. Reads text zs vs) longer.2 b))
      | inr (inr longer) ↦ absurd (no_longer text ys longer.0 longer.1 vs us b (subst (λ zs. Reads text zs us) longer.2 a))
    ]

-- why a reading ends
abbrev Ended : Result Levels LevelText → List LevelLine → List (List ℕ) → Type 0
Ended (Ok levels) before rest = (rest ≡ []) × IsLevels levels × (before ≡ level_lines levels)
Ended (Err fault.BadHeader) before rest = (met : List ℕ) × (after : List (List ℕ)) × (rest ≡ met ∷ after) × (before ≡ [])
Ended (Err (fault.BadLine n)) before rest =
    (met : List ℕ) × (after : List (List ℕ)) × (rest ≡ met ∷ after) × (n ≡ length before + 1) × (before ≢ []) × ¬ AreAllLines before
Ended (Err fault.Truncated) before rest = (rest ≡ []) × ¬ AreAllLines before
Ended (Err (fault.Extra n)) before rest =
    (met : List ℕ) × (after : List (List ℕ)) × (rest ≡ met ∷ after) × (n ≡ length before + 1) × AreAllLines before
Ended (Err fault.NoMemory) before rest = ⊥

-- a reading with where and why it ends
record IsEnded (text : List ℕ) (a : Result Levels LevelText) : Type 0 where
  before : List LevelLine
  rest : List (List ℕ)
  reads : Reads text before rest
  ended : Ended a before rest

ended_of : (text : List ℕ) (a : Result Levels LevelText) → IsLevelReading text a → IsEnded text a
ended_of text (Ok levels) p = record {
  before = level_lines levels;
  rest = [];
  reads = record {
    lines = p.lines ∙ sym (append-nil (map level_line_text (level_lines levels)));
    first = whole_is_first (level_lines levels) (levels, p.is, refl);
    stuck = λ l more f e. cc;
  };
  ended = (refl, p.is, refl);
}
ended_of text (Err fault.BadHeader) p = record {
  before = [];
  rest = p.first ∷ p.after;
  reads = record {
    lines = p.lines;
    first = nothing_is_first;
    stuck = λ l more f e.
        let parts = heads p.first (level_line_text l) p.after more e in
        p.other (parts.0 ∙ ap level_line_text (head_is_header l [] f));
  };
  ended = (p.first, p.after, refl, refl);
}
ended_of text (Err (fault.BadLine n)) p = record {
  before = p.before;
  rest = p.line ∷ p.met.after;
  reads = record {
    lines = p.met.lines;
    first = p.first;
    stuck = λ l more f e. p.none l (heads p.line (level_line_text l) p.met.after more e).0 f;
  };
  ended = (p.line, p.met.after, refl, p.met.number_is, p.later, p.open_ended);
}
ended_of text (Err fault.Truncated) p = record {
  before = p.before;
  rest = [];
  reads = record { lines = p.lines ∙ sym (append-nil (map level_line_text p.before)); first = p.first; stuck = λ l more f e. cc };
  ended = (refl, p.open_ended);
}
ended_of text (Err (fault.Extra n)) p = record {
  before = p.before;
  rest = p.line ∷ p.met.after;
  reads = record { lines = p.met.lines; first = whole_is_first p.before p.whole; stuck = λ l more f e. whole_ends p.before p.whole l f };
  ended = (p.line, p.met.after, refl, p.met.number_is, p.whole);
}
ended_of text (Err fault.NoMemory) p = absurd p

-- what is whole isn't empty
not_empty : (before : List LevelLine) → before ≡ [] → ¬ AreAllLines before
not_empty before none (levels, is, e) = cc

ended_one : (a b : Result Levels LevelText) (before : List LevelLine) (rest : List (List ℕ)) → Ended a before rest → Ended b before rest → a ≡ b
ended_one (Ok c) (Ok d) before rest p q = ap Ok (lines_are_of_one c d (sym p.2 ∙ q.2))
ended_one (Ok c) (Err fault.BadHeader) before rest p q = absurd (let x = p.0 in let y = q.2 in cc)
ended_one (Ok c) (Err (fault.BadLine n)) before rest p q = absurd (let x = p.0 in let y = q.2 in cc)
ended_one (Ok c) (Err fault.Truncated) before rest p q = absurd (q.1 (c, p.1, p.2))
ended_one (Ok c) (Err (fault.Extra n)) before rest p q = absurd (let x = p.0 in let y = q.2 in cc)
ended_one (Ok c) (Err fault.NoMemory) before rest p q = absurd q
ended_one (Err fault.BadHeader) (Ok d) before rest p q = absurd (let x = q.0 in let y = p.2 in cc)
ended_one (Err fault.BadHeader) (Err fault.BadHeader) before rest p q = refl
ended_one (Err fault.BadHeader) (Err (fault.BadLine n)) before rest p q = absurd (q.4 p.3)
ended_one (Err fault.BadHeader) (Err fault.Truncated) before rest p q = absurd (let x = p.2 in let y = q.0 in cc)
ended_one (Err fault.BadHeader) (Err (fault.Extra n)) before rest p q = absurd (not_empty before p.3 q.4)
ended_one (Err fault.BadHeader) (Err fault.NoMemory) before rest p q = absurd q
ended_one (Err (fault.BadLine m)) (Ok d) before rest p q = absurd (let x = q.0 in let y = p.2 in cc)
ended_one (Err (fault.BadLine m)) (Err fault.BadHeader) before rest p q = absurd (p.4 q.3)
ended_one (Err (fault.BadLine m)) (Err (fault.BadLine n)) before rest p q = ap (λ k. Err (fault.BadLine k)) (p.3 ∙ sym q.3)
ended_one (Err (fault.BadLine m)) (Err fault.Truncated) before rest p q = absurd (let x = p.2 in let y = q.0 in cc)
ended_one (Err (fault.BadLine m)) (Err (fault.Extra n)) before rest p q = absurd (p.5 q.4)
ended_one (Err (fault.BadLine m)) (Err fault.NoMemory) before rest p q = absurd q
ended_one (Err fault.Truncated) (Ok d) before rest p q = absurd (p.1 (d, q.1, q.2))
ended_one (Err fault.Truncated) (Err fault.BadHeader) before rest p q = absurd (let x = q.2 in let y = p.0 in cc)
ended_one (Err fault.Truncated) (Err (fault.BadLine n)) before rest p q = absurd (let x = q.2 in let y = p.0 in cc)
ended_one (Err fault.Truncated) (Err fault.Truncated) before rest p q = refl
ended_one (Err fault.Truncated) (Err (fault.Extra n)) before rest p q = absurd (let x = p.0 in let y = q.2 in cc)
ended_one (Err fault.Truncated) (Err fault.NoMemory) before rest p q = absurd q
ended_one (Err (fault.Extra m)) (Ok d) before rest p q = absurd (let x = q.0 in let y = p.2 in cc)
ended_one (Err (fault.Extra m)) (Err fault.BadHeader) before rest p q = absurd (not_empty before q.3 p.4)
ended_one (Err (fault.Extra m)) (Err (fault.BadLine n)) before rest p q = absurd (q.5 p.4)
ended_one (Err (fault.Extra m)) (Err fault.Truncated) before rest p q = absurd (let x = q.0 in let y = p.2 in cc)
ended_one (Err (fault.Extra m)) (Err (fault.Extra n)) before rest p q = ap (λ k. Err (fault.Extra k)) (p.3 ∙ sym q.3)
ended_one (Err (fault.Extra m)) (Err fault.NoMemory) before rest p q = absurd q
ended_one (Err fault.NoMemory) b before rest p q = absurd p

pub level_reading_is_one : (text : List ℕ) (a b : Result Levels LevelText) → IsLevelReading text a → IsLevelReading text b → a ≡ b
level_reading_is_one text a b p q =
    let x = ended_of text a p in
    let y = ended_of text b q in
    let same = same_lines text x.before y.before x.rest y.rest x.reads y.reads in
    let moved : Ended b x.before y.rest = subst (λ ls. Ended b ls y.rest) (sym same.0) y.ended in
    ended_one a b x.before x.rest x.ended (subst (Ended b x.before) (sym same.1) moved)

pub written_levels_are_read : (levels : Levels) (reading : Result Levels LevelText) → IsLevels levels → IsLevelReading (levels_text levels) reading → reading ≡ Ok levels
written_levels_are_read levels reading is read = level_reading_is_one (levels_text levels) reading (Ok levels) read (level_text_spells levels is)
