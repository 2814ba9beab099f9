-- How words are taken off the start of a line.
use Rattle.std.proofs.Common.{◌≡◌, ◌↔◌, ℕ, suc, ◌<◌, one-add, true, false, List, [], ◌∷◌, length, get_or, take, drop, filter, refl, sym, ap, ◌∙◌, inl, inr, arith}
use Rattle.std.specs.List.{All, slice_split, prefix_len, position_or_len, after_first}
use Rattle.std.proofs.lemmas.Bool.{cases_lt, cases_Bool}
use Rattle.std.proofs.lemmas.List.{drop_all, take_all, drop_more, length-drop}
use Rattle.std.proofs.lemmas.List.Elements.{All-cons}
use Rattle.std.proofs.lemmas.List.Splits.{slice_split-cons_yes, slice_split_none, slice_split_first}
use Rattle.std.proofs.lemmas.List.Sums.{fails_before_first, passes_at_first, prefix_len_stops}
use Rattle.cb_text.specs.Words.{is_blank, has_byte, words_of}

-- a leading blank byte changes no word
words_of-blank : (b : ℕ) (bs : List ℕ) → is_blank b ≡ true → words_of (b ∷ bs) ≡ words_of bs
words_of-blank b bs blank = ap (filter has_byte) (slice_split-cons_yes is_blank b bs blank)

-- nor do all leading blank bytes
pub words_of-drop : (line : List ℕ) → words_of (drop (prefix_len is_blank line) line) ≡ words_of line
words_of-drop [] = refl
words_of-drop (b ∷ bs) = elim (cases_Bool (is_blank b)) [
  | inl blank ↦
      let prefix : prefix_len is_blank (b ∷ bs) ≡ suc (prefix_len is_blank bs) = rw (blank, one-add) refl in
      ap (λ n. words_of (drop n (b ∷ bs))) prefix ∙ (words_of-drop bs ∙ sym (words_of-blank b bs blank))
  | inr other ↦
      let prefix : prefix_len is_blank (b ∷ bs) ≡ 0 = rw other refl in
      ap (λ n. words_of (drop n (b ∷ bs))) prefix
]

-- a first byte that is not blank begins a word
begins_word : (b : ℕ) (bs : List ℕ) → is_blank b ≡ false → has_byte (take (position_or_len is_blank (b ∷ bs)) (b ∷ bs)) ≡ true
begins_word b bs other = rw (other, one-add) refl

-- what follows the first blank byte has the words of what follows the byte before it
words_of-after : (line : List ℕ) → position_or_len is_blank line < length line → words_of (drop (position_or_len is_blank line) line) ≡ words_of (after_first is_blank line)
words_of-after line low =
    let n = position_or_len is_blank line in
    ap words_of (drop_more line n 0 low) ∙ words_of-blank (get_or line n 0) (after_first is_blank line) (passes_at_first is_blank line 0 low)

-- the word that a line begins with, where its first byte is not blank
words_of-word : (b : ℕ) (bs : List ℕ) → is_blank b ≡ false →
    words_of (b ∷ bs) ≡ take (position_or_len is_blank (b ∷ bs)) (b ∷ bs) ∷ words_of (drop (position_or_len is_blank (b ∷ bs)) (b ∷ bs))
words_of-word b bs other =
    let line = b ∷ bs in
    let n = position_or_len is_blank line in
    let begins = begins_word b bs other in
    elim (cases_lt n (length line)) [
      | inl low ↦
          let cut = ap (filter has_byte) (slice_split_first is_blank line 0 low) in
          let kept : filter has_byte (take n line ∷ slice_split is_blank (after_first is_blank line)) ≡ take n line ∷ words_of (after_first is_blank line) = rw begins refl in
          cut ∙ (kept ∙ ap (λ (ws : List (List ℕ)). take n line ∷ ws) (sym (words_of-after line low)))
      | inr high ↦
          let whole = take_all n line high in
          let none : drop n line ≡ [] = drop_all n line high in
          let lacks : All (λ c. is_blank c ≡ false) line = λ k d low. fails_before_first is_blank line k d (omega (arith, low)) in
          ap (filter has_byte) (slice_split_none is_blank line lacks) ∙ (ap (λ (w : List ℕ). w ∷ []) (sym whole) ∙ ap (λ (rest : List ℕ). take n line ∷ words_of rest) (sym none))
    ]

-- the first word of a line stands after its blank bytes
pub words_of-first : (line rest : List ℕ) → rest ≡ drop (prefix_len is_blank line) line → 0 < length rest →
    words_of line ≡ take (position_or_len is_blank rest) rest ∷ words_of (drop (position_or_len is_blank rest) rest)
words_of-first line [] is some = absurd (omega arith)
words_of-first line (b ∷ bs) is some =
    let n = prefix_len is_blank line in
    let within : n < length line = omega (arith, length-drop n line, ap length is) in
    let here : b ≡ get_or line n 0 = ap (λ (l : List ℕ). get_or l 0 0) (is ∙ drop_more line n 0 within) in
    let other : is_blank b ≡ false = ap is_blank here ∙ prefix_len_stops is_blank line 0 within in
    sym (words_of-drop line) ∙ (ap words_of (sym is) ∙ words_of-word b bs other)

-- blank bytes alone make no word
no_word : (line : List ℕ) → All (λ b. is_blank b ≡ true) line → words_of line ≡ []
no_word [] blank = refl
no_word (b ∷ bs) blank =
    words_of-blank b bs (blank 0 b (omega arith)) ∙ no_word bs (λ k d low. blank (suc k) d (omega arith))

-- and without a word there are no others
only_blanks : (line : List ℕ) → words_of line ≡ [] → All (λ b. is_blank b ≡ true) line
only_blanks [] none = λ k d low. absurd (omega arith)
only_blanks (b ∷ bs) none = elim (cases_Bool (is_blank b)) [
  | inl blank ↦ All-cons (λ c. is_blank c ≡ true) b bs blank (only_blanks bs (sym (words_of-blank b bs blank) ∙ none))
  | inr other ↦ let word = words_of-word b bs other in absurd (cc)
]

-- a line is blank where each of its bytes is
pub blank_line : (line : List ℕ) → All (λ b. is_blank b ≡ true) line ↔ (words_of line ≡ [])
blank_line line = (no_word line, only_blanks line)
