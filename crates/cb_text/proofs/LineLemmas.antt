-- How lines are taken off the start of a text.
use Rattle.std.proofs.Common.{◌≡◌, ℕ, ◌+◌, ◌-◌, min, ◌<◌, ◌≤◌, true, nat_eq, List, [], ◌∷◌, ◌++◌, length, get_or, take, drop, Some, None, refl, sym, ap, ◌∙◌, inl, inr, arith}
use Rattle.std.specs.Prelude.{slice_range}
use Rattle.std.specs.List.{Contains, slice_split, onto_first, position_or_len, enumerate_from}
use Rattle.std.proofs.lemmas.Bool.{cases_lt, cases_Bool, false≢true, false_from_ne_true, eqb-true, eq-eqb}
use Rattle.std.proofs.lemmas.List.{drop_all, drop_more, length-drop, length-take, take-append-drop, drop-drop, take_all, get_or-take, get_or-drop, get_or_default}
use Rattle.std.proofs.lemmas.List.Splits.{slice_split_none, slice_split_at}
use Rattle.std.proofs.lemmas.List.Sums.{fails_before_first, passes_at_first}
use Rattle.std.proofs.lemmas.Option.{slice_get-get_or, slice_get_within, get_or_from_slice_get}
use Rattle.memchr.specs.Find.{IsFirstByte, NoneBefore, Passes, is_byte}
use Rattle.cb_text.specs.declared.line.LineAt.{LineAt}
use Rattle.cb_text.specs.Lines.{lines_of_parts, lines_of, IsLineAt, MeetsFrom}
use Rattle.cb_text.proofs.Cuts.{Lacks}

-- there is always a first part
parts_cons : (text : List ℕ) → (part : List ℕ) × (parts : List (List ℕ)) × (slice_split (λ b. nat_eq b 10) text ≡ part ∷ parts)
parts_cons [] = ([], [], refl)
parts_cons (b ∷ bs) = elim (cases_Bool (nat_eq b 10)) [
  | inl lf ↦ ([], slice_split (λ c. nat_eq c 10) bs, rw lf refl)
  | inr other ↦ let rest = parts_cons bs in (b ∷ rest.0, rest.1, rw other (ap (onto_first b) rest.2))
]

-- a line that ends at a LF, and the lines after it
lines_of-prefix : (line rest : List ℕ) → Lacks 10 line → lines_of (line ++ 10 ∷ rest) ≡ line ∷ lines_of rest
lines_of-prefix line rest lacks =
    let later = parts_cons rest in
    let both = slice_split_at (λ b. nat_eq b 10) line 10 rest lacks refl in
    ap lines_of_parts (both ∙ ap (λ (ps : List (List ℕ)). line ∷ ps) later.2) ∙ ap (λ (ps : List (List ℕ)). line ∷ lines_of_parts ps) (sym later.2)

-- a line that ends with the text
lines_of-last : (line : List ℕ) → 0 < length line → Lacks 10 line → lines_of line ≡ line ∷ []
lines_of-last [] some lacks = absurd (omega arith)
lines_of-last (b ∷ bs) some lacks = ap lines_of_parts (slice_split_none (λ c. nat_eq c 10) (b ∷ bs) lacks)

-- what does not contain a byte has it nowhere
lacks_from_absent : (cut : ℕ) (bytes : List ℕ) → ¬ Contains bytes cut → Lacks cut bytes
lacks_from_absent cut bytes absent = λ k d low.
    false_from_ne_true _ (λ is. absent (k, low, get_or_default bytes k cut d low ∙ eqb-true (get_or bytes k d) cut is))

module _ (text : List ℕ) (from : ℕ) (low : from < length text) where
  -- the line at a place is the first of the lines from there on
  pub lines_of-line : (line : LineAt) → IsLineAt text from line → lines_of (drop from text) ≡ slice_range text line.start line.end ∷ lines_of (drop line.next text)
  lines_of-line line is =
      let start = line.start in
      let bytes : List ℕ = slice_range text start line.end in
      let lacks : Lacks 10 bytes = lacks_from_absent 10 bytes is.one_line in
      let here : drop from text ≡ drop start text = ap (λ n. drop n text) (sym is.start_is) in
      elim is.ends [
        | inl end ↦
            let whole : bytes ≡ drop start text = take_all (line.end - start) (drop start text) (omega (arith, is.start_is, length-drop start text)) in
            let some : 0 < length bytes = omega (arith, is.start_is, length-drop start text, ap length whole) in
            let rest : drop line.next text ≡ [] = drop_all line.next text (omega arith) in
            ap lines_of (here ∙ sym whole) ∙ (lines_of-last bytes some lacks ∙ ap (λ (l : List ℕ). bytes ∷ lines_of l) (sym rest))
        | inr lf ↦
            let within = slice_get_within text line.end 10 lf.0 in
            let place : start + (line.end - start) ≡ line.end = omega (arith, is.in_order) in
            let rest : drop line.end text ≡ 10 ∷ drop line.next text =
            drop_more text line.end 0 within ∙ (ap (λ b. b ∷ drop (line.end + 1) text) (get_or_from_slice_get text line.end 10 0 lf.0) ∙ ap (λ n. 10 ∷ drop n text) (sym lf.1)) in
            let after : drop (line.end - start) (drop start text) ≡ 10 ∷ drop line.next text =
            drop-drop (line.end - start) start text ∙ (ap (λ n. drop n text) place ∙ rest) in
            let cut : drop start text ≡ bytes ++ 10 ∷ drop line.next text =
            sym (take-append-drop (line.end - start) (drop start text)) ∙ ap (λ (l : List ℕ). bytes ++ l) after in
            ap lines_of (here ∙ cut) ∙ lines_of-prefix bytes (drop line.next text) lacks
      ]

-- where the search for a byte passed no place, the prefix has none
absent_before : (cut n : ℕ) (bytes : List ℕ) → ((k : ℕ) → k < n → k < length bytes → ¬ (nat_eq (get_or bytes k 0) cut ≡ true)) → ¬ Contains (take n bytes) cut
absent_before cut n bytes before (k, low, is) =
    let within : k < min n (length bytes) = omega (arith, low, length-take n bytes) in
    let same = get_or-take n bytes k cut (omega arith) ∙ get_or_default bytes k cut 0 (omega arith) in
    before k (omega arith) (omega arith) (eq-eqb (get_or bytes k 0) cut (sym same ∙ is))

-- the line from a place on, as the search for a LF after it ends it
pub line_to_lf : (text : List ℕ) (from n : ℕ) → IsFirstByte (is_byte 10) (drop from text) (Some n) →
    IsLineAt text from (record { start = from; end = from + n; next = from + n + 1 })
line_to_lf text from n found = record {
  start_is = refl;
  in_order = omega arith;
  one_line = absent_before 10 (from + n - from) (drop from text) (λ k low within. found.0.before k (omega arith) (omega arith));
  ends = inr (
    slice_get-get_or text (from + n) 0 (omega (arith, found.0.high, length-drop from text)) ∙ ap Some (sym (get_or-drop from text n 0) ∙ eqb-true (get_or (drop from text) n 0) 10 found.1),
    refl,
  );
}

pub line_to_end : (text : List ℕ) (from : ℕ) → from ≤ length text → IsFirstByte (is_byte 10) (drop from text) None →
    IsLineAt text from (record { start = from; end = length text; next = length text })
line_to_end text from low found = record {
  start_is = refl;
  in_order = low;
  one_line = absent_before 10 (length text - from) (drop from text) (λ k below within. found k (omega arith) within);
  ends = inl (refl, refl);
}

-- a line begins at each place before the end
line_begins : (text : List ℕ) (from : ℕ) → from < length text → (line : LineAt) × IsLineAt text from line
line_begins text from low =
    let rest : List ℕ = drop from text in
    let n = position_or_len (is_byte 10) rest in
    let before : (k : ℕ) → k < n → ¬ (nat_eq (get_or rest k 0) 10 ≡ true) = λ k below is.
    false≢true (sym (fails_before_first (is_byte 10) rest k 0 below) ∙ is) in
    elim (cases_lt n (length rest)) [
      | inl inside ↦
          let first : NoneBefore (Passes (is_byte 10) rest) 0 (length rest) n = record { low = omega arith; high = inside; before = λ k _. before k } in
          (_, line_to_lf text from n (first, passes_at_first (is_byte 10) rest 0 inside))
      | inr none ↦ (_, line_to_end text from (omega arith) (λ k _ within. before k (omega arith)))
    ]

-- a line ends within the text, and the next one begins within it
pub line_within : (text : List ℕ) (from : ℕ) (line : LineAt) → IsLineAt text from line → (line.end ≤ length text) × (line.next ≤ length text)
line_within text from line is = elim is.ends [
  | inl end ↦ (omega arith, omega arith)
  | inr lf ↦ let within = slice_get_within text line.end 10 lf.0 in (omega arith, omega arith)
]

-- parts are at most as many lines
lines_of_prefix : (b : ℕ) (parts : List (List ℕ)) → length (lines_of_parts (onto_first b parts)) ≤ length (lines_of_parts parts) + 1
lines_of_prefix b [] = omega arith
lines_of_prefix b ([] ∷ []) = omega arith
lines_of_prefix b ((c ∷ cs) ∷ []) = omega arith
lines_of_prefix b (part ∷ next ∷ parts) = omega arith

lines_of_after : (parts : List (List ℕ)) → length (lines_of_parts ([] ∷ parts)) ≤ length (lines_of_parts parts) + 1
lines_of_after [] = omega arith
lines_of_after (part ∷ parts) = omega arith

-- a text has at least as many bytes as lines
pub lines_are_few : (text : List ℕ) → length (lines_of text) ≤ length text
lines_are_few [] = omega arith
lines_are_few (b ∷ bs) =
    let few = lines_are_few bs in
    let parts = slice_split (λ c. nat_eq c 10) bs in
    elim (cases_Bool (nat_eq b 10)) [
      | inl lf ↦ rw lf (omega (arith, few, lines_of_after parts))
      | inr other ↦ rw other (omega (arith, few, lines_of_prefix b parts))
    ]

-- what is met on the way from line to line are the lines
pub met_are_lines : (text : List ℕ) (from number : ℕ) (met : List (ℕ × List ℕ)) → MeetsFrom text from number met →
    met ≡ enumerate_from number (lines_of (drop from text))
met_are_lines text from number [] end = ap (λ (l : List ℕ). enumerate_from number (lines_of l)) (sym (drop_all from text (omega arith)))
met_are_lines text from number (m ∷ met) (line, low, is, first, later) =
    let rest = met_are_lines text line.next (number + 1) met later in
    ap (λ (x : ℕ × List ℕ). x ∷ met) first ∙ (ap (λ (ms : List (ℕ × List ℕ)). (number, slice_range text line.start line.end) ∷ ms) rest
    ∙ sym (ap (enumerate_from number) (lines_of-line text from low line is)))

-- the lines are what is met
pub lines_are_met : (text : List ℕ) (lines : List (List ℕ)) (from number : ℕ) → from ≤ length text → lines_of (drop from text) ≡ lines →
    MeetsFrom text from number (enumerate_from number lines)
lines_are_met text [] from number low is = elim (cases_lt from (length text)) [
  | inl inside ↦ let line = line_begins text from inside in let lines = lines_of-line text from inside line.0 line.1 in absurd (cc)
  | inr end ↦ omega arith
]
lines_are_met text (l ∷ lines) from number low is = elim (cases_lt from (length text)) [
  | inl inside ↦
      let line = line_begins text from inside in
      let same = sym is ∙ lines_of-line text from inside line.0 line.1 in
      let first : l ≡ slice_range text line.0.start line.0.end = cc same in
      let later : lines_of (drop line.0.next text) ≡ lines = cc same in
      (line.0, inside, line.1, ap (λ (x : List ℕ). (number, x)) first, lines_are_met text lines line.0.next (number + 1) (line_within text from line.0 line.1).1 later)
  | inr end ↦ let none : lines_of (drop from text) ≡ [] = ap lines_of (drop_all from text end) in absurd (cc)
]
