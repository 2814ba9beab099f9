-- A log goes on, entry after entry.
use Rattle.std.proofs.Common.{◌≡◌, ℕ, zero, suc, ◌+◌, ◌-◌, ◌<◌, ◌≤◌, List, [], ◌∷◌, ◌++◌, refl, sym, ap, ◌∙◌, append_assoc, replicate, Result, OnOk, is_ok, arith}
use Rattle.std.specs.Prelude.{if◌then◌else◌}
use Rattle.std.proofs.lemmas.List.{append-nil}
use Rattle.std.specs.declared.result.Result.TheVariants.{Ok, Err}
use Rattle.cb_gen.specs.Draws.{state_after}
use Rattle.cb_gen.specs.Log.{MadeUpLine, Edit, Alarm, Tick, drawn_edit_line, drawn_alarm_line, tick_text, lines_text, round, rounds}
use Rattle.cb_gen.specs.Writing.{WritesEntries}
use Rattle.cb_gen.specs.declared.log.Log.{Log}

-- what follows where a call is done
pub on_ok_more : {T E : Type 0} (r : Result T E) (P Q : Type 0) → (P → Q) → OnOk r P → OnOk r Q
on_ok_more (Ok x) P Q f h = f h
on_ok_more (Err x) P Q f h = tt

pub on_ok_all : {T E : Type 0} (r : Result T E) (P Q R S : Type 0) → (P → Q → R → S) → OnOk r P → OnOk r Q → OnOk r R → OnOk r S
on_ok_all (Ok x) P Q R S f p q r = f p q r
on_ok_all (Err x) P Q R S f p q r = tt

-- what was added where a call is done
pub on_ok_items : {T E : Type 0} (r : Result T E) (new more same : List ℕ) → new ≡ (if is_ok r then more else same) → OnOk r (new ≡ more)
on_ok_items (Ok x) new more same h = h
on_ok_items (Err x) new more same h = tt

-- a line that was written stands before those that come later
written : (old new line rest : List ℕ) → new ≡ old ++ line → old ++ (line ++ rest) ≡ new ++ rest
written old new line rest is = sym (append_assoc old line rest) ∙ ap (λ xs. xs ++ rest) (sym is)

-- the lines of entries begin with that of the first
edit_first : (sites at x : ℕ) (later : List MadeUpLine)
    → lines_text sites at x (Edit ∷ later) ≡ drawn_edit_line sites at x ++ lines_text sites (at + 1) (state_after 2 x) later
unfolding lines_text
edit_first sites at x later = refl

alarm_first : (sites at x : ℕ) (later : List MadeUpLine)
    → lines_text sites at x (Alarm ∷ later) ≡ drawn_alarm_line sites at x ++ lines_text sites (at + 1) (state_after 3 x) later
unfolding lines_text
alarm_first sites at x later = refl

tick_first : (sites at x : ℕ) (later : List MadeUpLine) → lines_text sites at x (Tick ∷ later) ≡ tick_text (at + 40) ++ lines_text sites (at + 40) x later
unfolding lines_text
tick_first sites at x later = refl

-- an entry whose line was written, with the time and the state after it
module _ (sites : ℕ) (before after : Log) where
  one_goes : (entry : MadeUpLine) (line : List ℕ) (at x : ℕ)
      → ((later : List MadeUpLine) → lines_text sites before.at before.draws.state (entry ∷ later) ≡ line ++ lines_text sites at x later)
      → after.text.items ≡ before.text.items ++ line → after.at ≡ at → after.draws.state ≡ x → WritesEntries sites before after (entry ∷ [])
  one_goes entry line at x first is time state later =
      ap (λ (xs : List ℕ). before.text.items ++ xs) (first later)
      ∙ (written before.text.items after.text.items line (lines_text sites at x later) is
      ∙ (ap (λ (t : ℕ). after.text.items ++ lines_text sites t x later) (sym time)
      ∙ ap (λ (s : ℕ). after.text.items ++ lines_text sites after.at s later) (sym state)))

  pub edit_goes : after.text.items ≡ before.text.items ++ drawn_edit_line sites before.at before.draws.state → after.at ≡ before.at + 1
      → after.draws.state ≡ state_after 2 before.draws.state → WritesEntries sites before after (Edit ∷ [])
  edit_goes = one_goes Edit (drawn_edit_line sites before.at before.draws.state) (before.at + 1) (state_after 2 before.draws.state)
      (edit_first sites before.at before.draws.state)

  pub alarm_goes : after.text.items ≡ before.text.items ++ drawn_alarm_line sites before.at before.draws.state → after.at ≡ before.at + 1
      → after.draws.state ≡ state_after 3 before.draws.state → WritesEntries sites before after (Alarm ∷ [])
  alarm_goes = one_goes Alarm (drawn_alarm_line sites before.at before.draws.state) (before.at + 1) (state_after 3 before.draws.state)
      (alarm_first sites before.at before.draws.state)

  pub tick_goes : after.text.items ≡ before.text.items ++ tick_text (before.at + 40) → after.at ≡ before.at + 40
      → after.draws.state ≡ before.draws.state → WritesEntries sites before after (Tick ∷ [])
  tick_goes = one_goes Tick (tick_text (before.at + 40)) (before.at + 40) before.draws.state (tick_first sites before.at before.draws.state)

-- one list of entries, and then another
two_go : (sites : ℕ) (a b c : Log) (xs ys : List MadeUpLine) → WritesEntries sites a b xs → WritesEntries sites b c ys → WritesEntries sites a c (xs ++ ys)
two_go sites a b c xs ys first second later =
    ap (λ es. a.text.items ++ lines_text sites a.at a.draws.state es) (append_assoc xs ys later) ∙ (first (ys ++ later) ∙ second later)

-- a round
pub round_goes : (sites : ℕ) (a b c d : Log) → WritesEntries sites a b (replicate 50 Edit) → WritesEntries sites b c (replicate 100 Alarm) → WritesEntries sites c d (Tick ∷ [])
    → WritesEntries sites a d round
unfolding round
round_goes sites a b c d edits alarms tick =
    two_go sites a b d (replicate 50 Edit) (replicate 100 Alarm ++ Tick ∷ []) edits (two_go sites b c d (replicate 100 Alarm) (Tick ∷ []) alarms tick)

-- how many parts of how many are written: the others are left
abbrev pub IsLeft : ℕ → Log → Log → (ℕ → List MadeUpLine) → ℕ → ℕ → Type 0
IsLeft sites before now parts count done =
    (later : List MadeUpLine)
    → before.text.items ++ lines_text sites before.at before.draws.state (parts count ++ later)
    ≡ now.text.items ++ lines_text sites now.at now.draws.state (parts (count - done) ++ later)

-- the parts are the same entries again and again
pub record Repeats (parts : ℕ → List MadeUpLine) (part : List MadeUpLine) : Type 0 where
  pub none : parts zero ≡ []
  pub more : (n : ℕ) → parts (suc n) ≡ part ++ parts n

pub alike : (entry : MadeUpLine) → Repeats (λ n. replicate n entry) (entry ∷ [])
alike entry = record { none = refl; more = λ n. refl }

pub rounds_repeat : Repeats rounds round
unfolding rounds
rounds_repeat = record { none = refl; more = λ n. refl }

-- at first all are left
pub left_first : (sites : ℕ) (log : Log) (parts : ℕ → List MadeUpLine) (count : ℕ) → IsLeft sites log log parts count 0
left_first sites log parts count later =
    let all : count ≡ count - 0 = omega arith in
    ap (λ (n : ℕ). log.text.items ++ lines_text sites log.at log.draws.state (parts n ++ later)) all

-- one more is written
pub left_more : (sites : ℕ) (before now next : Log) (parts : ℕ → List MadeUpLine) (part : List MadeUpLine) (count done : ℕ) → Repeats parts part → done < count
    → IsLeft sites before now parts count done → WritesEntries sites now next part → IsLeft sites before next parts count (done + 1)
left_more sites before now next parts part count done repeats within was goes later =
    let one : count - done ≡ suc (count - (done + 1)) = omega (arith, within) in
    let rest = parts (count - (done + 1)) in
    was later
    ∙ (ap (λ (n : ℕ). now.text.items ++ lines_text sites now.at now.draws.state (parts n ++ later)) one
    ∙ (ap (λ (es : List MadeUpLine). now.text.items ++ lines_text sites now.at now.draws.state (es ++ later)) (repeats.more (count - (done + 1)))
    ∙ (ap (λ (es : List MadeUpLine). now.text.items ++ lines_text sites now.at now.draws.state es) (append_assoc part rest later)
    ∙ goes (rest ++ later))))

-- in the end none is left
pub left_none : (sites : ℕ) (before now : Log) (parts : ℕ → List MadeUpLine) (part : List MadeUpLine) (count done : ℕ) → Repeats parts part → count ≤ done
    → IsLeft sites before now parts count done → WritesEntries sites before now (parts count)
left_none sites before now parts part count done repeats all was later =
    let none : count - done ≡ zero = omega (arith, all) in
    was later
    ∙ (ap (λ (n : ℕ). now.text.items ++ lines_text sites now.at now.draws.state (parts n ++ later)) none
    ∙ ap (λ (es : List MadeUpLine). now.text.items ++ lines_text sites now.at now.draws.state (es ++ later)) repeats.none)

-- a number between words, after a text
pub number_between : (old words digits last : List ℕ) → old ++ (words ++ digits) ++ last ≡ old ++ (words ++ digits ++ last)
number_between old words digits last = append_assoc old (words ++ digits) last

-- no entry, no line
nothing : (sites at x : ℕ) → lines_text sites at x [] ≡ []
unfolding lines_text
nothing sites at x = refl

-- a log that was written whole
pub whole : (number sites start : ℕ) (before after : Log) (entries : List MadeUpLine) → number ≡ sites → before.text.items ≡ [] → before.at ≡ 0
    → before.draws.state ≡ start → WritesEntries number before after entries → after.text.items ≡ lines_text sites 0 start entries
whole number sites start before after entries same empty early begins goes =
    sym (
    sym (ap (λ (n : ℕ). lines_text n 0 start entries) same)
    ∙ (ap (λ (es : List MadeUpLine). lines_text number 0 start es) (sym (append-nil entries))
    ∙ (ap (λ (s : ℕ). lines_text number 0 s (entries ++ [])) (sym begins)
    ∙ (ap (λ (t : ℕ). lines_text number t before.draws.state (entries ++ [])) (sym early)
    ∙ (ap (λ (xs : List ℕ). xs ++ lines_text number before.at before.draws.state (entries ++ [])) (sym empty)
    ∙ (goes [] ∙ (ap (λ (xs : List ℕ). after.text.items ++ xs) (nothing number after.at after.draws.state) ∙ append-nil after.text.items))))))
    )
