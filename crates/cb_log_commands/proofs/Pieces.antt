-- What the next piece of a log says.
use Rattle.std.proofs.Common.{◌≡◌, ◌∙◌, ◌⊎◌, ◌≤◌, ◌<◌, ◌+◌, ℕ, Bool, true, false, List, [], ◌++◌, length, sym, ap, subst, inl, inr, arith, Ok}
use Rattle.std.specs.Prelude.{Some, leb, nat_le, cond}
use Rattle.std.proofs.lemmas.Bool.{le-leb}
use Rattle.std.proofs.lemmas.Bool.Decides.{leb_tells}
use Rattle.std.proofs.lemmas.List.{length-append}
use Rattle.cb_io.specs.declared.line_reader.Line.{Line as Given}
use Rattle.cb_io.specs.declared.line_reader.Line.TheVariants as given
use Rattle.cb_io.specs.LineReading.{Reading, IsOneLine, GivesEnded, GivesLast, GivesLine, IsAtEnd, HasLineNumber, AnswerSays, Advances}
use Rattle.cb_io.specs.Outside.{FilesReport}
use Rattle.cb_network.specs.Regular.{IsRegular}
use Rattle.cb_alarm.specs.Lines.{NumberedLine, numbered_line, log_line_limit}
use Rattle.cb_alarm.specs.Lines as lines
use Rattle.cb_outcome.specs.LogJobs.{Watch, WholeTells}
use Rattle.cb_session.specs.State.{State}
use Rattle.cb_log_commands.specs.Telling.{joined, IsLogAt, TellsLine, TellsGiven, TellsEnd, LogComes, ReadsLog}
use Rattle.cb_log_commands.proofs.Lines.{one_none}
use Rattle.cb_log_commands.proofs.Further.{next_at, last_reported, end_reported}

-- what stands after the text of a line: that of the end, where it has come
abbrev pub EndsWith : Bool → State → List ℕ → List ℕ → Type 0
EndsWith false session text out = out ≡ text
EndsWith true session text out = (ends : List ℕ) × TellsEnd session ends × (out ≡ text ++ ends)

cond_true : {X : Type 0} (b : Bool) (x y : X) → b ≡ true → cond b x y ≡ x
cond_true {X} b x y e = ap (λ (c : Bool). cond c x y) e

cond_false : {X : Type 0} (b : Bool) (x y : X) → b ≡ false → cond b x y ≡ y
cond_false {X} b x y e = ap (λ (c : Bool). cond c x y) e

not_within : (a b : ℕ) → b < a → leb a b ≡ false
not_within a b past =
    elim (leb_tells a b) [
      | inl is ↦ let low = is.1 in absurd (omega (arith, low, past))
      | inr is ↦ is.0
    ]

-- a line as its number and its bytes
pub short_line : (number : ℕ) (line : List ℕ) → length line ≤ log_line_limit → numbered_line (number, line) ≡ lines.text number line
short_line number line short = cond_true (nat_le (length line) log_line_limit) (lines.text number line) (lines.long number) (le-leb (length line) log_line_limit short)

pub long_line : (number : ℕ) (line : List ℕ) → log_line_limit < length line → numbered_line (number, line) ≡ lines.long number
long_line number line past = cond_false (nat_le (length line) log_line_limit) (lines.text number line) (lines.long number) (not_within (length line) log_line_limit past)

module _ (old new : Reading) (after : FilesReport) (session mid : State) (reported_text out : List ℕ) (reads_log : ReadsLog old)
    (mode : mid.mode ≡ session.mode) (window : mid.windows.length ≡ session.windows.length) (ends : EndsWith new.ended mid reported_text out)
    (watch : Watch) (log reported bytes : List ℕ) (regular : IsRegular watch.from.model) (is_at : IsLogAt watch log old.number old.given bytes session reported) where
  size : length log ≡ old.given + length bytes
  size =
      let a = ap length is_at.log_is in
      let b = length-append (joined is_at.lines) bytes in
      let g = is_at.given_is in
      omega (arith, a, b, g)

  ends_as : (b : Bool) → new.ended ≡ b → EndsWith b mid reported_text out
  ends_as b e = subst (λ (x : Bool). EndsWith x mid reported_text out) e ends

  module _ (line : List ℕ) (tells : TellsLine session mid (numbered_line (old.number + 1, line)) reported_text) (gives : GivesLine old new after bytes line) where
    by_way : GivesEnded old new bytes line gives.rest ⊎ GivesLast old new bytes line gives.rest → LogComes new.ended watch log old new after mid reported out bytes
    by_way (inl is) =
        let limit = reads_log.total_most in
        let within = gives.within in
        let given_is = is.given in
        let next = next_at watch regular log old.number old.given bytes session reported is_at line is.begin.one mid reported_text tells mode window gives.rest is.begin.are
        (omega (arith, limit, within, given_is)) in
        let out_is : out ≡ reported_text = ends_as false is.ended in
        subst (λ (b : Bool). LogComes b watch log old new after mid reported out bytes) (sym is.ended) (record {
          line = line;
          rest = gives.rest;
          begin = is.begin;
          comes = gives.comes;
          is_at =
              subst (λ (n : ℕ). IsLogAt watch log n new.given gives.rest mid (reported ++ out)) (sym gives.number)
              (subst (λ (g : ℕ). IsLogAt watch log (old.number + 1) g gives.rest mid (reported ++ out)) (sym is.given)
              (subst (λ (t : List ℕ). IsLogAt watch log (old.number + 1) (old.given + length line + 1) gives.rest mid (reported ++ t)) (sym out_is) next));
        })
    by_way (inr is) =
        let limit = reads_log.total_most in
        let within = gives.within in
        let given_is = is.given in
        let all = size in
        let line_size = ap length is.last.are in
        let (end, tells_end, out_is) = ends_as true is.ended in
        let whole = last_reported watch regular log old.number old.given bytes session reported is_at line is.last.one mid reported_text tells mode window end is.last.some is.last.are tells_end in
        subst (λ (b : Bool). LogComes b watch log old new after mid reported out bytes) (sym is.ended) (record {
          one = subst IsOneLine (sym is.last.are) is.last.one;
          comes = gives.comes ∙ ap (λ (l : List ℕ). Some l) is.none;
          tells = subst (λ (t : List ℕ). WholeTells watch log (reported ++ t)) (sym out_is) whole;
          within = omega (arith, limit, within, given_is, all, line_size);
        })

  at_end : mid ≡ session → reported_text ≡ [] → IsAtEnd old new after bytes → LogComes new.ended watch log old new after mid reported out bytes
  at_end same nothing is =
      let within = is_at.within in
      let all = size in
      let none = ap length is.none in
      let (end, tells_end, out_is) = ends_as true is.ended in
      let whole = end_reported watch regular log old.number old.given bytes session reported is_at end is.none (subst (λ (s : State). TellsEnd s end) same tells_end) in
      subst (λ (b : Bool). LogComes b watch log old new after mid reported out bytes) (sym is.ended) (record {
        one = subst IsOneLine (sym is.none) one_none;
        comes = is.comes;
        tells = subst (λ (t : List ℕ). WholeTells watch log (reported ++ t)) (sym (out_is ∙ ap (λ (t : List ℕ). t ++ end) nothing)) whole;
        within = omega (arith, within, all, none);
      })

  pub piece_says : (line : Given) → HasLineNumber new line → TellsGiven session mid line new.text reported_text → AnswerSays old new after (Ok line) bytes
      → LogComes new.ended watch log old new after mid reported out bytes
  piece_says (given.Text number) is tells says =
      let limit = reads_log.line_most in
      let short = says.short in
      let here : numbered_line (old.number + 1, new.text) ≡ lines.text number new.text =
      short_line (old.number + 1) new.text (omega (arith, limit, short)) ∙ ap (λ (n : ℕ). lines.text n new.text) (sym says.line.number ∙ sym is) in
      by_way new.text (subst (λ (l : NumberedLine). TellsLine session mid l reported_text) (sym here) tells) says.line says.line.way
  piece_says (given.Long number) is tells says =
      let limit = reads_log.line_most in
      let past = says.long in
      let here : numbered_line (old.number + 1, says.line) ≡ lines.long number =
      long_line (old.number + 1) says.line (omega (arith, limit, past)) ∙ ap (λ (n : ℕ). lines.long n) (sym says.gives.number ∙ sym is) in
      by_way says.line (subst (λ (l : NumberedLine). TellsLine session mid l reported_text) (sym here) tells) says.gives says.gives.way
  piece_says given.End is tells says = at_end tells.0 tells.1 says

-- an answer goes on within the limit of the file, or the end has come
pub goes_further : (old new : Reading) (line : Given) → Advances old new line → (new.ended ≡ true) ⊎ ((old.given < new.given) × (new.given ≤ old.total_most))
goes_further old new (given.Text number) goes = inr (goes.1, goes.2)
goes_further old new (given.Long number) goes = inr (goes.1, goes.2)
goes_further old new given.End goes = inl goes.0
