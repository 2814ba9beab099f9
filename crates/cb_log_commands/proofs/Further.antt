-- A log, one line further, and what is due of its first bytes.
use Rattle.std.proofs.Common.{◌≡◌, ◌∙◌, ◌≤◌, ◌+◌, ◌-◌, ℕ, min, List, [], ◌∷◌, ◌++◌, append_assoc, append-nil, length, take, drop, refl, sym, ap, subst, inl, arith}
use Rattle.std.specs.List.{All}
use Rattle.std.proofs.lemmas.Grind.{flat_map-append}
use Rattle.std.proofs.lemmas.List.{length-append, take-append-drop, take-append-le}
use Rattle.std.proofs.lemmas.List.Elements.{All-cons, All-append}
use Rattle.std.proofs.Math.Seq.{take-append-add}
use Rattle.cb_io.specs.LineReading.{IsOneLine}
use Rattle.cb_text.specs.Lines.{last_line}
use Rattle.cb_network.specs.Regular.{IsRegular}
use Rattle.cb_log.specs.declared.event.Event.{Event}
use Rattle.cb_log.specs.Basis.{Mode}
use Rattle.cb_log.specs.Entries.{records_of}
use Rattle.cb_log.specs.Events.{EntryGives, EndGives}
use Rattle.cb_log.proofs.OneMore.{entries_give_more}
use Rattle.cb_alarm.specs.Lines.{NumberedLine, numbered_line, ComesTo, ComeTo, log_lines, PrefixGives}
use Rattle.cb_report.specs.EventTexts.{event_text, events_text}
use Rattle.cb_outcome.specs.LogJobs.{Watch, WholeTells, PrefixTells, log_limit}
use Rattle.cb_outcome.proofs.LogPrefixes.{prefix_gives_prefix}
use Rattle.cb_session.specs.State.{State}
use Rattle.cb_log_commands.specs.Following.{IsDueUpto}
use Rattle.cb_log_commands.specs.Telling.{joined, numbered, IsLogAt, StepTells, TellsLine, TellsEnd}
use Rattle.cb_log_commands.proofs.Lines.{one_take, one_none, ended_are, lines_are, numbered_more, joined_more, length_more, zip_more}

-- the text of events that follow others
text_more : (opening reported text : List ℕ) (events more : List Event) → reported ≡ opening ++ events_text events → text ≡ events_text more
    → reported ++ text ≡ opening ++ events_text (events ++ more)
text_more opening reported text events more t m =
    let joined_text : events_text (events ++ more) ≡ events_text events ++ events_text more = flat_map-append event_text events more in
    let parts : reported ++ text ≡ (opening ++ events_text events) ++ events_text more = λ i. t i ++ m i in
    parts ∙ (append_assoc opening (events_text events) (events_text more) ∙ ap (λ (v : List ℕ). opening ++ v) (sym joined_text))

pub one_alone : (line : List ℕ) → IsOneLine line → All IsOneLine (line ∷ [])
one_alone line one = All-cons IsOneLine line [] one (λ k d low. absurd (omega (arith, low)))

pub last_is : (line : List ℕ) → (line ≡ [] → ⊥) → last_line line ≡ line ∷ []
last_is [] some = absurd (some refl)
last_is (b ∷ bs) some = refl

module _ (watch : Watch) (regular : IsRegular watch.from.model) (log : List ℕ) (number given : ℕ) (bytes : List ℕ) (session : State) (reported : List ℕ)
    (is_at : IsLogAt watch log number given bytes session reported) where
  -- ---- what is due

  -- bytes after the lines that end none tell nothing more
  tells_prefix : (part : List ℕ) → IsOneLine part → PrefixTells watch (joined is_at.lines ++ part) reported
  tells_prefix part one = (
    is_at.events,
    (is_at.entries, subst (λ (ls : List NumberedLine). ComeTo ls is_at.entries) (sym (ended_are is_at.lines part is_at.one_each one)) is_at.come, is_at.gives),
    is_at.reported_is,
  )

  module _ (prefix rest : List ℕ) (bytes_are : bytes ≡ prefix ++ rest) (one : IsOneLine prefix) where
    log_parts : log ≡ (joined is_at.lines ++ prefix) ++ rest
    log_parts = is_at.log_is ∙ (ap (λ (v : List ℕ). joined is_at.lines ++ v) bytes_are ∙ sym (append_assoc (joined is_at.lines) prefix rest))

    -- all that was reported is due while the next line comes
    pub reported_is_due : IsDueUpto watch log (given + length prefix) reported
    reported_is_due =
        let within = is_at.within in
        let k = min (given + length prefix) log_limit in
        let j = k - given in
        let low : given ≤ k = omega (arith, within) in
        let high : k ≤ given + length prefix = omega arith in
        let parts = log_parts ∙ append_assoc (joined is_at.lines) prefix rest in
        let there : take k log ≡ take (length (joined is_at.lines) + j) (joined is_at.lines ++ (prefix ++ rest)) =
        λ i. take (counted k low i) (parts i) in
        let cut = take-append-add (joined is_at.lines) (prefix ++ rest) j in
        let short = take-append-le j prefix rest (omega (arith, low, high)) in
        subst (λ (v : List ℕ). PrefixTells watch v reported) (sym (there ∙ (cut ∙ ap (λ (v : List ℕ). joined is_at.lines ++ v) short)))
        (tells_prefix (take j prefix) (one_take j prefix one))
      where
        counted : (k : ℕ) → given ≤ k → k ≡ length (joined is_at.lines) + (k - given)
        counted k low = let is = is_at.given_is in omega (arith, low, is)

    -- and no more than that before the next line ends
    pub due_is_short : (upto : ℕ) (due : List ℕ) → upto ≤ given + length prefix → IsDueUpto watch log upto due → length due ≤ length reported
    due_is_short upto due early (first, gives, due_is) =
        let m = min upto log_limit in
        let all = joined is_at.lines ++ prefix in
        let size = length-append (joined is_at.lines) prefix in
        let counted = is_at.given_is in
        let within : m ≤ length all = omega (arith, early, size, counted) in
        let there : take m log ≡ take m all = ap (take m) log_parts ∙ take-append-le m all rest within in
        let (events, all_give, reported_is) = tells_prefix prefix one in
        let here = subst (λ (v : List ℕ). PrefixGives watch.from watch.mode watch.window v first) there gives in
        let whole = subst (λ (v : List ℕ). PrefixGives watch.from watch.mode watch.window v events) (sym (take-append-drop m all)) all_give in
        let (more, is) = prefix_gives_prefix watch.from watch.mode watch.window (take m all) (drop m all) first events regular here (inl whole) in
        longer first events more due_is reported_is is
      where
        longer : (first events more : List Event) → due ≡ watch.opening ++ events_text first → reported ≡ watch.opening ++ events_text events
            → events ≡ first ++ more → length due ≤ length reported
        longer first events more d t is =
            let a = ap length d in
            let b = ap length (t ∙ (ap (λ (es : List Event). watch.opening ++ events_text es) is ∙ sym (text_more watch.opening due (events_text more) first more d refl))) in
            let c = length-append due (events_text more) in
            omega (arith, a, b, c)

  -- ---- one line further

  module _ (line : List ℕ) (one : IsOneLine line) (session' : State) (text : List ℕ) (tells : TellsLine session session' (numbered_line (number + 1, line)) text)
      (mode : session'.mode ≡ session.mode) (window : session'.windows.length ≡ session.windows.length) where
    step : StepTells session session' watch.from is_at.entries tells.entry text
    step = tells.tells watch.from is_at.entries regular is_at.stands

    come_more : ComeTo (numbered (is_at.lines ++ line ∷ [])) (is_at.entries ++ tells.entry ∷ [])
    come_more =
        let here = subst (λ (n : ℕ). ComesTo (numbered_line (n + 1, line)) tells.entry) is_at.number_is tells.comes in
        subst (λ (ls : List NumberedLine). ComeTo ls (is_at.entries ++ tells.entry ∷ [])) (sym (numbered_more is_at.lines line))
        (zip_more ComesTo (numbered is_at.lines) is_at.entries (numbered_line (length is_at.lines + 1, line)) tells.entry is_at.come here)

    gives_here : EntryGives watch.from watch.mode watch.window (records_of is_at.entries) tells.entry step.events
    gives_here =
        subst (λ (m : Mode). EntryGives watch.from m watch.window (records_of is_at.entries) tells.entry step.events) is_at.mode
        (subst (λ (w : ℕ). EntryGives watch.from session.mode w (records_of is_at.entries) tells.entry step.events) is_at.window step.gives)

    -- where a LF ends it
    pub next_at : (rest : List ℕ) → bytes ≡ line ++ 10 ∷ rest → given + length line + 1 ≤ log_limit
        → IsLogAt watch log (number + 1) (given + length line + 1) rest session' (reported ++ text)
    next_at rest bytes_are within = record {
      lines = is_at.lines ++ line ∷ [];
      one_each = All-append IsOneLine is_at.lines (line ∷ []) is_at.one_each (one_alone line one);
      log_is =
          is_at.log_is
          ∙ (ap (λ (v : List ℕ). joined is_at.lines ++ v) (bytes_are ∙ sym (append_assoc line (10 ∷ []) rest))
          ∙ (sym (append_assoc (joined is_at.lines) (line ++ 10 ∷ []) rest) ∙ ap (λ (v : List ℕ). v ++ rest) (sym (joined_more is_at.lines line))));
      number_is = let is = is_at.number_is in let size = length-append is_at.lines (line ∷ []) in omega (arith, is, size);
      given_is = let is = is_at.given_is in let size = length_more is_at.lines line in omega (arith, is, size);
      within = within;
      entries = is_at.entries ++ tells.entry ∷ [];
      come = come_more;
      events = is_at.events ++ step.events;
      gives = entries_give_more watch.from watch.mode watch.window [] is_at.entries tells.entry is_at.events step.events is_at.gives gives_here;
      reported_is = text_more watch.opening reported text is_at.events step.events is_at.reported_is step.text_is;
      mode = mode ∙ is_at.mode;
      window = window ∙ is_at.window;
      stands = step.stands;
    }

    -- where the end ends it
    pub last_reported : (ends : List ℕ) → (line ≡ [] → ⊥) → bytes ≡ line → TellsEnd session' ends → WholeTells watch log (reported ++ (text ++ ends))
    last_reported ends some bytes_are end =
        let (events, gives, text_is) = end watch.from (is_at.entries ++ tells.entry ∷ []) regular step.stands in
        let whole : log ≡ joined is_at.lines ++ line = is_at.log_is ∙ ap (λ (v : List ℕ). joined is_at.lines ++ v) bytes_are in
        let are : log_lines log ≡ numbered (is_at.lines ++ line ∷ []) =
        ap log_lines whole ∙ (lines_are is_at.lines line is_at.one_each one ∙ ap (λ (ls : List (List ℕ)). numbered (is_at.lines ++ ls)) (last_is line some)) in (
          (is_at.events ++ step.events) ++ events,
          record {
            entries = is_at.entries ++ tells.entry ∷ [];
            come = subst (λ (ls : List NumberedLine). ComeTo ls (is_at.entries ++ tells.entry ∷ [])) (sym are) come_more;
            body = is_at.events ++ step.events;
            body_is = entries_give_more watch.from watch.mode watch.window [] is_at.entries tells.entry is_at.events step.events is_at.gives gives_here;
            ends = events;
            ends_are =
                subst (λ (m : Mode). EndGives watch.from m watch.window (records_of (is_at.entries ++ tells.entry ∷ [])) events) (mode ∙ is_at.mode)
                (subst (λ (w : ℕ). EndGives watch.from session'.mode w (records_of (is_at.entries ++ tells.entry ∷ [])) events) (window ∙ is_at.window) gives);
            events_are = refl;
          },
          sym (append_assoc reported text ends)
              ∙ text_more watch.opening (reported ++ text) ends (is_at.events ++ step.events) events
              (text_more watch.opening reported text is_at.events step.events is_at.reported_is step.text_is) text_is,
        )

  -- where no line comes
  pub end_reported : (ends : List ℕ) → bytes ≡ [] → TellsEnd session ends → WholeTells watch log (reported ++ ends)
  end_reported ends none end =
      let (events, gives, text_is) = end watch.from is_at.entries regular is_at.stands in
      let whole : log ≡ joined is_at.lines ++ [] = is_at.log_is ∙ ap (λ (v : List ℕ). joined is_at.lines ++ v) none in
      let are : log_lines log ≡ numbered is_at.lines =
      ap log_lines whole ∙ (lines_are is_at.lines [] is_at.one_each one_none ∙ ap numbered (append-nil is_at.lines)) in (
        is_at.events ++ events,
        record {
          entries = is_at.entries;
          come = subst (λ (ls : List NumberedLine). ComeTo ls is_at.entries) (sym are) is_at.come;
          body = is_at.events;
          body_is = is_at.gives;
          ends = events;
          ends_are =
              subst (λ (m : Mode). EndGives watch.from m watch.window (records_of is_at.entries) events) is_at.mode
              (subst (λ (w : ℕ). EndGives watch.from session.mode w (records_of is_at.entries) events) is_at.window gives);
          events_are = refl;
        },
        text_more watch.opening reported ends is_at.events events is_at.reported_is text_is,
      )
