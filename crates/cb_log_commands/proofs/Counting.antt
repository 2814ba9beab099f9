-- Steps of a log, one line further.
use Rattle.std.proofs.Common.{◌≡◌, ◌∙◌, ◌⊎◌, ◌+◌, ℕ, true, false, List, [], ◌∷◌, ◌++◌, append_assoc, append-nil, length, take, refl, sym, ap, subst, inl, inr, arith, Ok}
use Rattle.std.specs.Prelude.{Option, Some}
use Rattle.std.specs.List.{All}
use Rattle.std.specs.Io.KnownBytes.{Consumes}
use Rattle.std.proofs.lemmas.List.{length-append}
use Rattle.std.proofs.lemmas.List.Elements.{All-append}
use Rattle.cb_change.specs.InTurn.{IsCostInTurn, AddsUp}
use Rattle.cb_change.proofs.InTurn.{adds_up, prefix_costs_less}
use Rattle.cb_io.specs.declared.line_reader.Line.{Line as Given}
use Rattle.cb_io.specs.declared.line_reader.Line.TheVariants as given
use Rattle.cb_io.specs.LineReading.{Reading, coming, IsOneLine, GivesEnded, GivesLast, GivesLine, HasLineNumber, AnswerSays}
use Rattle.cb_io.specs.Outside.{FilesReport, left_of, ReadsPrefix}
use Rattle.cb_network.specs.declared.edit.Edit.{Edit}
use Rattle.cb_network.specs.Regular.{IsRegular}
use Rattle.cb_network.specs.Topology.{Topology}
use Rattle.cb_network.proofs.Accepted.{after_all_is_one}
use Rattle.cb_log.specs.declared.record.Body.{Body}
use Rattle.cb_log.specs.declared.record.Body.TheVariants.{Raise, Clear, Change, Tick}
use Rattle.cb_log.specs.declared.record.Record.{Record}
use Rattle.cb_log.specs.Basis.{Mode}
use Rattle.cb_log.specs.Entries.{LogEntry, records_of}
use Rattle.cb_log.specs.Events.{IsNetwork}
use Rattle.cb_log.specs.Network.{then_edits, edits_of, IsNow}
use Rattle.cb_log.proofs.OneForEach.{records_of_both}
use Rattle.cb_alarm.specs.Lines.{NumberedLine, numbered_line, log_lines, ended_lines, ComesTo, ComeTo}
use Rattle.cb_alarm.specs.Lines as lines
use Rattle.cb_alarm.proofs.OneSkip.{come_to_one}
use Rattle.cb_outcome.specs.LogJobs.{Watch}
use Rattle.cb_outcome.specs.Reading.{LeavesRest}
use Rattle.cb_outcome.specs.Costs.{CountsLines, lines_taken}
use Rattle.cb_outcome.proofs.LogPrefixes.{prefix_lines, prefix_ended, first_come}
use Rattle.cb_session.specs.State.{State, network_of}
use Rattle.cb_log_commands.specs.Counting.{CountsLine, CountsGiven, IsCountedAt}
use Rattle.cb_log_commands.specs.Telling.{joined, numbered, ReadsLog}
use Rattle.cb_file_kinds.proofs.Chain.{take_prefix}
use Rattle.cb_log_commands.proofs.Following.{left_there, no_more}
use Rattle.cb_log_commands.proofs.Further.{one_alone, last_is}
use Rattle.cb_log_commands.proofs.Lines.{one_none, ended_are, lines_are, numbered_more, joined_more, length_more}
use Rattle.cb_log_commands.proofs.Pieces.{short_line, long_line}

-- ---- edits of entries

then_both : (b : Body) (xs ys : List Edit) → then_edits b (xs ++ ys) ≡ then_edits b xs ++ ys
then_both (Raise source node) xs ys = refl
then_both (Clear source node) xs ys = refl
then_both (Change edit) xs ys = refl
then_both Tick xs ys = refl

edits_both : (xs ys : List Record) → edits_of (xs ++ ys) ≡ edits_of xs ++ edits_of ys
edits_both [] ys = refl
edits_both (r ∷ xs) ys = ap (then_edits r.body) (edits_both xs ys) ∙ then_both r.body (edits_of xs) (edits_of ys)

edits_in : (xs ys : List LogEntry) → edits_of (records_of (xs ++ ys)) ≡ edits_of (records_of xs) ++ edits_of (records_of ys)
edits_in xs ys = ap edits_of (records_of_both xs ys) ∙ edits_both (records_of xs) (records_of ys)

-- ---- lines

-- what lines come to, and one more
last_comes : (xs : List NumberedLine) (line : NumberedLine) (entries : List LogEntry) → ComeTo (xs ++ line ∷ []) entries
    → (before : List LogEntry) × (entry : LogEntry) × (entries ≡ before ++ entry ∷ []) × ComeTo xs before × ComesTo line entry
last_comes [] line [] come = absurd come
last_comes [] line (e ∷ []) come = ([], e, refl, tt, come.0)
last_comes [] line (e ∷ f ∷ es) come = absurd come.1
last_comes (x ∷ xs) line [] come = absurd come
last_comes (x ∷ xs) line (e ∷ es) (first, come) =
    let (before, entry, is, here, last) = last_comes xs line es come in (e ∷ before, entry, ap (λ (v : List LogEntry). e ∷ v) is, (first, here), last)

module _ (t : Topology) where
  -- a line more costs what its edit costs, made of the topology that those before it leave
  pub counts_more : IsRegular t.model → (before : List NumberedLine) (entries : List LogEntry) → ComeTo before entries → (u : Topology) → IsNow t (records_of entries) u
      → (line : NumberedLine) (start mid new : ℕ) → CountsLines t before start mid → CountsLine u line mid new → CountsLines t (before ++ line ∷ []) start new
  counts_more regular before entries come u now line start mid new counts counts_line = λ cost is.
      let (some, entry, all_is, some_come, comes) = last_comes before line is.0 is.1 in
      let same : some ≡ entries = come_to_one before some entries some_come come in
      let edits = ap (λ (es : List LogEntry). edits_of (records_of es)) all_is ∙ edits_in some (entry ∷ []) in
      let parts : AddsUp t (edits_of (records_of some)) (edits_of (records_of (entry ∷ []))) cost =
      adds_up t (edits_of (records_of some)) (edits_of (records_of (entry ∷ []))) cost (subst (λ (es : List Edit). IsCostInTurn t es cost) edits is.2) in
      let here : parts.between ≡ u = after_all_is_one t (edits_of (records_of some)) parts.between u regular parts.after
      (subst (λ (es : List LogEntry). IsNow t (records_of es) u) (sym same) now) in
      let first = counts parts.first (some, some_come, parts.first_is) in
      let last = counts_line entry comes parts.later (subst (λ (v : Topology). IsCostInTurn v (edits_of (records_of (entry ∷ []))) parts.later) here parts.later_is) in
      let sum = parts.cost_is in
      omega (arith, first, last, sum)

  -- the first of some lines cost no more than all
  pub counts_prefix : (before beyond : List NumberedLine) (start new : ℕ) → CountsLines t before start new → CountsLines t (before ++ beyond) start new
  counts_prefix before beyond start new counts = λ cost is.
      let (some, others, all_is, come) = first_come before beyond is.0 is.1 in
      let edits = ap (λ (es : List LogEntry). edits_of (records_of es)) all_is ∙ edits_in some others in
      let (first, costs, less) = prefix_costs_less t (edits_of (records_of some)) (edits_of (records_of others)) cost
      (subst (λ (es : List Edit). IsCostInTurn t es cost) edits is.2) in
      let low = counts first (some, come, costs) in
      omega (arith, low, less)

-- ---- bytes

-- lines that LFs end are the lines of their bytes
joined_lines : (ls : List (List ℕ)) → All IsOneLine ls → log_lines (joined ls) ≡ numbered ls
joined_lines ls all = ap log_lines (sym (append-nil (joined ls))) ∙ (lines_are ls [] all one_none ∙ ap numbered (append-nil ls))

-- all of which end
joined_end : (ls : List (List ℕ)) → All IsOneLine ls → ended_lines (joined ls) ≡ numbered ls
joined_end ls all = ap ended_lines (sym (append-nil (joined ls))) ∙ ended_are ls [] all one_none

-- and they are the first of those that are taken with more bytes
first_taken : (ls : List (List ℕ)) → All IsOneLine ls → (more rest : List ℕ) → (later : List NumberedLine) × (lines_taken (joined ls ++ more) rest ≡ numbered ls ++ later)
first_taken ls all more [] =
    let (later, e) = prefix_lines (joined ls) more in (later, e ∙ ap (λ (v : List NumberedLine). v ++ later) (joined_end ls all))
first_taken ls all more (b ∷ rest) =
    let (later, e) = prefix_ended (joined ls) more in (later, e ∙ ap (λ (v : List NumberedLine). v ++ later) (joined_end ls all))

-- what stands before the same bytes is the same
cut_off : (a b c : List ℕ) → a ++ c ≡ b ++ c → a ≡ b
cut_off a b c e =
    let whole = ap length e in
    let one = length-append a c in
    let two = length-append b c in
    let same : length a ≡ length b = omega (arith, whole, one, two) in
    sym (take_prefix a c) ∙ (ap (λ (n : ℕ). take n (a ++ c)) same ∙ (ap (take (length b)) e ∙ take_prefix b c))

-- no more is counted than the lines cost that were taken, where the bytes are those of these lines and some more
taken_counts : (t : Topology) (log : List ℕ) (ls : List (List ℕ)) → All IsOneLine ls → (start steps : ℕ) → CountsLines t (numbered ls) start steps
    → (kept : List ℕ) (left : Option (List ℕ)) (taken : LeavesRest log left) → log ≡ joined ls ++ (kept ++ taken.1)
    → CountsLines t (lines_taken taken.0 taken.1) start steps
taken_counts t log ls all start steps counts kept left taken log_is =
    let same : taken.0 ≡ joined ls ++ kept =
    cut_off taken.0 (joined ls ++ kept) taken.1 (sym taken.2 ∙ (log_is ∙ sym (append_assoc (joined ls) kept taken.1))) in
    let (later, are) = first_taken ls all kept taken.1 in
    subst (λ (v : List NumberedLine). CountsLines t v start steps) (sym (ap (λ (prefix : List ℕ). lines_taken prefix taken.1) same ∙ are)) (counts_prefix t (numbered ls) later start steps counts)

same_some : (x y : List ℕ) → Some x ≡ Some y → x ≡ y
same_some x y e = cc

consumed : (l rest prefix : List ℕ) (left after : Option (List ℕ)) → left ≡ Some l → after ≡ Some rest → Consumes left after prefix → l ≡ prefix ++ rest
consumed l rest prefix left after is after_is came =
    subst (λ (o : Option (List ℕ)). Consumes (Some l) o prefix) after_is (subst (λ (o : Option (List ℕ)). Consumes o after prefix) is came)

-- ---- the next piece

module _ (watch : Watch) (log : List ℕ) (old : Reading) (bytes : List ℕ) (session : State) (start steps : ℕ)
    (at : IsCountedAt watch log old bytes session start steps) where
  abbrev ls : List (List ℕ)
  ls = at.is_at.lines

  given_are : take old.given log ≡ joined ls
  given_are =
      ap (λ (n : ℕ). take n log) at.is_at.given_is ∙ (ap (take (length (joined ls))) at.is_at.log_is ∙ take_prefix (joined ls) bytes)

  so_far : CountsLines watch.from (numbered ls) start steps
  so_far = subst (λ (v : List NumberedLine). CountsLines watch.from v start steps) (ap log_lines given_are ∙ joined_lines ls at.is_at.one_each) at.counts

  now : IsNow watch.from (records_of at.is_at.entries) (network_of session)
  now = subst (λ (m : Mode). IsNetwork watch.from m (records_of at.is_at.entries) (network_of session)) (at.is_at.mode ∙ at.mode) at.is_at.stands.network

  -- none was given, and some more bytes may have been taken
  pub nothing_given : (files after : FilesReport) → coming old files ≡ Some bytes → ReadsPrefix files after old.name
      → (taken : LeavesRest log (left_of after old.name)) → CountsLines watch.from (lines_taken taken.0 taken.1) start steps
  nothing_given files after comes read taken =
      let (l, is, are) = left_there old.kept (left_of files old.name) bytes comes in
      let prefix = read.0 in
      let came : l ≡ prefix ++ taken.1 = consumed l taken.1 prefix (left_of files old.name) (left_of after old.name) is taken.3 read.1 in
      let bytes_are : bytes ≡ (old.kept ++ prefix) ++ taken.1 =
      are ∙ (ap (λ (v : List ℕ). old.kept ++ v) came ∙ sym (append_assoc old.kept prefix taken.1)) in
      taken_counts watch.from log ls at.is_at.one_each start steps so_far (old.kept ++ prefix) (left_of after old.name) taken
      (at.is_at.log_is ∙ ap (λ (v : List ℕ). joined ls ++ v) bytes_are)

  module _ (new : Reading) (after : FilesReport) (name : new.name ≡ old.name) (steps' : ℕ) where
    -- what is left of the file after these bytes
    left_is : (rest : List ℕ) → coming new after ≡ Some rest → (taken : LeavesRest log (left_of after old.name)) → rest ≡ new.kept ++ taken.1
    left_is rest comes taken =
        let (l, is, are) = left_there new.kept (left_of after new.name) rest comes in
        let here : left_of after old.name ≡ Some l = subst (λ (n : List ℕ). left_of after n ≡ Some l) name is in
        are ∙ ap (λ (v : List ℕ). new.kept ++ v) (same_some l taken.1 (sym here ∙ taken.3))

    module _ (line : List ℕ) (counts : CountsLine (network_of session) (numbered_line (old.number + 1, line)) steps steps') (gives : GivesLine old new after bytes line) where
      abbrev more : List (List ℕ)
      more = ls ++ line ∷ []

      further : CountsLines watch.from (numbered more) start steps'
      further =
          let here = subst (λ (n : ℕ). CountsLine (network_of session) (numbered_line (n + 1, line)) steps steps') at.is_at.number_is counts in
          subst (λ (v : List NumberedLine). CountsLines watch.from v start steps') (sym (numbered_more ls line))
          (counts_more watch.from at.regular (numbered ls) at.is_at.entries at.is_at.come (network_of session) now (numbered_line (length ls + 1, line)) start steps steps' so_far here)

      all_more : IsOneLine line → All IsOneLine more
      all_more one = All-append IsOneLine ls (line ∷ []) at.is_at.one_each (one_alone line one)

      log_more : GivesEnded old new bytes line gives.rest → log ≡ joined more ++ gives.rest
      log_more is =
          at.is_at.log_is
          ∙ (ap (λ (v : List ℕ). joined ls ++ v) (is.begin.are ∙ sym (append_assoc line (10 ∷ []) gives.rest))
          ∙ (sym (append_assoc (joined ls) (line ++ 10 ∷ []) gives.rest) ∙ ap (λ (v : List ℕ). v ++ gives.rest) (sym (joined_more ls line))))

      log_all : GivesLast old new bytes line gives.rest → log_lines log ≡ numbered more
      log_all is =
          ap log_lines (at.is_at.log_is ∙ ap (λ (v : List ℕ). joined ls ++ v) is.last.are)
          ∙ (lines_are ls line at.is_at.one_each is.last.one ∙ ap (λ (v : List (List ℕ)). numbered (ls ++ v)) (last_is line is.last.some))

      line_goes : new.ended ≡ false → CountsLines watch.from (log_lines (take new.given log)) start steps'
      line_goes going = by_way gives.way
        where
          by_way : GivesEnded old new bytes line gives.rest ⊎ GivesLast old new bytes line gives.rest
              → CountsLines watch.from (log_lines (take new.given log)) start steps'
          by_way (inl is) =
              let given_is = is.given in
              let before = at.is_at.given_is in
              let size = length_more ls line in
              let here : new.given ≡ length (joined more) = omega (arith, given_is, before, size) in
              let are : take new.given log ≡ joined more =
              ap (λ (n : ℕ). take n log) here ∙ (ap (take (length (joined more))) (log_more is) ∙ take_prefix (joined more) gives.rest) in
              subst (λ (v : List NumberedLine). CountsLines watch.from v start steps') (sym (ap log_lines are ∙ joined_lines more (all_more is.begin.one))) further
          by_way (inr is) = let ended : true ≡ false = sym is.ended ∙ going in absurd (cc)

      line_taken : (taken : LeavesRest log (left_of after old.name)) → CountsLines watch.from (lines_taken taken.0 taken.1) start steps'
      line_taken taken = by_way gives.way
        where
          by_way : GivesEnded old new bytes line gives.rest ⊎ GivesLast old new bytes line gives.rest → CountsLines watch.from (lines_taken taken.0 taken.1) start steps'
          by_way (inl is) =
              taken_counts watch.from log more (all_more is.begin.one) start steps' further new.kept (left_of after old.name) taken
              (log_more is ∙ ap (λ (v : List ℕ). joined more ++ v) (left_is gives.rest gives.comes taken))
          by_way (inr is) =
              let none : taken.1 ≡ [] = no_more new.kept taken.1 (sym is.none ∙ left_is gives.rest gives.comes taken) in
              let all : taken.0 ≡ log = sym (append-nil taken.0) ∙ (ap (λ (v : List ℕ). taken.0 ++ v) (sym none) ∙ sym taken.2) in
              subst (λ (rest : List ℕ). CountsLines watch.from (lines_taken taken.0 rest) start steps') (sym none)
              (subst (λ (v : List NumberedLine). CountsLines watch.from v start steps') (sym (ap log_lines all ∙ log_all is)) further)

    -- the text of a line as its number and its bytes
    module _ (reads_log : ReadsLog old) where
      pub piece_counts : (line : Given) → HasLineNumber new line → CountsGiven (network_of session) line new.text steps steps' → AnswerSays old new after (Ok line) bytes
          → new.ended ≡ false → CountsLines watch.from (log_lines (take new.given log)) start steps'
      piece_counts (given.Text number) is counts says going =
          let limit = reads_log.line_most in
          let short = says.short in
          let here : numbered_line (old.number + 1, new.text) ≡ lines.text number new.text =
          short_line (old.number + 1) new.text (omega (arith, limit, short)) ∙ ap (λ (n : ℕ). lines.text n new.text) (sym says.line.number ∙ sym is) in
          line_goes new.text (subst (λ (l : NumberedLine). CountsLine (network_of session) l steps steps') (sym here) counts) says.line going
      piece_counts (given.Long number) is counts says going =
          let limit = reads_log.line_most in
          let past = says.long in
          let here : numbered_line (old.number + 1, says.line) ≡ lines.long number =
          long_line (old.number + 1) says.line (omega (arith, limit, past)) ∙ ap (λ (n : ℕ). lines.long n) (sym says.gives.number ∙ sym is) in
          line_goes says.line (subst (λ (l : NumberedLine). CountsLine (network_of session) l steps steps') (sym here) counts) says.gives going
      piece_counts given.End is counts says going = let ended : true ≡ false = sym says.ended ∙ going in absurd (cc)

      pub piece_takes : (line : Given) → HasLineNumber new line → CountsGiven (network_of session) line new.text steps steps' → AnswerSays old new after (Ok line) bytes
          → (taken : LeavesRest log (left_of after old.name)) → CountsLines watch.from (lines_taken taken.0 taken.1) start steps'
      piece_takes (given.Text number) is counts says taken =
          let limit = reads_log.line_most in
          let short = says.short in
          let here : numbered_line (old.number + 1, new.text) ≡ lines.text number new.text =
          short_line (old.number + 1) new.text (omega (arith, limit, short)) ∙ ap (λ (n : ℕ). lines.text n new.text) (sym says.line.number ∙ sym is) in
          line_taken new.text (subst (λ (l : NumberedLine). CountsLine (network_of session) l steps steps') (sym here) counts) says.line taken
      piece_takes (given.Long number) is counts says taken =
          let limit = reads_log.line_most in
          let past = says.long in
          let here : numbered_line (old.number + 1, says.line) ≡ lines.long number =
          long_line (old.number + 1) says.line (omega (arith, limit, past)) ∙ ap (λ (n : ℕ). lines.long n) (sym says.gives.number ∙ sym is) in
          line_taken says.line (subst (λ (l : NumberedLine). CountsLine (network_of session) l steps steps') (sym here) counts) says.gives taken
      piece_takes given.End is counts says taken =
          let none : taken.1 ≡ [] = no_more new.kept taken.1 (left_is [] says.comes taken) in
          let log_is : log ≡ joined ls ++ ([] ++ taken.1) = at.is_at.log_is ∙ ap (λ (v : List ℕ). joined ls ++ v) (says.none ∙ sym none) in
          subst (λ (n : ℕ). CountsLines watch.from (lines_taken taken.0 taken.1) start n) (sym counts)
          (taken_counts watch.from log ls at.is_at.one_each start steps so_far [] (left_of after old.name) taken log_is)
