-- A log that is summed up, one line more.
use Rattle.std.proofs.Common.{◌≡◌, ◌⊎◌, ◌∙◌, ◌+◌, ◌≤◌, ℕ, suc, Bool, true, false, List, [], ◌∷◌, ◌++◌, append_assoc, take, slice_get, length, refl, sym, ap, subst, inl, inr, arith, Ok, Err, Result}
use Rattle.std.proofs.lemmas.List.{length-append, length-map}
use Rattle.std.specs.List.{AllZip}
use Rattle.std.specs.Prelude.{nat_le, cond, Some}
use Rattle.cb_coding.specs.declared.group.Group.{Group}
use Rattle.cb_codes.specs.Groups.{named, named_of}
use Rattle.cb_network.specs.declared.edit.EditRefusal.{EditRefusal}
use Rattle.cb_model.specs.declared.node.NodeName.{NodeName}
use Rattle.cb_model.specs.declared.wish.Wish.{Wish}
use Rattle.cb_model.specs.declared.wish.Wish.TheVariants.{Plain, Cap}
use Rattle.cb_model.proofs.Numbers.{take_more}
use Rattle.cb_network.specs.Nodes.{IsProblem, AreProblems, IsCount, IsCountWithin}
use Rattle.cb_network.specs.Regular.{IsRegular}
use Rattle.cb_network.specs.Sound.{Sound, problem_limit}
use Rattle.cb_network.proofs.Counts.{count_is_one, count_of_rising}
use Rattle.cb_network.specs.Topology.{Topology}
use Rattle.cb_log.specs.declared.closed.Closed.{Closed}
use Rattle.cb_log.specs.declared.event.Event.{Event}
use Rattle.cb_log.specs.declared.event.Event.TheVariants.{Skipped, Refused, Thin, BookMade, CapMade, Diagnosis}
use Rattle.cb_log.specs.declared.record.Body.{Body}
use Rattle.cb_log.specs.declared.record.Body.TheVariants.{Raise, Clear, Change, Tick}
use Rattle.cb_log.specs.declared.record.Record.{Record}
use Rattle.cb_log.specs.Basis.{Mode, wanted, fixed, Basis, IsDiagnosis, IsMadeFor, AreWarnings, IsAnnounced}
use Rattle.cb_log.specs.Entries.{LogEntry, said, skipped, blank, records_of}
use Rattle.cb_log.specs.Events.{IsOpening, Diagnoses, IsRefusal, BodyGives, EntryGives, EntriesGive, EndGives}
use Rattle.cb_log.proofs.OneForEach.{records_of_both}
use Rattle.cb_log.proofs.OneMore.{entries_give_more}
use Rattle.cb_alarm.specs.Lines.{NumberedLine, numbered_line, log_lines, ComesTo, IsBlank, log_line_limit}
use Rattle.cb_alarm.specs.Lines as lines
use Rattle.cb_report.specs.declared.summary.Summary.{Summary}
use Rattle.cb_report.specs.SummaryText.{CountsAlone, CountsEvents, CountsOneMore, one_record_more}
use Rattle.cb_session.specs.State.{State, network_of, StandsForEntries}
use Rattle.cb_outcome.specs.Grown.{CountsNetwork, SumsUpLog}
use Rattle.cb_log_commands.specs.Summing.{skips, HasSummedUp, KeepsRequest, KeepsCounts}
use Rattle.cb_log_commands.specs.Telling.{numbered}
use Rattle.cb_log_commands.proofs.Lines.{zip_more, numbered_more}

-- ---- the events of a record don't say that a line was skipped

skips_none_of : (xs ys : List Event) → skips xs ≡ false → skips ys ≡ false → skips (xs ++ ys) ≡ false
skips_none_of [] ys a b = b
skips_none_of (Skipped line why ∷ xs) ys a b = a
skips_none_of (Refused line why ∷ xs) ys a b = refl
skips_none_of (Thin d first second far ∷ xs) ys a b = refl
skips_none_of (BookMade k n d r g ∷ xs) ys a b = refl
skips_none_of (CapMade k n cap low high g ∷ xs) ys a b = refl
skips_none_of (Diagnosis from opened closed finding ∷ xs) ys a b = refl

no_events : (events : List Event) → events ≡ [] → skips events ≡ false
no_events events none = ap skips none

module _ {network : Topology} {mode : Mode} (basis : Basis network mode) where
  made : (used : Wish) (event : Event) → IsMadeFor basis used event → skips (event ∷ []) ≡ false
  made (Plain d) event is = ap (λ (e : Event). skips (e ∷ [])) is
  made (Cap cap) event is = ap (λ (e : Event). skips (e ∷ [])) is.is

  warned : (wish : Wish) (events : List Event) → AreWarnings basis wish events → skips events ≡ false
  warned (Plain d) events (inl (good, is)) = ap skips is
  warned (Plain d) events (inr (event, thin, is)) = ap skips is ∙ ap (λ (e : Event). skips (e ∷ [])) thin.is
  warned (Cap cap) events is = ap skips is

  announced : (wish : Wish) (events : List Event) → IsAnnounced basis wish events → skips events ≡ false
  announced wish events is =
      ap skips is.events_are ∙ skips_none_of is.warnings (is.made ∷ []) (warned wish is.warnings is.are_warnings) (made basis.used is.made is.is_made)

  diagnosed : (closing : List Closed) (events : List Event) → AllZip (IsDiagnosis basis) closing events → skips events ≡ false
  diagnosed closing [] each = refl
  diagnosed [] (e ∷ events) each = absurd each
  diagnosed (c ∷ closing) (e ∷ events) (first, rest) = ap (λ (x : Event). skips (x ∷ events)) first.is

opening_tells : (t : Topology) (mode : Mode) (w : ℕ) (records : List Record) (network : Topology) (basis : Basis network mode) (events : List Event)
    → IsOpening t mode w records basis events → skips events ≡ false
opening_tells t (wanted wish) w records network basis events (inl (has, is)) = no_events events is
opening_tells t (wanted wish) w records network basis events (inr (none, is)) = announced basis wish events is
opening_tells t (fixed kept used) w records network basis events is = no_events events is

module _ (t : Topology) (mode : Mode) (w : ℕ) where
  diagnoses_tell : (records : List Record) (closing : List Closed) (events : List Event) → Diagnoses t mode w records closing events → skips events ≡ false
  diagnoses_tell records [] events none = no_events events none
  diagnoses_tell records (c ∷ closing) events are =
      ap skips are.events_are ∙ skips_none_of are.opening are.diagnoses
      (opening_tells t mode w records are.network are.basis are.opening are.is_opening) (diagnosed are.basis (c ∷ closing) are.diagnoses are.each)

refusal_tells : (line : ℕ) (result : Result Topology EditRefusal) (events : List Event) → IsRefusal line result events → skips events ≡ false
refusal_tells line (Ok network) events is = no_events events is
refusal_tells line (Err why) events is = ap skips is

body_tells : (t : Topology) (mode : Mode) (records : List Record) (line : ℕ) (body : Body) (events : List Event) → BodyGives t mode records line body events
    → skips events ≡ false
body_tells t (wanted wish) records line (Change edit) events (network, now, result, after, is) = refusal_tells line result events is
body_tells t (wanted wish) records line (Raise source node) events is = no_events events is
body_tells t (wanted wish) records line (Clear source node) events is = no_events events is
body_tells t (wanted wish) records line Tick events is = no_events events is
body_tells t (fixed kept used) records line (Change edit) events is = ap skips is
body_tells t (fixed kept used) records line (Raise source node) events is = no_events events is
body_tells t (fixed kept used) records line (Clear source node) events is = no_events events is
body_tells t (fixed kept used) records line Tick events is = no_events events is

-- ---- whether a line was a record

-- it is neither blank nor skipped
abbrev pub IsRecord : List ℕ → List Event → Type 0
IsRecord bytes events = (¬ IsBlank bytes) × (skips events ≡ false)

line_is : (number : ℕ) (bytes : List ℕ) → (numbered_line (number, bytes) ≡ lines.text number bytes) ⊎ (numbered_line (number, bytes) ≡ lines.long number)
line_is number bytes = by_capacity (nat_le (length bytes) log_line_limit)
  where
    by_capacity : (b : Bool) → (cond b (lines.text number bytes) (lines.long number) ≡ lines.text number bytes) ⊎ (cond b (lines.text number bytes) (lines.long number) ≡ lines.long number)
    by_capacity true = inl refl
    by_capacity false = inr refl

text_said : (number : ℕ) (bytes : List ℕ) (line : ℕ) (r : Record) → ComesTo (lines.text number bytes) (said line r) → ¬ IsBlank bytes
text_said number bytes line r (inl (blank_line, e)) = absurd (cc)
text_said number bytes line r (inr (word, taken)) = word

text_blank : (number : ℕ) (bytes : List ℕ) → ComesTo (lines.text number bytes) blank → IsBlank bytes
text_blank number bytes (inl (is, e)) = is
text_blank number bytes (inr (word, inl (r, spells, e))) = absurd (cc)
text_blank number bytes (inr (word, inr (kind, skip, e))) = absurd (cc)

module _ (t : Topology) (mode : Mode) (w : ℕ) (records : List Record) (number : ℕ) (bytes : List ℕ) where
  -- either it came to a record, which is one more, or it is none
  one_or_none : (entry : LogEntry) (events : List Event) → ComesTo (numbered_line (number, bytes)) entry → EntryGives t mode w records entry events
      → (IsRecord bytes events × (length (records_of (entry ∷ [])) ≡ 1)) ⊎ ((¬ IsRecord bytes events) × (length (records_of (entry ∷ [])) ≡ 0))
  one_or_none (said line r) events comes gives = inl ((word (line_is number bytes), tells), refl)
    where
      word : (numbered_line (number, bytes) ≡ lines.text number bytes) ⊎ (numbered_line (number, bytes) ≡ lines.long number) → ¬ IsBlank bytes
      word (inl is) = text_said number bytes line r (subst (λ (l : NumberedLine). ComesTo l (said line r)) is comes)
      word (inr is) = let long : ComesTo (lines.long number) (said line r) = subst (λ (l : NumberedLine). ComesTo l (said line r)) is comes in absurd (cc)

      tells : skips events ≡ false
      tells =
          ap skips gives.events_are ∙ skips_none_of gives.closings gives.refusals
          (diagnoses_tell t mode w records gives.closing.closing gives.closings gives.closing.diagnoses)
          (body_tells t mode records line r.body gives.refusals gives.body)
  one_or_none (skipped line why) events comes gives = inr (not_skipped, refl)
    where
      not_skipped : ¬ IsRecord bytes events
      not_skipped (word, none) = let is : skips events ≡ true = ap skips gives in cc
  one_or_none blank events comes gives = inr (no_word (line_is number bytes), refl)
    where
      no_word : (numbered_line (number, bytes) ≡ lines.text number bytes) ⊎ (numbered_line (number, bytes) ≡ lines.long number) → ¬ IsRecord bytes events
      no_word (inl is) (word, none) = word (text_blank number bytes (subst (λ (l : NumberedLine). ComesTo l blank) is comes))
      no_word (inr is) (word, none) = let long : ComesTo (lines.long number) blank = subst (λ (l : NumberedLine). ComesTo l blank) is comes in absurd (cc)

-- ---- one line more

pub none_summed : (opening : Topology) (session : State) (summary : Summary) → StandsForEntries session opening [] → CountsEvents [] summary
    → summary.records ≡ 0 → HasSummedUp opening [] session summary
none_summed opening session summary stands counted none =
    record { entries = []; come = tt; stands = stands; events = []; give = refl; counted = counted; records = none }

pub one_more_summed : (opening : Topology) (before : List NumberedLine) (number : ℕ) (bytes : List ℕ) (old new : State) (summary summary' : Summary)
    → HasSummedUp opening before old summary → new.mode ≡ old.mode → new.windows.length ≡ old.windows.length
    → (entry : LogEntry) → ComesTo (numbered_line (number, bytes)) entry → (events : List Event)
    → ((entries : List LogEntry) → StandsForEntries old opening entries → EntryGives opening old.mode old.windows.length (records_of entries) entry events)
    → ((entries : List LogEntry) → StandsForEntries old opening entries → StandsForEntries new opening (entries ++ entry ∷ []))
    → ((earlier : List Event) → CountsEvents earlier summary → CountsEvents (earlier ++ events) summary')
    → (IsRecord bytes events → summary'.records ≡ summary.records + 1) → ((¬ IsRecord bytes events) → summary'.records ≡ summary.records)
    → HasSummedUp opening (before ++ numbered_line (number, bytes) ∷ []) new summary'
one_more_summed opening before number bytes old new summary summary' has mode length_is entry comes events gives stands counts one none =
    let here = gives has.entries has.stands in
    let give = entries_give_more opening old.mode old.windows.length [] has.entries entry has.events events has.give here in
    record {
      entries = has.entries ++ entry ∷ [];
      come = zip_more ComesTo before has.entries (numbered_line (number, bytes)) entry has.come comes;
      stands = stands has.entries has.stands;
      events = has.events ++ events;
      give = subst (λ (m : Mode). EntriesGive opening m new.windows.length [] (has.entries ++ entry ∷ []) (has.events ++ events)) (sym mode)
          (subst (λ (w : ℕ). EntriesGive opening old.mode w [] (has.entries ++ entry ∷ []) (has.events ++ events)) (sym length_is) give);
      counted = counts has.events has.counted;
      records = counted_by (one_or_none opening old.mode old.windows.length (records_of has.entries) number bytes entry events comes here);
    }
  where
    counted_by : (IsRecord bytes events × (length (records_of (entry ∷ [])) ≡ 1)) ⊎ ((¬ IsRecord bytes events) × (length (records_of (entry ∷ [])) ≡ 0))
        → summary'.records ≡ length (records_of (has.entries ++ entry ∷ []))
    counted_by way =
        let both = ap length (records_of_both has.entries (entry ∷ [])) in
        let sum = length-append (records_of has.entries) (records_of (entry ∷ [])) in
        let before_is = has.records in
        elim way [
          | inl (is, size) ↦ let more = one is in omega (arith, both, sum, before_is, size, more)
          | inr (not, size) ↦ let more = none not in omega (arith, both, sum, before_is, size, more)
        ]

-- ---- the end

pub all_summed : (opening : Topology) (log : List ℕ) (session : State) (summary mid summary' : Summary)
    → HasSummedUp opening (log_lines log) session summary → (ends : List Event)
    → ((entries : List LogEntry) → StandsForEntries session opening entries → EndGives opening session.mode session.windows.length (records_of entries) ends)
    → ((earlier : List Event) → CountsEvents earlier summary → CountsEvents (earlier ++ ends) mid) → mid.records ≡ summary.records
    → KeepsCounts mid summary' → CountsNetwork (network_of session) summary'
    → SumsUpLog opening session.mode session.windows.length log summary'
all_summed opening log session summary mid summary' has ends end_gives counts same keeps sizes = record {
  events = has.events ++ ends;
  gives = record {
    entries = has.entries;
    come = has.come;
    body = has.events;
    body_is = has.give;
    ends = ends;
    ends_are = end_gives has.entries has.stands;
    events_are = refl;
  };
  records = keeps.records ∙ (same ∙ has.records);
  counted = keeps.counted (has.events ++ ends) (counts has.events has.counted);
  last = network_of session;
  last_is = has.stands.network;
  sizes = sizes;
}

-- ---- lines of a text

-- these lines were taken since a session and a summary
pub record SumsSoFar (old : State) (summary : Summary) (new : State) (summary' : Summary) (before : List (List ℕ)) : Type 0 where
  pub asked : KeepsRequest summary summary'
  pub mode : new.mode ≡ old.mode
  pub length_is : new.windows.length ≡ old.windows.length
  pub takes : (opening : Topology) → IsRegular opening.model → HasSummedUp opening [] old summary → HasSummedUp opening (numbered before) new summary'

pub so_far_none : (old : State) (summary : Summary) → SumsSoFar old summary old summary []
so_far_none old summary = record { asked = record { sites = refl; start = refl }; mode = refl; length_is = refl; takes = λ opening regular has. has }

pub so_far_more : (old mid new : State) (summary summary' summary'' : Summary) (before : List (List ℕ)) (line : List ℕ)
    → SumsSoFar old summary mid summary' before → KeepsRequest summary' summary'' → new.mode ≡ mid.mode → new.windows.length ≡ mid.windows.length
    → ((opening : Topology) (earlier : List NumberedLine) → IsRegular opening.model → HasSummedUp opening earlier mid summary'
    → HasSummedUp opening (earlier ++ numbered_line (length before + 1, line) ∷ []) new summary'')
    → SumsSoFar old summary new summary'' (before ++ line ∷ [])
so_far_more old mid new summary summary' summary'' before line so asked mode length_is takes = record {
  asked = record { sites = asked.sites ∙ so.asked.sites; start = asked.start ∙ so.asked.start };
  mode = mode ∙ so.mode;
  length_is = length_is ∙ so.length_is;
  takes = λ opening regular has.
      subst (λ (ls : List NumberedLine). HasSummedUp opening ls new summary'') (sym (numbered_more before line))
      (takes opening (numbered before) regular (so.takes opening regular has));
}

-- ---- the sizes of a network

pub few_of : (P : NodeName → Type 0) (limit n : ℕ) → IsCount P n → IsCountWithin P limit → n ≤ limit
few_of P limit n count (m, is, few) = let same = count_is_one P n m count is in omega (arith, same, few)

pub few_problems : (t : Topology) (names : List NodeName) → Sound t → AreProblems t names → length names ≤ problem_limit
few_problems t names sound are =
    few_of (IsProblem t) problem_limit (length names) (count_of_rising (IsProblem t) names are.rise (λ n. (are.each n, are.all n))) sound.few_problems

-- groups have names as many as they are
pub as_many : (groups : List Group) → length (named_of groups) ≡ length groups
as_many [] = refl
as_many (quiet ∷ groups) = ap suc (length-map groups (named false))

-- ---- events, counted one by one

pub counted_more : (events : List Event) (i : ℕ) (event : Event) (old mid new : Summary) → slice_get events i ≡ Some event
    → CountsAlone old mid × ((before : List Event) → CountsEvents before old → CountsEvents (before ++ take i events) mid)
    → CountsAlone mid new → CountsOneMore event mid new
    → CountsAlone old new × ((before : List Event) → CountsEvents before old → CountsEvents (before ++ take (i + 1) events) new)
counted_more events i event old mid new at (alone, counts) more one = (
  record {
    sites = more.sites ∙ alone.sites;
    start = more.start ∙ alone.start;
    instances = more.instances ∙ alone.instances;
    nodes = more.nodes ∙ alone.nodes;
    problems = more.problems ∙ alone.problems;
    symptoms = more.symptoms ∙ alone.symptoms;
    groups = more.groups ∙ alone.groups;
    records = more.records ∙ alone.records;
  },
  λ before has.
      let joined = append_assoc before (take i events) (event ∷ []) ∙ ap (λ (es : List Event). before ++ es) (sym (take_more events i event at)) in
      subst (λ (es : List Event). CountsEvents es new) joined (one (before ++ take i events) (counts before has)),
)

-- ---- a record, counted before its events

-- the summary has one record more, where the line was one
abbrev pub CountsRecord : List ℕ → List Event → Summary → Summary → Type 0
CountsRecord bytes events old mid = (IsRecord bytes events × (mid ≡ one_record_more old)) ⊎ ((¬ IsRecord bytes events) × (mid ≡ old))

module _ (bytes : List ℕ) (events : List Event) (old mid : Summary) where
  pub record_keeps : CountsRecord bytes events old mid → (earlier : List Event) → CountsEvents earlier old → CountsEvents earlier mid
  record_keeps (inl (is, e)) earlier has = subst (λ (s : Summary). CountsEvents earlier s) (sym e) (record {
    skipped = has.skipped;
    refused = has.refused;
    diagnoses = has.diagnoses;
    sure = has.sure;
    unknown = has.unknown;
    thin = has.thin;
    books = has.books;
  })
  record_keeps (inr (not, e)) earlier has = subst (λ (s : Summary). CountsEvents earlier s) (sym e) has

  pub record_one : CountsRecord bytes events old mid → IsRecord bytes events → mid.records ≡ old.records + 1
  record_one (inl (is, e)) has = ap (λ (s : Summary). s.records) e
  record_one (inr (not, e)) has = absurd (not has)

  pub record_none : CountsRecord bytes events old mid → (¬ IsRecord bytes events) → mid.records ≡ old.records
  record_none (inl (is, e)) none = absurd (none is)
  record_none (inr (not, e)) none = ap (λ (s : Summary). s.records) e
