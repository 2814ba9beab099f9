-- Steps of a log that is followed to its end, or summed up.
use Rattle.std.proofs.Common.{◌≡◌, ◌∙◌, ◌≤◌, ◌+◌, ℕ, Bool, true, false, List, [], ◌∷◌, ◌++◌, length, take, refl, sym, ap, subst, arith, Result, Ok, Err}
use Rattle.std.specs.Prelude.{IfSome}
use Rattle.cb_change.specs.Costs.{IsOpenCost}
use Rattle.cb_io.specs.LineReading.{Reading, unread, coming}
use Rattle.cb_io.specs.Outside.{FilesReport, SinkReport, left_of, ReadsEach, ReadsPrefix}
use Rattle.cb_text.specs.Lines.{lines_of}
use Rattle.cb_model.specs.declared.wish.Wish.{Wish}
use Rattle.cb_network.specs.Regular.{IsRegular}
use Rattle.cb_network.specs.Topology.{Topology}
use Rattle.cb_log.specs.Basis.{Mode, wanted}
use Rattle.cb_log.specs.Entries.{records_of}
use Rattle.cb_log.specs.Events.{IsNetwork}
use Rattle.cb_log.specs.Network.{IsNow}
use Rattle.cb_alarm.specs.Lines.{NumberedLine, numbered_line, log_lines, log_line_limit}
use Rattle.cb_gen.specs.Log.{log_text}
use Rattle.cb_outcome.specs.Commands.Correlate.{correlate_reads}
use Rattle.cb_report.specs.declared.summary.Summary.{Summary}
use Rattle.cb_outcome.specs.Contents.{files_from, log_from}
use Rattle.cb_outcome.specs.Grown.{MakesUp}
use Rattle.cb_outcome.specs.Judged.{nothing, network, PassFrom}
use Rattle.cb_outcome.specs.LogJobs.{Watch, log_limit}
use Rattle.cb_outcome.specs.Reading.{WhereReported, LeavesRest}
use Rattle.cb_outcome.specs.Costs.{CountsLines, CountsLog, lines_taken, CountsCorrelate, CountsGrow}
use Rattle.cb_outcome.proofs.GrownOne.{made_up_one}
use Rattle.cb_outcome.proofs.LogPrefixes as prefixes
use Rattle.cb_session.specs.State.{State, network_of}
use Rattle.cb_log_commands.specs.declared.stop.LogStop.{LogStop}
use Rattle.cb_log_commands.specs.Counting.{CountsLine, PieceTakes, PieceCounts, HasCounted, CountsOn, CountsTaken, CountsSummed}
use Rattle.cb_log_commands.specs.Summing.{HasSummedUp}
use Rattle.cb_log_commands.specs.Telling.{numbered, Going, GoesOrEnds}
use Rattle.cb_file_kinds.proofs.Chain.{if_some2, of_all, leaves_rest}
use Rattle.cb_log_commands.proofs.Counting.{counts_more, counts_prefix}
use Rattle.cb_file_kinds.proofs.Searched.{same_network, pass_is_one}
use Rattle.cb_log_commands.proofs.Following.{there}
use Rattle.cb_log_commands.proofs.Lines.{numbered_more}

-- where no step is counted, no bound is passed
pub none_counts : (t : Topology) (lines : List NumberedLine) (steps steps' : ℕ) → steps' ≡ steps → CountsLines t lines steps steps'
none_counts t lines steps steps' same = λ cost is. omega (arith, same)

-- ---- a log that is followed

-- nothing was given yet
pub counts_begin : (watch : Watch) (wish : Wish) → watch.mode ≡ wanted wish → (now : FilesReport) (name : List ℕ) (steps : ℕ)
    → HasCounted watch now (unread name log_line_limit log_limit) steps steps
counts_begin watch wish mode now name steps = record {
  wish = wish;
  mode = mode;
  counts = of_all (left_of now name) _ (λ log. none_counts watch.from (log_lines (take 0 log)) steps steps refl);
}

-- nor taken
pub takes_nothing : (t : Topology) (now after : FilesReport) (name : List ℕ) (steps : ℕ) → CountsTaken t name now after steps steps
takes_nothing t now after name steps = of_all (left_of now name) _ (λ log taken. none_counts t (lines_taken taken.0 taken.1) steps steps refl)

-- it doesn't go on after a stop
pub stops_counting : (watch : Watch) (now : FilesReport) (reader : Reading) (start steps : ℕ) (result : Result Bool LogStop) (stop : LogStop) → result ≡ Err stop
    → CountsOn watch now reader start steps result
stops_counting watch now reader start steps result stop is = subst (λ (r : Result Bool LogStop). CountsOn watch now reader start steps r) (sym is) tt

module _ (watch : Watch) (now : FilesReport) (out : SinkReport) (reader : Reading) (files : FilesReport) (out_now : SinkReport) (session : State) (start steps : ℕ)
    (going : Going watch now out reader files out_now session) (counted : HasCounted watch now reader start steps) (steps' : ℕ) where
  pub piece_taken : (after : FilesReport) → IfSome (coming reader files) (PieceTakes reader after session steps steps')
      → CountsTaken watch.from reader.name now after start steps'
  piece_taken after takes = if_some2 (left_of now reader.name) _ _ _ (λ log has counts taken.
      there (coming reader files) (PieceTakes reader after session steps steps') has.rest has.comes takes watch log start (record {
        regular = going.regular;
        wish = counted.wish;
        mode = counted.mode;
        reported = has.reported;
        is_at = has.is_at;
        counts = counts;
      }) taken) going.reported counted.counts

  pub piece_counted : (reader' : Reading) → reader'.name ≡ reader.name → IfSome (coming reader files) (PieceCounts reader reader' session steps steps')
      → CountsOn watch now reader' start steps' (Ok reader'.ended)
  piece_counted reader' name says = by_end reader'.ended refl
    where
      by_end : (b : Bool) → reader'.ended ≡ b → CountsOn watch now reader' start steps' (Ok b)
      by_end true e = tt
      by_end false e = record {
        wish = counted.wish;
        mode = counted.mode;
        counts = subst (λ (n : List ℕ). IfSome (left_of now n) (λ log. CountsLines watch.from (log_lines (take reader'.given log)) start steps')) (sym name)
            (if_some2 (left_of now reader.name) _ _ _ (λ log has counts.
            there (coming reader files) (PieceCounts reader reader' session steps steps') has.rest has.comes says watch log start (record {
              regular = going.regular;
              wish = counted.wish;
              mode = counted.mode;
              reported = has.reported;
              is_at = has.is_at;
              counts = counts;
            }) e) going.reported counted.counts);
      }

-- where it wasn't the last, it goes on
pub goes_further_on : (watch : Watch) (now : FilesReport) (out : SinkReport) (reader : Reading) (files : FilesReport) (out' : SinkReport) (session : State) (b : Bool)
    → b ≡ false → GoesOrEnds watch now out reader files out' session (Ok b) → Going watch now out reader files out' session
goes_further_on watch now out reader files out' session b e goes =
    subst (λ (v : Bool). GoesOrEnds watch now out reader files out' session (Ok v)) e goes

pub counts_further_on : (watch : Watch) (now : FilesReport) (reader : Reading) (start steps : ℕ) (b : Bool) → b ≡ false
    → CountsOn watch now reader start steps (Ok b) → HasCounted watch now reader start steps
counts_further_on watch now reader start steps b e counts = subst (λ (v : Bool). CountsOn watch now reader start steps (Ok v)) e counts

-- ---- `correlate`

module _ (model topology log : List ℕ) (old : FilesReport) where
  -- no step is counted
  pub correlate_none : (after : FilesReport) (steps steps' : ℕ) → steps' ≡ steps
      → WhereReported old (λ left. CountsCorrelate left (correlate_reads model topology log) log after steps steps')
  correlate_none after steps steps' same = of_all old.left _ (λ left. record {
    most = λ t passed taken searched is cost costs. omega (arith, same);
    none = λ not. same;
    missed = λ not. same;
  })

  -- the topology was searched, and nothing was read of the log
  pub correlate_opened : (after : FilesReport) (t : Topology) (steps steps' : ℕ) → WhereReported old (λ left. PassFrom nothing (files_from left (correlate_reads model topology log)) (network t))
      → ReadsEach old after (model ∷ topology ∷ []) → ((cost : ℕ) → IsOpenCost t cost → steps' ≤ steps + cost)
      → WhereReported old (λ left. CountsCorrelate left (correlate_reads model topology log) log after steps steps')
  correlate_opened after t steps steps' passed read opened = if_some2 old.left _ _ _ (λ left here known. record {
    most = λ u there taken searched is cost costs.
        let same : network u ≡ network t = pass_is_one nothing (files_from left (correlate_reads model topology log)) (network u) (network t) tt there here in
        let low = opened searched (subst (λ (v : Topology). IsOpenCost v searched) (same_network u t same) is) in
        omega (arith, low);
    none = λ not. absurd (not t here);
    missed = λ not. absurd (not ([], log_from left (correlate_reads model topology log) log, refl, known log));
  }) passed read

  -- and the log was followed
  pub correlate_followed : (now after : FilesReport) (t : Topology) (steps mid steps' : ℕ)
      → WhereReported old (λ left. PassFrom nothing (files_from left (correlate_reads model topology log)) (network t))
      → ReadsEach old now (model ∷ topology ∷ []) → ReadsPrefix now after log → ((cost : ℕ) → IsOpenCost t cost → mid ≤ steps + cost) → CountsTaken t log now after mid steps'
      → WhereReported old (λ left. CountsCorrelate left (correlate_reads model topology log) log after steps steps')
  correlate_followed now after t steps mid steps' passed read (prefix, came) opened follows = if_some2 old.left _ _ _ (λ left here known. record {
    most = λ u given taken searched is cost costs.
        let same : u ≡ t = same_network u t (pass_is_one nothing (files_from left (correlate_reads model topology log)) (network u) (network t) tt given here) in
        let low = opened searched (subst (λ (v : Topology). IsOpenCost v searched) same is) in
        let counts = there (left_of now log) (λ bytes. (prefix : LeavesRest bytes (left_of after log)) → CountsLines t (lines_taken prefix.0 prefix.1) mid steps')
        (log_from left (correlate_reads model topology log) log) (known log) follows taken in
        let more = subst (λ (v : Topology). CountsLines v (lines_taken taken.0 taken.1) mid steps') (sym same) counts cost costs in
        omega (arith, low, more);
    none = λ not. absurd (not t here);
    missed = λ not. absurd (not (leaves_rest (left_of now log) (left_of after log) (log_from left (correlate_reads model topology log) log) prefix (known log) came));
  }) passed read

-- ---- a log that is summed up

-- these lines were taken since a session and a summary
abbrev pub StepsSoFar : State → Summary → ℕ → ℕ → List (List ℕ) → Type 0
StepsSoFar old summary start steps before = CountsSummed old summary (numbered before) start steps

pub steps_none : (old : State) (summary : Summary) (start : ℕ) → StepsSoFar old summary start start []
steps_none old summary start = λ opening wish regular mode has. none_counts opening [] start start refl

module _ (old mid : State) (summary summary' : Summary) (start steps steps' : ℕ) (before : List (List ℕ)) (line : List ℕ) where
  -- one line more
  pub steps_more : StepsSoFar old summary start steps before → mid.mode ≡ old.mode
      → ((opening : Topology) → IsRegular opening.model → HasSummedUp opening [] old summary → HasSummedUp opening (numbered before) mid summary')
      → CountsLine (network_of mid) (numbered_line (length before + 1, line)) steps steps' → StepsSoFar old summary start steps' (before ++ line ∷ [])
  steps_more so same takes counts = λ opening wish regular mode has.
      let here = takes opening regular has in
      let now : IsNow opening (records_of here.entries) (network_of mid) =
      subst (λ (m : Mode). IsNetwork opening m (records_of here.entries) (network_of mid)) (same ∙ mode) here.stands.network in
      subst (λ (v : List NumberedLine). CountsLines opening v start steps') (sym (numbered_more before line))
      (counts_more opening regular (numbered before) here.entries here.come (network_of mid) now (numbered_line (length before + 1, line)) start steps steps'
      (so opening wish regular mode has) counts)

-- the first lines of a text cost no more than all
pub steps_prefix : (old : State) (summary : Summary) (start steps : ℕ) (text : List ℕ) (before rest : List (List ℕ)) → before ++ rest ≡ lines_of text
    → StepsSoFar old summary start steps before → CountsSummed old summary (log_lines text) start steps
steps_prefix old summary start steps text before rest whole so = λ opening wish regular mode has.
    let (later, are) = prefixes.numbered 1 before rest in
    let all : log_lines text ≡ numbered before ++ later = ap numbered (sym whole) ∙ are in
    subst (λ (v : List NumberedLine). CountsLines opening v start steps) (sym all) (counts_prefix opening (numbered before) later start steps (so opening wish regular mode has))

-- and all its lines are its lines
pub steps_all : (old : State) (summary : Summary) (start steps : ℕ) (text : List ℕ) → StepsSoFar old summary start steps (lines_of text)
    → CountsSummed old summary (log_lines text) start steps
steps_all old summary start steps text so = so

-- ---- `grow`

-- no step is counted
pub grow_none : (sites start steps steps' : ℕ) → steps' ≡ steps → CountsGrow sites start steps steps'
grow_none sites start steps steps' same = record { most = λ t made searched is cost costs. omega (arith, same); none = λ not. same }

-- the network was made up, and its log followed
pub grow_counts : (sites start : ℕ) (t : Topology) (steps steps' : ℕ) → MakesUp sites t → CountsLog t (log_text sites start) steps steps' → CountsGrow sites start steps steps'
grow_counts sites start t steps steps' made counts = record {
  most = λ u other. subst (λ (v : Topology). CountsLog v (log_text sites start) steps steps') (made_up_one sites t u made other) counts;
  none = λ not. absurd (not t made);
}

-- the log cost something after the search
pub log_counts : (t : Topology) (log : List ℕ) (steps mid steps' : ℕ) → ((cost : ℕ) → IsOpenCost t cost → mid ≤ steps + cost)
    → CountsLines t (log_lines log) mid steps' → CountsLog t log steps steps'
log_counts t log steps mid steps' opened counts = λ searched is cost costs.
    let low = opened searched is in
    let more = counts cost costs in
    omega (arith, low, more)
