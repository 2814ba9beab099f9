-- What outputs say of causes.
use Rattle.std.specs.Prelude.{◌≡◌, ◌↔◌, ℕ, ◌<◌, ◌≤◌, ◌++◌, List, [], ◌∷◌, length, map, Bool, Some, IsTrue}
use Rattle.std.specs.List.{Contains}
use Rattle.std.specs.List.Sorted.{IsStrictlyIncreasing}
use Rattle.cb_io.specs.Outside.{SinkReport, WritesAll}
use Rattle.cb_model.specs.declared.node.GroupName.{GroupName}
use Rattle.cb_model.specs.declared.node.GroupName.TheVariants.{Least}
use Rattle.cb_model.specs.declared.node.NodeName.{NodeName}
use Rattle.cb_coding.specs.declared.group.Group.{Group}
use Rattle.cb_coding.specs.Answers.{from_word}
use Rattle.cb_coding.specs.Distance.{all_columns}
use Rattle.cb_coding.specs.Groups.{codes_of}
use Rattle.cb_coding.specs.Pairs.{Good}
use Rattle.cb_finding.specs.declared.finding.Finding.{Finding}
use Rattle.cb_finding.specs.Finding.{IsBurst, named_groups, word_of}
use Rattle.cb_finding.specs.Matrix.{IsMatrix}
use Rattle.cb_network.specs.Topology.{Topology}
use Rattle.cb_levels.specs.declared.levels.Levels.{Levels}
use Rattle.cb_levels.specs.declared.verdict.Proved.{Proved}
use Rattle.cb_levels.specs.Canonical.{ListsLevels}
use Rattle.cb_levels.specs.Checks.{ShowsReach}
use Rattle.cb_network.specs.Nodes.{IsProblem}
use Rattle.cb_history.specs.Histories.{new_history, IsAfterMoves}
use Rattle.cb_history.specs.declared.script.ScriptLine.{ScriptLine}
use Rattle.cb_pairs.specs.declared.guess.Guess.{Guess}
use Rattle.cb_pairs.specs.Fits.{from_guess}
use Rattle.cb_pairs.specs.Guesses.{IsGuess, guess_code}
use Rattle.cb_cert.specs.declared.certificate.Certificate.{Certificate}
use Rattle.cb_validity.specs.Canonical.{IsCanonicalThin}
use Rattle.cb_validity.specs.Codebooks.{AreFirstClose, least_of}
use Rattle.cb_log.specs.declared.closed.Closed.{Closed}
use Rattle.cb_log.specs.declared.event.Event.{Event}
use Rattle.cb_log.specs.Entries.{records_of}
use Rattle.cb_log.specs.Whole.{Explains, OneForEach, is_thin, TellsThin}
use Rattle.cb_alarm.specs.Lines.{LogGives, log_lines}
use Rattle.cb_alarm.specs.Quiet.{LinesAlone}
use Rattle.cb_report.specs.FitsText.{fits_text}
use Rattle.cb_report.specs.ChainTexts.{explained_text}
use Rattle.cb_report.specs.LevelTexts.{proved_text}
use Rattle.cb_report.specs.Lines.{burst_text}
use Rattle.cb_report.specs.declared.fits.FoundFits.{FoundFits}
use Rattle.cb_report.specs.declared.fault.Fault.TheVariants as faults
use Rattle.cb_report.specs.EventTexts.{events_text}
use Rattle.cb_outcome.specs.Roles.{Wanted, Role}
use Rattle.cb_outcome.specs.Texts.{IsValidText, IsLevelText}
use Rattle.cb_outcome.specs.Explained.{ExplainsGroups}
use Rattle.cb_outcome.specs.Fits.{IsFoundFor}
use Rattle.cb_outcome.specs.Jobs.{NamesNode, RewoundMatrix, text_of_rewound}
use Rattle.cb_outcome.specs.Judged.{IsShortFor}
use Rattle.cb_outcome.specs.LogJobs.{Watch}
use Rattle.cb_outcome.specs.Seen.{Seen, SaysFault}

-- no group is nearer than the one at position `i`; `far` gives the distance of each
abbrev pub IsNearest : List Group → (ℕ → ℕ) → ℕ → Type 0
IsNearest groups far i = (i < length groups) × ((j : ℕ) → j < length groups → far i ≤ far j)

-- a group is listed exactly where none is nearer, and where one is no farther than its radius, it alone, and surely; `radius_of` gives
-- the radius of each
pub record ListsTheNearest (groups : List Group) (far radius_of : ℕ → ℕ) (finding : Finding) : Type 0 where
  pub places : List ℕ
  pub rise : IsStrictlyIncreasing places
  pub nearest : (i : ℕ) → Contains places i ↔ IsNearest groups far i
  pub listed : finding.groups ≡ named_groups groups places
  pub alone : (i : ℕ) → i < length groups → far i ≤ radius_of i
      → (finding.groups ≡ named_groups groups (i ∷ [])) × IsTrue finding.sure

-- at how many of a codebook's columns the raised nodes differ from the code of the group at a position
abbrev pub far_from : List ℕ → List NodeName → List Group → List NodeName → ℕ → ℕ
far_from book columns groups nodes i = from_word book (codes_of groups) (word_of columns nodes) i

-- a guess with the code of another
pub record HasCodeOf (codes : List (List Bool)) (g h : Guess) : Type 0 where
  pub is : IsGuess codes h
  pub same : guess_code codes h ≡ guess_code codes g

-- `burst` printed exactly the groups nearest to the nodes, by codes from what causes what
pub record PrintsFinding (t : Topology) (nodes : List NodeName) (out out' : SinkReport) : Type 0 where
  pub finding : Finding
  pub burst : IsBurst t nodes finding
  pub printed : WritesAll out out' (burst_text finding)
  pub lists : ListsTheNearest burst.groups (far_from (all_columns (length burst.columns)) burst.columns burst.groups nodes) (λ i. finding.radius) finding

-- What fits the nodes was printed: exactly the guesses nearest to them, by codes from what causes what. Where they differ from the code of a guess
-- at no more columns than the radius, exactly the guesses with that code are listed, and it is sure.
pub record PrintsFits (t : Topology) (nodes : List NodeName) (out out' : SinkReport) : Type 0 where
  pub columns : List NodeName
  pub groups : List Group
  pub matrix : IsMatrix t columns groups
  pub found : FoundFits
  pub is_found : IsFoundFor columns groups nodes found
  pub printed : WritesAll out out' (fits_text found)
  pub within : (g : Guess) → IsGuess (codes_of groups) g → from_guess (length columns) (codes_of groups) (word_of columns nodes) g ≤ found.radius
      → IsTrue found.sure × ((h : Guess) → Contains is_found.fits.guesses h ↔ HasCodeOf (codes_of groups) g h)

-- The events of a log were printed: there is one diagnosis for each window, in the order in which the windows close, and each lists exactly
-- the groups nearest to the window's nodes, and one that is no farther than its radius alone; each thin event names two groups that are
-- closer than wanted, with their distance; and of each source the diagnoses are those of the lines that it alone would have made.
pub record PrintsEvents (watch : Watch) (log : List ℕ) (out out' : SinkReport) : Type 0 where
  pub events : List Event
  pub gives : LogGives watch.from watch.mode watch.window log events
  pub printed : WritesAll out out' (watch.opening ++ events_text events)
  pub one_each : OneForEach watch.from watch.mode watch.window (records_of gives.entries) events
  pub lists : (c : Closed) (event : Event) (e : Explains watch.from watch.mode watch.window (records_of gives.entries) c event)
      → ListsTheNearest e.basis.groups (far_from e.basis.kept e.basis.columns e.basis.groups c.nodes) e.is.found.radius_of e.is.finding
  pub thin : (event : Event) → Contains events event → IsTrue (is_thin event)
      → TellsThin watch.from watch.mode watch.window (records_of gives.entries) event
  pub alone : (source : List ℕ) → LinesAlone watch.from watch.mode watch.window source (log_lines log) events

-- what was printed is a text that a certificate file may have, and it spells a certificate that is valid for the topology
pub record PrintsValid (t : Topology) (out out' : SinkReport) : Type 0 where
  pub text : List ℕ
  pub certificate : Certificate
  pub valid : IsValidText t text certificate
  pub short : IsShortFor (Role.certificate Wanted.any) text
  pub printed : WritesAll out out' text

-- `codebook` refused the distance. Its line names the first two groups that are closer over all columns than wanted, with their distance, and
-- the valid certificate that was printed is the canonical one of these two. Not all groups are as far apart as wanted, and that is more than 1.
pub record RefusesDistance (t : Topology) (wanted : ℕ) (s : Seen) : Type 0 where
  pub first : GroupName
  pub second : NodeName
  pub distance : ℕ
  pub close : AreFirstClose t wanted first second distance
  pub says : SaysFault (Some (faults.Distance wanted first (Least second) distance)) s.err s.err_after
  pub prints : PrintsValid t s.out s.out_after
  pub canonical : IsCanonicalThin t (least_of first) second wanted distance prints.certificate
  pub not_good : ¬ Good (codes_of close.groups) (all_columns (length close.columns)) wanted
  pub more_than_one : 1 < wanted

-- `explain` printed exactly the groups nearest to the nodes, and of each the short chains from its members to the columns that they cause
pub record PrintsChains (t : Topology) (nodes : List NodeName) (out out' : SinkReport) : Type 0 where
  pub finding : Finding
  pub burst : IsBurst t nodes finding
  pub lists : ListsTheNearest burst.groups (far_from (all_columns (length burst.columns)) burst.columns burst.groups nodes) (λ i. finding.radius) finding
  pub chains : List (List (List NodeName))
  pub explains : ExplainsGroups t burst.columns finding.groups chains
  pub printed : WritesAll out out' (explained_text finding chains)

-- what was printed is a text that a file of levels may have: it spells valid levels, which list exactly what the problem that the word names
-- causes, each node with its level
pub record PrintsLevels (t : Topology) (word : List ℕ) (out out' : SinkReport) : Type 0 where
  pub problem : NodeName
  pub named : NamesNode word problem
  pub is : IsProblem t problem
  pub levels : Levels
  pub lists : ListsLevels t problem levels
  pub text : List ℕ
  pub valid : IsLevelText t text levels
  pub short : IsShortFor Role.levels text
  pub printed : WritesAll out out' text

-- the levels list exactly what the printed problem causes, each node with its level, and the printed numbers are theirs
pub record PrintsProof (t : Topology) (levels : Levels) (out out' : SinkReport) : Type 0 where
  pub proved : Proved
  pub lists : ListsLevels t proved.root levels
  pub shows : ShowsReach t levels proved
  pub printed : WritesAll out out' (proved_text proved)

-- `rewind` printed what is reported of the script, and the matrix of the topology that its edits and undos in order lead to, each edit accepted or
-- refused and each undo by the history as it was then; no more earlier topologies were kept than the depth
pub record PrintsRewound (t : Topology) (script : List ScriptLine) (depth : ℕ) (out out' : SinkReport) : Type 0 where
  pub rewound : RewoundMatrix t script depth
  pub moves : IsAfterMoves depth (new_history t) (map (λ line. line.what) script) rewound.last
  pub few : length rewound.last.before ≤ depth
  pub printed : WritesAll out out' (text_of_rewound rewound)
