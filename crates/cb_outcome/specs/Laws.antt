-- What holds of outcomes, whatever the program does.
use Rattle.std.specs.Prelude.{◌≡◌, ◌≢◌, ◌⊎◌, ◌≤◌, ℕ, ◌++◌, List, [], ◌∷◌, length, codes, Option, None, Some, IsTrue}
use Rattle.std.specs.List.{Contains}
use Rattle.cb_io.specs.Outside.{bytes_left_of, contents}
use Rattle.cb_model.specs.declared.node.NodeName.{NodeName}
use Rattle.cb_model.specs.declared.wish.Wish.{Wish}
use Rattle.cb_model.specs.NodeOrder.{node_cmp}
use Rattle.cb_model.specs.Order.{Rises}
use Rattle.cb_network.specs.Regular.{IsRegular}
use Rattle.cb_network.specs.Sound.{Sound}
use Rattle.cb_network.specs.Topology.{Topology}
use Rattle.cb_log.specs.declared.event.Event.{Event}
use Rattle.cb_log.specs.declared.record.Record.{Record}
use Rattle.cb_log.specs.Basis.{Mode}
use Rattle.cb_log.specs.Entries.{records_of}
use Rattle.cb_log.specs.Whole.{is_thin, TellsThin}
use Rattle.cb_alarm.specs.Lines.{LogGives, PrefixGives}
use Rattle.cb_report.specs.declared.summary.Summary.{Summary}
use Rattle.cb_report.specs.declared.fault.Fault.{Fault}
use Rattle.cb_request.specs.Commands.{request_of}
use Rattle.cb_request.specs.declared.request.Request.{Request}
use Rattle.cb_outcome.specs.Outcome.{Outcome}
use Rattle.cb_outcome.specs.Judged.{File, Known, nothing, parsed, network, raised, certified, levelled, scripted, PassFrom}
use Rattle.cb_outcome.specs.Contents.{Left, Reads, files_from, log_from}
use Rattle.cb_outcome.specs.Costs.{IsExplainCost}
use Rattle.cb_outcome.specs.Command.{Command, reads_of, file_words, TaskFaults, JobGives}
use Rattle.cb_outcome.specs.Commands.Codebook.{codebook}
use Rattle.cb_outcome.specs.Commands.Verify.{verify}
use Rattle.cb_outcome.specs.Commands.Levels.{levels}
use Rattle.cb_outcome.specs.Commands.Prove.{prove}
use Rattle.cb_outcome.specs.Asked.{command_for}
use Rattle.cb_outcome.specs.Grown.{SumsUpLog}
use Rattle.cb_outcome.specs.LogJobs.{Watch, PrefixTells, log_limit}
use Rattle.cb_outcome.specs.Answer.{IsOutcome, IsDue}
use Rattle.cb_outcome.specs.Point.{Point}

-- the asked and the bytes left of each name have one outcome
abbrev pub OutcomeIsOne : Type 0
OutcomeIsOne = (asked : Option Request) (left : Left) (a b : Outcome) → IsOutcome (command_for asked) left a → IsOutcome (command_for asked) left b → a ≡ b

-- each of these names has the same bytes left
abbrev pub HaveSameBytes : List (List ℕ) → Left → Left → Type 0
HaveSameBytes names left left' = (name : List ℕ) → Contains names name → bytes_left_of left' name ≡ bytes_left_of left name

-- the outcome goes by the bytes of the file words alone: other names, their order and what stands beside them make no difference
abbrev pub OutcomeGoesByBytes : Type 0
OutcomeGoesByBytes = (asked : Option Request) (left left' : Left) (a : Outcome) → HaveSameBytes (file_words (command_for asked)) left left'
    → IsOutcome (command_for asked) left a → IsOutcome (command_for asked) left' a

-- the bytes begin with these
abbrev pub BeginsWith : List ℕ → List ℕ → Type 0
BeginsWith bytes prefix = (rest : List ℕ) × (bytes ≡ prefix ++ rest)

-- the events of the first bytes of a log are the first events of more bytes of it, and of the whole log
abbrev pub PrefixGivesPrefix : Type 0
PrefixGivesPrefix = (t : Topology) (mode : Mode) (window : ℕ) (prefix more : List ℕ) (due all : List Event) → IsRegular t.model
    → PrefixGives t mode window prefix due → PrefixGives t mode window (prefix ++ more) all ⊎ LogGives t mode window (prefix ++ more) all
    → (rest : List Event) × (all ≡ due ++ rest)

-- what is due at any point is a prefix of the outcome's output
abbrev pub DueIsPrefix : Type 0
DueIsPrefix = (asked : Option Request) (left : Left) (point : Point) (due : List ℕ) (outcome : Outcome)
    → IsOutcome (command_for asked) left outcome → IsDue (command_for asked) left point due → BeginsWith outcome.out due

-- each thin event of what is due, once a number of bytes of a log was taken, names two groups that are closer than wanted, in the topology of
-- that moment
abbrev pub PrefixThinsAreClose : Type 0
PrefixThinsAreClose = (watch : Watch) (prefix out : List ℕ) (tells : PrefixTells watch prefix out) (event : Event) → Contains tells.0 event
    → IsTrue (is_thin event) → (records : List Record) × TellsThin watch.from watch.mode watch.window records event

-- and so does each thin event of a log that is summed up
abbrev pub SummedThinsAreClose : Type 0
SummedThinsAreClose = (t : Topology) (mode : Mode) (w : ℕ) (log : List ℕ) (summary : Summary) (sums : SumsUpLog t mode w log summary) (event : Event)
    → Contains sums.events event → IsTrue (is_thin event) → TellsThin t mode w (records_of sums.gives.entries) event

-- the topology that is known, if one is, is sound, and its model regular
abbrev pub HasSoundTopology : Known → Type 0
HasSoundTopology nothing = Unit {0}
HasSoundTopology (parsed tree) = Unit {0}
HasSoundTopology (network t) = Sound t × IsRegular t.model
HasSoundTopology (raised t nodes) = Sound t × IsRegular t.model
HasSoundTopology (certified t c) = Sound t × IsRegular t.model
HasSoundTopology (levelled t levels) = Sound t × IsRegular t.model
HasSoundTopology (scripted t script) = Sound t × IsRegular t.model

-- so is what is known once files pass: what it costs to search such a topology, and to follow a log over it, exists
abbrev pub PassedAreSound : Type 0
PassedAreSound = (files : List File) (known : Known) → PassFrom nothing files known → HasSoundTopology known

-- for raised nodes in order there is a number that is the cost of `explain`
abbrev pub ExplainCostExists : Type 0
ExplainCostExists = (t : Topology) (nodes : List NodeName) → IsRegular t.model → Sound t → Rises node_cmp nodes → (cost : ℕ) × IsExplainCost t nodes cost

-- where all judged files pass, the outcome is what the task gives: no file is refused
abbrev pub PassedGoToJob : Type 0
PassedGoToJob = (asked : Option Request) (left : Left) (known : Known) (outcome : Outcome)
    → PassFrom nothing (files_from left (reads_of (command_for asked))) known → IsOutcome (command_for asked) left outcome
    → (whole : ℕ) × JobGives left (command_for asked) known whole outcome

-- the log, where there is one, isn't too long
abbrev pub HasShortLog : Left → Reads → Type 0
HasShortLog left reads = (name : List ℕ) → reads.logs ≡ name ∷ [] → length (log_from left reads name) ≤ log_limit

-- nothing is wrong but what the task of the command may end with
abbrev pub EndsWell : Command → Outcome → Type 0
EndsWell c outcome = (fault : Fault) → outcome.fault ≡ Some fault → TaskFaults c.task fault

-- where all judged files pass, and the log isn't too long, only what the task may end with is wrong
abbrev pub PassedEndWell : Type 0
PassedEndWell = (asked : Option Request) (left : Left) (known : Known) (outcome : Outcome)
    → PassFrom nothing (files_from left (reads_of (command_for asked))) known → HasShortLog left (reads_of (command_for asked))
    → IsOutcome (command_for asked) left outcome → EndsWell (command_for asked) outcome

-- an outcome without a fault has read each file word whole
abbrev pub DoneReadsAll : Type 0
DoneReadsAll = (asked : Option Request) (left : Left) (outcome : Outcome) → IsOutcome (command_for asked) left outcome → outcome.fault ≡ None
    → outcome.whole ≡ length (file_words (command_for asked))

-- the numbers that words ask with are in the range of the command
abbrev pub AskedIsInRange : Type 0
AskedIsInRange = (words : List (List ℕ)) → (command_for (request_of words)).range

-- the file words of `verify` and `prove` are their three files, those of `levels` the two before its node, and words of no command name none
abbrev pub FileWordsAreRead : Type 0
FileWordsAreRead = (m t c : List ℕ) → (file_words (command_for (request_of (codes "verify" ∷ m ∷ t ∷ c ∷ []))) ≡ m ∷ t ∷ c ∷ [])
    × (file_words (command_for (request_of (codes "prove" ∷ m ∷ t ∷ c ∷ []))) ≡ m ∷ t ∷ c ∷ [])
    × (file_words (command_for (request_of (codes "levels" ∷ m ∷ t ∷ codes "Down@p1" ∷ []))) ≡ m ∷ t ∷ [])
    × (file_words (command_for (request_of (codes "models" ∷ m ∷ []))) ≡ [])

-- a model and a topology have the same bytes for both
pub record HaveSameNetwork (left left' : Left) (model topology : List ℕ) : Type 0 where
  pub model_is : contents left' [] model ≡ contents left [] model
  pub topology_is : contents left' (model ∷ []) topology ≡ contents left (model ∷ []) topology

-- what `codebook` writes of a network, be it of its codebook or that there is none, `verify` accepts for the same files
abbrev pub WrittenIsAccepted : Type 0
WrittenIsAccepted = (left left' : Left) (model topology certificate : List ℕ) (wish : Wish) (a b : Outcome)
    → HaveSameNetwork left left' model topology → IsOutcome (codebook model topology wish) left a → a.out ≢ []
    → contents left' (model ∷ topology ∷ []) certificate ≡ a.out → IsOutcome (verify model topology certificate) left' b
    → b.fault ≡ None

-- what `levels` writes of a network, `prove` accepts for the same files
abbrev pub LevelsAreAccepted : Type 0
LevelsAreAccepted = (left left' : Left) (model topology word name : List ℕ) (a b : Outcome)
    → HaveSameNetwork left left' model topology → IsOutcome (levels model topology word) left a → a.out ≢ []
    → contents left' (model ∷ topology ∷ []) name ≡ a.out → IsOutcome (prove model topology name) left' b
    → b.fault ≡ None
