-- What jobs give, after files that have been judged.
use Rattle.std.specs.Prelude.{◌≡◌, ◌⊎◌, ℕ, ◌<◌, List, length, Option}
use Rattle.cb_model.specs.declared.node.GroupName.{GroupName}
use Rattle.cb_model.specs.declared.node.GroupName.TheVariants.{Least}
use Rattle.cb_model.specs.declared.node.NodeName.{NodeName}
use Rattle.cb_model.specs.declared.wish.Wish.{Wish}
use Rattle.cb_model.specs.declared.wish.Wish.TheVariants.{Plain, Cap}
use Rattle.cb_coding.specs.declared.book.Pair.{Pair}
use Rattle.cb_coding.specs.declared.group.Group.{Group}
use Rattle.cb_coding.specs.Groups.{codes_of}
use Rattle.cb_coding.specs.Pairs.{IsClosestPair}
use Rattle.cb_finding.specs.declared.finding.Finding.{Finding}
use Rattle.cb_finding.specs.Finding.{IsBurst}
use Rattle.cb_finding.specs.Matrix.{IsMatrix}
use Rattle.cb_network.specs.Topology.{Topology}
use Rattle.cb_cert.specs.declared.certificate.Certificate.{Certificate}
use Rattle.cb_cert.specs.Format.{IsCertificate}
use Rattle.cb_cert.specs.Lines.{text_of}
use Rattle.cb_validity.specs.declared.verdict.Accepted.{Accepted}
use Rattle.cb_validity.specs.Canonical.{IsCanonicalThin}
use Rattle.cb_validity.specs.Codebooks.{HasCodebook, IsCodebook, AreFirstClose, least_of}
use Rattle.cb_validity.specs.Totals.{HasFewEntries, HasManyEntries}
use Rattle.cb_validity.specs.Verdicts.{CertificateShows}
use Rattle.cb_pairs.specs.Fits.{group_limit}
use Rattle.cb_levels.specs.declared.levels.Levels.{Levels}
use Rattle.cb_levels.specs.declared.verdict.Proved.{Proved}
use Rattle.cb_levels.specs.Canonical.{AreCanonicalLevels}
use Rattle.cb_levels.specs.Checks.{ShowsReach}
use Rattle.cb_levels.specs.Format.{IsLevels}
use Rattle.cb_levels.specs.Text.{levels_text}
use Rattle.cb_levels.specs.Valid.{AreLevelsOf}
use Rattle.cb_network.specs.Nodes.{IsProblem}
use Rattle.cb_history.specs.Histories.{History, new_history}
use Rattle.cb_history.specs.Scripts.{Rewinds}
use Rattle.cb_history.specs.declared.script.LineReport.{LineReport}
use Rattle.cb_history.specs.declared.script.ScriptLine.{ScriptLine}
use Rattle.cb_text.specs.Names.{IsNodeText}
use Rattle.cb_report.specs.declared.fits.FoundFits.{FoundFits}
use Rattle.cb_report.specs.declared.fault.Fault.TheVariants as faults
use Rattle.cb_report.specs.CertificateTexts.{accepted_text}
use Rattle.cb_report.specs.FitsText.{fits_text}
use Rattle.cb_report.specs.Lines.{burst_text}
use Rattle.cb_report.specs.ChainTexts.{explained_text}
use Rattle.cb_report.specs.LevelTexts.{proved_text}
use Rattle.cb_report.specs.MatrixText.{matrix_text}
use Rattle.cb_report.specs.RewoundText.{rewound_text}
use Rattle.cb_outcome.specs.Explained.{ExplainsGroups}
use Rattle.cb_outcome.specs.Fits.{IsFoundFor}
use Rattle.cb_outcome.specs.Outcome.{Outcome, done, done_with, refused}

-- `burst`: what is found for the nodes
abbrev pub BurstGives : Topology → List NodeName → ℕ → Outcome → Type 0
BurstGives t nodes whole outcome = (finding : Finding) × IsBurst t nodes finding × (outcome ≡ done (burst_text finding) whole)

-- `matrix`: the columns, the groups with their codes, and how far the closest two are apart
pub record MatrixGives (t : Topology) (whole : ℕ) (outcome : Outcome) : Type 0 where
  pub columns : List NodeName
  pub groups : List Group
  pub matrix : IsMatrix t columns groups
  pub least : Option Pair
  pub least_is : IsClosestPair (length columns) (codes_of groups) least
  pub gives : outcome ≡ done (matrix_text columns groups least) whole

-- the canonical certificate of the codebook for the wish is written, whose entries are few
pub record WritesCodebook (t : Topology) (wish : Wish) (whole : ℕ) (outcome : Outcome) : Type 0 where
  pub few : HasFewEntries t
  pub certificate : Certificate
  pub is : IsCodebook t wish certificate
  pub of_format : IsCertificate certificate
  pub gives : outcome ≡ done (text_of certificate) whole

-- there is a codebook for the wish, but its certificate would have too many entries, and nothing is written
pub record RefusesMany (t : Topology) (wish : Wish) (whole : ℕ) (outcome : Outcome) : Type 0 where
  pub exists : HasCodebook t wish
  pub many : HasManyEntries t
  pub gives : outcome ≡ refused faults.LimitEntries whole

-- there is none for the distance, and the canonical certificate that two groups are too close is written beside the fault
pub record WritesThin (t : Topology) (wanted whole : ℕ) (outcome : Outcome) : Type 0 where
  pub first : GroupName
  pub second : NodeName
  pub distance : ℕ
  pub close : AreFirstClose t wanted first second distance
  pub certificate : Certificate
  pub canonical : IsCanonicalThin t (least_of first) second wanted distance certificate
  pub of_format : IsCertificate certificate
  pub gives : outcome ≡ done_with (text_of certificate) (faults.Distance wanted first (Least second) distance) whole

-- a distance may be refused, and a cap never is
abbrev pub RefusesWish : Topology → Wish → ℕ → Outcome → Type 0
RefusesWish t (Plain d) whole outcome = WritesThin t d whole outcome
RefusesWish t (Cap cap) whole outcome = ⊥

-- `codebook`: a certificate of the codebook for a wish, or one that there is none
abbrev pub CodebookGives : Topology → Wish → ℕ → Outcome → Type 0
CodebookGives t wish whole outcome = WritesCodebook t wish whole outcome ⊎ (RefusesMany t wish whole outcome ⊎ RefusesWish t wish whole outcome)

-- `verify`: what the certificate shows
abbrev pub VerifyGives : Topology → Certificate → ℕ → Outcome → Type 0
VerifyGives t c whole outcome = (accepted : Accepted) × CertificateShows t c accepted × (outcome ≡ done (accepted_text accepted) whole)

-- what fits the nodes is printed
pub record ListsFits (t : Topology) (nodes : List NodeName) (whole : ℕ) (outcome : Outcome) : Type 0 where
  pub columns : List NodeName
  pub groups : List Group
  pub matrix : IsMatrix t columns groups
  pub found : FoundFits
  pub is_found : IsFoundFor columns groups nodes found
  pub gives : outcome ≡ done (fits_text found) whole

-- there are too many groups, and nothing is printed
pub record RefusesGroups (t : Topology) (whole : ℕ) (outcome : Outcome) : Type 0 where
  pub columns : List NodeName
  pub groups : List Group
  pub matrix : IsMatrix t columns groups
  pub many : group_limit < length groups
  pub gives : outcome ≡ refused (faults.Groups (length groups)) whole

-- `pairs`: which group, or which two at once, fit the nodes
abbrev pub PairsGives : Topology → List NodeName → ℕ → Outcome → Type 0
PairsGives t nodes whole outcome = ListsFits t nodes whole outcome ⊎ RefusesGroups t whole outcome

-- `explain`: what is found for the nodes, and of each listed group the chains from its members to the columns that they cause
pub record ExplainGives (t : Topology) (nodes : List NodeName) (whole : ℕ) (outcome : Outcome) : Type 0 where
  pub finding : Finding
  pub burst : IsBurst t nodes finding
  pub chains : List (List (List NodeName))
  pub explains : ExplainsGroups t burst.columns finding.groups chains
  pub gives : outcome ≡ done (explained_text finding chains) whole

-- the word is the text of the node
abbrev pub NamesNode : List ℕ → NodeName → Type 0
NamesNode word node = IsNodeText word node.event node.instance

-- the canonical levels of the problem that the word names are written
pub record WritesLevels (t : Topology) (word : List ℕ) (whole : ℕ) (outcome : Outcome) : Type 0 where
  pub problem : NodeName
  pub named : NamesNode word problem
  pub is : IsProblem t problem
  pub levels : Levels
  pub canonical : AreCanonicalLevels t problem levels
  pub of_format : IsLevels levels
  pub gives : outcome ≡ done (levels_text levels) whole

-- the word names no problem, and nothing is written
pub record RefusesProblem (t : Topology) (word : List ℕ) (whole : ℕ) (outcome : Outcome) : Type 0 where
  pub none : (problem : NodeName) → NamesNode word problem → ¬ IsProblem t problem
  pub gives : outcome ≡ refused (faults.NoProblem word) whole

-- `levels`: how far each node is from the problem that the word names
abbrev pub LevelsGives : Topology → List ℕ → ℕ → Outcome → Type 0
LevelsGives t word whole outcome = WritesLevels t word whole outcome ⊎ RefusesProblem t word whole outcome

-- `prove`: what the levels show, which are those of their problem
pub record ProveGives (t : Topology) (levels : Levels) (whole : ℕ) (outcome : Outcome) : Type 0 where
  pub proved : Proved
  pub valid : AreLevelsOf t proved.root levels
  pub shows : ShowsReach t levels proved
  pub gives : outcome ≡ done (proved_text proved) whole

-- the history that a script leaves of a topology, with what is reported of its lines, and the matrix of the history's topology
pub record RewoundMatrix (t : Topology) (script : List ScriptLine) (depth : ℕ) : Type 0 where
  pub reports : List LineReport
  pub last : History
  pub rewinds : Rewinds depth (new_history t) script reports last
  pub columns : List NodeName
  pub groups : List Group
  pub matrix : IsMatrix last.now columns groups
  pub least : Option Pair
  pub least_is : IsClosestPair (length columns) (codes_of groups) least

-- what is reported, and then the lines of the matrix
abbrev pub text_of_rewound : {t : Topology} {script : List ScriptLine} {depth : ℕ} → RewoundMatrix t script depth → List ℕ
text_of_rewound r = rewound_text r.reports r.columns r.groups r.least

-- `rewind`: what is reported of the script's lines, and the matrix of the topology that they leave
abbrev pub RewindGives : Topology → List ScriptLine → ℕ → ℕ → Outcome → Type 0
RewindGives t script depth whole outcome = (rewound : RewoundMatrix t script depth) × (outcome ≡ done (text_of_rewound rewound) whole)
