-- What holds of certificates, whatever the program does.
use Rattle.std.specs.Prelude.{◌≡◌, ◌↔◌, Result, Err, ℕ, ◌<◌, ◌≤◌, List, [], ◌∷◌, ◌++◌, length, Bool, IsTrue, ⊤, Option, None, Some, slice_get}
use Rattle.std.specs.List.{All, AllZip}
use Rattle.cb_model.specs.declared.node.NodeName.{NodeName}
use Rattle.cb_model.specs.declared.wish.Wish.TheVariants.{Cap}
use Rattle.cb_model.specs.Order.{Rises}
use Rattle.cb_model.specs.NodeOrder.{node_cmp}
use Rattle.cb_coding.specs.declared.group.Group.{Group}
use Rattle.cb_coding.specs.declared.book.Answer.{Answer}
use Rattle.cb_coding.specs.Answers.{IsAnswer, from_word, radius}
use Rattle.cb_coding.specs.Distance.{distance, all_columns}
use Rattle.cb_coding.specs.Groups.{codes_of, zeros}
use Rattle.cb_coding.specs.Needs.{capped_need}
use Rattle.cb_coding.specs.Pairs.{Good, GoodFor}
use Rattle.cb_coding.specs.Radii.{AreRadii, radius_at}
use Rattle.cb_coding.specs.Used.{IsAnswerFor}
use Rattle.cb_network.specs.Topology.{Topology}
use Rattle.cb_network.specs.Nodes.{IsProblem, AreColumns}
use Rattle.cb_network.specs.Sound.{Sound}
use Rattle.cb_model.specs.WellTyped.{HasNames}
use Rattle.cb_cert.specs.Format.{IsWanted, IsCertificate, entry_limit, column_limit}
use Rattle.cb_network.specs.Causes.{Causes}
use Rattle.cb_finding.specs.Matrix.{IsCode, IsMatrix}
use Rattle.cb_cert.specs.declared.certificate.Span.{Span}
use Rattle.cb_cert.specs.declared.certificate.Side.{Side}
use Rattle.cb_cert.specs.declared.certificate.Certificate.{Certificate}
use Rattle.cb_cert.specs.declared.certificate.Certificate.TheVariants.{Book, Capped, Thin}
use Rattle.cb_validity.specs.declared.verdict.Rejected.{Rejected}
use Rattle.cb_validity.specs.Spans.{AreNodes, IsSpanOf, ListsNode}
use Rattle.cb_validity.specs.Reading.{MakeGroups, ArePlaces}
use Rattle.cb_validity.specs.Valid.{AreColumnNumbers, AreSpans, IsSide, IsSpanOfProblem, IsClose, IsValid}
use Rattle.cb_validity.specs.Canonical.{IsCanonicalSpan, IsCanonicalBook, IsCanonicalCapped, IsCanonicalThin}
use Rattle.cb_validity.specs.Checks.{Check, AreChecks, Passes, IsFirstFail, Judges}
use Rattle.cb_change.specs.Costs.{IsOpenCost}
use Rattle.cb_validity.specs.Totals.{IsTotalReach, HasFewEntries, HasManyEntries}
use Rattle.cb_validity.specs.Verdicts.{TellsWhy, entries_of}

-- a span lists exactly the nodes that its root causes
abbrev pub SpanListsCaused : Type 0
SpanListsCaused = (t : Topology) (nodes : List NodeName) (root : NodeName) (span : Span) → IsSpanOf t nodes root span
    → (n : NodeName) → ListsNode nodes span n ↔ Causes t root n

-- the groups that the spans make are the topology's
abbrev pub SpansMakeMatrix : Type 0
SpansMakeMatrix = (t : Topology) (nodes : List NodeName) (spans : List Span) (columns : List NodeName) (groups : List Group)
    → AreSpans t nodes spans → MakeGroups t nodes spans columns groups ↔ IsMatrix t columns groups

-- certificates are valid exactly where all their checks are passed
abbrev pub ValidPassesAll : Type 0
ValidPassesAll = (t : Topology) (c : Certificate) (checks : List Check) → AreChecks t c checks
    → IsValid t c ↔ All (Passes t c) checks

-- a certificate is rejected for one reason
abbrev pub FirstFailIsOne : Type 0
FirstFailIsOne = (t : Topology) (c : Certificate) (a b : Rejected) → IsFirstFail t c a → IsFirstFail t c b → a ≡ b

-- no valid certificate is rejected
abbrev pub ValidIsNotRejected : Type 0
ValidIsNotRejected = (t : Topology) (c : Certificate) (why : Rejected) → IsValid t c → IsFirstFail t c why → ⊥

-- over the same nodes a root has one canonical span
abbrev pub CanonicalSpanIsOne : Type 0
CanonicalSpanIsOne = (t : Topology) (nodes : List NodeName) (root : NodeName) (a b : Span) → AreNodes t nodes
    → IsCanonicalSpan t nodes root a → IsCanonicalSpan t nodes root b → a ≡ b

-- columns at a distance have one canonical certificate
abbrev pub CanonicalBookIsOne : Type 0
CanonicalBookIsOne = (t : Topology) (columns : List NodeName) (distance : ℕ) (a b : Certificate)
    → IsCanonicalBook t columns distance a → IsCanonicalBook t columns distance b → a ≡ b

-- and so have they for a cap with radii
abbrev pub CanonicalCappedIsOne : Type 0
CanonicalCappedIsOne = (t : Topology) (columns : List NodeName) (cap : ℕ) (radii : List ℕ) (a b : Certificate)
    → IsCanonicalCapped t columns cap radii a → IsCanonicalCapped t columns cap radii b → a ≡ b

-- these columns have these positions among all
abbrev pub HavePlaces : List NodeName → List NodeName → List ℕ → Type 0
HavePlaces all columns places = AllZip (λ column place. slice_get all place ≡ Some column) columns places

-- a canonical book is valid exactly where its columns are good at its distance
abbrev pub CanonicalBookIsValid : Type 0
CanonicalBookIsValid = (t : Topology) (all : List NodeName) (groups : List Group) (columns : List NodeName) (places : List ℕ) (distance : ℕ)
    (c : Certificate) → IsMatrix t all groups → HavePlaces all columns places
    → Rises node_cmp columns → IsCanonicalBook t columns distance c
    → IsValid t c ↔ Good (codes_of groups) places distance

-- and one for a cap where they are good for the cap, and the radii are those of the groups
abbrev pub CanonicalCappedIsValid : Type 0
CanonicalCappedIsValid = (t : Topology) (all : List NodeName) (groups : List Group) (columns : List NodeName) (places : List ℕ) (cap : ℕ)
    (radii : List ℕ) (c : Certificate) → IsMatrix t all groups → HavePlaces all columns places
    → Rises node_cmp columns → IsCanonicalCapped t columns cap radii c
    → IsValid t c ↔ (GoodFor (codes_of groups) places (capped_need (length all) (codes_of groups) cap)
    × AreRadii (length all) (codes_of groups) cap radii)

-- Where a book is valid, and a word over its columns is within the radius of one of the topology's groups, that group alone is nearest,
-- and the answer is sure.
abbrev pub ValidBookDecodes : Type 0
ValidBookDecodes = (t : Topology) (distance : ℕ) (nodes : List NodeName) (numbers : List ℕ) (spans : List Span)
    → IsValid t (Book distance nodes numbers spans) → 0 < distance → (columns : List NodeName) (groups : List Group) (places : List ℕ)
    → IsMatrix t columns groups → ArePlaces nodes columns numbers places → (word : List Bool) (i : ℕ) (answer : Answer)
    → i < length groups → from_word places (codes_of groups) word i ≤ radius distance
    → IsAnswer places (codes_of groups) distance word answer → (answer.groups ≡ i ∷ []) × IsTrue answer.sure

-- In a valid one for a cap each group has a radius of its own: where a word is within it, that group alone is nearest, and the answer is
-- sure.
abbrev pub ValidCappedDecodes : Type 0
ValidCappedDecodes = (t : Topology) (cap : ℕ) (nodes : List NodeName) (numbers radii : List ℕ) (spans : List Span)
    → IsValid t (Capped cap nodes numbers radii spans) → 0 < cap → (columns : List NodeName) (groups : List Group) (places : List ℕ)
    → IsMatrix t columns groups → ArePlaces nodes columns numbers places → (word : List Bool) (i : ℕ) (answer : Answer)
    → i < length groups → from_word places (codes_of groups) word i ≤ radius_at radii i
    → IsAnswerFor (length columns) (codes_of groups) places (Cap cap) word answer → (answer.groups ≡ i ∷ []) × IsTrue answer.sure

-- the root of a side is a problem
abbrev pub IsSideProblem : Topology → Option NodeName → Type 0
IsSideProblem t None = ⊤
IsSideProblem t (Some p) = IsProblem t p

-- the code of a side: the quiet group's, or that of a problem
abbrev pub IsCodeOfSide : Topology → List NodeName → Option NodeName → List Bool → Type 0
IsCodeOfSide t columns None code = code ≡ zeros (length columns)
IsCodeOfSide t columns (Some p) code = IsCode t columns p code

-- a canonical thin certificate is valid exactly where its problems' codes are its distance apart, and that is less than is wanted
abbrev pub CanonicalThinIsValid : Type 0
CanonicalThinIsValid = (t : Topology) (columns : List NodeName) (first : Option NodeName) (second : NodeName) (v w : List Bool)
    (wanted far : ℕ) (c : Certificate) → AreColumns t columns → IsSideProblem t first → IsProblem t second
    → IsCodeOfSide t columns first v → IsCode t columns second w → IsCanonicalThin t first second wanted far c
    → IsValid t c ↔ ((far ≡ distance (all_columns (length columns)) v w) × IsClose wanted far)

-- two problems at a distance have one canonical certificate
abbrev pub CanonicalThinIsOne : Type 0
CanonicalThinIsOne = (t : Topology) (first : Option NodeName) (second : NodeName) (wanted far : ℕ) (a b : Certificate)
    → IsCanonicalThin t first second wanted far a → IsCanonicalThin t first second wanted far b → a ≡ b

-- checks in two parts: where the first part is passed, the second judges for both
abbrev pub PassedGoOn : Type 0
PassedGoOn = (t : Topology) (c : Certificate) (xs ys : List Check) (result : Result (Unit {0}) Rejected) → All (Passes t c) xs
    → Judges t c ys result → Judges t c (xs ++ ys) result

-- and where the first part fails, that is the answer
abbrev pub FailedStop : Type 0
FailedStop = (t : Topology) (c : Certificate) (xs ys : List Check) (why : Rejected) → Judges t c xs (Err why) → Judges t c (xs ++ ys) (Err why)

-- the first fail of all checks of a certificate is why it is rejected
abbrev pub JudgedIsFirstFail : Type 0
JudgedIsFirstFail = (t : Topology) (c : Certificate) (checks : List Check) → AreChecks t c checks → (why : Rejected)
    → Judges t c checks (Err why) → TellsWhy t c why

-- what holds of nodes, columns and spans makes a book of the format, where its distance may be wanted and its entries are not too many
abbrev pub BookIsOfFormat : Type 0
BookIsOfFormat = (t : Topology) (far : ℕ) (nodes : List NodeName) (numbers : List ℕ) (spans : List Span) → Sound t → HasNames t.model
    → AreNodes t nodes → AreColumnNumbers t nodes numbers → AreSpans t nodes spans → IsWanted far → entries_of spans ≤ entry_limit
    → IsCertificate (Book far nodes numbers spans)

-- and two sides make a thin certificate of the format; two spans never have too many entries
abbrev pub ThinIsOfFormat : Type 0
ThinIsOfFormat = (t : Topology) (wanted far : ℕ) (nodes : List NodeName) (first : Side) (second : Span) → Sound t → HasNames t.model
    → AreNodes t nodes → IsSide t nodes first → IsSpanOfProblem t nodes second → IsWanted wanted → far ≤ column_limit
    → IsCertificate (Thin wanted far nodes first second)

-- the problems cause one number of nodes together
abbrev pub TotalReachIsOne : Type 0
TotalReachIsOne = (t : Topology) (m n : ℕ) → IsTotalReach t m → IsTotalReach t n → m ≡ n

-- the number of nodes that all problems reach together is what a search from each problem expands
abbrev pub TotalReachIsOpenCost : Type 0
TotalReachIsOpenCost = (t : Topology) (total : ℕ) → IsTotalReach t total ↔ IsOpenCost t total

-- no topology has few entries and many
abbrev pub FewAreNotMany : Type 0
FewAreNotMany = (t : Topology) → HasFewEntries t → HasManyEntries t → ⊥

-- the number of nodes that the problems cause together decides whether the entries are few or many
abbrev pub EntriesAreFewOrMany : Type 0
EntriesAreFewOrMany = (t : Topology) (total : ℕ) → IsTotalReach t total
    → (HasFewEntries t ↔ (total ≤ entry_limit)) × (HasManyEntries t ↔ (entry_limit < total))
