-- The checks of a certificate, in order, and what the first one tells that fails.
use Rattle.std.specs.Prelude.{◌≡◌, ◌≢◌, ◌⊎◌, ⊤, Result, Ok, Err, ℕ, suc, ◌+◌, ◌-◌, ◌<◌, ◌≤◌, List, [], ◌∷◌, ◌++◌, length, map, Bool, Option, None, Some, slice_get}
use Rattle.std.specs.List.{All, flat_map, range_with_len}
use Rattle.std.specs.declared.cmp.Ordering.TheVariants.{Less}
use Rattle.cb_model.specs.declared.node.NodeName.{NodeName}
use Rattle.cb_model.specs.declared.node.GroupName.{GroupName}
use Rattle.cb_model.specs.declared.wish.Wish.{Wish}
use Rattle.cb_model.specs.declared.wish.Wish.TheVariants.{Plain, Cap}
use Rattle.cb_model.specs.NodeOrder.{node_cmp}
use Rattle.cb_coding.specs.declared.book.Pair.{Pair}
use Rattle.cb_coding.specs.declared.group.Group.{Group}
use Rattle.cb_coding.specs.Groups.{codes_of}
use Rattle.cb_coding.specs.Needs.{need_of}
use Rattle.cb_coding.specs.Pairs.{IsFirstShort}
use Rattle.cb_coding.specs.Used.{IsRadius}
use Rattle.cb_finding.specs.Finding.{IsCalled}
use Rattle.cb_network.specs.Topology.{Topology}
use Rattle.cb_network.specs.Nodes.{IsNodeOf, IsColumn, IsProblem, AreProblems}
use Rattle.cb_network.specs.Causes.{Edge}
use Rattle.cb_cert.specs.declared.certificate.Entry.{Entry}
use Rattle.cb_cert.specs.declared.certificate.Span.{Span}
use Rattle.cb_cert.specs.declared.certificate.Side.{Side}
use Rattle.cb_cert.specs.declared.certificate.Side.TheVariants.{Quiet, Root}
use Rattle.cb_cert.specs.declared.certificate.Certificate.{Certificate}
use Rattle.cb_cert.specs.declared.certificate.Certificate.TheVariants.{Book, Capped, Thin}
use Rattle.cb_cert.specs.Format.{nodes_of}
use Rattle.cb_validity.specs.declared.verdict.Rejected.{Rejected}
use Rattle.cb_validity.specs.declared.verdict.Rejected.TheVariants.{BadNode, BadColumn, NoSpan, ExtraSpan, BadRoot, BadParent, NoEdge, Repeated, NotClosed, TooClose, NotThin, BadRadius, NoMemory}
use Rattle.cb_validity.specs.Spans.{StandsFor, IsListedAt, ListsNode, IsEarlier, HasEdge}
use Rattle.cb_validity.specs.Reading.{MakeGroups, MakeRadii, ArePlaces, AreApart, AreSidesApart}
use Rattle.cb_validity.specs.Valid.{IsClose}

-- a span that is checked: how many entries stand in spans before it, and its root, or none where any problem may be the root
pub record Asked : Type 0 where
  pub before : ℕ
  pub root : Option NodeName
  pub span : Span

-- the checks, with positions that count from 0
pub data Check : Type 0 where
  node_check : ℕ → Check
  column_check : ℕ → Check
  root_check : Asked → Check
  parent_check : Asked → ℕ → Check
  edge_check : Asked → ℕ → Check
  new_check : Asked → ℕ → Check
  closed_check : Asked → ℕ → Check
  no_more_problems : List NodeName → List Span → Check
  no_more_spans : List NodeName → List Span → Check
  claim_check : Check
  radius_check : Check

-- the positions of a list, in order
abbrev pub places : {X : Type 0} → List X → List ℕ
places xs = range_with_len 0 (length xs)

-- the checks of an entry after the first one
abbrev pub entry_checks : Asked → ℕ → List Check
entry_checks a k = parent_check a k ∷ edge_check a k ∷ new_check a k ∷ []

-- the checks of a span: its root; each later entry; and of each entry, that its successors are listed
abbrev pub span_checks : Asked → List Check
span_checks a = root_check a ∷ (flat_map (entry_checks a) (range_with_len 1 (length a.span.entries - 1)) ++ map (closed_check a) (places a.span.entries))

-- the spans with the problems at the same positions
abbrev pub asked_of : ℕ → List NodeName → List Span → List Asked
asked_of before [] spans = []
asked_of before (p ∷ ps) [] = []
asked_of before (p ∷ ps) (span ∷ spans) =
    record { before = before; root = Some p; span = span } ∷ asked_of (before + length span.entries) ps spans

-- the spans of the two sides, whose roots may be any problems
abbrev pub asked_sides : Side → Span → List Asked
asked_sides Quiet second = record { before = 0; root = None; span = second } ∷ []
asked_sides (Root first) second =
    record { before = 0; root = None; span = first } ∷ record { before = length first.entries; root = None; span = second } ∷ []

-- the checks of a book: nodes, columns, spans, and what it claims
abbrev pub book_checks : List NodeName → List NodeName → List ℕ → List Span → List Check
book_checks problems nodes columns spans =
    map node_check (places nodes)
    ++ (map column_check (places columns)
    ++ (flat_map span_checks (asked_of 0 problems spans) ++ no_more_problems problems spans ∷ no_more_spans problems spans ∷ claim_check ∷ []))

-- the checks of a book for a cap: those of a book, and then its radii
abbrev pub capped_checks : List NodeName → List NodeName → List ℕ → List Span → List Check
capped_checks problems nodes columns spans = book_checks problems nodes columns spans ++ radius_check ∷ []

-- the checks of a thin certificate: nodes, spans, and what it claims
abbrev pub thin_checks : List NodeName → Side → Span → List Check
thin_checks nodes first second = map node_check (places nodes) ++ (flat_map span_checks (asked_sides first second) ++ claim_check ∷ [])

-- the checks of the certificate, in order
abbrev pub AreChecks : Topology → Certificate → List Check → Type 0
AreChecks t (Book distance nodes columns spans) checks =
    (problems : List NodeName) × AreProblems t problems × (checks ≡ book_checks problems nodes columns spans)
AreChecks t (Capped cap nodes columns radii spans) checks =
    (problems : List NodeName) × AreProblems t problems × (checks ≡ capped_checks problems nodes columns spans)
AreChecks t (Thin wanted distance nodes first second) checks = checks ≡ thin_checks nodes first second

-- the columns of a certificate; a thin one speaks of all
abbrev pub certificate_columns : Certificate → List ℕ
certificate_columns (Book distance nodes columns spans) = columns
certificate_columns (Capped cap nodes columns radii spans) = columns
certificate_columns (Thin wanted distance nodes first second) = []

-- at this position there is a node of the topology, above the one before
pub record IsGoodNode (t : Topology) (nodes : List NodeName) (place : ℕ) : Type 0 where
  pub node : NodeName
  pub is : slice_get nodes place ≡ Some node
  pub live : IsNodeOf t node
  pub above : (before : ℕ) (other : NodeName) → place ≡ suc before → slice_get nodes before ≡ Some other → node_cmp other node ≡ Less

-- at this position there is the number of a column, above the one before
pub record IsGoodColumn (t : Topology) (nodes : List NodeName) (columns : List ℕ) (place : ℕ) : Type 0 where
  pub number : ℕ
  pub column : NodeName
  pub is : slice_get columns place ≡ Some number
  pub names : StandsFor nodes number column
  pub watched : IsColumn t column
  pub above : (before i : ℕ) (other : NodeName) → place ≡ suc before → slice_get columns before ≡ Some i → StandsFor nodes i other
      → node_cmp other column ≡ Less

-- the root is the one that is asked for
abbrev pub IsAskedFor : Topology → Option NodeName → NodeName → Type 0
IsAskedFor t None node = IsProblem t node
IsAskedFor t (Some root) node = node ≡ root

-- the span begins with a root that is asked for
pub record IsGoodRoot (t : Topology) (nodes : List NodeName) (a : Asked) : Type 0 where
  pub entry : Entry
  pub node : NodeName
  pub is : slice_get a.span.entries 0 ≡ Some entry
  pub names : StandsFor nodes entry.node node
  pub right : IsAskedFor t a.root node
  pub alone : entry.parent ≡ 0

-- there is an entry at the position, such that P
abbrev pub EntryIs : Span → ℕ → (Entry → Type 0) → Type 0
EntryIs span place P = (entry : Entry) × (slice_get span.entries place ≡ Some entry) × P entry

-- the node of the entry at the position isn't listed before
abbrev pub IsNewInSpan : List NodeName → Span → ℕ → Type 0
IsNewInSpan nodes span place = (before : ℕ) (node : NodeName) → before < place → IsListedAt nodes span before node
    → ¬ IsListedAt nodes span place node

-- all successors of the node of the entry at the position are listed
abbrev pub IsClosedAt : Topology → List NodeName → Span → ℕ → Type 0
IsClosedAt t nodes span place = (p q : NodeName) → IsListedAt nodes span place p → Edge t p q → ListsNode nodes span q

-- what is claimed holds
abbrev pub ClaimHolds : Topology → Certificate → Type 0
ClaimHolds t (Book distance nodes columns spans) = AreApart t nodes columns spans (Plain distance)
ClaimHolds t (Capped cap nodes columns radii spans) = AreApart t nodes columns spans (Cap cap)
ClaimHolds t (Thin wanted distance nodes first second) = AreSidesApart t nodes first second distance × IsClose wanted distance

-- the radii of a book for a cap are those of its groups; other certificates have none
abbrev pub RadiiHold : Topology → Certificate → Type 0
RadiiHold t (Book distance nodes columns spans) = ⊤
RadiiHold t (Capped cap nodes columns radii spans) = MakeRadii t nodes spans cap radii
RadiiHold t (Thin wanted distance nodes first second) = ⊤

-- the certificate passes the check
abbrev pub Passes : Topology → Certificate → Check → Type 0
Passes t c (node_check place) = IsGoodNode t (nodes_of c) place
Passes t c (column_check place) = IsGoodColumn t (nodes_of c) (certificate_columns c) place
Passes t c (root_check a) = IsGoodRoot t (nodes_of c) a
Passes t c (parent_check a place) = EntryIs a.span place (λ entry. IsEarlier entry place)
Passes t c (edge_check a place) = EntryIs a.span place (HasEdge t (nodes_of c) a.span)
Passes t c (new_check a place) = IsNewInSpan (nodes_of c) a.span place
Passes t c (closed_check a place) = IsClosedAt t (nodes_of c) a.span place
Passes t c (no_more_problems problems spans) = length problems ≤ length spans
Passes t c (no_more_spans problems spans) = length spans ≤ length problems
Passes t c claim_check = ClaimHolds t c
Passes t c radius_check = RadiiHold t c

-- the least successor of the entry's node that the span doesn't list
pub record IsLeastOutside (t : Topology) (nodes : List NodeName) (span : Span) (place : ℕ) (successor : NodeName) : Type 0 where
  pub node : NodeName
  pub is : IsListedAt nodes span place node
  pub edge : Edge t node successor
  pub outside : ¬ ListsNode nodes span successor
  pub least : (other : NodeName) → Edge t node other → ¬ ListsNode nodes span other → node_cmp other successor ≢ Less

-- the first two groups that are closer over the columns than the wish asks, and how far apart they are
pub record AreTooClose (t : Topology) (nodes : List NodeName) (numbers : List ℕ) (spans : List Span) (wish : Wish) (first second : GroupName)
    (far : ℕ) : Type 0 where
  pub columns : List NodeName
  pub groups : List Group
  pub places : List ℕ
  pub made : MakeGroups t nodes spans columns groups
  pub places_are : ArePlaces nodes columns numbers places
  pub pair : Pair
  pub is_first : IsFirstShort places (codes_of groups) (need_of (length columns) (codes_of groups) wish) pair
  pub first_is : IsCalled groups pair.first first
  pub second_is : IsCalled groups pair.second second
  pub far_is : far ≡ pair.distance

-- what is reported where the claim doesn't hold
abbrev pub TellsClaim : Topology → Certificate → Rejected → Type 0
TellsClaim t (Book distance nodes columns spans) (TooClose first second far) =
    AreTooClose t nodes columns spans (Plain distance) first second far
TellsClaim t (Capped cap nodes columns radii spans) (TooClose first second far) =
    AreTooClose t nodes columns spans (Cap cap) first second far
TellsClaim t (Thin wanted distance nodes first second) (NotThin far) = AreSidesApart t nodes first second far
TellsClaim t c why = ⊥

-- at this position, which counts from 0, there are a radius and a group, and the radius is the group's
pub record IsOwnRadius (width : ℕ) (codes : List (List Bool)) (cap : ℕ) (radii : List ℕ) (place : ℕ) : Type 0 where
  pub radius : ℕ
  pub is : slice_get radii place ≡ Some radius
  pub within : place < length codes
  pub own : IsRadius width codes (Cap cap) place radius

-- the first position with a radius or a group where that isn't so
pub record IsFirstBadRadius (t : Topology) (nodes : List NodeName) (spans : List Span) (cap : ℕ) (radii : List ℕ) (place : ℕ) : Type 0 where
  pub columns : List NodeName
  pub groups : List Group
  pub made : MakeGroups t nodes spans columns groups
  pub some : (place < length radii) ⊎ (place < length groups)
  pub before : (k : ℕ) → k < place → IsOwnRadius (length columns) (codes_of groups) cap radii k
  pub bad : ¬ IsOwnRadius (length columns) (codes_of groups) cap radii place

-- what is reported where the radii aren't those of the groups
abbrev pub TellsRadii : Topology → Certificate → Rejected → Type 0
TellsRadii t (Capped cap nodes columns radii spans) why = (place : ℕ) × IsFirstBadRadius t nodes spans cap radii place × (why ≡ BadRadius (place + 1))
TellsRadii t c why = ⊥

-- what is reported where a check fails: the position of a node, a column, a span or a radius, or the number of an entry, all of which
-- count from 1
abbrev pub ReportsCheck : Topology → Certificate → Check → Rejected → Type 0
ReportsCheck t c (node_check place) why = why ≡ BadNode (place + 1)
ReportsCheck t c (column_check place) why = why ≡ BadColumn (place + 1)
ReportsCheck t c (root_check a) why = why ≡ BadRoot (a.before + 1)
ReportsCheck t c (parent_check a place) why = why ≡ BadParent (a.before + place + 1)
ReportsCheck t c (edge_check a place) why = why ≡ NoEdge (a.before + place + 1)
ReportsCheck t c (new_check a place) why = why ≡ Repeated (a.before + place + 1)
ReportsCheck t c (closed_check a place) why =
    (successor : NodeName) × IsLeastOutside t (nodes_of c) a.span place successor × (why ≡ NotClosed (a.before + place + 1) successor)
ReportsCheck t c (no_more_problems problems spans) why = (p : NodeName) × (slice_get problems (length spans) ≡ Some p) × (why ≡ NoSpan p)
ReportsCheck t c (no_more_spans problems spans) why = why ≡ ExtraSpan (length problems + 1)
ReportsCheck t c claim_check why = TellsClaim t c why
ReportsCheck t c radius_check why = TellsRadii t c why

-- of these checks, all before one are passed, and this is what that one tells, which fails
pub record FailsFirst (t : Topology) (c : Certificate) (checks : List Check) (why : Rejected) : Type 0 where
  pub before : List Check
  pub check : Check
  pub after : List Check
  pub are : checks ≡ before ++ check ∷ after
  pub passed : All (Passes t c) before
  pub fails : ¬ Passes t c check
  pub tells : ReportsCheck t c check why

-- the certificate is rejected for this
abbrev pub IsFirstFail : Topology → Certificate → Rejected → Type 0
IsFirstFail t c why = (checks : List Check) × AreChecks t c checks × FailsFirst t c checks why

-- what checks come to: all are passed, or this is what the first one tells that fails, or memory ran out
abbrev pub Judges : Topology → Certificate → List Check → Result (Unit {0}) Rejected → Type 0
Judges t c checks (Ok done) = All (Passes t c) checks
Judges t c checks (Err NoMemory) = Unit {0}
Judges t c checks (Err why) = FailsFirst t c checks why
