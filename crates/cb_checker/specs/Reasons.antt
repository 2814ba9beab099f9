-- The edges that the entries of a span state.
use Rattle.std.specs.Prelude.{◌≡◌, ℕ, ◌+◌, ◌-◌, ◌<◌, min, List, Bool, Result, Err, Option, None, Some, length, slice_get}
use Rattle.std.specs.List.{Contains, flat_map, range_with_len}
use Rattle.cb_cert.specs.declared.certificate.Entry.{Entry}
use Rattle.cb_cert.specs.declared.certificate.Span.{Span}
use Rattle.cb_validity.specs.declared.verdict.Rejected.{Rejected}
use Rattle.cb_validity.specs.declared.verdict.Rejected.TheVariants.{NoEdge}
use Rattle.cb_validity.specs.Checks.{entry_checks}
use Rattle.cb_validity.specs.Spans.{IsEarlier}
use Rattle.cb_nodes.specs.declared.id.NodeId.{NodeId}
use Rattle.cb_successors.specs.Rows.{Has}
use Rattle.cb_topo.specs.Numbered.{Numbered, IsLiveNode}
use Rattle.cb_graph.specs.Edges.{EdgeAt}
use Rattle.cb_checker.specs.declared.reasons.Reason.{Reason}
use Rattle.cb_checker.specs.Known.{IsIdAt}
use Rattle.cb_checker.specs.Listed.{IsPlaced}
use Rattle.cb_checker.specs.Spans.{JudgesPart}

-- the entry at this position has an earlier parent, and these are the numbers of the parent's node and of its own
pub record IsStated (ids : List NodeId) (span : Span) (reason : Reason) : Type 0 where
  pub entry : Entry
  pub is : slice_get span.entries reason.place ≡ Some entry
  pub earlier : IsEarlier entry reason.place
  pub from : IsPlaced ids span (entry.parent - 1) reason.from
  pub to : IsIdAt ids entry.node reason.to

-- entries before this position state these
abbrev pub AreStated : List NodeId → Span → ℕ → List Reason → Type 0
AreStated ids span to reasons = (reason : Reason) → Contains reasons reason → (reason.place < to) × IsStated ids span reason

-- the edge is there
abbrev pub IsLed : Numbered → Reason → Type 0
IsLed n reason = EdgeAt n reason.from.0 reason.to.0

abbrev pub AreLed : Numbered → List Reason → Type 0
AreLed n reasons = (reason : Reason) → Contains reasons reason → IsLed n reason

-- the edge that the entry at this position states, if it states one, is there
abbrev pub IsLedAt : Numbered → List Reason → ℕ → Type 0
IsLedAt n reasons place = (reason : Reason) → Contains reasons reason → reason.place ≡ place → IsLed n reason

-- of these the one at this position isn't such, and those at earlier positions are
pub record IsFirstLacking (P : Reason → Type 0) (reasons : List Reason) (place : ℕ) : Type 0 where
  pub reason : Reason
  pub is : Contains reasons reason
  pub at : reason.place ≡ place
  pub lacks : ¬ P reason
  pub before : (other : Reason) → Contains reasons other → other.place < place → P other

-- the position of the first that isn't such, if there is one
abbrev pub IsFirstWithout : (Reason → Type 0) → List Reason → Option ℕ → Type 0
IsFirstWithout P reasons None = (reason : Reason) → Contains reasons reason → P reason
IsFirstWithout P reasons (Some place) = IsFirstLacking P reasons place

-- the position of the first whose edge isn't there, if there is one
abbrev pub IsFirstUnled : Numbered → List Reason → Option ℕ → Type 0
IsFirstUnled n reasons first = IsFirstWithout (IsLed n) reasons first

-- the lesser of two positions, if there are two
abbrev pub IsSooner : Option ℕ → Option ℕ → Option ℕ → Type 0
IsSooner None other sooner = sooner ≡ other
IsSooner (Some place) None sooner = sooner ≡ Some place
IsSooner (Some place) (Some other) sooner = sooner ≡ Some (min place other)

-- all edges are stated between nodes of the topology
abbrev pub AreLiveEdges : Numbered → List Reason → Type 0
AreLiveEdges n reasons = (reason : Reason) → Contains reasons reason → IsLiveNode n reason.from × IsLiveNode n reason.to

-- all lead from this node
abbrev pub AreFrom : NodeId → List Reason → Type 0
AreFrom from reasons = (reason : Reason) → Contains reasons reason → reason.from ≡ from

-- all lead to nodes with numbers below this one
abbrev pub AreEndsBelow : ℕ → List Reason → Type 0
AreEndsBelow capacity reasons = (reason : Reason) → Contains reasons reason → reason.to.0 < capacity

-- the row has the node to which the edge leads
abbrev pub HasEnd : List Bool → Reason → Type 0
HasEnd found reason = Has found reason.to.0

abbrev pub HasNoEnds : List Reason → List Bool → Type 0
HasNoEnds reasons found = (reason : Reason) → Contains reasons reason → ¬ HasEnd found reason

-- whatever the topology and the certificate, the checks of the entry at this position come to this
abbrev pub JudgesEntry : List NodeId → ℕ → Span → ℕ → Result (Unit {0}) Rejected → Type 0
JudgesEntry ids before span place result = (n : Numbered) → JudgesPart n ids before span (λ a. entry_checks a place) result

-- and so they do where the edge is there that it states
abbrev pub JudgesEntryIfLed : List NodeId → ℕ → Span → ℕ → List Reason → Result (Unit {0}) Rejected → Type 0
JudgesEntryIfLed ids before span place reasons result = (n : Numbered) → IsLedAt n reasons place → JudgesPart n ids before span (λ a. entry_checks a place) result

-- the checks of the entries after the first one come to this
abbrev pub JudgesEntries : Numbered → List NodeId → ℕ → Span → Result (Unit {0}) Rejected → Type 0
JudgesEntries n ids before span result =
    JudgesPart n ids before span (λ a. flat_map (entry_checks a) (range_with_len 1 (length a.span.entries - 1))) result

-- they come to this where the stated edges are there
abbrev pub JudgesIfLed : List NodeId → ℕ → Span → List Reason → Result (Unit {0}) Rejected → Type 0
JudgesIfLed ids before span reasons result = (n : Numbered) → AreLed n reasons → JudgesEntries n ids before span result

-- and where some aren't, the first of these entries is reported
abbrev pub JudgesIfUnled : List NodeId → ℕ → Span → List Reason → Type 0
JudgesIfUnled ids before span reasons = (n : Numbered) (place : ℕ) → IsFirstLacking (IsLed n) reasons place
    → JudgesEntries n ids before span (Err (NoEdge (before + place + 1)))
