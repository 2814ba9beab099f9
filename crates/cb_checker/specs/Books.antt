-- Problems with the codes that are read off spans, and what the checks of a book's spans come to.
use Rattle.std.specs.Prelude.{◌≡◌, ◌↔◌, ◌≤◌, ◌+◌, ℕ, List, Bool, [], ◌∷◌, length, Result, Some, slice_get}
use Rattle.std.specs.List.{flat_map}
use Rattle.cb_model.specs.declared.node.NodeName.{NodeName}
use Rattle.cb_coding.specs.declared.group.Problem.{Problem}
use Rattle.cb_coding.specs.Groups.{AreCodedProblems, AreGroups}
use Rattle.cb_codes.specs.declared.grouping.Grouping.{Grouping}
use Rattle.cb_codes.specs.Grouped.{AddsProblem, FitsTogether, groups_in}
use Rattle.cb_codes.specs.Groups.{Grouped}
use Rattle.cb_cert.specs.declared.certificate.Certificate.{Certificate}
use Rattle.cb_cert.specs.declared.certificate.Span.{Span}
use Rattle.cb_validity.specs.declared.verdict.Rejected.{Rejected}
use Rattle.cb_validity.specs.Checks.{Judges, asked_of, span_checks, no_more_problems, no_more_spans}
use Rattle.cb_nodes.specs.declared.id.NodeId.{NodeId}
use Rattle.cb_successors.specs.Rows.{Has}
use Rattle.cb_topo.specs.Numbered.{Numbered, topology_of, IsNodeNamed, AreNamed}
use Rattle.cb_checker.specs.Known.{IsKnown}
use Rattle.cb_checker.specs.Listed.{ArePlaced, IsAmongPlaced}
use Rattle.cb_checker.specs.Codes.{IsCodeOfListed}

-- the row has exactly the nodes that the span lists
pub record IsListing (ids : List NodeId) (span : Span) (listed : List Bool) : Type 0 where
  pub placed : List NodeId
  pub are : ArePlaced ids span (length span.entries) placed
  pub each : (k : ℕ) → Has listed k ↔ IsAmongPlaced placed k

-- the problem of this number, with the code that a row makes
pub record IsCodedBy (n : Numbered) (columns : List NodeId) (id : NodeId) (listed : List Bool) (p : Problem) : Type 0 where
  pub named : IsNodeNamed n id p.name
  pub code : IsCodeOfListed columns listed p.code

-- the problem of this number, with the code that is read off the span
pub record IsReadOff (n : Numbered) (ids columns : List NodeId) (id : NodeId) (span : Span) (p : Problem) : Type 0 where
  pub listed : List Bool
  pub lists : IsListing ids span listed
  pub coded : IsCodedBy n columns id listed p

-- the first problems, each with the code that is read off the span at its position
pub record AreReadTo (n : Numbered) (ids problems columns : List NodeId) (spans : List Span) (to : ℕ) (coded : List Problem) : Type 0 where
  pub count : length coded ≡ to
  pub each : (i : ℕ) (p : Problem) → slice_get coded i ≡ Some p
      → (id : NodeId) × (span : Span) × (slice_get problems i ≡ Some id) × (slice_get spans i ≡ Some span) × IsReadOff n ids columns id span p

-- the problem of this number joins the group of the code that a row makes, or opens it
pub record AddsCoded (n : Numbered) (columns : List NodeId) (id : NodeId) (listed : List Bool) (old new : Grouping) : Type 0 where
  pub problem : Problem
  pub coded : IsCodedBy n columns id listed problem
  pub adds : AddsProblem problem (groups_in old) (groups_in new)
  pub sound : FitsTogether (length columns) new

-- the groups of the first problems, each with the code that is read off the span at its position
pub record AreGroupsReadTo (n : Numbered) (ids problems columns : List NodeId) (spans : List Span) (to : ℕ) (groups : Grouped) : Type 0 where
  pub coded : List Problem
  pub read : AreReadTo n ids problems columns spans to coded
  pub wide : groups.width ≡ length columns
  pub are : AreCodedProblems (length columns) coded → AreGroups (length columns) coded groups.groups
  pub few : AreCodedProblems (length columns) coded → length groups.groups ≤ to + 1

-- whatever the certificate claims, this is what the checks of these spans come to
abbrev pub JudgesSpans : Numbered → List NodeId → List NodeId → List Span → Result (Unit {0}) Rejected → Type 0
JudgesSpans n ids problems spans result = (c : Certificate) (names : List NodeName) → IsKnown n ids c → AreNamed n problems names
    → Judges (topology_of n) c (flat_map span_checks (asked_of 0 names spans)) result

-- and the checks that each problem has a span, and no span is left over
abbrev pub JudgesCount : Numbered → List NodeId → List Span → Result (Unit {0}) Rejected → Type 0
JudgesCount n problems spans result = (c : Certificate) (names : List NodeName) → AreNamed n problems names
    → Judges (topology_of n) c (no_more_problems names spans ∷ no_more_spans names spans ∷ []) result
