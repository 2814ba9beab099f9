-- What the checks of spans come to.
use Rattle.std.specs.Prelude.{◌≡◌, ⊤, ℕ, List, length, map, Result, Option, None, Some, slice_get}
use Rattle.cb_model.specs.declared.node.NodeName.{NodeName}
use Rattle.cb_network.specs.Nodes.{IsProblem}
use Rattle.cb_cert.specs.declared.certificate.Certificate.{Certificate}
use Rattle.cb_cert.specs.declared.certificate.Entry.{Entry}
use Rattle.cb_cert.specs.declared.certificate.Span.{Span}
use Rattle.cb_validity.specs.declared.verdict.Rejected.{Rejected}
use Rattle.cb_validity.specs.Checks.{Asked, Check, Judges, closed_check, places}
use Rattle.cb_nodes.specs.declared.id.NodeId.{NodeId}
use Rattle.cb_topo.specs.Numbered.{Numbered, topology_of, IsNodeNamed}
use Rattle.cb_checker.specs.Known.{IsIdAt, IsKnown}
use Rattle.cb_checker.specs.Listed.{ArePlaced}

-- the root is the one of this number, or any problem
abbrev pub IsAskedAt : Numbered → Option NodeId → NodeId → Type 0
IsAskedAt n None id = (name : NodeName) → IsNodeNamed n id name → IsProblem (topology_of n) name
IsAskedAt n (Some root) id = id ≡ root

-- the span begins with this node, which is a root that is asked for
pub record IsRootAt (n : Numbered) (ids : List NodeId) (root : Option NodeId) (span : Span) (id : NodeId) : Type 0 where
  pub entry : Entry
  pub is : slice_get span.entries 0 ≡ Some entry
  pub at : IsIdAt ids entry.node id
  pub right : IsAskedAt n root id
  pub alone : entry.parent ≡ 0

-- the root of this number has this name, or any problem is meant
abbrev pub IsNamedRoot : Numbered → Option NodeId → Option NodeName → Type 0
IsNamedRoot n None None = ⊤
IsNamedRoot n None (Some name) = ⊥
IsNamedRoot n (Some id) None = ⊥
IsNamedRoot n (Some id) (Some name) = IsNodeNamed n id name

-- a span that is checked, with the number of entries before it, and its root where one is asked for
abbrev pub asked : ℕ → Option NodeName → Span → Asked
asked before root span = record { before = before; root = root; span = span }

-- whatever the certificate claims, this is what some checks of the span come to, whatever its root
abbrev pub JudgesPart : Numbered → List NodeId → ℕ → Span → (Asked → List Check) → Result (Unit {0}) Rejected → Type 0
JudgesPart n ids before span part result = (c : Certificate) (root : Option NodeName) → IsKnown n ids c
    → Judges (topology_of n) c (part (asked before root span)) result

-- and where it is to begin with this root
abbrev pub JudgesSpan : Numbered → List NodeId → Option NodeId → ℕ → Span → (Asked → List Check) → Result (Unit {0}) Rejected → Type 0
JudgesSpan n ids root before span part result = (c : Certificate) (name : Option NodeName) → IsKnown n ids c → IsNamedRoot n root name
    → Judges (topology_of n) c (part (asked before name span)) result

-- whatever span lists these nodes, this is what its checks of successors come to
abbrev pub JudgesClosed : Numbered → List NodeId → ℕ → Result (Unit {0}) Rejected → Type 0
JudgesClosed n placed before result = (c : Certificate) (ids : List NodeId) (root : Option NodeName) (span : Span) → IsKnown n ids c
    → ArePlaced ids span (length span.entries) placed
    → Judges (topology_of n) c (map (closed_check (asked before root span)) (places span.entries)) result
