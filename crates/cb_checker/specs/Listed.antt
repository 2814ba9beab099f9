-- The nodes that the entries of a span list, by numbers.
use Rattle.std.specs.Prelude.{◌≡◌, ◌↔◌, ℕ, List, Bool, length, Some, slice_get}
use Rattle.cb_cert.specs.declared.certificate.Entry.{Entry}
use Rattle.cb_cert.specs.declared.certificate.Span.{Span}
use Rattle.cb_nodes.specs.declared.id.NodeId.{NodeId}
use Rattle.cb_successors.specs.Rows.{Has}
use Rattle.cb_topo.specs.Numbered.{Numbered}
use Rattle.cb_graph.specs.Edges.{number}
use Rattle.cb_checker.specs.declared.marks.SpanNodes.{SpanNodes}
use Rattle.cb_checker.specs.Known.{IsIdAt}

-- the entry at the position lists this node
pub record IsPlaced (ids : List NodeId) (span : Span) (place : ℕ) (id : NodeId) : Type 0 where
  pub entry : Entry
  pub is : slice_get span.entries place ≡ Some entry
  pub at : IsIdAt ids entry.node id

-- the nodes that the first entries list, one by one
pub record ArePlaced (ids : List NodeId) (span : Span) (to : ℕ) (placed : List NodeId) : Type 0 where
  pub count : length placed ≡ to
  pub each : (place : ℕ) (id : NodeId) → slice_get placed place ≡ Some id → IsPlaced ids span place id

-- one of them has this number
abbrev pub IsAmongPlaced : List NodeId → ℕ → Type 0
IsAmongPlaced placed k = (place : ℕ) × (slice_get placed place ≡ Some (number k))

-- the row has exactly the placed nodes
abbrev pub AreListed : List Bool → List NodeId → Type 0
AreListed listed placed = (k : ℕ) → Has listed k ↔ IsAmongPlaced placed k

-- the rows have a position for each number, and exactly the placed nodes are listed
pub record AreMarked (n : Numbered) (marks : SpanNodes) : Type 0 where
  pub capacity : length marks.listed ≡ length n.nodes
  pub spare : length marks.found ≡ length n.nodes
  pub each : AreListed marks.listed marks.placed.items
