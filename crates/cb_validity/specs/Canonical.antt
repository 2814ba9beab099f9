-- Canonical spans and certificates: the one way in which what is claimed is written.
use Rattle.std.specs.Prelude.{◌≡◌, ◌⊎◌, ⊤, ℕ, ◌+◌, ◌<◌, ◌≤◌, List, [], ◌∷◌, ◌++◌, Option, None, Some, slice_get}
use Rattle.std.specs.List.{AllZip, Contains}
use Rattle.cb_model.specs.declared.node.NodeName.{NodeName}
use Rattle.cb_model.specs.Order.{Rises}
use Rattle.cb_model.specs.NodeOrder.{node_cmp}
use Rattle.cb_network.specs.Topology.{Topology}
use Rattle.cb_network.specs.Causes.{Edge}
use Rattle.cb_network.specs.Nodes.{AreProblems}
use Rattle.cb_cert.specs.declared.certificate.Entry.{Entry}
use Rattle.cb_cert.specs.declared.certificate.Span.{Span}
use Rattle.cb_cert.specs.declared.certificate.Side.{Side}
use Rattle.cb_cert.specs.declared.certificate.Side.TheVariants.{Quiet, Root}
use Rattle.cb_cert.specs.declared.certificate.Certificate.{Certificate}
use Rattle.cb_cert.specs.declared.certificate.Certificate.TheVariants.{Book, Capped, Thin}
use Rattle.cb_validity.specs.Spans.{StandsFor, IsListedAt, ListsNode, IsSpanOf}

-- a span in which parents never fall, nodes with one parent rise, and each parent is the first with an edge to the node
pub record IsCanonicalSpan (t : Topology) (nodes : List NodeName) (root : NodeName) (span : Span) : Type 0 where
  pub is : IsSpanOf t nodes root span
  pub parents : (i j : ℕ) (x y : Entry) → i < j → slice_get span.entries i ≡ Some x → slice_get span.entries j ≡ Some y
      → x.parent ≤ y.parent
  pub siblings : (i j : ℕ) (x y : Entry) → i < j → slice_get span.entries i ≡ Some x → slice_get span.entries j ≡ Some y
      → x.parent ≡ y.parent → x.node < y.node
  pub first : (i j : ℕ) (x : Entry) (p q : NodeName) → slice_get span.entries j ≡ Some x → StandsFor nodes x.node q
      → IsListedAt nodes span i p → Edge t p q → 0 < j → x.parent ≤ i + 1

-- the nodes are these columns and the nodes of these spans, in order and each once
pub record AreUsed (nodes columns : List NodeName) (spans : List Span) : Type 0 where
  pub rise : Rises node_cmp nodes
  pub each : (n : NodeName) → Contains nodes n → Contains columns n ⊎ ((span : Span) × Contains spans span × ListsNode nodes span n)

-- the canonical certificate for these columns at a distance
pub record IsCanonicalBook (t : Topology) (columns : List NodeName) (distance : ℕ) (c : Certificate) : Type 0 where
  pub nodes : List NodeName
  pub numbers : List ℕ
  pub spans : List Span
  pub is : c ≡ Book distance nodes numbers spans
  pub problems : List NodeName
  pub problems_are : AreProblems t problems
  pub spans_are : AllZip (IsCanonicalSpan t nodes) problems spans
  pub names : AllZip (StandsFor nodes) numbers columns
  pub used : AreUsed nodes columns spans

-- the canonical certificate for these columns and a cap: that of a book, at whichever distance, with the cap and the radii
pub record IsCanonicalCapped (t : Topology) (columns : List NodeName) (cap : ℕ) (radii : List ℕ) (c : Certificate) : Type 0 where
  pub nodes : List NodeName
  pub numbers : List ℕ
  pub spans : List Span
  pub is : c ≡ Capped cap nodes numbers radii spans
  pub book : IsCanonicalBook t columns 1 (Book 1 nodes numbers spans)

-- the quiet group, or the canonical span of a group's problem
abbrev pub IsCanonicalSide : Topology → List NodeName → Option NodeName → Side → Type 0
IsCanonicalSide t nodes None Quiet = ⊤
IsCanonicalSide t nodes None (Root span) = ⊥
IsCanonicalSide t nodes (Some p) Quiet = ⊥
IsCanonicalSide t nodes (Some p) (Root span) = IsCanonicalSpan t nodes p span

-- the span of a side, if it has one
abbrev pub side_spans : Side → List Span
side_spans Quiet = []
side_spans (Root span) = span ∷ []

-- The canonical certificate that the groups of two problems are so far apart over all columns, which is less than is wanted.
-- Where there is no first problem, the quiet group is meant.
pub record IsCanonicalThin (t : Topology) (first : Option NodeName) (second : NodeName) (wanted distance : ℕ) (c : Certificate)
    : Type 0 where
  pub nodes : List NodeName
  pub side : Side
  pub span : Span
  pub is : c ≡ Thin wanted distance nodes side span
  pub side_is : IsCanonicalSide t nodes first side
  pub span_is : IsCanonicalSpan t nodes second span
  pub used : AreUsed nodes [] (side_spans side ++ span ∷ [])
