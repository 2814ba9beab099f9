-- Which certificates are valid for a topology.
use Rattle.std.specs.Prelude.{⊤, ℕ, ◌<◌, List}
use Rattle.std.specs.List.{All, AllZip}
use Rattle.cb_model.specs.declared.node.NodeName.{NodeName}
use Rattle.cb_model.specs.declared.wish.Wish.{Wish}
use Rattle.cb_model.specs.declared.wish.Wish.TheVariants.{Plain, Cap}
use Rattle.cb_model.specs.Order.{Rises}
use Rattle.cb_model.specs.NodeOrder.{node_cmp}
use Rattle.cb_network.specs.Topology.{Topology}
use Rattle.cb_network.specs.Nodes.{IsColumn, IsProblem, AreProblems}
use Rattle.cb_cert.specs.declared.certificate.Span.{Span}
use Rattle.cb_cert.specs.declared.certificate.Side.{Side}
use Rattle.cb_cert.specs.declared.certificate.Side.TheVariants.{Quiet, Root}
use Rattle.cb_cert.specs.declared.certificate.Certificate.{Certificate}
use Rattle.cb_cert.specs.declared.certificate.Certificate.TheVariants.{Book, Capped, Thin}
use Rattle.cb_validity.specs.Spans.{AreNodes, StandsFor, IsSpanOf}
use Rattle.cb_validity.specs.Reading.{AreApart, MakeRadii, AreSidesApart}

-- the numbers are those of columns, in order and each once
pub record AreColumnNumbers (t : Topology) (nodes : List NodeName) (numbers : List ℕ) : Type 0 where
  pub columns : List NodeName
  pub names : AllZip (StandsFor nodes) numbers columns
  pub each : All (IsColumn t) columns
  pub rise : Rises node_cmp columns

-- there is one span for each problem, in order
pub record AreSpans (t : Topology) (nodes : List NodeName) (spans : List Span) : Type 0 where
  pub problems : List NodeName
  pub problems_are : AreProblems t problems
  pub each : AllZip (IsSpanOf t nodes) problems spans

-- the span is that of some problem
pub record IsSpanOfProblem (t : Topology) (nodes : List NodeName) (span : Span) : Type 0 where
  pub root : NodeName
  pub problem : IsProblem t root
  pub is : IsSpanOf t nodes root span

-- the first of two groups is the quiet one, or it has the span of some problem
abbrev pub IsSide : Topology → List NodeName → Side → Type 0
IsSide t nodes Quiet = ⊤
IsSide t nodes (Root span) = IsSpanOfProblem t nodes span

-- a book: over its columns the groups are as far apart as the wish asks
pub record IsValidBook (t : Topology) (wish : Wish) (nodes : List NodeName) (columns : List ℕ) (spans : List Span) : Type 0 where
  pub nodes_are : AreNodes t nodes
  pub columns_are : AreColumnNumbers t nodes columns
  pub spans_are : AreSpans t nodes spans
  pub apart : AreApart t nodes columns spans wish

-- a book for a cap, with the radii of its groups
pub record IsValidCapped (t : Topology) (cap : ℕ) (nodes : List NodeName) (columns radii : List ℕ) (spans : List Span) : Type 0 where
  pub book : IsValidBook t (Cap cap) nodes columns spans
  pub radii_are : MakeRadii t nodes spans cap radii

-- two groups differ, at fewer columns than is wanted
pub record IsClose (wanted distance : ℕ) : Type 0 where
  pub some : 0 < distance
  pub less : distance < wanted

-- a thin certificate: over all columns two groups are its distance apart, which is less than it wants
pub record IsValidThin (t : Topology) (wanted distance : ℕ) (nodes : List NodeName) (first : Side) (second : Span) : Type 0 where
  pub nodes_are : AreNodes t nodes
  pub first_is : IsSide t nodes first
  pub second_is : IsSpanOfProblem t nodes second
  pub apart : AreSidesApart t nodes first second distance
  pub close : IsClose wanted distance

-- what the certificate claims holds of the topology
abbrev pub IsValid : Topology → Certificate → Type 0
IsValid t (Book distance nodes columns spans) = IsValidBook t (Plain distance) nodes columns spans
IsValid t (Capped cap nodes columns radii spans) = IsValidCapped t cap nodes columns radii spans
IsValid t (Thin wanted distance nodes first second) = IsValidThin t wanted distance nodes first second
