-- What the checks of a whole certificate come to.
use Rattle.std.specs.Prelude.{◌≡◌, ◌<◌, ◌≤◌, ℕ, List, length, Result}
use Rattle.cb_model.specs.declared.node.NodeName.{NodeName}
use Rattle.cb_model.specs.declared.wish.Wish.{Wish}
use Rattle.cb_codes.specs.Groups.{Grouped}
use Rattle.cb_network.specs.Nodes.{AreColumns, AreProblems}
use Rattle.cb_network.specs.Sound.{symptom_limit}
use Rattle.cb_cert.specs.declared.certificate.Certificate.TheVariants.{Book, Capped}
use Rattle.cb_cert.specs.declared.certificate.Span.{Span}
use Rattle.cb_validity.specs.declared.verdict.Accepted.{Accepted}
use Rattle.cb_validity.specs.declared.verdict.Rejected.{Rejected}
use Rattle.cb_validity.specs.Checks.{Judges, book_checks, capped_checks}
use Rattle.cb_validity.specs.Reading.{MakeGroups}
use Rattle.cb_validity.specs.Verdicts.{CertificateShows}
use Rattle.cb_nodes.specs.declared.id.NodeId.{NodeId}
use Rattle.cb_topo.specs.Numbered.{Numbered, topology_of, AreNamed, IsWhole}
use Rattle.cb_checker.specs.declared.sides.Sides.{Sides}
use Rattle.cb_checker.specs.Claims.{book_of}

-- all problems and all columns of the topology, each in order
pub record AreSidesOf (n : Numbered) (sides : Sides) : Type 0 where
  pub problem_names : List NodeName
  pub problems_are : AreProblems (topology_of n) problem_names
  pub problems_named : AreNamed n sides.problems problem_names
  pub column_names : List NodeName
  pub columns_are : AreColumns (topology_of n) column_names
  pub columns_named : AreNamed n sides.columns column_names
  pub whole : IsWhole n
  pub few : length sides.columns ≤ symptom_limit

-- groups that the spans make over all columns
pub record IsGrouped (n : Numbered) (nodes : List NodeName) (spans : List Span) (groups : Grouped) : Type 0 where
  pub columns : List NodeName
  pub made : MakeGroups (topology_of n) nodes spans columns groups.groups
  pub width : length columns ≡ groups.width
  pub some : 0 < length groups.groups
  pub few : length groups.groups < 4294967296

-- this is what the checks come to that a book has for any wish, over the problems of these numbers
abbrev pub JudgesGroupsOver : Numbered → List NodeId → List NodeName → List ℕ → List Span → Wish → Result (Unit {0}) Rejected → Type 0
JudgesGroupsOver n problems nodes numbers spans wish result = (radii : List ℕ) (names : List NodeName) → AreProblems (topology_of n) names
    → AreNamed n problems names → Judges (topology_of n) (book_of wish nodes numbers radii spans) (book_checks names nodes numbers spans) result

-- this is what all checks of the book come to
abbrev pub JudgesBookOver : Numbered → List NodeId → List NodeName → List ℕ → List Span → ℕ → Result (Unit {0}) Rejected → Type 0
JudgesBookOver n problems nodes numbers spans d result = (names : List NodeName) → AreProblems (topology_of n) names → AreNamed n problems names
    → Judges (topology_of n) (Book d nodes numbers spans) (book_checks names nodes numbers spans) result

-- this is what the book shows
abbrev pub ShowsBookOver : Numbered → List NodeName → List ℕ → List Span → ℕ → Accepted → Type 0
ShowsBookOver n nodes numbers spans d shown = CertificateShows (topology_of n) (Book d nodes numbers spans) shown

-- and so for a book for a cap
abbrev pub JudgesCappedOver : Numbered → List NodeId → List NodeName → List ℕ → List ℕ → List Span → ℕ → Result (Unit {0}) Rejected → Type 0
JudgesCappedOver n problems nodes numbers radii spans cap result = (names : List NodeName) → AreProblems (topology_of n) names → AreNamed n problems names
    → Judges (topology_of n) (Capped cap nodes numbers radii spans) (capped_checks names nodes numbers spans) result

abbrev pub ShowsCappedOver : Numbered → List NodeName → List ℕ → List ℕ → List Span → ℕ → Accepted → Type 0
ShowsCappedOver n nodes numbers radii spans cap shown = CertificateShows (topology_of n) (Capped cap nodes numbers radii spans) shown
