-- The first position at which something isn't so.
use Rattle.std.specs.Prelude.{◌≡◌, ℕ, ◌<◌, List, map, Result}
use Rattle.cb_model.specs.declared.node.NodeName.{NodeName}
use Rattle.cb_network.specs.Topology.{Topology}
use Rattle.cb_cert.specs.declared.certificate.Certificate.{Certificate}
use Rattle.cb_cert.specs.Format.{nodes_of}
use Rattle.cb_validity.specs.declared.verdict.Rejected.{Rejected}
use Rattle.cb_validity.specs.Checks.{Judges, node_check, places}

-- it is so at each position below the end
abbrev pub AreAll : (ℕ → Type 0) → ℕ → Type 0
AreAll P end = (place : ℕ) → place < end → P place

-- it is so at each position before this one, which is below the end, and not here
pub record IsFirstNot (P : ℕ → Type 0) (end place : ℕ) : Type 0 where
  pub within : place < end
  pub before : AreAll P place
  pub bad : ¬ P place

-- whatever the certificate claims over these nodes, this is what its checks of nodes come to
abbrev pub JudgesNodes : Topology → List NodeName → Result (Unit {0}) Rejected → Type 0
JudgesNodes t nodes result = (c : Certificate) → nodes_of c ≡ nodes → Judges t c (map node_check (places nodes)) result
