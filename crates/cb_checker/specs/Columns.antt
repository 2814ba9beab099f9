-- The columns of a certificate, by numbers.
use Rattle.std.specs.Prelude.{◌≡◌, ℕ, suc, ◌<◌, List, map, Result, Some, slice_get}
use Rattle.cb_model.specs.declared.node.NodeName.{NodeName}
use Rattle.cb_network.specs.Nodes.{IsColumn}
use Rattle.cb_cert.specs.declared.certificate.Certificate.{Certificate}
use Rattle.cb_validity.specs.declared.verdict.Rejected.{Rejected}
use Rattle.cb_validity.specs.Checks.{Judges, column_check, certificate_columns, places}
use Rattle.cb_nodes.specs.declared.id.NodeId.{NodeId}
use Rattle.cb_topo.specs.Numbered.{Numbered, topology_of, IsNodeNamed}
use Rattle.cb_checker.specs.Known.{IsIdAt, IsKnown}

-- at this position there is the number of a column, which is greater than the one before
pub record IsColumnAt (n : Numbered) (ids : List NodeId) (columns : List ℕ) (place : ℕ) : Type 0 where
  pub number : ℕ
  pub id : NodeId
  pub is : slice_get columns place ≡ Some number
  pub at : IsIdAt ids number id
  pub watched : (name : NodeName) → IsNodeNamed n id name → IsColumn (topology_of n) name
  pub above : (before other : ℕ) → place ≡ suc before → slice_get columns before ≡ Some other → other < number

-- whatever the certificate claims over these columns, this is what its checks of columns come to
abbrev pub JudgesColumns : Numbered → List NodeId → List ℕ → Result (Unit {0}) Rejected → Type 0
JudgesColumns n ids columns result = (c : Certificate) → IsKnown n ids c → certificate_columns c ≡ columns
    → Judges (topology_of n) c (map column_check (places columns)) result
