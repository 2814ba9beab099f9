-- The nodes of a certificate under their numbers in a topology.
use Rattle.std.specs.Prelude.{◌≡◌, Result, Ok, Err, ℕ, ◌-◌, ◌<◌, List, Some, slice_get}
use Rattle.cb_model.specs.Order.{Rises}
use Rattle.cb_model.specs.NodeOrder.{node_cmp}
use Rattle.cb_cert.specs.declared.certificate.Certificate.{Certificate}
use Rattle.cb_cert.specs.Format.{nodes_of}
use Rattle.cb_validity.specs.declared.verdict.Rejected.{Rejected}
use Rattle.cb_nodes.specs.declared.id.NodeId.{NodeId}
use Rattle.cb_topo.specs.Numbered.{Numbered, IsLiveNode, IsWhole, AreNamed}

-- the number, which counts from 1, stands for this one of the nodes
pub record IsIdAt (ids : List NodeId) (number : ℕ) (id : NodeId) : Type 0 where
  pub counted : 0 < number
  pub is : slice_get ids (number - 1) ≡ Some id

-- all of them are nodes of the topology
abbrev pub AreLive : Numbered → List NodeId → Type 0
AreLive n ids = (i : ℕ) (id : NodeId) → slice_get ids i ≡ Some id → IsLiveNode n id

-- the nodes of the certificate are in order, and these are their numbers
pub record IsKnown (n : Numbered) (ids : List NodeId) (c : Certificate) : Type 0 where
  pub whole : IsWhole n
  pub named : AreNamed n ids (nodes_of c)
  pub rise : Rises node_cmp (nodes_of c)

-- whether it went well, whatever was found
abbrev pub verdict_of : {X : Type 0} → Result X Rejected → Result (Unit {0}) Rejected
verdict_of (Ok x) = Ok tt
verdict_of (Err why) = Err why
