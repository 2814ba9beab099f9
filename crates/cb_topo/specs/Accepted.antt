-- Edits that were decided.
use Rattle.cb_network.specs.Edits.{IsAccepted}
use Rattle.cb_accept.specs.NumberedEdits.{IsNumberedEdit}
use Rattle.cb_topo.specs.declared.accepted.AcceptedEdit.{AcceptedEdit}
use Rattle.cb_topo.specs.Numbered.{Numbered, topology_of}

-- the topology accepts the edit, and the numbers are those that what it names has there
pub record IsDecided (n : Numbered) (accepted : AcceptedEdit) : Type 0 where
  pub is_accepted : IsAccepted (topology_of n) accepted.edit.now
  pub by_numbers : IsNumberedEdit n.net accepted.edit.now accepted.numbered
