-- Edits by numbers.
use Rattle.cb_model.specs.Classes.{NamesClass}
use Rattle.cb_network.specs.declared.edit.Edit.{Edit}
use Rattle.cb_network.specs.declared.edit.Edit.TheVariants.{Create, Delete, Link, Unlink, Mute, Unmute}
use Rattle.cb_instances.specs.Net.{Net, IsNamed}
use Rattle.cb_accept.specs.declared.numbered.NumberedEdit.{NumberedEdit}
use Rattle.cb_accept.specs.declared.numbered.NumberedEdit.TheVariants as numbered
use Rattle.cb_accept.specs.Refusals.{AreEnds, NamesSymptom}

-- this is the edit, by the numbers of what it names
abbrev pub IsNumberedEdit : Net → Edit → NumberedEdit → Type 0
IsNumberedEdit n (Create name class) (numbered.Create c) = NamesClass n.topology.model class c
IsNumberedEdit n (Delete name) (numbered.Delete id) = IsNamed n id name
IsNumberedEdit n (Link a rel b) (numbered.Link from r to) = AreEnds n a rel b (record { from = from; rel = r; to = to })
IsNumberedEdit n (Unlink a rel b) (numbered.Unlink from r to) = AreEnds n a rel b (record { from = from; rel = r; to = to })
IsNumberedEdit n (Mute event name) (numbered.Mute id e) = NamesSymptom n event name (record { id = id; event = e })
IsNumberedEdit n (Unmute event name) (numbered.Unmute id e) = NamesSymptom n event name (record { id = id; event = e })
IsNumberedEdit n edit other = ⊥
