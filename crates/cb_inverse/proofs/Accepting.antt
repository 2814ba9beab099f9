-- Only a Delete is decided as a Delete, and another edit is undone by its reverse.
use Rattle.std.proofs.Common.{◌≢◌, ◌∷◌, [], refl, ap}
use Rattle.cb_network.specs.declared.edit.Edit.{Edit}
use Rattle.cb_network.specs.declared.edit.Edit.TheVariants.{Create, Delete, Link, Unlink, Mute, Unmute}
use Rattle.cb_network.specs.Topology.{Topology}
use Rattle.cb_history.specs.Inverse.{Inverts}
use Rattle.cb_instances.specs.declared.id.InstanceId.{InstanceId}
use Rattle.cb_instances.specs.Net.{Net}
use Rattle.cb_accept.specs.NumberedEdits.{IsNumberedEdit}
use Rattle.cb_accept.specs.declared.numbered.NumberedEdit.{NumberedEdit}
use Rattle.cb_accept.specs.declared.numbered.NumberedEdit.TheVariants as numbered
use Rattle.cb_inverse.specs.Inverses.{IsReverse}

pub reverse_inverts : (n : Net) (t : Topology) (edit back : Edit) (by : NumberedEdit) → IsNumberedEdit n edit by → ((id : InstanceId) → by ≢ numbered.Delete id)
    → IsReverse edit back → Inverts t edit (back ∷ [])
reverse_inverts n t (Create name class) back by is other reverse = ap (λ b. b ∷ []) reverse
reverse_inverts n t (Delete name) back (numbered.Delete id) is other reverse = absurd (other id refl)
reverse_inverts n t (Delete name) back by is other reverse = absurd is
reverse_inverts n t (Link a rel b) back by is other reverse = ap (λ b. b ∷ []) reverse
reverse_inverts n t (Unlink a rel b) back by is other reverse = ap (λ b. b ∷ []) reverse
reverse_inverts n t (Mute event name) back by is other reverse = ap (λ b. b ∷ []) reverse
reverse_inverts n t (Unmute event name) back by is other reverse = ap (λ b. b ∷ []) reverse
