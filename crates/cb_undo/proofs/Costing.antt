-- An accepted edit of a sound topology has a cost.
use Rattle.std.proofs.Common.{ℕ, Ok, arith}
use Rattle.cb_change.specs.Costs.{CountsAtMost, IsEditCost}
use Rattle.cb_change.specs.Laws.{IsStep}
use Rattle.cb_change.proofs.Existing.{has_edit_cost}
use Rattle.cb_network.specs.declared.edit.Edit.{Edit}
use Rattle.cb_network.specs.Topology.{Topology}
use Rattle.cb_network.specs.Regular.{IsRegular}
use Rattle.cb_network.specs.Sound.{Sound}
use Rattle.cb_network.specs.Laws.{HasGoodName}
use Rattle.cb_network.specs.Edits.{IsAfter}
use Rattle.cb_network.proofs.Accepted.{edit_keeps_sound}

-- so where no step is counted, no more steps are counted than it
pub no_step_is_counted : (t u : Topology) (edit : Edit) (steps : ℕ) → IsRegular t.model → HasGoodName edit → Sound t → IsAfter t edit (Ok u)
    → CountsAtMost (IsEditCost t edit u) steps steps
no_step_is_counted t u edit steps regular good sound after =
    let step : IsStep t edit u = record { before = sound; accepted = after; afterwards = edit_keeps_sound t u edit regular good sound after } in
    let (cost, is) = has_edit_cost t u edit regular step in
    record { cost = cost; is_cost = is; few = omega arith }
