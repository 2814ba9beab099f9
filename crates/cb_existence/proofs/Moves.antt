-- Edits and undos lead to a history, whose topology has a cost.
use Rattle.std.proofs.Common.{ℕ, List, [], ◌∷◌, refl}
use Rattle.std.specs.List.{Contains}
use Rattle.cb_change.specs.Costs.{IsOpenCost}
use Rattle.cb_change.proofs.Existing.{has_open_cost}
use Rattle.cb_history.specs.Histories.{History, new_history, edited_by, undone, IsAfterMoves}
use Rattle.cb_history.specs.declared.moves.Move.{Move}
use Rattle.cb_history.specs.declared.moves.Move.TheVariants.{Make, Undo}
use Rattle.cb_history.proofs.Moved.{AllOf, Regular, regular_result, undone_all, moves_keep_sound}
use Rattle.cb_model.proofs.Rising.{nothing_in_empty}
use Rattle.cb_network.specs.declared.edit.Edit.{Edit}
use Rattle.cb_network.specs.Laws.{HasGoodName}
use Rattle.cb_network.specs.Regular.{IsRegular}
use Rattle.cb_network.specs.Sound.{Sound}
use Rattle.cb_network.specs.Topology.{Topology}
use Rattle.cb_existence.proofs.Results.{result_exists}

lead_on : (depth : ℕ) (h : History) (moves : List Move) → AllOf Regular h → (last : History) × IsAfterMoves depth h moves last
lead_on depth h [] all = (h, refl)
lead_on depth h (Make edit ∷ moves) all =
    let (result, is) = result_exists h.now edit all.now in
    let (last, after) = lead_on depth (edited_by depth h result) moves (regular_result depth h edit result all is) in
    (last, (result, is, after))
lead_on depth h (Undo ∷ moves) all = lead_on depth (undone h) moves (undone_all Regular h.now h.before all.now all.before)

pub moves_lead : (depth : ℕ) (t : Topology) (moves : List Move) → IsRegular t.model → (last : History) × IsAfterMoves depth (new_history t) moves last
moves_lead depth t moves regular = lead_on depth (new_history t) moves (record { now = regular; before = λ u none. absurd (nothing_in_empty u none) })

pub last_cost : (depth : ℕ) (t : Topology) (moves : List Move) → IsRegular t.model → Sound t
    → ((edit : Edit) → Contains moves (Make edit) → HasGoodName edit)
    → (last : History) × (cost : ℕ) × IsAfterMoves depth (new_history t) moves last × IsOpenCost last.now cost
last_cost depth t moves regular sound good =
    let (last, after) = moves_lead depth t moves regular in
    let kept = moves_keep_sound depth (new_history t) last moves
    (record { now = sound; regular = regular; before = λ u none. absurd (nothing_in_empty u none) }) good after in
    let (cost, is) = has_open_cost last.now kept.regular kept.now in
    (last, cost, after, is)
