-- An accepted edit is a step, and edits that are made in turn have a cost.
use Rattle.std.proofs.Common.{◌+◌, ℕ, List, [], ◌∷◌, refl, Result, Ok, Err}
use Rattle.std.specs.List.{Contains}
use Rattle.cb_model.proofs.Rising.{contains_head, contains_tail}
use Rattle.cb_network.specs.declared.edit.Edit.{Edit}
use Rattle.cb_network.specs.declared.edit.EditRefusal.{EditRefusal}
use Rattle.cb_network.specs.Edits.{IsAccepted, IsAfter}
use Rattle.cb_network.specs.Laws.{HasGoodName}
use Rattle.cb_network.specs.Regular.{IsRegular}
use Rattle.cb_network.specs.Sound.{Sound}
use Rattle.cb_network.specs.Topology.{Topology}
use Rattle.cb_network.proofs.Accepted.{edit_keeps_sound, regular_stays}
use Rattle.cb_change.specs.InTurn.{IsCostInTurn}
use Rattle.cb_change.specs.Laws.{IsStep}
use Rattle.cb_change.proofs.Existing.{has_edit_cost}
use Rattle.cb_existence.proofs.Results.{changed_by, result_exists}

step_of : (t u : Topology) (edit : Edit) → IsRegular t.model → HasGoodName edit → Sound t → IsAfter t edit (Ok u) → IsStep t edit u
step_of t u edit regular good sound is = record { before = sound; accepted = is; afterwards = edit_keeps_sound t u edit regular good sound is }

pub step_exists : (t : Topology) (edit : Edit) → IsRegular t.model → HasGoodName edit → Sound t → IsAccepted t edit → (u : Topology) × IsStep t edit u
step_exists t edit regular good sound accepted =
    let (u, changes) = changed_by t regular edit accepted in
    (u, step_of t u edit regular good sound (accepted, changes))

-- the cost of an edit, and of those after it
costs_by : (t : Topology) (edit : Edit) (edits : List Edit) → IsRegular t.model → HasGoodName edit → Sound t
    → ((v : Topology) → IsRegular v.model → Sound v → (cost : ℕ) × IsCostInTurn v edits cost)
    → (result : Result Topology EditRefusal) → IsAfter t edit result → (cost : ℕ) × IsCostInTurn t (edit ∷ edits) cost
costs_by t edit edits regular good sound further (Ok u) is =
    let step = step_of t u edit regular good sound is in
    let (first, is_first) = has_edit_cost t u edit regular step in
    let (later, is_later) = further u (regular_stays t edit (Ok u) regular is) step.afterwards in
    (first + later, (Ok u, first, later, is, is_first, is_later, refl))
costs_by t edit edits regular good sound further (Err why) is =
    let (later, is_later) = further t regular sound in
    (0 + later, (Err why, 0, later, is, refl, is_later, refl))

pub cost_in_turn_exists : (t : Topology) (edits : List Edit) → IsRegular t.model → Sound t → ((edit : Edit) → Contains edits edit → HasGoodName edit)
    → (cost : ℕ) × IsCostInTurn t edits cost
cost_in_turn_exists t [] regular sound good = (0, refl)
cost_in_turn_exists t (edit ∷ edits) regular sound good =
    let (result, is) = result_exists t edit regular in
    costs_by t edit edits regular (good edit (contains_head edit edits)) sound
    (λ v regular_v sound_v. cost_in_turn_exists v edits regular_v sound_v (λ e has. good e (contains_tail edit edits e has))) result is
