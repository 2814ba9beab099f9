-- Each edit has a result, and so has each list of edits.
use Rattle.std.proofs.Common.{List, [], ◌∷◌, refl, inl, inr, arith, Result, Ok, Err}
use Rattle.std.specs.List.{Contains}
use Rattle.cb_network.specs.declared.edit.Edit.{Edit}
use Rattle.cb_network.specs.declared.edit.Edit.TheVariants.{Create, Delete, Link, Unlink, Mute, Unmute}
use Rattle.cb_network.specs.declared.edit.EditRefusal.{EditRefusal}
use Rattle.cb_network.specs.declared.edit.EditRefusal.TheVariants.{NoClass, Exists, NoInstance, NoRelation, WrongKind, Linked, Occupied, NotLinked, NoSymptom, AlreadyMuted, NotMuted, InstanceLimit, NodeLimit, ProblemLimit, SymptomLimit}
use Rattle.cb_network.specs.Edits.{refusal_number, Refuses, Changes, IsAccepted, IsAfter, IsAfterAll, result_or, with_instance, without_instance, with_link, without_link, with_mute, without_mute, node_name_of}
use Rattle.cb_network.specs.Regular.{IsRegular}
use Rattle.cb_network.specs.Topology.{Topology}
use Rattle.cb_network.proofs.Accepted.{regular_stays}
use Rattle.cb_existence.proofs.Least.{least_of}
use Rattle.cb_existence.proofs.Refusals.{decide_class_named, pair_at, decide_relation, decide_refuses}

-- all refusals
all_refusals : List EditRefusal
all_refusals = NoClass ∷ Exists ∷ NoInstance ∷ NoRelation ∷ WrongKind ∷ Linked ∷ Occupied ∷ NotLinked ∷ NoSymptom ∷ AlreadyMuted ∷ NotMuted
    ∷ InstanceLimit ∷ NodeLimit ∷ ProblemLimit ∷ SymptomLimit ∷ []

is_refusal : (why : EditRefusal) → Contains all_refusals why
unfolding all_refusals
is_refusal NoClass = (0, omega arith, refl)
is_refusal Exists = (1, omega arith, refl)
is_refusal NoInstance = (2, omega arith, refl)
is_refusal NoRelation = (3, omega arith, refl)
is_refusal WrongKind = (4, omega arith, refl)
is_refusal Linked = (5, omega arith, refl)
is_refusal Occupied = (6, omega arith, refl)
is_refusal NotLinked = (7, omega arith, refl)
is_refusal NoSymptom = (8, omega arith, refl)
is_refusal AlreadyMuted = (9, omega arith, refl)
is_refusal NotMuted = (10, omega arith, refl)
is_refusal InstanceLimit = (11, omega arith, refl)
is_refusal NodeLimit = (12, omega arith, refl)
is_refusal ProblemLimit = (13, omega arith, refl)
is_refusal SymptomLimit = (14, omega arith, refl)

-- what isn't refused changes the topology
pub changed_by : (t : Topology) → IsRegular t.model → (edit : Edit) → IsAccepted t edit → (u : Topology) × Changes t edit u
changed_by t regular (Create name class) accepted = elim (decide_class_named t.model class) [
  | inl (c, named) ↦ (with_instance t name c, (c, named, refl))
  | inr none ↦ absurd (accepted NoClass none)
]
changed_by t regular (Delete name) accepted = (without_instance t name, refl)
changed_by t regular (Link a rel b) accepted = elim (decide_relation t regular a rel) [
  | inl (r, at) ↦ let (s, names) = pair_at t a rel r at in (with_link t a r s b, (r, s, names, refl))
  | inr none ↦ absurd (accepted NoRelation none)
]
changed_by t regular (Unlink a rel b) accepted = elim (decide_relation t regular a rel) [
  | inl (r, at) ↦ let (s, names) = pair_at t a rel r at in (without_link t a r s b, (r, s, names, refl))
  | inr none ↦ absurd (accepted NoRelation none)
]
changed_by t regular (Mute event name) accepted = (with_mute t (node_name_of event name), refl)
changed_by t regular (Unmute event name) accepted = (without_mute t (node_name_of event name), refl)

pub result_exists : (t : Topology) (edit : Edit) → IsRegular t.model → (result : Result Topology EditRefusal) × IsAfter t edit result
result_exists t edit regular = elim (least_of refusal_number (Refuses t edit) (decide_refuses t regular edit) all_refusals) [
  | inl (why, is) ↦ (Err why, (is.holds, λ other less. is.least other (is_refusal other) less))
  | inr none ↦
      let accepted : IsAccepted t edit = λ why. none why (is_refusal why) in
      let (u, changes) = changed_by t regular edit accepted in
      (Ok u, (accepted, changes))
]

pub after_all_exists : (t : Topology) (edits : List Edit) → IsRegular t.model → (u : Topology) × IsAfterAll t edits u
after_all_exists t [] regular = (t, refl)
after_all_exists t (edit ∷ edits) regular =
    let (result, is) = result_exists t edit regular in
    let (u, rest) = after_all_exists (result_or t result) edits (regular_stays t edit result regular is) in
    (u, (result, is, rest))
