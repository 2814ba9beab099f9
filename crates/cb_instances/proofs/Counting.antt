-- How many instances there are.
use Rattle.std.proofs.Common.{◌≡◌, ◌+◌, ℕ, suc, [], ◌∷◌, cond, false, Option, Some, None, is_some, refl, sym, ap, ◌∙◌, inl, inr, arith}
use Rattle.std.specs.List.{flat_map, count_by}
use Rattle.std.specs.FinMap as fin_map
use Rattle.std.proofs.lemmas.Bool.{cases_Bool}
use Rattle.std.proofs.lemmas.List.Sums.{sum_by-cons}
use Rattle.cb_model.specs.declared.id.ClassId.{ClassId}
use Rattle.cb_model.specs.declared.tables.Tables.{Tables}
use Rattle.cb_model.specs.Order.{name_cmp}
use Rattle.cb_model.proofs.Rising.{name_cmp_total}
use Rattle.cb_network.proofs.Kept.{class_of}
use Rattle.cb_instances.specs.declared.id.InstanceId.{InstanceId}
use Rattle.cb_instances.specs.declared.instance.Instance.{Instance}
use Rattle.cb_instances.specs.Shown.{instance_entries, topology_of_slots}
use Rattle.cb_instances.specs.Slots.{Slots}
use Rattle.cb_instances.proofs.Showing.{HaveOwnNames, shows_instances}

-- the slots after the first
later : (slots : Slots) (o : Option Instance) → HaveOwnNames (o ∷ slots) → HaveOwnNames slots
later slots o own_names i j name a b =
    let i' : InstanceId = record { 0 = suc i.0 } in
    let j' : InstanceId = record { 0 = suc j.0 } in
    let e : i' ≡ j' = own_names i' j' name a b in
    let n : suc i.0 ≡ suc j.0 = ap (λ (k : InstanceId). k.0) e in
    let m : i.0 ≡ j.0 = omega arith in
    λ k. record { 0 = m k }

-- one for what is there
abbrev passes : Option Instance → ℕ
passes o = cond (is_some o) 1 0

pub counted : (tables : Tables) (slots : Slots) → HaveOwnNames slots → fin_map.len (fin_map.from_entries {R = name_cmp} (flat_map instance_entries slots)) ≡ count_by is_some slots
counted tables [] own_names = fin_map.len-empty name_cmp ClassId
counted tables (None ∷ slots) own_names = counted tables slots (later slots None own_names) ∙ (let e : count_by is_some slots ≡ 0 + count_by is_some slots = omega arith in e ∙ sym (sum_by-cons passes None slots))
counted tables (Some x ∷ slots) own_names =
    let rest = counted tables slots (later slots (Some x) own_names) in
    let m : fin_map.FinMap name_cmp ClassId = fin_map.from_entries (flat_map instance_entries slots) in
    let fresh : fin_map.contains_key m x.name ≡ false = elim (cases_Bool (fin_map.contains_key m x.name)) [
      | inl has ↦
          let class = class_of (topology_of_slots tables slots) x.name has in
          let h = (shows_instances slots (later slots (Some x) own_names) x.name class.0).0 class.1 in
          let here : InstanceId = record { 0 = 0 } in
          let there : InstanceId = record { 0 = suc h.at.0 } in
          let e : here ≡ there = own_names here there x.name (x, refl, refl) (h.instance, h.is, h.named) in
          let n : 0 ≡ suc h.at.0 = ap (λ (k : InstanceId). k.0) e in
          absurd (omega arith)
      | inr off ↦ off
    ] in
    let more : fin_map.len (fin_map.insert m x.name x.class) ≡ fin_map.len m + 1 = rw fresh at (fin_map.len-insert name_cmp_total m x.name x.class) in
    let count = sum_by-cons passes (Some x) slots in
    more ∙ (ap (λ n. n + 1) rest ∙ (let e : count_by is_some slots + 1 ≡ 1 + count_by is_some slots = omega arith in e ∙ sym count))
