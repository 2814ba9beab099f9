-- Slots in which the mutes of an instance change.
use Rattle.std.specs.Prelude.{◌≡◌, ◌≢◌, ◌<◌, ◌++◌, ◌∷◌, [], List, map, vec_len, vec_capacity}
use Rattle.std.specs.Global.{Global}
use Rattle.std.specs.declared.vec.Vec.{Vec}
use Rattle.cb_model.specs.declared.id.EventId.{EventId}
use Rattle.cb_instances.specs.declared.id.InstanceId.{InstanceId}
use Rattle.cb_instances.specs.declared.instance.Instance.{Instance}
use Rattle.cb_instances.specs.Net.{slot}
use Rattle.cb_instances.specs.Shown.{name_in}
use Rattle.cb_instances.specs.Slots.{Slots, At}

-- one event more can be muted without memory
abbrev pub HasSpareToMute : Slots → InstanceId → Type 0
HasSpareToMute slots id = (x : Instance) → At slots id x → vec_len x.muted < vec_capacity x.muted

-- of one instance the muted events take this step
pub record Remutes (old new : Slots) (id : InstanceId) (Step : List EventId → List EventId → Type 0) : Type 0 where
  pub names : map name_in new ≡ map name_in old
  pub others : (i : InstanceId) → i ≢ id → slot new i.0 ≡ slot old i.0
  pub this : (x : Instance) → At old id x → (m : Vec EventId Global) × At new id (record x { muted = m }) × (vec_capacity m ≡ vec_capacity x.muted) × Step x.muted.items m.items
