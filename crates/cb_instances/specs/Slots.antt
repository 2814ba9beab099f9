-- Slots of instances, and what they have.
use Rattle.std.specs.Prelude.{◌≡◌, List, Option, Some}
use Rattle.std.specs.List.{Contains}
use Rattle.std.specs.Global.{Global}
use Rattle.std.specs.declared.vec.Vec.{Vec}
use Rattle.cb_model.specs.declared.id.EventId.{EventId}
use Rattle.cb_model.specs.declared.id.ClassId.{ClassId}
use Rattle.cb_model.specs.declared.id.RelId.{RelId}
use Rattle.cb_instances.specs.declared.id.InstanceId.{InstanceId}
use Rattle.cb_instances.specs.declared.instance.Instance.{Instance}
use Rattle.cb_instances.specs.Net.{slot}
use Rattle.cb_instances.specs.Rows.{row_of}
use Rattle.cb_network.specs.Words.{InstanceName}

-- what an instance is but for its links
pub record Head : Type 0 where
  pub name : InstanceName
  pub class : ClassId
  pub muted : Vec EventId Global

abbrev pub head_of : Instance → Head
head_of x = record { name = x.name; class = x.class; muted = x.muted }

abbrev pub Slots : Type 0
Slots = List (Option Instance)

-- the slot of this number has the instance
abbrev pub At : Slots → InstanceId → Instance → Type 0
At slots i x = slot slots i.0 ≡ Some x

-- the slot of this number has an instance of this name
abbrev pub NamedAt : Slots → InstanceId → InstanceName → Type 0
NamedAt slots i name = (x : Instance) × At slots i x × (x.name ≡ name)

-- the instance at i lists that at j under the relation
pub record ListsInstance (slots : Slots) (i : InstanceId) (r : RelId) (j : InstanceId) : Type 0 where
  pub lister : Instance
  pub is : At slots i lister
  pub listed : Contains (row_of lister.links.rows.items r) j
