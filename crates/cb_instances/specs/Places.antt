-- The number of each name.
use Rattle.std.specs.Prelude.{◌≡◌, ℕ, List, Option, Some}
use Rattle.std.specs.Str.{bytes_eq}
use Rattle.std.specs.Map.{lookup}
use Rattle.std.specs.declared.vec.Vec.{Vec}
use Rattle.std.specs.Global.{Global}
use Rattle.cb_instances.specs.declared.id.InstanceId.{InstanceId}
use Rattle.cb_instances.specs.declared.instance.Instance.{Instance}
use Rattle.cb_instances.specs.Slots.{Slots, At, NamedAt}
use Rattle.cb_network.specs.Words.{InstanceName}

abbrev pub Entries : Type 0
Entries = List (Vec ℕ Global × ℕ)

-- what the entries have for a name
abbrev pub place_of : Entries → InstanceName → Option ℕ
place_of entries name = lookup (λ k. bytes_eq name k.items) entries

-- the entries have exactly the names in the slots, each with its number
pub record IsIndexed (slots : Slots) (entries : Entries) : Type 0 where
  pub listed : (i : InstanceId) (x : Instance) → At slots i x → place_of entries x.name ≡ Some i.0
  pub live : (name : InstanceName) (i : InstanceId) → place_of entries name ≡ Some i.0 → NamedAt slots i name
