-- Slots in which an instance is listed no more.
use Rattle.std.specs.Prelude.{◌≢◌, List}
use Rattle.std.specs.List.{Contains}
use Rattle.cb_model.specs.declared.id.RelId.{RelId}
use Rattle.cb_model.specs.declared.tables.Tables.{Tables}
use Rattle.cb_instances.specs.declared.id.InstanceId.{InstanceId}
use Rattle.cb_instances.specs.declared.links.LinkRow.{LinkRow}
use Rattle.cb_instances.specs.Joined.{SameHeads, AllTidy}
use Rattle.cb_instances.specs.Net.{inverse_of}
use Rattle.cb_instances.specs.Slots.{Slots, ListsInstance}

-- nothing changed but that some list this instance no more
pub record Sheds (old new : Slots) (id : InstanceId) : Type 0 where
  pub heads : SameHeads old new
  pub fewer : (i : InstanceId) (r : RelId) (j : InstanceId) → ListsInstance new i r j → ListsInstance old i r j
  pub others : (i : InstanceId) (r : RelId) (j : InstanceId) → j ≢ id → ListsInstance old i r j → ListsInstance new i r j
  pub tidy : AllTidy old → AllTidy new

-- the instances of this list do not list it under the relation
pub record ForgetsRow (old new : Slots) (id : InstanceId) (back : RelId) (list : List InstanceId) : Type 0 where
  pub sheds : AllTidy old → Sheds old new id
  pub gone : AllTidy old → (at : InstanceId) → Contains list at → ¬ ListsInstance new at back id

-- the instances of these rows do not list it under the inverse of the row's relation
pub record ForgetsAll (tables : Tables) (old new : Slots) (id : InstanceId) (rows : List LinkRow) : Type 0 where
  pub sheds : AllTidy old → Sheds old new id
  pub gone : AllTidy old → (row : LinkRow) (at : InstanceId) → Contains rows row → Contains row.to.items at → ¬ ListsInstance new at (inverse_of tables row.rel) id
