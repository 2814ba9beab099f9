-- What holds of the slots of a net.
use Rattle.std.specs.Prelude.{ℕ, ◌<◌, ◌≤◌, length, vec_capacity, List}
use Rattle.std.specs.List.{Contains}
use Rattle.cb_model.specs.Classes.{HasEvent}
use Rattle.cb_model.specs.Views.{AreEventsOf}
use Rattle.cb_model.specs.declared.id.EventId.{EventId}
use Rattle.cb_model.specs.declared.id.RelId.{RelId}
use Rattle.cb_model.specs.declared.tables.Tables.{Tables}
use Rattle.cb_model.specs.WellTyped.{WellTyped, IsRelation}
use Rattle.cb_instances.specs.declared.id.InstanceId.{InstanceId}
use Rattle.cb_instances.specs.declared.instance.Instance.{Instance}
use Rattle.cb_instances.specs.declared.links.LinkRow.{LinkRow}
use Rattle.cb_instances.specs.Net.{Once, inverse_of}
use Rattle.cb_instances.specs.Places.{Entries, IsIndexed}
use Rattle.cb_instances.specs.Rows.{OneRowEach, row_of}
use Rattle.cb_instances.specs.Slots.{Head, head_of, Slots, At, ListsInstance}

-- each relation has one row, in which no instance stands twice
pub record IsTidy (rows : List LinkRow) : Type 0 where
  pub apart : OneRowEach rows
  pub once : (r : RelId) → Once (row_of rows r)

-- where one instance lists another, that one lists it under the inverse
abbrev pub StandBothWays : Tables → Slots → Type 0
StandBothWays tables slots = (i : InstanceId) (r : RelId) (j : InstanceId) → ListsInstance slots i r j
    → IsRelation tables r × ListsInstance slots j (inverse_of tables r) i

-- muted are events of the class, each once, and all of those fit without memory
pub record FitsMutes (tables : Tables) (h : Head) : Type 0 where
  pub events : List EventId
  pub are : AreEventsOf tables h.class events
  pub spare : length events ≤ vec_capacity h.muted
  pub of_class : (e : EventId) → Contains h.muted.items e → HasEvent tables h.class e
  pub once : Once h.muted.items

-- the tables are those of a model, every name leads to its instance, and links stand both ways, each once
pub record IsNetOf (tables : Tables) (slots : Slots) (entries : Entries) (capacity : ℕ) : Type 0 where
  pub typed : WellTyped tables
  pub indexed : IsIndexed slots entries
  pub below : (i : InstanceId) (x : Instance) → At slots i x → i.0 < capacity
  pub both_ways : StandBothWays tables slots
  pub tidy : (i : InstanceId) (x : Instance) → At slots i x → IsTidy x.links.rows.items
  pub mutes : (i : InstanceId) (x : Instance) → At slots i x → FitsMutes tables (head_of x)
