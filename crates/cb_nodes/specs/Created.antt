-- Numbers for the events of a new instance.
use Rattle.std.specs.Prelude.{List}
use Rattle.cb_model.specs.Views.{AreEventsOf}
use Rattle.cb_model.specs.declared.id.ClassId.{ClassId}
use Rattle.cb_model.specs.declared.id.EventId.{EventId}
use Rattle.cb_instances.specs.declared.id.InstanceId.{InstanceId}
use Rattle.cb_instances.specs.Net.{Net, IsFree}
use Rattle.cb_nodes.specs.Table.{Table, NumbersEvent, Adds}

-- free numbers of instances have no nodes
abbrev pub IsFreed : Net → Table → Type 0
IsFreed net nodes = (id : InstanceId) (e : EventId) → IsFree net id → ¬ NumbersEvent nodes id e

-- all events of the class have numbers at this instance
abbrev pub AddsAll : Net → ClassId → Table → Table → InstanceId → Type 0
AddsAll net class old new id = (events : List EventId) × AreEventsOf net.topology.model class events × Adds old new id events
