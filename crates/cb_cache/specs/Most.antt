-- How many problems there can be.
use Rattle.std.specs.Prelude.{◌≤◌, ℕ, List, length}
use Rattle.cb_model.specs.declared.id.ClassId.{ClassId}
use Rattle.cb_model.specs.declared.id.EventId.{EventId}
use Rattle.cb_model.specs.declared.tables.Tables.{Tables}
use Rattle.cb_model.specs.Classes.{NamesClass}
use Rattle.cb_model.specs.Views.{AreEventsOf}
use Rattle.cb_network.specs.declared.edit.Edit.{Edit}
use Rattle.cb_network.specs.declared.edit.Edit.TheVariants.{Create}
use Rattle.cb_network.specs.Nodes.{IsProblem, IsCount}
use Rattle.cb_network.specs.Topology.{Topology}

-- the topology has at most that many problems
abbrev pub HasAtMost : Topology → ℕ → Type 0
HasAtMost t most = (count : ℕ) → IsCount (IsProblem t) count → count ≤ most

-- a further instance brings at most that many events, and of an edit that brings none nothing is said
abbrev pub HasEventsWithin : Tables → Edit → ℕ → Type 0
HasEventsWithin tables (Create name class) most = (c : ClassId) → NamesClass tables class c → (events : List EventId) × AreEventsOf tables c events × (length events ≤ most)
HasEventsWithin tables edit most = Unit {0}
