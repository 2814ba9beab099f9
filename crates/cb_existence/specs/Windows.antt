-- Windows and their nodes exist.
use Rattle.std.specs.Prelude.{ℕ, List}
use Rattle.cb_model.specs.declared.node.NodeName.{NodeName}
use Rattle.cb_log.specs.declared.closed.Closed.{Closed}
use Rattle.cb_log.specs.declared.record.Record.{Record}
use Rattle.cb_log.specs.Closing.{AreClosing}
use Rattle.cb_log.specs.Windows.{Window, AreWindowNodes}

-- a window of a source has a list of nodes
abbrev pub WindowNodesExist : Type 0
WindowNodesExist = (records : List Record) (source : List ℕ) (x : Window) → (nodes : List NodeName) × AreWindowNodes records source x nodes

-- at a position a list of windows closes
abbrev pub ClosingExists : Type 0
ClosingExists = (records : List Record) (w place : ℕ) → (closing : List Closed) × AreClosing records w place closing
