-- What is kept of a log when it goes on.
use Rattle.std.specs.Prelude.{◌≡◌, ◌≢◌, ◌↔◌, ℕ, max, ◌+◌, ◌<◌, ◌≤◌, ◌⊎◌, List, true, Option, None, Some}
use Rattle.std.specs.FinMap as map
use Rattle.std.specs.FinSet as set
use Rattle.std.specs.List.{Contains}
use Rattle.cb_model.specs.declared.node.NodeName.{NodeName}
use Rattle.cb_model.specs.Order.{Rises}
use Rattle.cb_model.specs.NodeOrder.{node_cmp}
use Rattle.cb_log.specs.declared.closed.Closed.{Closed}
use Rattle.cb_log.specs.Closing.{closed_cmp}
use Rattle.cb_log.specs.Kept.{OpenWindow, Kept}

-- an open window goes when its length has gone by, and else stays
abbrev pub StaysUnlessDue : ℕ → ℕ → Option OpenWindow → Option OpenWindow → Type 0
StaysUnlessDue w now None new = new ≡ None
StaysUnlessDue w now (Some kept) new =
    ((kept.opened + w ≤ now) × (new ≡ None)) ⊎ ((now < kept.opened + w) × (new ≡ Some kept))

-- time goes by, and the windows that are due go
pub record TimePasses (old new : Kept) (at : ℕ) : Type 0 where
  pub length : new.length ≡ old.length
  pub now : new.now ≡ max old.now at
  pub windows : (source : List ℕ) → StaysUnlessDue old.length new.now (map.get old.windows source) (map.get new.windows source)

-- the open window with the node; where none is open, a new one
abbrev pub with_node : ℕ → NodeName → Option OpenWindow → OpenWindow
with_node now node None = record { opened = now; nodes = set.insert set.empty node }
with_node now node (Some kept) = record kept { nodes = set.insert kept.nodes node }

-- time goes by, the windows that are due go, and the node is raised by the source
pub record Raises (old new : Kept) (at : ℕ) (source : List ℕ) (node : NodeName) : Type 0 where
  pub length : new.length ≡ old.length
  pub now : new.now ≡ max old.now at
  pub left : Option OpenWindow
  pub stays : StaysUnlessDue old.length new.now (map.get old.windows source) left
  pub own : map.get new.windows source ≡ Some (with_node new.now node left)
  pub others : (other : List ℕ) → other ≢ source → StaysUnlessDue old.length new.now (map.get old.windows other) (map.get new.windows other)

-- the source's window is open, and this is kept of it without the node; every other stays, and all where none is open
pub record Clears (old new : Kept) (source : List ℕ) (node : NodeName) : Type 0 where
  pub length : new.length ≡ old.length
  pub now : new.now ≡ old.now
  pub own : (kept : OpenWindow) → map.get old.windows source ≡ Some kept → map.get new.windows source ≡ Some (record kept { nodes = set.remove kept.nodes node })
  pub none : map.get old.windows source ≡ None → map.get new.windows source ≡ None
  pub others : (other : List ℕ) → other ≢ source → map.get new.windows other ≡ map.get old.windows other

-- an open window is reported with its times and nodes
pub record IsReported (kept : Kept) (now : ℕ) (c : Closed) : Type 0 where
  pub window : OpenWindow
  pub is : map.get kept.windows c.from ≡ Some window
  pub opened : c.opened ≡ window.opened
  pub closed : c.closed ≡ now
  pub rise : Rises node_cmp c.nodes
  pub nodes : (node : NodeName) → Contains c.nodes node ↔ (set.contains window.nodes node ≡ true)

-- the open windows that are due at a time, in order
pub record AreDue (kept : Kept) (now : ℕ) (closing : List Closed) : Type 0 where
  pub rise : Rises closed_cmp closing
  pub each : (c : Closed) → Contains closing c ↔ (IsReported kept now c × (c.opened + kept.length ≤ now))

-- all open windows, in order
pub record AreOpen (kept : Kept) (closing : List Closed) : Type 0 where
  pub rise : Rises closed_cmp closing
  pub each : (c : Closed) → Contains closing c ↔ IsReported kept kept.now c
