-- What the open windows are seen as, and the queue in which they wait.
use Rattle.std.specs.Prelude.{◌≡◌, ◌≢◌, ◌↔◌, ◌⊎◌, ◌+◌, ◌<◌, ◌≤◌, ◌++◌, ℕ, List, [], ◌∷◌, map, Option, option_map, None, Some, true, false}
use Rattle.std.specs.BTreeMap as tree
use Rattle.std.specs.BTreeMap.{BTreeMap}
use Rattle.std.specs.BTreeSet as tree_set
use Rattle.std.specs.BTreeSet.{BTreeSet}
use Rattle.std.specs.FinMap as fin
use Rattle.std.specs.FinSet as set
use Rattle.std.specs.List.{AllZip, Contains}
use Rattle.std.specs.List.Sorted.{IsStrictlySortedBy}
use Rattle.std.specs.declared.cmp.Ordering.{Ordering}
use Rattle.std.specs.Ordering.{nat_cmp, on, then_cmp}
use Rattle.cb_model.specs.declared.node.NodeName.{NodeName}
use Rattle.cb_model.specs.NodeOrder.{node_cmp}
use Rattle.cb_model.specs.Order.{name_cmp}
use Rattle.cb_log.specs.declared.closed.Closed.{Closed}
use Rattle.cb_log.specs.Kept.{Kept, OpenWindow}
use Rattle.cb_log.specs.Passing.{StaysUnlessDue, with_node}
use Rattle.cb_window.specs.declared.turn.Turn.{Turn}
use Rattle.cb_window.specs.declared.windows.Open.{Open}

-- by the time at which the window opened, and then by its source
abbrev pub turn_cmp : Turn → Turn → Ordering
turn_cmp = then_cmp (on (λ t. t.opened) nat_cmp) (on (λ t. t.from) name_cmp)

-- an open window, with the set of its nodes
abbrev pub shown : Open → OpenWindow
shown o = record { opened = o.opened; nodes = set.from_list o.nodes.keys }

-- the open windows by their sources
abbrev pub shown_map : BTreeMap (List ℕ) Open → fin.FinMap name_cmp OpenWindow
shown_map windows = fin.from_entries (map (λ e. (e.0, shown e.1)) windows.entries)

-- a source's turn is in the queue exactly where it has a window that opened then
abbrev pub IsQueued : BTreeMap (List ℕ) Open → BTreeSet Turn → Type 0
IsQueued windows queue = (turn : Turn) → (tree_set.contains turn_cmp queue turn ≡ true)
    ↔ ((o : Open) × (tree.get name_cmp windows turn.from ≡ Some o) × (o.opened ≡ turn.opened))

-- the turn is taken out of the queue
abbrev pub TakesOut : BTreeSet Turn → BTreeSet Turn → Turn → Type 0
TakesOut old new turn = (other : Turn) → (tree_set.contains turn_cmp new other ≡ true) ↔ ((other ≢ turn) × (tree_set.contains turn_cmp old other ≡ true))

-- no window in the queue has been open for that long
abbrev pub NoneIsDue : BTreeSet Turn → ℕ → ℕ → Type 0
NoneIsDue queue w time = (turn : Turn) → tree_set.contains turn_cmp queue turn ≡ true → time < turn.opened + w

-- a window goes where it has been open for that long, and else stays
abbrev pub GoesOrStays : ℕ → ℕ → Option Open → Option Open → Type 0
GoesOrStays w time None new = new ≡ None
GoesOrStays w time (Some o) new = ((o.opened + w ≤ time) × (new ≡ None)) ⊎ ((time < o.opened + w) × (new ≡ Some o))

-- the windows that have been open for that long go, and the others stay
abbrev pub GoesIfDue : BTreeMap (List ℕ) Open → BTreeMap (List ℕ) Open → ℕ → ℕ → Type 0
GoesIfDue old new w time = (source : List ℕ) → GoesOrStays w time (tree.get name_cmp old source) (tree.get name_cmp new source)

-- the window of the turn is open
abbrev pub IsWindowOpen : BTreeMap (List ℕ) Open → Turn → Type 0
IsWindowOpen windows turn = (o : Open) × (tree.get name_cmp windows turn.from ≡ Some o) × (o.opened ≡ turn.opened)

-- this is reported of the window of the turn, which closes at that time
pub record IsReportedSo (windows : BTreeMap (List ℕ) Open) (turn : Turn) (time : ℕ) (c : Closed) : Type 0 where
  pub from : c.from ≡ turn.from
  pub opened : c.opened ≡ turn.opened
  pub closed : c.closed ≡ time
  pub nodes : (o : Open) → tree.get name_cmp windows turn.from ≡ Some o → (c.nodes ≡ o.nodes.keys) × IsStrictlySortedBy node_cmp o.nodes.keys

-- the turns of these windows stand first in the queue, each opened by then, and each of the others opened later
pub record AreReportedUpTo (windows : BTreeMap (List ℕ) Open) (queue : BTreeSet Turn) (last time : ℕ) (closing : List Closed) : Type 0 where
  pub prefix : List Turn
  pub rest : List Turn
  pub are : queue.keys ≡ prefix ++ rest
  pub sorted : IsStrictlySortedBy turn_cmp queue.keys
  pub reported : AllZip (λ turn c. IsReportedSo windows turn time c) prefix closing
  pub early : (turn : Turn) → Contains prefix turn → turn.opened ≤ last
  pub late : (turn : Turn) → Contains rest turn → last < turn.opened

-- all windows in the queue are reported
pub record AreReportedAll (windows : BTreeMap (List ℕ) Open) (queue : BTreeSet Turn) (time : ℕ) (closing : List Closed) : Type 0 where
  pub last : ℕ
  pub up : AreReportedUpTo windows queue last time closing
  pub none : (turn : Turn) → ¬ Contains up.rest turn

-- the window without the node
pub record LosesNode (old new : Open) (node : NodeName) : Type 0 where
  pub opened : new.opened ≡ old.opened
  pub nodes : tree_set.Updates node_cmp old.nodes new.nodes node false

-- the source's window, if it has one, loses the node, and the others stay
pub record ClearsIn (old new : BTreeMap (List ℕ) Open) (from : List ℕ) (node : NodeName) : Type 0 where
  pub own : (o : Open) → tree.get name_cmp old from ≡ Some o → (n : Open) × (tree.get name_cmp new from ≡ Some n) × LosesNode o n node
  pub none : tree.get name_cmp old from ≡ None → tree.get name_cmp new from ≡ None
  pub others : (other : List ℕ) → other ≢ from → tree.get name_cmp new other ≡ tree.get name_cmp old other

-- the window with the node
pub record GainsNode (old new : Open) (node : NodeName) : Type 0 where
  pub opened : new.opened ≡ old.opened
  pub nodes : tree_set.Updates node_cmp old.nodes new.nodes node true

-- the source's window, if it has one, gains the node, and the others stay
pub record GainsIn (old new : BTreeMap (List ℕ) Open) (from : List ℕ) (node : NodeName) : Type 0 where
  pub own : (o : Open) → tree.get name_cmp old from ≡ Some o → (n : Open) × (tree.get name_cmp new from ≡ Some n) × GainsNode o n node
  pub others : (other : List ℕ) → other ≢ from → tree.get name_cmp new other ≡ tree.get name_cmp old other

-- a window opens with the node, in place of the one that the source has, and the others stay
pub record OpensIn (old new : BTreeMap (List ℕ) Open) (from : List ℕ) (time : ℕ) (node : NodeName) : Type 0 where
  pub window : Open
  pub own : tree.get name_cmp new from ≡ Some window
  pub opened : window.opened ≡ time
  pub nodes : window.nodes.keys ≡ node ∷ []
  pub others : (other : List ℕ) → other ≢ from → tree.get name_cmp new other ≡ tree.get name_cmp old other

-- every source's window looks as it did
abbrev pub LooksSame : BTreeMap (List ℕ) Open → BTreeMap (List ℕ) Open → Type 0
LooksSame old new = (source : List ℕ) → option_map shown (tree.get name_cmp new source) ≡ option_map shown (tree.get name_cmp old source)

-- every source's window opened when it did
abbrev pub OpenedSame : BTreeMap (List ℕ) Open → BTreeMap (List ℕ) Open → Type 0
OpenedSame old new =
    (source : List ℕ) → option_map (λ o. o.opened) (tree.get name_cmp new source) ≡ option_map (λ o. o.opened) (tree.get name_cmp old source)

-- the source's window, if it has one, opened before that time
abbrev pub OpenedBefore : BTreeMap (List ℕ) Open → List ℕ → ℕ → Type 0
OpenedBefore windows from time = (o : Open) → tree.get name_cmp windows from ≡ Some o → o.opened < time

-- the source has a window that isn't due by that time
abbrev pub IsOpenStill : BTreeMap (List ℕ) Open → List ℕ → ℕ → ℕ → Type 0
IsOpenStill windows from w time = (o : Open) × (tree.get name_cmp windows from ≡ Some o) × (time < o.opened + w)

-- the node goes into what is left of the source's window by that time, and the others stay
pub record PutsNode (old new : Kept) (time : ℕ) (source : List ℕ) (node : NodeName) : Type 0 where
  pub length : new.length ≡ old.length
  pub now : new.now ≡ old.now
  pub left : Option OpenWindow
  pub stays : StaysUnlessDue old.length time (fin.get old.windows source) left
  pub own : fin.get new.windows source ≡ Some (with_node time node left)
  pub others : (other : List ℕ) → other ≢ source → fin.get new.windows other ≡ fin.get old.windows other
