-- A numbered topology with a row for each problem: all nodes that the problem causes.
use Rattle.std.specs.Prelude.{◌≡◌, ◌↔◌, ℕ, List, Option, true}
use Rattle.cb_lanes.specs.Words.{bit_of}
use Rattle.cb_model.specs.declared.node.NodeName.{NodeName}
use Rattle.cb_network.specs.Causes.{Causes}
use Rattle.cb_pool.specs.declared.slot.Slot.{Slot}
use Rattle.cb_pool.specs.Pool.{Pool}
use Rattle.cb_topo.specs.Numbered.{Numbered, topology_of, IsNodeNamed}
use Rattle.cb_graph.specs.Edges.{EdgeAt, number}
use Rattle.cb_cache.specs.Reached.{IsReached, HoldsReached, AreReached}

-- the topology, for the number of each problem the slot of its row, and the rows, whatever there is to spare
pub record Cached : Type 0 where
  pub graph : Numbered
  pub slots : List (Option Slot)
  pub pool : Pool

-- a pool, whatever it has to spare
abbrev pub but_spare : Pool → Pool
but_spare p = record p { spare = 0 }

-- bit k of the words is one exactly where edges lead from this number to k
abbrev pub IsReachedRow : Numbered → ℕ → List ℕ → Type 0
IsReachedRow n i words = IsReached (EdgeAt n) i words

-- bit k of the words is one exactly where k is the number of a node that the node of this name causes
abbrev pub IsCausedRow : Numbered → NodeName → List ℕ → Type 0
IsCausedRow n name words = (k : ℕ) → (bit_of words k ≡ true) ↔ ((caused : NodeName) × IsNodeNamed n (number k) caused × Causes (topology_of n) name caused)

-- the slot has the row of all that this number leads to
abbrev pub IsRowOf : Numbered → ℕ → Pool → Slot → Type 0
IsRowOf n i p slot = HoldsReached (EdgeAt n) i p slot

-- each slot has the row of its number
abbrev pub AreRows : Numbered → List (Option Slot) → Pool → Type 0
AreRows n slots p = AreReached (EdgeAt n) slots p
