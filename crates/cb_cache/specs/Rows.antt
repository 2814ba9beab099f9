-- Rows of all that some nodes lead to.
use Rattle.std.specs.Prelude.{◌≡◌, ℕ, List, length}
use Rattle.std.specs.List.Sorted.{IsPermutation}
use Rattle.cb_bits.specs.Bits.{words_for}
use Rattle.cb_nodes.specs.declared.id.NodeId.{NodeId}
use Rattle.cb_pool.specs.declared.slot.Slot.{Slot}
use Rattle.cb_pool.specs.Pool.{SlotHasRow}
use Rattle.cb_topo.specs.Numbered.{Numbered}
use Rattle.cb_cache.specs.declared.rows.Rows.{Rows}
use Rattle.cb_cache.specs.Cached.{IsReachedRow}
use Rattle.cb_cache.specs.Filled.{CostAtMost}
use Rattle.cb_cache.specs.Reached.{HasSlot}

-- these are the words of the node's row
abbrev pub IsNodeRow : Rows → NodeId → List ℕ → Type 0
IsNodeRow rows id words = (slot : Slot) × HasSlot rows.slots.items id.0 slot × SlotHasRow rows.pool slot words

-- the node has a row, of all that it leads to
abbrev pub HasReachedRow : Numbered → Rows → NodeId → Type 0
HasReachedRow n rows id = (words : List ℕ) × IsNodeRow rows id words × IsReachedRow n id.0 words

-- each of these nodes has its row, with a bit for the number of each node
pub record HaveRows (n : Numbered) (P : NodeId → Type 0) (rows : Rows) : Type 0 where
  pub each : (id : NodeId) → P id → HasReachedRow n rows id
  pub width : rows.pool.width ≡ words_for (length n.nodes)

-- no more steps were made than the nodes of these numbers cause nodes, together; in which order they were searched from doesn't matter
pub record CostInSomeOrder (n : Numbered) (ids : List NodeId) (steps new_steps : ℕ) : Type 0 where
  pub order : List NodeId
  pub permuted : IsPermutation ids order
  pub cost : CostAtMost n order steps new_steps
