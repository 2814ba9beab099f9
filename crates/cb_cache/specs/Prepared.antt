-- Capacity for rows that aren't there yet.
use Rattle.std.specs.Prelude.{◌≡◌, ◌≤◌, ℕ, [], None, length, replicate}
use Rattle.cb_bits.specs.Bits.{words_for}
use Rattle.cb_topo.specs.Numbered.{Numbered, topology_of}
use Rattle.cb_cache.specs.declared.rows.Rows.{Rows}
use Rattle.cb_cache.specs.declared.rows.Store.{Store}
use Rattle.cb_cache.specs.Most.{HasAtMost}
use Rattle.cb_cache.specs.Capacity.{HasCapacityFor, HasAgendaFor}

-- no number has a slot, and none is taken; there is capacity for `count` rows of `capacity` nodes
pub record AreNoRows (capacity count : ℕ) (rows : Rows) : Type 0 where
  pub slots : rows.slots.items ≡ replicate capacity None
  pub taken : rows.pool.taken ≡ []
  pub width : rows.pool.width ≡ words_for capacity
  pub scratch : HasCapacityFor capacity rows.scratch
  pub spare : count ≤ rows.pool.spare

-- nothing is listed, and there are no rows yet
pub record IsEmptyFor (capacity count : ℕ) (store : Store) : Type 0 where
  pub order : store.agenda.problems.items ≡ []
  pub rows : AreNoRows capacity count store.rows
  pub agenda : HasAgendaFor capacity store.agenda

-- there is capacity for the rows of all problems
abbrev pub IsCapacityFor : Numbered → Store → Type 0
IsCapacityFor n store = (count : ℕ) × HasAtMost (topology_of n) count × IsEmptyFor (length n.nodes) count store
