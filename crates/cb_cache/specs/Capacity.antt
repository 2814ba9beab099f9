-- Capacity for searches.
use Rattle.std.specs.Prelude.{◌≡◌, ◌≤◌, ℕ, length, vec_capacity}
use Rattle.cb_bits.specs.Bits.{words_for}
use Rattle.cb_cache.specs.declared.agenda.Agenda.{Agenda}
use Rattle.cb_cache.specs.declared.scratch.Scratch.{Scratch}

-- the buffers of a search are large enough for `capacity` nodes
pub record HasCapacityFor (capacity : ℕ) (scratch : Scratch) : Type 0 where
  pub found : length scratch.found ≡ capacity
  pub done : length scratch.done ≡ capacity
  pub joined : length scratch.joined.items ≡ words_for capacity

-- each of `capacity` nodes can be marked as touched, and all problems can be listed
pub record HasAgendaFor (capacity : ℕ) (agenda : Agenda) : Type 0 where
  pub touched : length agenda.touched ≡ capacity
  pub listed : capacity ≤ vec_capacity agenda.problems
