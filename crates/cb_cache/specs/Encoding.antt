-- How what a cache shows is written as a number.
use Rattle.std.specs.Prelude.{ℕ, List, Bool, Option, refl}
use Rattle.std.specs.Coded.{Coded, code_by, coded×, coded_ℕ, coded_bool, coded_list, coded_option}
use Rattle.cb_pool.specs.contracts.slot.Slot as slot
use Rattle.cb_pool.specs.declared.slot.Slot.{Slot}
use Rattle.cb_pool.specs.Pool.{Pool}
use Rattle.cb_topo.specs.Encoding.{numbered_encoding}
use Rattle.cb_topo.specs.Numbered.{Numbered}
use Rattle.cb_cache.specs.Cached.{Cached}

abbrev pub pool_encoding : Coded Pool
pool_encoding =
    code_by (ℕ × (List ℕ × (List Bool × ℕ))) (coded× coded_ℕ (coded× (coded_list coded_ℕ) (coded× (coded_list coded_bool) coded_ℕ)))
    (λ p. (p.width, (p.words, (p.taken, p.spare)))) (λ p. record { width = p.0; words = p.1.0; taken = p.1.1.0; spare = p.1.1.1 }) (λ _. refl)

-- it is stored as the tuple of its fields
abbrev pub cached_encoding : Coded Cached
cached_encoding =
    code_by (Numbered × (List (Option Slot) × Pool)) (coded× numbered_encoding (coded× (coded_list (coded_option slot.the_row.coded)) pool_encoding)) (λ c. (c.graph, (c.slots, c.pool)))
    (λ p. record { graph = p.0; slots = p.1.0; pool = p.1.1 }) (λ _. refl)
