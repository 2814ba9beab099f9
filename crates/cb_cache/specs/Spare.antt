-- Rows that are as they were, whatever there is to spare.
use Rattle.std.specs.Prelude.{◌≡◌}
use Rattle.cb_cache.specs.declared.rows.Rows.{Rows}
use Rattle.cb_cache.specs.declared.rows.Store.{Store}
use Rattle.cb_cache.specs.Cached.{but_spare}

-- but for what the pool has to spare, nothing has changed
pub record AreButSpare (old new : Rows) : Type 0 where
  pub slots : new.slots ≡ old.slots
  pub pool : but_spare new.pool ≡ but_spare old.pool
  pub scratch : new.scratch ≡ old.scratch

abbrev pub IsButSpare : Store → Store → Type 0
IsButSpare old new = AreButSpare old.rows new.rows × (new.agenda ≡ old.agenda)
