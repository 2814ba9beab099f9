-- What contracts see of a session, by what its log is correlated by.
use Rattle.std.specs.Prelude.{Option, Some, option_map}
use Rattle.cb_model.specs.declared.wish.Wish.{Wish}
use Rattle.cb_cache.specs.Cached.{Cached}
use Rattle.cb_log.specs.Basis.{Mode, wanted, fixed}
use Rattle.cb_log.specs.Kept.{Kept}
use Rattle.cb_session.specs.declared.basis.Ready.{Ready}
use Rattle.cb_session.specs.declared.course.Course.{Course}
use Rattle.cb_session.specs.declared.course.Course.TheVariants.{Wanted, Fixed}
use Rattle.cb_session.specs.InUse.{in_use_of}
use Rattle.cb_session.specs.State.{State}

-- by codebooks for a wish, of which one may be ready
abbrev pub wanted_state : Cached → Wish → Kept → Option Ready → State
wanted_state cache wish windows ready =
    record { mode = wanted wish; cache = cache; windows = windows; book = option_map (λ r. in_use_of r.book) ready }

-- the mode of one codebook
abbrev pub mode_by : Ready → Mode
mode_by ready = fixed (in_use_of ready.book).kept (in_use_of ready.book).used

-- by one codebook
abbrev pub fixed_state : Cached → Kept → Ready → State
fixed_state cache windows ready =
    record { mode = mode_by ready; cache = cache; windows = windows; book = Some (in_use_of ready.book) }

-- by one or the other
abbrev pub state_of : Cached → Kept → Course → State
state_of cache windows (Wanted wish ready) = wanted_state cache wish windows ready
state_of cache windows (Fixed ready) = fixed_state cache windows ready
