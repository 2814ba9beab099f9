-- How a session's state is written as a number.
use Rattle.std.specs.Prelude.{◌≡◌, ℕ, List, Option, None, Some, refl}
use Rattle.std.specs.Coded.{Coded, code_by, coded×, coded_ℕ, coded_list, coded_option}
use Rattle.cb_model.specs.contracts.wish.Wish as wish
use Rattle.cb_model.specs.declared.wish.Wish.{Wish}
use Rattle.cb_cache.specs.Cached.{Cached}
use Rattle.cb_cache.specs.Encoding.{cached_encoding}
use Rattle.cb_log.specs.Basis.{Mode, wanted, fixed}
use Rattle.cb_log.specs.Kept.{Kept}
use Rattle.cb_window.specs.Encoding.{kept_encoding}
use Rattle.cb_session.specs.InUse.{InUse}
use Rattle.cb_session.specs.State.{State}

-- a mode as its parts: the given columns, if it is fixed, and the wish
abbrev pub parts_of : Mode → Option (List ℕ) × Wish
parts_of (wanted wish) = (None, wish)
parts_of (fixed given met) = (Some given, met)

-- and back
abbrev pub mode_of : Option (List ℕ) × Wish → Mode
mode_of (None, wish) = wanted wish
mode_of (Some given, met) = fixed given met

abbrev pub mode_of_parts : (mode : Mode) → mode_of (parts_of mode) ≡ mode
mode_of_parts (wanted wish) = refl
mode_of_parts (fixed given met) = refl

abbrev pub mode_encoding : Coded Mode
mode_encoding = code_by (Option (List ℕ) × Wish) (coded× (coded_option (coded_list coded_ℕ)) wish.the_row.coded) parts_of mode_of mode_of_parts

abbrev pub in_use_encoding : Coded InUse
in_use_encoding =
    code_by (List ℕ × Wish) (coded× (coded_list coded_ℕ) wish.the_row.coded) (λ b. (b.kept, b.used)) (λ p. record { kept = p.0; used = p.1 }) (λ _. refl)

-- it is stored as the tuple of its fields
abbrev pub state_encoding : Coded State
state_encoding =
    code_by
    (Mode × (Cached × (Kept × Option InUse)))
    (coded× mode_encoding (coded× cached_encoding (coded× kept_encoding (coded_option in_use_encoding))))
    (λ s. (s.mode, (s.cache, (s.windows, s.book))))
    (λ p. record { mode = p.0; cache = p.1.0; windows = p.1.1.0; book = p.1.1.1 })
    (λ _. refl)
