-- What a wish asks of each two codes.
use Rattle.std.specs.Prelude.{ℕ, min, List, Bool}
use Rattle.cb_model.specs.declared.wish.Wish.{Wish}
use Rattle.cb_model.specs.declared.wish.Wish.TheVariants.{Plain, Cap}
use Rattle.cb_coding.specs.Distance.{apart, all_columns}
use Rattle.cb_coding.specs.Pairs.{plain_need}

-- to be as far apart as over all columns, but no farther than a cap
abbrev pub capped_need : ℕ → List (List Bool) → ℕ → ℕ → ℕ → ℕ
capped_need width codes cap i j = min cap (apart (all_columns width) codes i j)

-- the need that a wish gives
abbrev pub need_of : ℕ → List (List Bool) → Wish → ℕ → ℕ → ℕ
need_of width codes (Plain d) = plain_need d
need_of width codes (Cap cap) = capped_need width codes cap
