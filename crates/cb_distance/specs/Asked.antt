-- How far apart each two codes are asked to be.
use Rattle.std.specs.Prelude.{◌≡◌, ◌<◌, ⊤, ℕ, length}
use Rattle.cb_coding.specs.Needs.{capped_need}
use Rattle.cb_coding.specs.Pairs.{plain_need}
use Rattle.cb_codes.specs.Codes.{Coded}
use Rattle.cb_distance.specs.declared.needs.Needs.{Needs}
use Rattle.cb_distance.specs.declared.needs.Needs.TheVariants.{Plain, Capped}
use Rattle.cb_distance.specs.Close.{far}

-- what is asked of the codes at two positions
abbrev pub need_by : Needs → ℕ → ℕ → ℕ
need_by (Plain d) = plain_need d
need_by (Capped cap whole) = capped_need whole.now.width whole.now.rows cap

-- no more than this is asked
abbrev pub most_asked : Needs → ℕ
most_asked (Plain d) = d
most_asked (Capped cap whole) = cap

-- they are asked of as many codes
abbrev pub AreNeedsFor : Coded → Needs → Type 0
AreNeedsFor codes (Plain d) = ⊤
AreNeedsFor codes (Capped cap whole) = length whole.now.rows ≡ length codes.rows

-- where two codes are closer than they need, 32 bits tell how far they are apart
abbrev pub ShortFits : Coded → (ℕ → ℕ → ℕ) → Type 0
ShortFits codes need = (i j : ℕ) → far codes i j < need i j → far codes i j < 4294967296
