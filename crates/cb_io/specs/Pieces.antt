-- Reads in pieces.
use Rattle.std.specs.Prelude.{ℕ}

-- a read takes at most this many bytes
abbrev pub piece_limit : ℕ
piece_limit = 65536
