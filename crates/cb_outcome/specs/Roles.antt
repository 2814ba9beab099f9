-- What a file is for, and its limits.
use Rattle.std.specs.Prelude.{ℕ}

-- which certificates are wanted: any, or a book
pub data Wanted : Type 0 where
  any : Wanted
  book : Wanted

-- what a file is for
pub data Role : Type 0 where
  model : Role
  topology : Role
  symptoms : Role
  certificate : Wanted → Role
  levels : Role
  script : Role

-- the most bytes that a file of this role may have
abbrev pub byte_limit : Role → ℕ
byte_limit Role.model = 16777216
byte_limit Role.topology = 16777216
byte_limit Role.symptoms = 16777216
byte_limit (Role.certificate wanted) = 33554432
byte_limit Role.levels = 33554432
byte_limit Role.script = 16777216

-- the lines of a file have a limit, but for those of a model
abbrev pub HasLineLimit : Role → Type 0
HasLineLimit Role.model = ⊥
HasLineLimit Role.topology = Unit {0}
HasLineLimit Role.symptoms = Unit {0}
HasLineLimit (Role.certificate wanted) = Unit {0}
HasLineLimit Role.levels = Unit {0}
HasLineLimit Role.script = Unit {0}
