-- What lists of bytes stand for.
use Rattle.std.specs.Prelude.{ℕ, List}

-- the name of an instance
abbrev pub InstanceName : Type 0
InstanceName = List ℕ

-- a word of the class language: the name of a class, an event or a relation
abbrev pub Word : Type 0
Word = List ℕ
