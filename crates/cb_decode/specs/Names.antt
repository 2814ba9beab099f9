-- What groups are called.
use Rattle.std.specs.Prelude.{ℕ, List}
use Rattle.cb_coding.specs.declared.group.Group.{Group}
use Rattle.cb_finding.specs.Finding.{IsCalled}
use Rattle.cb_model.specs.declared.node.GroupName.{GroupName}

-- the group at a position is called by something
abbrev pub HasName : List Group → ℕ → Type 0
HasName groups place = (name : GroupName) × IsCalled groups place name
