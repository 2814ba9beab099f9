-- What holds of edit lines, whatever the program does.
use Rattle.std.specs.Prelude.{◌≡◌, ℕ, List}
use Rattle.cb_network.specs.declared.edit.Edit.{Edit}
use Rattle.cb_edits.specs.Spelled.{SpellsEdit}

-- a line spells one edit at most
abbrev pub EditIsOne : Type 0
EditIsOne = (line : List ℕ) (edit other : Edit) → SpellsEdit line edit → SpellsEdit line other → edit ≡ other
