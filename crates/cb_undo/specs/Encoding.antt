-- How what contracts see is written as a number.
use Rattle.std.specs.Prelude.{ℕ, List, refl}
use Rattle.std.specs.Coded.{Coded, code_by, coded×, coded_ℕ, coded_list}
use Rattle.cb_network.specs.contracts.edit.Edit as edit
use Rattle.cb_network.specs.declared.edit.Edit.{Edit}
use Rattle.cb_topo.specs.Encoding.{numbered_encoding}
use Rattle.cb_topo.specs.Numbered.{Numbered}
use Rattle.cb_undo.specs.Undoable.{Undoable}

-- it is stored as the tuple of its fields
abbrev pub undoable_encoding : Coded Undoable
undoable_encoding =
    code_by (Numbered × (List (List Edit) × ℕ)) (coded× numbered_encoding (coded× (coded_list (coded_list edit.the_row.coded)) coded_ℕ))
    (λ u. (u.network, (u.records, u.depth))) (λ p. record { network = p.0; records = p.1.0; depth = p.1.1 }) (λ _. refl)
