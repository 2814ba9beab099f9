-- How what contracts see is written as a number.
use Rattle.std.specs.Prelude.{refl}
use Rattle.std.specs.Coded.{Coded, code_by, coded×}
use Rattle.cb_topo.specs.Encoding.{numbered_encoding}
use Rattle.cb_topo.specs.Numbered.{Numbered}
use Rattle.cb_matrix.specs.contracts.matrix.Matrix as matrix
use Rattle.cb_matrix.specs.Parts.{Parts}
use Rattle.cb_burst.specs.Searched.{SearchedParts}

-- it is stored as the pair of its fields
abbrev pub searched_encoding : Coded SearchedParts
searched_encoding =
    code_by (Numbered × Parts) (coded× numbered_encoding matrix.the_row.coded) (λ s. (s.network, s.matrix)) (λ p. record { network = p.0; matrix = p.1 }) (λ _. refl)
