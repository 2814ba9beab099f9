-- Lists of edits that represent earlier topologies.
use Rattle.std.specs.Prelude.{◌≡◌, List, [], ◌∷◌}
use Rattle.cb_network.specs.declared.edit.Edit.{Edit}
use Rattle.cb_network.specs.Topology.{Topology}
use Rattle.cb_history.specs.Histories.{History}
use Rattle.cb_history.specs.Inverse.{AllMake}

-- the edits of the first record make the first earlier topology of t, those of the next record the next one of that, and so on
abbrev pub RecordsLeadTo : Topology → List (List Edit) → List Topology → Type 0
RecordsLeadTo t [] [] = Unit {0}
RecordsLeadTo t (edits ∷ records) (u ∷ before) = AllMake t edits u × RecordsLeadTo u records before
RecordsLeadTo t records before = ⊥

-- t and these records represent the history
pub record StandFor (t : Topology) (records : List (List Edit)) (h : History) : Type 0 where
  pub now : t ≡ h.now
  pub back : RecordsLeadTo t records h.before
