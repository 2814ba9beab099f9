-- What edits come to, and what they cost, exists.
use Rattle.std.specs.Prelude.{ℕ, List, Result}
use Rattle.std.specs.List.{Contains}
use Rattle.cb_change.specs.Costs.{IsOpenCost}
use Rattle.cb_change.specs.InTurn.{IsCostInTurn}
use Rattle.cb_change.specs.Laws.{IsStep}
use Rattle.cb_history.specs.Histories.{History, new_history, IsAfterMoves}
use Rattle.cb_history.specs.declared.moves.Move.{Move}
use Rattle.cb_history.specs.declared.moves.Move.TheVariants.{Make}
use Rattle.cb_network.specs.declared.edit.Edit.{Edit}
use Rattle.cb_network.specs.declared.edit.EditRefusal.{EditRefusal}
use Rattle.cb_network.specs.Edits.{IsAccepted, IsAfter, IsAfterAll}
use Rattle.cb_network.specs.Laws.{HasGoodName}
use Rattle.cb_network.specs.Regular.{IsRegular}
use Rattle.cb_network.specs.Sound.{Sound}
use Rattle.cb_network.specs.Topology.{Topology}
use Rattle.cb_log.specs.declared.record.Record.{Record}
use Rattle.cb_log.specs.Network.{IsNow}

-- an edit comes to a changed topology or to a refusal
abbrev pub ResultExists : Type 0
ResultExists = (t : Topology) (edit : Edit) → IsRegular t.model → (result : Result Topology EditRefusal) × IsAfter t edit result

-- a list of edits comes to a topology
abbrev pub AfterAllExists : Type 0
AfterAllExists = (t : Topology) (edits : List Edit) → IsRegular t.model → (u : Topology) × IsAfterAll t edits u

-- so do the edits of records
abbrev pub NowExists : Type 0
NowExists = (t : Topology) (records : List Record) → IsRegular t.model → (u : Topology) × IsNow t records u

-- an edit that is accepted makes a sound topology of a sound one
abbrev pub StepExists : Type 0
StepExists = (t : Topology) (edit : Edit) → IsRegular t.model → HasGoodName edit → Sound t → IsAccepted t edit → (u : Topology) × IsStep t edit u

-- edits that are made in turn have a cost
abbrev pub CostInTurnExists : Type 0
CostInTurnExists = (t : Topology) (edits : List Edit) → IsRegular t.model → Sound t → ((edit : Edit) → Contains edits edit → HasGoodName edit)
    → (cost : ℕ) × IsCostInTurn t edits cost

-- edits and undos lead to a history
abbrev pub MovesLead : Type 0
MovesLead = (depth : ℕ) (t : Topology) (moves : List Move) → IsRegular t.model → (last : History) × IsAfterMoves depth (new_history t) moves last

-- the search of the topology to which they lead has a cost
abbrev pub LastCostExists : Type 0
LastCostExists = (depth : ℕ) (t : Topology) (moves : List Move) → IsRegular t.model → Sound t
    → ((edit : Edit) → Contains moves (Make edit) → HasGoodName edit)
    → (last : History) × (cost : ℕ) × IsAfterMoves depth (new_history t) moves last × IsOpenCost last.now cost
