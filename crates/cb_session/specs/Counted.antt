-- How many steps an entry costs.
use Rattle.std.specs.Prelude.{◌≡◌, ℕ, [], ◌∷◌}
use Rattle.cb_change.specs.Costs.{CountsAtMost}
use Rattle.cb_change.specs.InTurn.{IsCostInTurn}
use Rattle.cb_network.specs.Topology.{Topology}
use Rattle.cb_log.specs.Basis.{Mode, wanted, fixed}
use Rattle.cb_log.specs.Entries.{LogEntry, records_of}
use Rattle.cb_log.specs.Network.{edits_of}

-- what the edit of the entry costs, if it has one, and else nothing
abbrev pub IsEntryCost : Topology → LogEntry → ℕ → Type 0
IsEntryCost network entry cost = IsCostInTurn network (edits_of (records_of (entry ∷ []))) cost

-- for a wish, no more steps are counted than the entry costs; by a fixed codebook no edit is made, and none is counted
abbrev pub CountsEntry : Mode → Topology → LogEntry → ℕ → ℕ → Type 0
CountsEntry (wanted wish) network entry old new = CountsAtMost (IsEntryCost network entry) old new
CountsEntry (fixed given met) network entry old new = new ≡ old
