-- What a line costs, for every number that is the cost.
use Rattle.std.proofs.Common.{◌≡◌, ◌≤◌, ◌+◌, ℕ, Result, Ok, Err, OnOk, OnErr, arith}
use Rattle.cb_network.specs.Regular.{IsRegular}
use Rattle.cb_network.specs.Topology.{Topology}
use Rattle.cb_log.specs.Basis.{Mode}
use Rattle.cb_log.specs.Entries.{LogEntry}
use Rattle.cb_alarm.specs.Lines.{NumberedLine, ComesTo}
use Rattle.cb_session.specs.Counted.{IsEntryCost, CountsEntry}
use Rattle.cb_session.proofs.Counting.{every_entry_cost}

-- no more steps are counted than a line costs, whether or not memory runs out
pub every_line_cost : {V E : Type 0} (result : Result V E) (line : NumberedLine) (mode : Mode) (network : Topology) (old new : ℕ)
    → OnOk result ((entry : LogEntry) → ComesTo line entry → CountsEntry mode network entry old new) → OnErr result (new ≡ old)
    → IsRegular network.model → (entry : LogEntry) → ComesTo line entry → (cost : ℕ) → IsEntryCost network entry cost → new ≤ old + cost
every_line_cost (Ok v) line mode network old new counts same regular entry comes cost is =
    every_entry_cost mode network entry old new regular (counts entry comes) cost is
every_line_cost (Err e) line mode network old new counts same regular entry comes cost is = omega (arith, same)
