-- Steps that an entry costs.
use Rattle.std.proofs.Common.{◌≡◌, ◌≤◌, ◌+◌, ℕ, List, [], ◌∷◌, Result, Ok, Err, OnOk, refl, sym, subst, arith}
use Rattle.cb_change.specs.Costs.{CountsAtMost}
use Rattle.cb_change.specs.InTurn.{IsCostInTurn}
use Rattle.cb_change.proofs.InTurn.{cost_in_turn_is_one}
use Rattle.cb_change.proofs.Totals.{every_cost}
use Rattle.cb_model.specs.declared.wish.Wish.{Wish}
use Rattle.cb_network.specs.declared.edit.Edit.{Edit}
use Rattle.cb_network.specs.Regular.{IsRegular}
use Rattle.cb_network.specs.Topology.{Topology}
use Rattle.cb_alarm.specs.Lines.{NumberedLine, ComesTo}
use Rattle.cb_alarm.proofs.OneSkip.{comes_to_one}
use Rattle.cb_log.specs.declared.record.Body.{Body}
use Rattle.cb_log.specs.declared.record.Body.TheVariants.{Change}
use Rattle.cb_log.specs.declared.record.Record.{Record}
use Rattle.cb_log.specs.Basis.{Mode, wanted, fixed}
use Rattle.cb_log.specs.Entries.{LogEntry, records_of, said}
use Rattle.cb_log.specs.Network.{edits_of, then_edits}
use Rattle.cb_session.specs.Counted.{IsEntryCost, CountsEntry}

-- an entry without an edit costs nothing
none_costs : (network : Topology) (edits : List Edit) (steps : ℕ) → edits ≡ [] → CountsAtMost (IsCostInTurn network edits) steps steps
none_costs network edits steps none =
    subst (λ (es : List Edit). CountsAtMost (IsCostInTurn network es) steps steps) (sym none) (record { cost = 0; is_cost = refl; few = omega arith })

pub none_counted : (mode : Mode) (network : Topology) (entry : LogEntry) (steps : ℕ) → edits_of (records_of (entry ∷ [])) ≡ [] → CountsEntry mode network entry steps steps
none_counted (wanted wish) network entry steps none = none_costs network (edits_of (records_of (entry ∷ []))) steps none
none_counted (fixed given met) network entry steps none = refl

pub aside_counted : (network : Topology) (number : ℕ) (r : Record) (steps : ℕ) → then_edits r.body [] ≡ [] → CountsAtMost (IsEntryCost network (said number r)) steps steps
aside_counted network number r steps none = none_costs network (then_edits r.body []) steps none

pub none_by_fixed : {V E : Type 0} (result : Result V E) (given : List ℕ) (met : Wish) (network : Topology) (entry : LogEntry) (steps : ℕ) → OnOk result (CountsEntry (fixed given met) network entry steps steps)
none_by_fixed (Ok v) given met network entry steps = refl
none_by_fixed (Err e) given met network entry steps = tt

-- the steps of its edit are those of the record
pub edit_counted : (network : Topology) (number : ℕ) (r : Record) (edit : Edit) (old new : ℕ) → r.body ≡ Change edit
    → CountsAtMost (IsCostInTurn network (edit ∷ [])) old new → CountsAtMost (IsEntryCost network (said number r)) old new
edit_counted network number r edit old new is counts =
    subst (λ (body : Body). CountsAtMost (IsCostInTurn network (then_edits body [])) old new) (sym is) counts

-- what is counted of the entry that a line comes to is counted of each that it comes to
pub line_counted : (line : NumberedLine) (entry : LogEntry) → ComesTo line entry → (mode : Mode) (network : Topology) (old new : ℕ) → CountsEntry mode network entry old new
    → (other : LogEntry) → ComesTo line other → CountsEntry mode network other old new
line_counted line entry comes mode network old new counts other too =
    subst (λ (e : LogEntry). CountsEntry mode network e old new) (comes_to_one line entry other comes too) counts

pub if_line_counted : {V E : Type 0} (result : Result V E) (line : NumberedLine) (entry : LogEntry) → ComesTo line entry → (mode : Mode) (network : Topology) (old new : ℕ)
    → OnOk result (CountsEntry mode network entry old new) → OnOk result ((other : LogEntry) → ComesTo line other → CountsEntry mode network other old new)
if_line_counted (Ok v) line entry comes mode network old new counts = line_counted line entry comes mode network old new counts
if_line_counted (Err e) line entry comes mode network old new counts = tt

-- then no more steps are counted than any number that is the cost
pub every_entry_cost : (mode : Mode) (network : Topology) (entry : LogEntry) (old new : ℕ) → IsRegular network.model → CountsEntry mode network entry old new
    → (cost : ℕ) → IsEntryCost network entry cost → new ≤ old + cost
every_entry_cost (wanted wish) network entry old new regular counts =
    every_cost (IsEntryCost network entry) (λ m n. cost_in_turn_is_one network (edits_of (records_of (entry ∷ []))) m n regular) old new counts
every_entry_cost (fixed given met) network entry old new regular same = λ cost is. omega (arith, same)
