use Rattle.std.proofs.Common.{List, refl, sym, subst}
use Rattle.std.specs.Prelude.{Some}
use Rattle.cb_history.specs.declared.moves.Move.TheVariants.{Undo}
use Rattle.cb_history.specs.declared.script.LineReport.TheVariants.{Nothing}
use Rattle.cb_network.specs.declared.edit.Edit.{Edit}
use Rattle.cb_topo.specs.Numbered.{Numbered, topology_of}
use Rattle.cb_undo.specs.Undone.{LeavesNetwork, StopsUndo}
use Rattle.cb_network_commands.specs.Rewinding.{MovesOn}
use Rattle.cb_network_commands.proofs.Moving.{undo_moves, nothing_moves}
use Rattle.cb_network_commands.proofs.rewinding.undo.Goals as goal

pub returns-in-Ok-clause-moves : goal.returns-in-Ok-clause-moves
returns-in-Ok-clause-moves g c = λ h stands.
    let cost = c.in-Ok.ensures.cost in
    undo_moves c.args.history.now.depth h c.args.line (topology_of c.args.history.now.network) (topology_of c.undo.new.self.network) c.args.history.now.records c.undo.new.self.records
    cost.rest cost.edits cost.is stands (c.in-Ok.ensures.stands h stands)

pub returns-in-Err-Nothing-clause-moves : goal.returns-in-Err-Nothing-clause-moves
returns-in-Err-Nothing-clause-moves g c = λ h stands.
    let old = c.args.history.now in
    let left = subst (LeavesNetwork old.network c.undo.new.self.network) c.in-Err-Nothing.field-0-is c.in-Err-Nothing.ensures.same in
    let none = subst (StopsUndo old.records) c.in-Err-Nothing.field-0-is c.in-Err-Nothing.ensures.fault in
    let moves = nothing_moves old.depth c.args.line h (topology_of old.network) old.records none stands in
    let same = subst (λ (n : Numbered). MovesOn old.depth h c.args.line Undo (Some (Nothing c.args.line)) (topology_of n) old.records) (sym left) moves in
    subst (λ (records : List (List Edit)). MovesOn old.depth h c.args.line Undo (Some (Nothing c.args.line)) (topology_of c.undo.new.self.network) records)
    (sym c.in-Err-Nothing.ensures.records) same

pub returns-in-Ok-clause-steps : goal.returns-in-Ok-clause-steps
returns-in-Ok-clause-steps g c = c.in-Ok.ensures.none refl

pub returns-in-Err-Nothing-clause-steps : goal.returns-in-Err-Nothing-clause-steps
returns-in-Err-Nothing-clause-steps g c = c.in-Err-Nothing.ensures.none refl

pub returns-in-Err-NoMemory-clause-steps : goal.returns-in-Err-NoMemory-clause-steps
returns-in-Err-NoMemory-clause-steps g c = c.in-Err-NoMemory.ensures.none refl
