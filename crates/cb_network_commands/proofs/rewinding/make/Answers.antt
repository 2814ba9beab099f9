use Rattle.std.proofs.Common.{refl, sym, subst}
use Rattle.std.specs.Prelude.{Some}
use Rattle.cb_history.specs.declared.moves.Move.TheVariants.{Make}
use Rattle.cb_history.specs.declared.script.LineReport.TheVariants.{Refused}
use Rattle.cb_undo.specs.Recorded.{StopsEdit}
use Rattle.cb_undo.specs.Undoable.{Undoable}
use Rattle.cb_topo.specs.Numbered.{topology_of}
use Rattle.cb_network_commands.specs.Rewinding.{MovesOn}
use Rattle.cb_network_commands.proofs.Moving.{edit_moves, refused_moves}
use Rattle.cb_network_commands.proofs.rewinding.make.Goals as goal

pub returns-in-Ok-clause-moves : goal.returns-in-Ok-clause-moves
returns-in-Ok-clause-moves g c = λ h stands.
    edit_moves c.args.history.now.depth h c.args.line c.args.edit.now (topology_of c.args.history.now.network) (topology_of c.edit.new.self.network) c.args.history.now.records c.edit.new.self.records
    c.in-Ok.ensures.made.after stands (c.in-Ok.ensures.stands h stands)

pub returns-in-Err-Refused-clause-moves : goal.returns-in-Err-Refused-clause-moves
returns-in-Err-Refused-clause-moves g c = λ h stands.
    let old = c.args.history.now in
    let edit = c.args.edit.now in
    let why = c.in-Err-Refused.why in
    let refused = subst (StopsEdit (topology_of old.network) edit) c.in-Err-Refused.field-0-is c.in-Err-Refused.ensures.fault in
    subst (λ (u : Undoable). MovesOn old.depth h c.args.line (Make edit) (Some (Refused c.args.line why)) (topology_of u.network) u.records) (sym c.in-Err-Refused.ensures.same)
    (refused_moves old.depth h c.args.line edit why (topology_of old.network) old.records refused stands)

pub returns-in-Ok-clause-steps : goal.returns-in-Ok-clause-steps
returns-in-Ok-clause-steps g c = c.in-Ok.ensures.none refl
