use Rattle.std.proofs.Common.{sym, subst}
use Rattle.cb_history.specs.declared.moves.Move.{Move}
use Rattle.cb_file_kinds.proofs.Chain.{if_ok_more}
use Rattle.cb_topo.specs.Numbered.{topology_of}
use Rattle.cb_network_commands.specs.Rewinding.{MovesOn}
use Rattle.cb_network_commands.proofs.rewinding.report_of.Goals as goal

pub returns-in-Make-clause-moves : goal.returns-in-Make-clause-moves
returns-in-Make-clause-moves g c =
    let new = c.make.new.history in
    if_ok_more c.make.result _ _ (λ report moves. λ h stands.
    subst (λ (m : Move). MovesOn c.args.history.now.depth h c.args.line.now.line m report (topology_of new.network) new.records) (sym c.in-Make.is) (moves h stands)) c.make.ensures.moves

pub returns-in-Undo-clause-moves : goal.returns-in-Undo-clause-moves
returns-in-Undo-clause-moves g c =
    let new = c.undo.new.history in
    if_ok_more c.undo.result _ _ (λ report moves. λ h stands.
    subst (λ (m : Move). MovesOn c.args.history.now.depth h c.args.line.now.line m report (topology_of new.network) new.records) (sym c.in-Undo.is) (moves h stands)) c.undo.ensures.moves
