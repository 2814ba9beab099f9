use Rattle.std.proofs.Common.{map, OnOk, subst}
use Rattle.cb_change.specs.Costs.{CountsAtMost, IsEditCost}
use Rattle.cb_history.specs.Histories.{History as Past, edited}
use Rattle.cb_history.specs.Records.{StandFor}
use Rattle.cb_inverse.specs.Inverses.{inverse_edits}
use Rattle.cb_topo.specs.Applied.{Applies}
use Rattle.cb_topo.specs.Numbered.{topology_of}
use Rattle.cb_undo.specs.Recorded.{KeepsInverse}
use Rattle.cb_undo.specs.Undoable.{Undoable}
use Rattle.cb_undo.proofs.Keeping.{records_stand}
use Rattle.cb_undo.proofs.Making.{on_ok_both}
use Rattle.cb_undo.proofs.history.History.edit.Goals as goal

pub returns-clause-stands : goal.returns-clause-stands
returns-clause-stands g c =
    let i = c.self.inside in
    let n = g.N.EditedTopology.numbered i.network in
    let t = topology_of n in
    let new = c.record.new in
    let m = g.N.EditedTopology.numbered new.network in
    let u = topology_of m in
    subst (λ (v : Undoable). OnOk c.record.result ((h : Past) → StandFor (topology_of v.network) v.records h → StandFor u (map inverse_edits new.inverses.items) (edited v.depth h u))) c.self.view_is
    (on_ok_both c.record.result (Applies n c.args.edit.now m) (KeepsInverse t c.args.edit.now i.depth i.inverses.items new.inverses.items)
    ((h : Past) → StandFor t (map inverse_edits i.inverses.items) h → StandFor u (map inverse_edits new.inverses.items) (edited i.depth h u))
    (λ made r h stand. records_stand t u c.args.edit.now i.depth i.inverses.items new.inverses.items h made.after r stand) c.record.ensures.made c.record.ensures.keeps)

pub returns-clause-cost : goal.returns-clause-cost
returns-clause-cost g c =
    subst (λ (v : Undoable). OnOk c.record.result (CountsAtMost (IsEditCost (topology_of v.network) c.args.edit.now (topology_of (g.N.EditedTopology.numbered c.record.new.network))) c.args.steps.now c.record.new.steps)) c.self.view_is
    c.record.ensures.cost
