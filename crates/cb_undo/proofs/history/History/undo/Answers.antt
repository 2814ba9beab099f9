use Rattle.std.proofs.Common.{map, OnOk, OnErr, subst}
use Rattle.std.proofs.lemmas.Result.{on_ok_weaker, on_err_weaker}
use Rattle.cb_history.specs.Histories.{History as Past, undone}
use Rattle.cb_history.specs.Records.{StandFor}
use Rattle.cb_inverse.specs.Inverses.{inverse_edits}
use Rattle.cb_topo.specs.Numbered.{topology_of}
use Rattle.cb_undo.specs.Undoable.{Undoable}
use Rattle.cb_undo.specs.Undone.{MakesFirst, CountsFailure, CountsUndo, CountsFailedUndo}
use Rattle.cb_undo.proofs.Keeping.{rest_stand, counts_undo, counts_failed}
use Rattle.cb_undo.proofs.history.History.undo.Goals as goal

pub returns-clause-stands : goal.returns-clause-stands
returns-clause-stands g c =
    let i = c.self.inside in
    let t = topology_of (g.N.EditedTopology.numbered i.network) in
    let new = c.undo_last.new in
    let u = topology_of (g.N.EditedTopology.numbered new.network) in
    subst (λ (v : Undoable). OnOk c.undo_last.result ((h : Past) → StandFor (topology_of v.network) v.records h → StandFor u (map inverse_edits new.inverses.items) (undone h))) c.self.view_is
    (on_ok_weaker c.undo_last.result (λ (takes : MakesFirst t i.inverses.items u new.inverses.items c.args.steps.now new.steps) (h : Past) (stand : StandFor t (map inverse_edits i.inverses.items) h).
    rest_stand t u i.inverses.items new.inverses.items c.args.steps.now new.steps h takes stand) c.undo_last.ensures.makes)

pub returns-clause-cost : goal.returns-clause-cost
returns-clause-cost g c =
    let i = c.self.inside in
    let t = topology_of (g.N.EditedTopology.numbered i.network) in
    let new = c.undo_last.new in
    subst (λ (v : Undoable). OnOk c.undo_last.result (CountsUndo (topology_of v.network) v.records c.args.steps.now new.steps)) c.self.view_is
    (on_ok_weaker c.undo_last.result (λ (takes : MakesFirst t i.inverses.items (topology_of (g.N.EditedTopology.numbered new.network)) new.inverses.items c.args.steps.now new.steps).
    counts_undo t (topology_of (g.N.EditedTopology.numbered new.network)) i.inverses.items new.inverses.items c.args.steps.now new.steps takes) c.undo_last.ensures.makes)

pub returns-clause-failed : goal.returns-clause-failed
returns-clause-failed g c =
    let i = c.self.inside in
    let t = topology_of (g.N.EditedTopology.numbered i.network) in
    let new = c.undo_last.new in
    subst (λ (v : Undoable). OnErr c.undo_last.result (CountsFailedUndo (topology_of v.network) v.records c.args.steps.now new.steps)) c.self.view_is
    (on_err_weaker c.undo_last.result (λ (fails : CountsFailure t i.inverses.items c.args.steps.now new.steps).
    counts_failed t i.inverses.items c.args.steps.now new.steps fails) c.undo_last.ensures.counts)
