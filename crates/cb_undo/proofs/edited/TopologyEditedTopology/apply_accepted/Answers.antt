use Rattle.std.proofs.lemmas.Result.{on_ok_weaker}
use Rattle.cb_network.proofs.Typed.{typed_is_regular}
use Rattle.cb_topo.specs.Applied.{Applies}
use Rattle.cb_topo.specs.Numbered.{topology_of}
use Rattle.cb_undo.proofs.Costing.{no_step_is_counted}
use Rattle.cb_undo.proofs.edited.TopologyEditedTopology.apply_accepted.Goals as goal

pub returns-clause-cost : goal.returns-clause-cost
returns-clause-cost g c =
    let t = topology_of c.args.self.now in
    let new = c.apply_accepted.new.self in
    on_ok_weaker c.apply_accepted.result (λ (made : Applies c.args.self.now c.args.accepted.now.edit.now new).
    no_step_is_counted t (topology_of new) c.args.accepted.now.edit.now c.args._steps.now (typed_is_regular t.model c.model-model.ensures.typed) c.requires.name
    c.model-model.ensures.sound made.after) c.apply_accepted.ensures.made
