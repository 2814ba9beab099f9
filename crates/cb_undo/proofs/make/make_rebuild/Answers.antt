use Rattle.std.proofs.Common.{◌∷◌, [], inr, ◌∙◌}
use Rattle.cb_topo.specs.Numbered.{topology_of}
use Rattle.cb_inverse.specs.Inverses.{rebuild_edits, rest_of}
use Rattle.cb_undo.proofs.Making.{can_first, can_rest, undoing_can, makes_joined, between_regular, again_good, again_after, again_is_free, again_leads, again_counts}
use Rattle.cb_undo.proofs.make.make_rebuild.Goals as goal

pub make-requires-clause-accepted : goal.make-requires-clause-accepted
make-requires-clause-accepted g c =
    let t = topology_of (g.N.EditedTopology.numbered c.args.network.now) in
    let i = c.args.edits.now in
    (can_first t i.create (rest_of i) (undoing_can c.requires.0 t i.again (rebuild_edits i) c.requires.1)).0

pub make_rest-requires : goal.make_rest-requires
make_rest-requires g c =
    let t = topology_of (g.N.EditedTopology.numbered c.args.network.now) in
    let i = c.args.edits.now in
    can_rest t (topology_of (g.N.EditedTopology.numbered c.make.new.network)) i.create (rest_of i) (undoing_can c.requires.0 t i.again (rebuild_edits i) c.requires.1) c.in_ok-make.ensures.made.make

pub make_again-requires-clause-regular : goal.make_again-requires-clause-regular
make_again-requires-clause-regular g c =
    between_regular c.requires.0 (topology_of (g.N.EditedTopology.numbered c.args.network.now)) (topology_of (g.N.EditedTopology.numbered c.make.new.network)) (topology_of (g.N.EditedTopology.numbered c.make_rest.new.network)) c.args.edits.now c.requires.1
    c.args.steps.now c.make.new.steps c.make_rest.new.steps c.in_ok-make.ensures.made c.in-Err.ensures.part

pub make_again-requires-clause-name : goal.make_again-requires-clause-name
make_again-requires-clause-name g c =
    again_good c.requires.0 (topology_of (g.N.EditedTopology.numbered c.args.network.now)) (topology_of (g.N.EditedTopology.numbered c.make.new.network)) (topology_of (g.N.EditedTopology.numbered c.make_rest.new.network)) c.args.edits.now c.requires.1
    c.args.steps.now c.make.new.steps c.make_rest.new.steps c.in_ok-make.ensures.made c.in-Err.ensures.part

pub make_again-requires-clause-accepted : goal.make_again-requires-clause-accepted
make_again-requires-clause-accepted g c =
    (again_after c.requires.0 (topology_of (g.N.EditedTopology.numbered c.args.network.now)) (topology_of (g.N.EditedTopology.numbered c.make.new.network)) (topology_of (g.N.EditedTopology.numbered c.make_rest.new.network)) c.args.edits.now c.requires.1
    c.args.steps.now c.make.new.steps c.make_rest.new.steps c.in_ok-make.ensures.made c.in-Err.ensures.part).0

pub make_again-requires-clause-no_memory : goal.make_again-requires-clause-no_memory
make_again-requires-clause-no_memory g c =
    again_is_free c.requires.0 (topology_of (g.N.EditedTopology.numbered c.args.network.now)) (topology_of (g.N.EditedTopology.numbered c.make.new.network)) (topology_of (g.N.EditedTopology.numbered c.make_rest.new.network)) c.args.edits.now c.requires.1
    c.args.steps.now c.make.new.steps c.make_rest.new.steps c.in_ok-make.ensures.made c.in-Err.ensures.part

pub returns-in-Ok-clause-made : goal.returns-in-Ok-clause-made
returns-in-Ok-clause-made g c =
    let t = topology_of (g.N.EditedTopology.numbered c.args.network.now) in
    let i = c.args.edits.now in
    makes_joined t (i.create ∷ []) (rest_of i) (topology_of (g.N.EditedTopology.numbered c.make.new.network)) (topology_of (g.N.EditedTopology.numbered c.make_rest.new.network)) c.args.steps.now c.make.new.steps c.make_rest.new.steps
    (undoing_can c.requires.0 t i.again (rebuild_edits i) c.requires.1).regular c.in_ok-make.ensures.made c.in-Ok.ensures.made

pub returns-in-Err-clause-same : goal.returns-in-Err-clause-same
returns-in-Err-clause-same g c =
    again_leads c.requires.0 (topology_of (g.N.EditedTopology.numbered c.args.network.now)) (topology_of (g.N.EditedTopology.numbered c.make.new.network)) (topology_of (g.N.EditedTopology.numbered c.make_rest.new.network)) c.args.edits.now c.requires.1
    c.args.steps.now c.make.new.steps c.make_rest.new.steps c.in_ok-make.ensures.made c.in-Err.ensures.part (topology_of (g.N.EditedTopology.numbered c.make_again.new.network)) c.make_again.ensures.made.make

pub returns-in-Err-clause-counts : goal.returns-in-Err-clause-counts
returns-in-Err-clause-counts g c =
    inr (again_counts c.requires.0 (topology_of (g.N.EditedTopology.numbered c.args.network.now)) (topology_of (g.N.EditedTopology.numbered c.make.new.network)) (topology_of (g.N.EditedTopology.numbered c.make_rest.new.network)) c.args.edits.now c.requires.1
    c.args.steps.now c.make.new.steps c.make_rest.new.steps c.in_ok-make.ensures.made c.in-Err.ensures.part (topology_of (g.N.EditedTopology.numbered c.make_again.new.network)) c.make_again.new.steps c.make_again.ensures.made)

pub returns-in-Ok-clause-none : goal.returns-in-Ok-clause-none
returns-in-Ok-clause-none g c = λ free. c.in-Ok.ensures.none free ∙ c.in_ok-make.ensures.none free

pub returns-in-Err-clause-none : goal.returns-in-Err-clause-none
returns-in-Err-clause-none g c = λ free. c.make_again.ensures.none free ∙ (c.in-Err.ensures.none free ∙ c.in_ok-make.ensures.none free)
