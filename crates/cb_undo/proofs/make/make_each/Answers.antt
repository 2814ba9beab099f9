use Rattle.std.proofs.Common.{◌∷◌, [], ℕ, ◌+◌, List, take, drop, sym, ap, subst, ◌∙◌}
use Rattle.cb_network.specs.declared.edit.Edit.{Edit}
use Rattle.cb_topo.specs.Numbered.{Numbered, topology_of}
use Rattle.cb_undo.specs.Made.{CanAllBeMade, MakesAll}
use Rattle.cb_undo.proofs.Making.{parted, makes_joined, can_rest, on_err}
use Rattle.cb_undo.proofs.make.make_each.Goals as goal

pub returns-in_err-make-clause-part : goal.returns-in_err-make-clause-part
returns-in_err-make-clause-part g c =
    let edits = c.args.edits.now in
    let i = c.loop-edit.edit-index in
    let e = c.edit-item.result in
    let p = parted edits i e c.loop-edit-test.true (sym c.edit-item.is) in
    let made : MakesAll (topology_of (g.N.EditedTopology.numbered c.args.network.now)) (take i edits) (topology_of (g.N.EditedTopology.numbered c.make.new.network)) c.args.steps.now c.make.new.steps =
    subst (λ (n : ℕ). MakesAll (topology_of (g.N.EditedTopology.numbered c.args.network.now)) (take i edits) (topology_of (g.N.EditedTopology.numbered c.make.new.network)) c.args.steps.now n) (sym c.in_err-make.ensures.steps)
    (subst (λ (n : Numbered). MakesAll (topology_of (g.N.EditedTopology.numbered c.args.network.now)) (take i edits) (topology_of n) c.args.steps.now c.loop-edit.steps)
    (ap g.N.EditedTopology.numbered (sym c.in_err-make.ensures.same)) c.loop-edit.invariant.made) in
    on_err c.from_residual.result _ (record { prefix = take i edits; next = e; rest = drop (i + 1) edits; is = p.whole; makes = made })

pub loop-edit-preserved : goal.loop-edit-preserved
loop-edit-preserved g c =
    let edits = c.args.edits.now in
    let i = c.loop-edit.edit-index in
    let e = c.edit-item.result in
    let p = parted edits i e c.loop-edit-test.true (sym c.edit-item.is) in
    let now = topology_of (g.N.EditedTopology.numbered c.loop-edit.network) in
    let made = c.in_ok-make.ensures.made in
    record {
      made = subst (λ (es : List Edit). MakesAll (topology_of (g.N.EditedTopology.numbered c.args.network.now)) es (topology_of (g.N.EditedTopology.numbered c.make.new.network)) c.args.steps.now c.make.new.steps) (sym p.prefix)
          (makes_joined (topology_of (g.N.EditedTopology.numbered c.args.network.now)) (take i edits) (e ∷ []) now (topology_of (g.N.EditedTopology.numbered c.make.new.network)) c.args.steps.now c.loop-edit.steps c.make.new.steps c.requires.regular
          c.loop-edit.invariant.made made);
      can = can_rest now (topology_of (g.N.EditedTopology.numbered c.make.new.network)) e (drop (i + 1) edits) (subst (CanAllBeMade now) p.after c.loop-edit.invariant.can) made.make;
      none = λ free. c.in_ok-make.ensures.none free ∙ c.loop-edit.invariant.none free;
    }
