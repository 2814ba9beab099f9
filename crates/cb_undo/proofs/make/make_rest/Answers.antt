use Rattle.std.proofs.Common.{List, sym, subst, ◌∙◌}
use Rattle.std.proofs.lemmas.Result.{on_ok_weaker, on_err_weaker}
use Rattle.cb_network.specs.declared.edit.Edit.{Edit}
use Rattle.cb_topo.specs.Numbered.{topology_of}
use Rattle.cb_undo.specs.Made.{CanAllBeMade, MakesAll, MakesPrefix}
use Rattle.cb_undo.proofs.Making.{can_prefix, can_after, makes_joined, prefix_of_second}
use Rattle.cb_undo.proofs.make.make_rest.Goals as goal

pub make_each-requires : goal.make_each-requires
make_each-requires g c =
    let t = topology_of (g.N.EditedTopology.numbered c.args.network.now) in
    let i = c.args.edits.now in
    subst (CanAllBeMade t) (sym c.deref.ensures.value) (can_prefix t i.links.items i.mutes.items c.requires)

pub make_each-requires-2 : goal.make_each-requires-2
make_each-requires-2 g c =
    let t = topology_of (g.N.EditedTopology.numbered c.args.network.now) in
    let mid = topology_of (g.N.EditedTopology.numbered c.make_each.new.network) in
    let i = c.args.edits.now in
    let made : MakesAll t i.links.items mid c.args.steps.now c.make_each.new.steps =
    subst (λ (es : List Edit). MakesAll t es mid c.args.steps.now c.make_each.new.steps) c.deref.ensures.value c.in_ok-make_each.ensures.made in
    subst (CanAllBeMade mid) (sym c.deref-2.ensures.value) (can_after t mid i.links.items i.mutes.items c.requires made.make)

pub returns-clause-made : goal.returns-clause-made
returns-clause-made g c =
    let t = topology_of (g.N.EditedTopology.numbered c.args.network.now) in
    let mid = topology_of (g.N.EditedTopology.numbered c.make_each.new.network) in
    let u = topology_of (g.N.EditedTopology.numbered c.make_each-2.new.network) in
    let i = c.args.edits.now in
    let made : MakesAll t i.links.items mid c.args.steps.now c.make_each.new.steps =
    subst (λ (es : List Edit). MakesAll t es mid c.args.steps.now c.make_each.new.steps) c.deref.ensures.value c.in_ok-make_each.ensures.made in
    on_ok_weaker c.make_each-2.result (λ (m : MakesAll mid c.deref-2.result.now u c.make_each.new.steps c.make_each-2.new.steps).
    makes_joined t i.links.items i.mutes.items mid u c.args.steps.now c.make_each.new.steps c.make_each-2.new.steps c.requires.regular made
    (subst (λ (es : List Edit). MakesAll mid es u c.make_each.new.steps c.make_each-2.new.steps) c.deref-2.ensures.value m)) c.make_each-2.ensures.made

pub returns-clause-part : goal.returns-clause-part
returns-clause-part g c =
    let t = topology_of (g.N.EditedTopology.numbered c.args.network.now) in
    let mid = topology_of (g.N.EditedTopology.numbered c.make_each.new.network) in
    let u = topology_of (g.N.EditedTopology.numbered c.make_each-2.new.network) in
    let i = c.args.edits.now in
    let made : MakesAll t i.links.items mid c.args.steps.now c.make_each.new.steps =
    subst (λ (es : List Edit). MakesAll t es mid c.args.steps.now c.make_each.new.steps) c.deref.ensures.value c.in_ok-make_each.ensures.made in
    on_err_weaker c.make_each-2.result (λ (f : MakesPrefix mid c.deref-2.result.now u c.make_each.new.steps c.make_each-2.new.steps).
    prefix_of_second t i.links.items i.mutes.items mid u c.args.steps.now c.make_each.new.steps c.make_each-2.new.steps c.requires.regular made
    (subst (λ (es : List Edit). MakesPrefix mid es u c.make_each.new.steps c.make_each-2.new.steps) c.deref-2.ensures.value f)) c.make_each-2.ensures.part

pub returns-clause-none : goal.returns-clause-none
returns-clause-none g c = λ free. c.make_each-2.ensures.none free ∙ c.in_ok-make_each.ensures.none free
