use Rattle.std.proofs.Common.{◌≡◌, ap, sym, subst, ◌∙◌}
use Rattle.std.proofs.lemmas.Option.{slice_get_within}
use Rattle.cb_model.specs.declared.tables.Tables.{Tables}
use Rattle.cb_model.specs.WellTyped.{IsClass}
use Rattle.cb_network.specs.declared.edit.Edit.{Edit}
use Rattle.cb_network.specs.declared.edit.EditRefusal.TheVariants.{Exists}
use Rattle.cb_network.specs.Edits.{IsAccepted}
use Rattle.cb_network.specs.Laws.{HasGoodName}
use Rattle.cb_network.specs.Topology.{Topology, IsLive}
use Rattle.cb_instances.specs.Net.{Creates}
use Rattle.cb_accept.specs.Counts.{CountWith}
use Rattle.cb_topo.specs.Made.{Makes}
use Rattle.cb_topo.proofs.Creating.{create_makes}
use Rattle.cb_topo.proofs.Limits.{kept_within, few_numbers}
use Rattle.cb_topo.proofs.Numbering.{numbered_create}
use Rattle.cb_topo.proofs.instances.create.Goals as goal

pub create-requires-clause-class : goal.create-requires-clause-class
create-requires-clause-class c =
    let (name, class, same, named) = numbered_create c.args.net.now c.args.edit.now c.args.class c.requires.numbered in
    slice_get_within c.args.net.now.topology.model.classes c.args.class.0 named.0 named.1

pub create-requires-clause-absent : goal.create-requires-clause-absent
create-requires-clause-absent c =
    let n = c.args.net.now in
    let (name, class, same, named) = numbered_create n c.args.edit.now c.args.class c.requires.numbered in
    let fresh = subst (IsAccepted n.topology) same c.requires.accepted Exists in
    subst (λ x. ¬ IsLive n.topology x) (sym (c.new_name.ensures name class same)) fresh

pub create-requires-clause-few : goal.create-requires-clause-few
create-requires-clause-few c = few_numbers c.args.net.now.topology.model c.requires.kept.typed c.args.nodes.now c.requires.kept.table.few c.args.class

pub with-requires-clause-class : goal.with-requires-clause-class
with-requires-clause-class c =
    let n = c.args.net.now in
    let (name, class, same, named) = numbered_create n c.args.edit.now c.args.class c.requires.numbered in
    let model : c.model.result.now ≡ n.topology.model = c.model.ensures.value ∙ ap (λ (t : Topology). t.model) c.in_ok-create.ensures.created.made in
    subst (λ (t : Tables). IsClass t c.args.class) (sym model) (slice_get_within n.topology.model.classes c.args.class.0 named.0 named.1)

pub with-requires-clause-few : goal.with-requires-clause-few
with-requires-clause-few c = kept_within c.args.net.now c.args.nodes.now c.args.counts c.requires.kept

pub returns-clause-ok : goal.returns-clause-ok
returns-clause-ok c =
    let n = c.args.net.now in
    let m = c.create.new.net in
    let id = c.in_ok-create.field-0 in
    let (name, class, same, named) = numbered_create n c.args.edit.now c.args.class c.requires.numbered in
    let called = c.new_name.ensures name class same in
    let created = subst (λ x. Creates n m id x c.args.class) called c.in_ok-create.ensures.created in
    let model : c.model.result.now ≡ n.topology.model = c.model.ensures.value ∙ ap (λ (t : Topology). t.model) c.in_ok-create.ensures.created.made in
    let with = subst (λ (t : Tables). CountWith t c.args.counts c.args.class c.with.result) model c.with.ensures in
    subst (λ (e : Edit). Makes n c.args.nodes.now e m c.create.new.self c.with.result) (sym same)
    (create_makes n m c.args.nodes.now c.create.new.self c.args.counts c.with.result name class c.args.class id
    c.requires.kept (subst HasGoodName same c.requires.name) (subst (IsAccepted n.topology) same c.requires.accepted) named created c.in_ok-create.ensures.added
    c.model.ensures.whole c.in_ok-create.ensures.one with)
