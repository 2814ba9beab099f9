use Rattle.std.proofs.Common.{◌≡◌, ap, sym, subst, ◌∙◌}
use Rattle.cb_model.specs.declared.tables.Tables.{Tables}
use Rattle.cb_model.specs.WellTyped.{IsClass}
use Rattle.cb_instances.specs.Net.{Net, name_at}
use Rattle.cb_accept.specs.Counts.{CountWithout}
use Rattle.cb_topo.proofs.Deleting.{delete_makes}
use Rattle.cb_topo.proofs.Named.{named_at}
use Rattle.cb_topo.proofs.instances.delete.Goals as goal

pub without-requires : goal.without-requires
without-requires c =
    let n = c.args.net.now in
    let name = name_at n c.args.id in
    let of_class = c.class_of-class.ensures name (named_at n c.args.id c.requires.live) in
    let same : c.model.result.now ≡ n.topology.model = c.model.ensures.value ∙ ap (λ (m : Net). m.topology.model) c.delete.ensures in
    record { class = subst (λ (t : Tables). IsClass t c.class_of-class.result) (sym same) (c.requires.kept.classed name c.class_of-class.result of_class) }

pub returns : goal.returns
returns c =
    let n = c.args.net.now in
    let name = name_at n c.args.id in
    let named = named_at n c.args.id c.requires.live in
    let of_class = c.class_of-class.ensures name named in
    let same : c.model.result.now ≡ n.topology.model = c.model.ensures.value ∙ ap (λ (m : Net). m.topology.model) c.delete.ensures in
    let less = subst (λ (t : Tables). CountWithout t c.args.counts c.class_of-class.result c.without.result) same c.without.ensures in
    delete_makes n c.delete.new.self c.args.nodes.now c.remove.new.self c.args.counts c.without.result name c.class_of-class.result c.args.id
    c.requires.kept c.requires.accepted named of_class c.delete.ensures c.remove.ensures c.model.ensures.whole less
