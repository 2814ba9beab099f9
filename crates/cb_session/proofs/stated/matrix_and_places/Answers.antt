use Rattle.std.proofs.Common.{◌∙◌, sym, subst}
use Rattle.cb_network.specs.Sound.{Sound}
use Rattle.cb_validity.specs.Valid.{AreColumnNumbers}
use Rattle.cb_topo.specs.Columns.{AreAllColumns}
use Rattle.cb_topo.specs.Numbered.{Numbered, topology_of}
use Rattle.cb_session.specs.Stated.{ArePlacesFor}
use Rattle.cb_session.proofs.Places.{few_places}
use Rattle.cb_session.proofs.stated.matrix_and_places.Goals as goal

pub places_of-requires-clause-numbers : goal.places_of-requires-clause-numbers
places_of-requires-clause-numbers c =
    subst (λ (n : Numbered). AreColumnNumbers (topology_of n) c.args.stated.now.nodes c.args.stated.now.columns) (sym (c.topology-topology.ensures ∙ c.graph.ensures)) c.requires

pub over-requires : goal.over-requires
over-requires c =
    subst (λ (n : Numbered). AreAllColumns n c.in_ok-columns.columns) (c.topology-topology.ensures ∙ c.graph.ensures) c.in_ok-columns.ensures.columns

pub returns-clause-places : goal.returns-clause-places
returns-clause-places c =
    subst (λ (n : Numbered). ArePlacesFor (topology_of n) c.args.stated.now.nodes c.args.stated.now.columns c.in_ok-places.places)
    (c.topology-topology.ensures ∙ c.graph.ensures) c.in_ok-places.ensures

pub returns-clause-few_places : goal.returns-clause-few_places
returns-clause-few_places c =
    let n = c.args.cache.now.graph in
    let here = c.topology-topology.ensures ∙ c.graph.ensures in
    let all = subst (λ (m : Numbered). AreAllColumns m c.in_ok-columns.columns) here c.in_ok-columns.ensures.columns in
    let places = subst (λ (m : Numbered). ArePlacesFor (topology_of m) c.args.stated.now.nodes c.args.stated.now.columns c.in_ok-places.places) here c.in_ok-places.ensures in
    few_places (topology_of n) (subst (λ (m : Numbered). Sound (topology_of m)) here c.model-model.ensures.sound) c.args.stated.now.nodes all.names all.are
    c.args.stated.now.columns c.in_ok-places.places c.requires places
