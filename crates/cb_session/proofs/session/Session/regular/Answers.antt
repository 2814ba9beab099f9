use Rattle.std.proofs.Common.{ap, subst, ◌∙◌}
use Rattle.cb_model.specs.WellTyped.{WellTyped}
use Rattle.cb_network.specs.Topology.{Topology}
use Rattle.cb_network.proofs.Typed.{typed_is_regular}
use Rattle.cb_topo.specs.Numbered.{topology_of}
use Rattle.cb_cache.specs.Cached.{Cached}
use Rattle.cb_session.specs.State.{network_of}
use Rattle.cb_session.proofs.session.Session.regular.Goals as goal

pub returns : goal.returns
returns c =
    let same = ap topology_of (c.topology.ensures ∙ (c.graph.ensures ∙ ap (λ (x : Cached). x.graph) c.cache.ensures)) in
    typed_is_regular (network_of c.args.self.now).model (subst (λ (t : Topology). WellTyped t.model) same c.model-typed.ensures.typed)
