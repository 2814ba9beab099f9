use Rattle.std.proofs.Common.{◌∙◌, IfOk, length, sym, ap, subst}
use Rattle.cb_model.specs.WellTyped.{WellTyped}
use Rattle.cb_network.specs.Topology.{Topology}
use Rattle.cb_network.proofs.Typed.{typed_is_regular}
use Rattle.cb_coding.specs.Groups.{codes_of}
use Rattle.cb_finding.specs.Matrix.{IsMatrix}
use Rattle.cb_topo.specs.Numbered.{topology_of}
use Rattle.cb_validity.specs.Valid.{AreColumnNumbers}
use Rattle.cb_session.specs.Stated.{IsModeStated, StatesRadiiOf}
use Rattle.cb_session.specs.declared.stated.StatedWish.{StatedWish}
use Rattle.cb_log_commands.proofs.Decoded.{all_stand, given_columns, given_radii}
use Rattle.cb_log_commands.proofs.decode.session_over.Goals as goal

pub by_stated-requires-clause-columns : goal.by_stated-requires-clause-columns
by_stated-requires-clause-columns g c =
    let (t, certificate, is) = c.requires.given in
    let same = ap topology_of c.in_ok-cache.ensures.graph ∙ is.graph in
    subst (λ (u : Topology). AreColumnNumbers u c.args.given.nodes c.args.given.columns) (sym same) (given_columns t certificate c.args.given is)

pub by_stated-requires-clause-radii : goal.by_stated-requires-clause-radii
by_stated-requires-clause-radii g c = λ columns groups matrix.
    let (t, certificate, is) = c.requires.given in
    let same = ap topology_of c.in_ok-cache.ensures.graph ∙ is.graph in
    subst (λ (wish : StatedWish). StatesRadiiOf (length columns) (codes_of groups) wish) (sym c.to_stated.ensures)
    (given_radii t certificate c.args.given is columns groups (subst (λ (u : Topology). IsMatrix u columns groups) same matrix))

pub returns : goal.returns
returns g c =
    let network = topology_of c.in_ok-cache.cache.graph in
    let here = ap topology_of (c.topology.ensures ∙ c.graph.ensures) in
    let by = subst
    (λ (wish : StatedWish). IfOk c.by_stated.result (λ s. IsModeStated network (record { wish = wish; nodes = c.args.given.nodes; columns = c.args.given.columns }) s.mode))
    c.to_stated.ensures c.by_stated.ensures.mode in
    all_stand c.args.given c.args.window network c.by_stated.result by c.by_stated.ensures.length c.by_stated.ensures.stands
    (typed_is_regular network.model (subst (λ (u : Topology). WellTyped u.model) here c.model-typed.ensures.typed)) (ap topology_of c.in_ok-cache.ensures.graph)
