use Rattle.std.proofs.Common.{[], ◌∷◌, Ok, Err, refl, sym, subst, ◌∙◌, append-nil, arith}
use Rattle.cb_change.specs.Costs.{IsEditCost, CountsAtMost}
use Rattle.cb_change.proofs.InTurn.{alone_costs, refused_costs}
use Rattle.cb_network.specs.declared.edit.Edit.{Edit}
use Rattle.cb_network.specs.Edits.{IsAfter}
use Rattle.cb_network.specs.Laws.{HasGoodName}
use Rattle.cb_log.specs.declared.event.Event.TheVariants.{Refused}
use Rattle.cb_log.specs.declared.event.RefusedWhy.TheVariants.{Edit as EditWhy}
use Rattle.cb_topo.specs.Accepted.{IsDecided}
use Rattle.cb_topo.specs.Applied.{Applies}
use Rattle.cb_topo.specs.Numbered.{Numbered, topology_of}
use Rattle.cb_session.proofs.act.change.Goals as goal

pub returns-in_ok-push-in-Err-clause-acts : goal.returns-in_ok-push-in-Err-clause-acts
returns-in_ok-push-in-Err-clause-acts g c =
    let why = c.in-Err.why in (
      Refused c.args.number (EditWhy why) ∷ [],
      (
        Err why,
        subst (λ (n : Numbered). IsAfter (topology_of n) c.args.edit.now (Err why)) (c.topology.ensures ∙ c.graph.ensures) c.in-Err.ensures.refused,
        refl,
        (refl, refl),
      ),
      c.in_ok-push-in-Err.ensures.ok,
    )

pub apply_accepted-requires-clause-name : goal.apply_accepted-requires-clause-name
apply_accepted-requires-clause-name g c = subst HasGoodName (sym c.in-Ok.ensures.edit) c.requires

pub apply_accepted-requires-clause-decided : goal.apply_accepted-requires-clause-decided
apply_accepted-requires-clause-decided g c =
    subst (λ (n : Numbered). IsDecided n c.in-Ok.accepted) (c.topology.ensures ∙ c.graph.ensures) c.in-Ok.ensures.decided

pub returns-in_ok-apply_accepted-in-Ok-clause-acts : goal.returns-in_ok-apply_accepted-in-Ok-clause-acts
returns-in_ok-apply_accepted-in-Ok-clause-acts g c =
    let new = c.apply_accepted.new.self.graph in
    let made = subst (λ (e : Edit). Applies c.args.cache.now.graph e new) c.in-Ok.ensures.edit c.in_ok-apply_accepted-in-Ok.ensures.made in
    ([], (Ok (topology_of new), made.after, refl, (refl, refl)), sym (append-nil c.args.events.now))

pub returns-in_ok-push-in-Err-clause-cost : goal.returns-in_ok-push-in-Err-clause-cost
returns-in_ok-push-in-Err-clause-cost g c =
    let why = c.in-Err.why in
    let refused = subst (λ (n : Numbered). IsAfter (topology_of n) c.args.edit.now (Err why)) (c.topology.ensures ∙ c.graph.ensures) c.in-Err.ensures.refused in
    record { cost = 0; is_cost = refused_costs (topology_of c.args.cache.now.graph) c.args.edit.now why refused; few = omega arith }

pub returns-in_ok-apply_accepted-in-Ok-clause-cost : goal.returns-in_ok-apply_accepted-in-Ok-clause-cost
returns-in_ok-apply_accepted-in-Ok-clause-cost g c =
    let old = c.args.cache.now.graph in
    let new = c.apply_accepted.new.self.graph in
    let same = c.in-Ok.ensures.edit in
    let made = subst (λ (e : Edit). Applies old e new) same c.in_ok-apply_accepted-in-Ok.ensures.made in
    let counts = subst (λ (e : Edit). CountsAtMost (IsEditCost (topology_of old) e (topology_of new)) c.args.steps.now c.apply_accepted.new.steps) same c.in_ok-apply_accepted-in-Ok.ensures.cost in
    record {
      cost = counts.cost;
      is_cost = alone_costs (topology_of old) c.args.edit.now (topology_of new) counts.cost made.after counts.is_cost;
      few = counts.few;
    }
