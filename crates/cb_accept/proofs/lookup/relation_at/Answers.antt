use Rattle.cb_model.specs.Classes.{NamesRelation}
use Rattle.cb_accept.proofs.Answered.{if_some, if_none}
use Rattle.cb_accept.proofs.Looked.{lacks_relation, relation_found, no_relation}
use Rattle.cb_accept.proofs.lookup.relation_at.Goals as goal

pub returns-in_err-class-clause-absent : goal.returns-in_err-class-clause-absent
returns-in_err-class-clause-absent c =
    rw c.from_residual.ensures
    (λ a named. lacks_relation c.args.net.now c.args.id c.class_at.ensures.typed c.in_err-class.ensures.absent a named c.args.name.now)

pub returns-clause-found : goal.returns-clause-found
returns-clause-found c =
    if_some c.relation_named.result (NamesRelation c.model.result.now c.in_ok-class.class c.args.name.now) _
    (relation_found c.args.net.now c.args.id c.model.result.now c.model.ensures.value c.in_ok-class.class c.in_ok-class.ensures.found c.args.name.now)
    c.relation_named.ensures.found

pub returns-clause-absent : goal.returns-clause-absent
returns-clause-absent c =
    if_none c.relation_named.result _ _
    (no_relation c.args.net.now c.args.id c.model.result.now c.model.ensures.value c.in_ok-class.class c.in_ok-class.ensures.found c.args.name.now)
    c.relation_named.ensures.absent
