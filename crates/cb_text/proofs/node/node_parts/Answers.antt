use Rattle.std.proofs.Common.{sym, subst, ◌∙◌}
use Rattle.std.proofs.lemmas.Bool.{false≢true}
use Rattle.std.proofs.lemmas.List.{take_rest}
use Rattle.cb_text.specs.Names.{IsName, IsInstance}
use Rattle.cb_text.proofs.Cuts.{node_parts_are}
use Rattle.cb_text.proofs.node.node_parts.Goals as goal
use Rattle.cb_text.proofs.node.node_parts.Goals.{else-is_name-via-then-is_name+else-is_instance, else-is_name-via-else-is_name}

pub returns-else-is_name-clause-none : goal.returns-else-is_name-clause-none
returns-else-is_name-clause-none c = λ event instance node.
    let bytes = c.args.bytes.now in
    let parts = node_parts_are bytes event instance c.in_ok-at.at c.in_ok-at.ensures node in
    elim c.else-is_name.branch [
      | else-is_name-via-then-is_name+else-is_instance w ↦
          let is = subst IsInstance (parts.1 ∙ sym (take_rest bytes _)) node.instance_is in
          false≢true (sym w.if-is_instance.false ∙ w.is_instance.ensures.1 is)
      | else-is_name-via-else-is_name w ↦ false≢true (sym w.if-is_name.false ∙ c.is_name.ensures.1 (subst IsName parts.0 node.event_is))
    ]
