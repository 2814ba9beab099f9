use Rattle.std.proofs.Common.{sym, subst, get_or, ◌∙◌}
use Rattle.std.proofs.lemmas.List.{take_more}
use Rattle.std.proofs.lemmas.List.Elements.{Contains-get_or}
use Rattle.cb_instances.specs.Items.{Loses}
use Rattle.cb_instances.specs.declared.id.InstanceId.{InstanceId}
use Rattle.cb_instances.specs.Forgotten.{ForgetsRow}
use Rattle.cb_instances.specs.Joined.{Rewires}
use Rattle.cb_instances.specs.Net.{inverse_of}
use Rattle.cb_instances.proofs.Forgetting.{forgets_one}
use Rattle.cb_instances.proofs.forget.forget_row.Goals as goal

pub inverse-back-requires : goal.inverse-back-requires
inverse-back-requires c =
    let zero : InstanceId = record { 0 = 0 } in
    c.requires (get_or c.args.list.now c.loop-at.at-index zero) (Contains-get_or c.args.list.now c.loop-at.at-index zero c.loop-at-test.true)

pub loop-at-preserved : goal.loop-at-preserved
loop-at-preserved c =
    let zero : InstanceId = record { 0 = 0 } in
    let at = get_or c.args.list.now c.loop-at.at-index zero in
    let w : Rewires c.loop-at.slots.slots c.take_away.new.slots.slots at (inverse_of c.args.model.now c.args.rel) (Loses c.args.id) = subst (λ r. Rewires c.loop-at.slots.slots c.take_away.new.slots.slots at r (Loses c.args.id)) c.inverse-back.ensures c.take_away.ensures.rewires in
    let more = forgets_one _ _ _ c.args.id _ _ at c.loop-at.invariant.forgets w in
    record {
      forgets = subst (ForgetsRow c.args.slots.now.slots c.take_away.new.slots.slots c.args.id (inverse_of c.args.model.now c.args.rel)) (sym (take_more c.args.list.now c.loop-at.at-index zero c.loop-at-test.true)) more;
      next = c.take_away.ensures.next ∙ c.loop-at.invariant.next;
    }
