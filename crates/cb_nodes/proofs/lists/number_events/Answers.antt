use Rattle.std.proofs.Common.{get_or, take, sym, subst, arith, ◌∙◌, ◌++◌, ◌∷◌, []}
use Rattle.std.proofs.lemmas.List.{take_more}
use Rattle.cb_model.specs.declared.id.EventId.{EventId}
use Rattle.cb_nodes.specs.Kept.{NumbersEvents}
use Rattle.cb_nodes.proofs.Listing.{numbers_more, not_before}
use Rattle.cb_nodes.proofs.lists.number_events.Goals as goal

pub loop-event-preserved : goal.loop-event-preserved
loop-event-preserved c =
    let d : EventId = record { 0 = 0 } in
    let xs = c.args.events.now in
    let k = c.loop-event.event-index in
    let e = get_or xs k d in
    let off = not_before xs k d c.requires.once c.loop-event-test.true in
    let more = numbers_more c.args.numbers.now c.loop-event.numbers c.take-id.new.self c.args.instance c.loop-event.list.items (take k xs) e c.take-id.result c.loop-event.invariant.all (c.requires.new e) off c.take-id.ensures in
    record {
      all = subst (λ es. NumbersEvents c.args.numbers.now c.take-id.new.self c.args.instance c.push_reserved.new.self.items es) (sym (take_more xs k d c.loop-event-test.true))
          (subst (λ list. NumbersEvents c.args.numbers.now c.take-id.new.self c.args.instance list (take k xs ++ e ∷ [])) (sym c.push_reserved.ensures.items) more);
      len = omega (arith, c.push_reserved.ensures.len, c.loop-event.invariant.len);
      capacity = c.push_reserved.ensures.capacity ∙ c.loop-event.invariant.capacity;
    }
