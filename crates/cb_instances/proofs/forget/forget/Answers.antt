use Rattle.std.proofs.Common.{◌≡◌, ◌<◌, ◌+◌, ◌++◌, ◌∷◌, [], length, take, sym, subst, get_or, ◌∙◌, ap}
use Rattle.std.specs.List.{Contains}
use Rattle.std.proofs.lemmas.List.{take_more}
use Rattle.std.proofs.lemmas.List.Elements.{Contains-get_or}
use Rattle.cb_instances.specs.Forgotten.{ForgetsRow, ForgetsAll}
use Rattle.cb_instances.specs.Net.{inverse_of}
use Rattle.cb_instances.proofs.Forgetting.{forgets_row}
use Rattle.cb_instances.proofs.forget.forget.Goals as goal

pub forget_row-requires : goal.forget_row-requires
forget_row-requires c = λ at has.
    let rows = c.args.links.now.rows.items in
    let row = c.row-item.result in
    let within : c.loop-row.row-index < length rows = subst (λ xs. c.loop-row.row-index < length xs) c.deref-row-items.ensures.value c.loop-row-test.true in
    let is : row ≡ get_or rows c.loop-row.row-index row = c.row-item.is ∙ ap (λ xs. get_or xs c.loop-row.row-index row) c.deref-row-items.ensures.value in
    c.requires row at (subst (Contains rows) (sym is) (Contains-get_or rows c.loop-row.row-index row within)) (subst (λ xs. Contains xs at) c.deref.ensures.value has)

pub loop-row-preserved : goal.loop-row-preserved
loop-row-preserved c =
    let rows = c.args.links.now.rows.items in
    let row = c.row-item.result in
    let within : c.loop-row.row-index < length rows = subst (λ xs. c.loop-row.row-index < length xs) c.deref-row-items.ensures.value c.loop-row-test.true in
    let is : row ≡ get_or rows c.loop-row.row-index row = c.row-item.is ∙ ap (λ xs. get_or xs c.loop-row.row-index row) c.deref-row-items.ensures.value in
    let mid = c.loop-row.slots.slots in
    let new = c.forget_row.new.slots.slots in
    let step : ForgetsRow mid new c.args.id (inverse_of c.args.model.now row.rel) row.to.items = subst (ForgetsRow mid new c.args.id (inverse_of c.args.model.now row.rel)) c.deref.ensures.value c.forget_row.ensures.forgets in
    let more = forgets_row c.args.model.now c.args.slots.now.slots mid new c.args.id (take c.loop-row.row-index rows) row c.loop-row.invariant.forgets step in
    let last : take (c.loop-row.row-index + 1) rows ≡ take c.loop-row.row-index rows ++ row ∷ [] = take_more rows c.loop-row.row-index row within ∙ ap (λ x. take c.loop-row.row-index rows ++ x ∷ []) (sym is) in
    record {
      forgets = subst (ForgetsAll c.args.model.now c.args.slots.now.slots new c.args.id) (sym last) more;
      next = c.forget_row.ensures.next ∙ c.loop-row.invariant.next;
    }
