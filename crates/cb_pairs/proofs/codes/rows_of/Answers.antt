use Rattle.std.proofs.Common.{◌++◌, ◌∷◌, [], List, Bool, take, sym, ap, ◌∙◌, arith}
use Rattle.std.proofs.lemmas.List.{take_all}
use Rattle.cb_model.proofs.Numbers.{take_more}
use Rattle.cb_pairs.proofs.codes.rows_of.Goals as goal

pub loop-place-preserved : goal.loop-place-preserved
loop-place-preserved c =
    let rows = c.args.groups.now.rows in
    let at = c.loop-place.place in
    c.in_ok-push.ensures.ok ∙ (ap (λ (rs : List (List Bool)). rs ++ c.in_ok-row_of.field-0 ∷ []) c.loop-place.invariant
    ∙ (ap (λ (row : List Bool). take at rows ++ row ∷ []) c.in_ok-row_of.ensures ∙ sym (take_more rows at c.row.result.now c.row.ensures)))

pub returns : goal.returns
returns c =
    let done = c.loop-place-test.false in
    let end = c.len-place-end.ensures in
    c.loop-place.invariant ∙ take_all c.loop-place.place c.args.groups.now.rows (omega arith)
