use Rattle.std.proofs.Common.{◌++◌, ◌∷◌, [], List, ap, ◌∙◌}
use Rattle.cb_model.specs.declared.tables.BlockRow.{BlockRow}
use Rattle.cb_model.specs.declared.tables.HideRow.{HideRow}
use Rattle.cb_sample.proofs.SampleTyped.{typed_as_sample}
use Rattle.cb_sample.proofs.sample.sample_model.Goals as goal

pub seal-requires : goal.seal-requires
seal-requires c =
    let block : BlockRow = record { class = record { 0 = 1 }; rule = 1 } in
    let hide : HideRow = record { class = record { 0 = 2 }; event = record { 0 = 2 } } in
    typed_as_sample c.in_ok-classes.field-0 c.in_ok-events.field-0 c.in_ok-relations.field-0 c.in_ok-rules.field-0 c.push.new.self c.push-2.new.self
    c.in_ok-classes.ensures c.in_ok-events.ensures c.in_ok-relations.ensures c.in_ok-rules.ensures
    (c.in_ok-push.ensures.ok ∙ ap (λ (rows : List BlockRow). rows ++ block ∷ []) c.new-blocks.ensures)
    (c.in_ok-push-2.ensures.ok ∙ ap (λ (rows : List HideRow). rows ++ hide ∷ []) c.new-hides.ensures)
