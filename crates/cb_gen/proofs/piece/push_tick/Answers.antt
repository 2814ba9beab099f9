use Rattle.std.proofs.Common.{◌++◌, ◌∙◌, List, ℕ, ap, codes}
use Rattle.std.specs.Fmt.{decimal}
use Rattle.cb_gen.proofs.Going.{on_ok_more, on_ok_items, number_between}
use Rattle.cb_gen.proofs.piece.push_tick.Goals as goal

pub returns : goal.returns
returns c =
    on_ok_more c.extend_from_slice.result _ _
    (λ is. is ∙ (ap (λ (xs : List ℕ). xs ++ codes ",\"tick\":true}\n") c.in_ok-push_number.ensures
    ∙ number_between c.args.out.now.items (codes "{\"at\":") (decimal c.args.at) (codes ",\"tick\":true}\n"))) (on_ok_items c.extend_from_slice.result _ _ _ c.extend_from_slice.ensures.items)
