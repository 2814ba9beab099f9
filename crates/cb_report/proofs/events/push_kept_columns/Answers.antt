use Rattle.std.proofs.Common.{◌++◌, ◌∙◌, List, ℕ, ap, codes}
use Rattle.std.specs.Fmt.{decimal}
use Rattle.cb_report.proofs.Writing.{on_ok_more, after_four}
use Rattle.cb_report.proofs.events.push_kept_columns.Goals as goal

pub returns : goal.returns
returns c =
    let k = decimal c.args.columns in
    let n = decimal c.args.of in
    let columns = codes "book columns " in
    let of = codes " of " in
    on_ok_more c.push_number-2.result _ _
    (λ e. e ∙ (ap (λ (m : ℕ). c.push_number.new.out.items ++ of ++ decimal m) c.from-2.ensures
    ∙ (ap (λ (xs : List ℕ). xs ++ of ++ n) (c.in_ok-push_number.ensures ∙ ap (λ (m : ℕ). c.args.out.now.items ++ columns ++ decimal m) c.from.ensures)
    ∙ after_four c.args.out.now.items columns k of n))) c.push_number-2.ensures
