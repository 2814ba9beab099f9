use Rattle.std.proofs.Common.{◌++◌, ◌∙◌, List, ℕ, ap}
use Rattle.std.specs.Fmt.{decimal}
use Rattle.cb_report.specs.Lines.{successor_end}
use Rattle.cb_report.proofs.Writing.{on_ok_more, after_three}
use Rattle.cb_report.proofs.level_texts.push_successor.Goals as goal

pub returns : goal.returns
returns c =
    let end = successor_end c.args.successor.now in
    let start = c.args.out.now.items ++ c.args.words.now in
    on_ok_more c.push_successor_end.result _ _
    (λ e. e ∙ (ap (λ (xs : List ℕ). xs ++ end) (c.in_ok-push_number.ensures ∙ ap (λ (n : ℕ). start ++ decimal n) c.from.ensures)
    ∙ after_three c.args.out.now.items c.args.words.now (decimal c.args.entry) end)) c.push_successor_end.ensures
