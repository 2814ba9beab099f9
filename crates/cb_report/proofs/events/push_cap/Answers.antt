use Rattle.std.proofs.Common.{◌++◌, ◌∙◌, List, ℕ, ap, codes}
use Rattle.std.specs.Fmt.{decimal}
use Rattle.cb_report.proofs.Writing.{on_ok_more, after_nine}
use Rattle.cb_report.proofs.events.push_cap.Goals as goal

pub returns : goal.returns
returns c =
    let n = decimal c.args.cap in
    let l = decimal c.args.least in
    let m = decimal c.args.greatest in
    let g = decimal c.args.groups in
    let cap = codes " cap " in
    let radius = codes " radius " in
    let to = codes " to " in
    let groups = codes " groups " in
    let last = codes "\n" in
    on_ok_more c.push_count.result _ _
    (λ e. e ∙ (ap (λ (n : ℕ). c.push_number-3.new.out.items ++ (groups ++ (decimal n ++ last))) c.from-4.ensures
    ∙ (ap (λ (xs : List ℕ). xs ++ (groups ++ (g ++ last))) (c.in_ok-push_number-3.ensures ∙ ap (λ (n : ℕ). c.push_number-2.new.out.items ++ to ++ decimal n) c.from-3.ensures)
    ∙ (ap (λ (xs : List ℕ). xs ++ to ++ m ++ (groups ++ (g ++ last))) (c.in_ok-push_number-2.ensures ∙ ap (λ (n : ℕ). c.push_number.new.out.items ++ radius ++ decimal n) c.from-2.ensures)
    ∙ (ap (λ (xs : List ℕ). xs ++ radius ++ l ++ to ++ m ++ (groups ++ (g ++ last))) (c.in_ok-push_number.ensures ∙ ap (λ (n : ℕ). c.args.out.now.items ++ cap ++ decimal n) c.from.ensures)
    ∙ after_nine c.args.out.now.items cap n radius l to m groups g last))))) c.push_count.ensures
