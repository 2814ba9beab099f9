use Rattle.std.proofs.Common.{◌++◌, ◌∙◌, List, ℕ, ap, codes}
use Rattle.std.specs.Fmt.{decimal}
use Rattle.cb_report.proofs.Writing.{on_ok_more, after_eleven}
use Rattle.cb_report.proofs.accepted.push_capped.Goals as goal

pub returns : goal.returns
returns c =
    let d = decimal c.args.cap in
    let r = decimal c.args.least in
    let t = decimal c.args.greatest in
    let g = decimal c.args.groups in
    let k = decimal c.args.columns in
    let cap = codes "accepted book cap " in
    let radius = codes " radius " in
    let to = codes " to " in
    let groups = codes " groups " in
    let columns = codes " columns " in
    let last = codes "\n" in
    on_ok_more c.push_count.result _ _
    (λ e. e ∙ (ap (λ (n : ℕ). c.push_number-4.new.out.items ++ (columns ++ (decimal n ++ last))) c.from-5.ensures
    ∙ (ap (λ (xs : List ℕ). xs ++ (columns ++ (k ++ last))) (c.in_ok-push_number-4.ensures ∙ ap (λ (n : ℕ). c.push_number-3.new.out.items ++ groups ++ decimal n) c.from-4.ensures)
    ∙ (ap (λ (xs : List ℕ). xs ++ groups ++ g ++ (columns ++ (k ++ last))) (c.in_ok-push_number-3.ensures ∙ ap (λ (n : ℕ). c.push_number-2.new.out.items ++ to ++ decimal n) c.from-3.ensures)
    ∙ (ap (λ (xs : List ℕ). xs ++ to ++ t ++ groups ++ g ++ (columns ++ (k ++ last))) (c.in_ok-push_number-2.ensures ∙ ap (λ (n : ℕ). c.push_number.new.out.items ++ radius ++ decimal n) c.from-2.ensures)
    ∙ (ap (λ (xs : List ℕ). xs ++ radius ++ r ++ to ++ t ++ groups ++ g ++ (columns ++ (k ++ last))) (c.in_ok-push_number.ensures ∙ ap (λ (n : ℕ). c.args.out.now.items ++ cap ++ decimal n) c.from.ensures)
    ∙ after_eleven c.args.out.now.items cap d radius r to t groups g columns k last)))))) c.push_count.ensures
