use Rattle.std.proofs.Common.{sym, subst}
use Rattle.cb_coding.specs.Needs.{capped_need}
use Rattle.cb_coding.specs.Books.{IsChoice}
use Rattle.cb_reduce.specs.Places.{kept_of}
use Rattle.cb_reduce.proofs.Standing.{of_some}
use Rattle.cb_reduce.proofs.codebook.choice_of_one.Goals as goal

pub returns : goal.returns
returns c =
    subst (λ columns. IsChoice c.args.width c.args.codes.now.rows (capped_need c.args.width c.args.codes.now.rows 1) columns)
    (sym c.in_ok-columns_of.ensures)
    (of_some (λ kept. IsChoice c.args.width c.args.codes.now.rows (capped_need c.args.width c.args.codes.now.rows 1) (kept_of kept)) c.in_ok-kept.field-0
    c.in-Some.kept c.in-Some.is c.in_ok-kept.ensures.choice)
