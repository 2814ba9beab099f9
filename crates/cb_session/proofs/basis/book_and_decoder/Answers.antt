use Rattle.std.proofs.Common.{◌≡◌, ℕ, List, length, ap, arith}
use Rattle.cb_session.specs.InUse.{in_use_of}
use Rattle.cb_session.proofs.Bases.{choice_is_narrow}
use Rattle.cb_session.proofs.basis.book_and_decoder.Goals as goal

pub of-requires-2-clause-columns_fit : goal.of-requires-2-clause-columns_fit
of-requires-2-clause-columns_fit c =
    let narrow = choice_is_narrow c.args.codes.now.width c.args.codes.now.rows _ (in_use_of c.in_ok-book.book).kept c.in_ok-book.ensures.choice.choice in
    let few = c.requires.columns_fit in
    let same : length c.columns.result.now ≡ length (in_use_of c.in_ok-book.book).kept = ap (λ (columns : List ℕ). length columns) c.columns.ensures in
    omega arith
