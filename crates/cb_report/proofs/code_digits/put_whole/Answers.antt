use Rattle.std.proofs.Common.{◌≡◌, take, length, ap, ◌∙◌, arith}
use Rattle.std.specs.List.{flat_map}
use Rattle.std.proofs.lemmas.List.{with_items_is}
use Rattle.cb_report.specs.MatrixText.{digit}
use Rattle.cb_report.proofs.Digits.{code_written}
use Rattle.cb_report.proofs.Gathers.{gathers_same}
use Rattle.cb_report.proofs.code_digits.put_whole.Goals as goal

pub returns-clause-text : goal.returns-clause-text
returns-clause-text g c =
    let code = c.args.row.now in
    let digits = c.write_words.new.digits in
    let kept = c.write_words.ensures.length in
    let lent = ap length c.deref_mut.ensures.value in
    let few = c.words.ensures.holds.no_more in
    let same : c.deref.result.now ≡ digits = c.deref.ensures.value ∙ with_items_is c.args.digits.now digits (kept ∙ c.deref_mut.ensures.len) in
    gathers_same (g.O.Sink.tells c.args.out.now) (g.O.Sink.tells c.put.new.out) c.args.gathering.now c.put.new.self (take c.len.result c.deref.result.now) (flat_map digit code)
    (ap (λ n. take n c.deref.result.now) c.len.ensures ∙ ap (λ ds. take (length code) ds) same
    ∙ code_written code c.words.result.now digits c.words.ensures (let room = c.requires.room in omega arith) c.write_words.ensures.digits)
    c.put.ensures
