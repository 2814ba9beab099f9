use Rattle.std.proofs.Common.{◌^◌, ◌<◌, sym, subst, arith}
use Rattle.std.proofs.lemmas.List.{get_or_default}
use Rattle.cb_bits.proofs.words.as_words.Goals as goal

pub returns-clause-small : goal.returns-clause-small
returns-clause-small c = λ k d lt.
    let fits = c.type_inv.words k in
    subst (λ word. word < 2 ^ 64) (sym (get_or_default c.args.words.now k d 0 lt)) (omega arith)
