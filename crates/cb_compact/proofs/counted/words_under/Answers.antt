use Rattle.std.proofs.Common.{sym, ◌∙◌}
use Rattle.cb_compact.proofs.Words.{under_is}
use Rattle.cb_compact.proofs.counted.words_under.Goals as goal

pub returns : goal.returns
returns c =
    let masked = c.requires.masked in
    let same = c.requires.same in
    c.distance_under.ensures
    ∙ under_is c.args.one.now c.args.other.now c.args.mask.now c.words.result.now c.words-2.result.now c.words-3.result.now c.words.ensures c.words-2.ensures
    c.words-3.ensures masked (sym same ∙ masked)
