use Rattle.std.proofs.Common.{◌∙◌}
use Rattle.cb_bits.proofs.Packed.{packs}
use Rattle.cb_bits.proofs.row.Row.words.Goals as goal

pub returns : goal.returns
returns c =
    packs _ _ c.args.self.now c.as_words.result.now c.self.invariant c.self.view_is (c.as_words.ensures.same ∙ c.deref.ensures.value) c.as_words.ensures.small
