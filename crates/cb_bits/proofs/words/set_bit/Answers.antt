use Rattle.std.proofs.Common.{◌%◌, ◌/◌, ◌==◌, slice_index_or, ap, ◌∙◌, w64, arith}
use Rattle.std.proofs.lemmas.Nat.Bits.{bit_at_set_same, bit_at_set_other}
use Rattle.cb_bits.proofs.Written.{bit_there, bit_elsewhere}
use Rattle.cb_bits.proofs.words.set_bit.Goals as goal

pub returns-clause-one : goal.returns-clause-one
returns-clause-one c =
    bit_there c.args.words.now c.args.k _ c.requires
    (λ i lt differ. bit_at_set_other w64 (slice_index_or c.args.words.now (c.args.k / 64) 0) (c.args.k % 64) (omega arith) i differ)
    ∙ ap (λ b. b == 1) (bit_at_set_same w64 (slice_index_or c.args.words.now (c.args.k / 64) 0) (c.args.k % 64) (omega arith))

pub returns-clause-others : goal.returns-clause-others
returns-clause-others c =
    bit_elsewhere c.args.words.now c.args.k _ c.requires
    (λ i lt differ. bit_at_set_other w64 (slice_index_or c.args.words.now (c.args.k / 64) 0) (c.args.k % 64) (omega arith) i differ)
