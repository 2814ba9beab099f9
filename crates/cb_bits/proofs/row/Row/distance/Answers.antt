use Rattle.std.proofs.Common.{◌≡◌, ◌<◌, ◌^◌, length, bit_xor, ap, ◌∙◌}
use Rattle.std.specs.Simd.Lanes.{zip2}
use Rattle.cb_lanes.specs.Words.{count_bits}
use Rattle.cb_bits.proofs.United.{through, one_count, xor_count, xor_few}
use Rattle.cb_bits.proofs.row.Row.distance.Goals as goal

pub count_differing-requires : goal.count_differing-requires
count_differing-requires c = record {
  same = through _ _ _ _ (λ x y. length x ≡ length y) c.deref.ensures.value c.deref-2.ensures.value
      (one_count _ _ c.self.inside.len c.other.inside.len _ _ c.self.invariant c.other.invariant c.self.view_is c.other.view_is c.requires);
  few = through _ _ _ _ (λ x y. count_bits (zip2 bit_xor x y) < 2 ^ 64) c.deref.ensures.value c.deref-2.ensures.value
      (xor_few _ _ c.self.inside.len c.other.inside.len _ _ c.self.invariant c.other.invariant c.self.view_is c.other.view_is c.requires);
}

pub returns : goal.returns
returns c =
    c.count_differing.ensures
    ∙ ap (λ x. count_bits (zip2 bit_xor x c.deref-2.result.now)) c.deref.ensures.value
    ∙ ap (λ y. count_bits (zip2 bit_xor c.self.inside.words.items y)) c.deref-2.ensures.value
    ∙ xor_count _ _ c.self.inside.len c.other.inside.len _ _ c.self.invariant c.other.invariant c.self.view_is c.other.view_is c.requires
