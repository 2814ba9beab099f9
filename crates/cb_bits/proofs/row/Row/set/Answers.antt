use Rattle.std.proofs.Common.{◌≡◌, true, length, slice_set, sym, ap, subst, ◌∙◌, arith}
use Rattle.std.proofs.lemmas.List.{with_items_is}
use Rattle.cb_lanes.specs.Words.{bit_of}
use Rattle.cb_bits.specs.Bits.{values, Holds}
use Rattle.cb_bits.proofs.Values.{row_len, set_value, set_holds}
use Rattle.cb_bits.proofs.row.Row.set.Goals as goal

pub set_bit-requires : goal.set_bit-requires
set_bit-requires c =
    let long = row_len c.self.inside.words.items c.self.inside.len c.args.self.now c.self.view_is in
    let lt = c.requires in
    let enough = c.self.invariant.enough in
    let all = ap length c.deref_mut.ensures.value in
    omega arith

pub invariant_of-self : goal.invariant_of-self
invariant_of-self c =
    let long = row_len c.self.inside.words.items c.self.inside.len c.args.self.now c.self.view_is in
    let lt = c.requires in
    subst (λ items. Holds items c.self.inside.len) (sym (with_items_is c.self.inside.words c.set_bit.new.words (c.set_bit.auto.words ∙ c.deref_mut.ensures.len)))
    (set_holds c.self.inside.words.items c.set_bit.new.words c.self.inside.len c.args.self.now c.self.view_is c.args.i true (omega arith) c.set_bit.ensures.one
    (λ i other. c.set_bit.ensures.others i other ∙ ap (λ words. bit_of words i) c.deref_mut.ensures.value)
    (c.set_bit.auto.words ∙ ap length c.deref_mut.ensures.value) c.self.invariant)

pub returns : goal.returns
returns c =
    let long = row_len c.self.inside.words.items c.self.inside.len c.args.self.now c.self.view_is in
    let lt = c.requires in
    subst (λ items. values items c.self.inside.len ≡ slice_set c.args.self.now c.args.i true) (sym (with_items_is c.self.inside.words c.set_bit.new.words (c.set_bit.auto.words ∙ c.deref_mut.ensures.len)))
    (set_value c.self.inside.words.items c.set_bit.new.words c.self.inside.len c.args.self.now c.self.view_is c.args.i true (omega arith) c.set_bit.ensures.one
    (λ i other. c.set_bit.ensures.others i other ∙ ap (λ words. bit_of words i) c.deref_mut.ensures.value))
