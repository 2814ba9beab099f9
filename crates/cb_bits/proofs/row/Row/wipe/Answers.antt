use Rattle.std.proofs.Common.{◌≡◌, false, length, replicate, sym, ap, ◌∙◌}
use Rattle.std.specs.Vec.{with_items}
use Rattle.std.proofs.lemmas.List.{with_items_is}
use Rattle.cb_bits.proofs.Values.{row_len}
use Rattle.cb_bits.proofs.Zeros.{zeros, zero_values, zeros_hold}
use Rattle.cb_bits.proofs.row.Row.wipe.Goals as goal

-- the words that are written are zeros
written : (c : goal.After-self-1) → (with_items c.self.inside.words c.clear_all.new.words).items ≡ zeros (length c.self.inside.words.items)
written c =
    with_items_is c.self.inside.words c.clear_all.new.words (c.clear_all.auto.words ∙ c.deref_mut.ensures.len)
    ∙ c.clear_all.ensures
    ∙ ap (λ words. zeros (length words)) c.deref_mut.ensures.value

pub invariant_of-self : goal.invariant_of-self
invariant_of-self c = zeros_hold c.self.inside.words.items _ c.self.inside.len (written c) c.self.invariant

pub returns : goal.returns
returns c =
    zero_values _ _ c.self.inside.len (written c)
    ∙ ap (λ n. replicate n false) (sym (row_len c.self.inside.words.items c.self.inside.len c.args.self.now c.self.view_is))
