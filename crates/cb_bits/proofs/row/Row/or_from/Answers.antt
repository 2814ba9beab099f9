use Rattle.std.proofs.Common.{◌≡◌, ◌||◌, length, bit_or, sym, ap, subst, ◌∙◌}
use Rattle.std.specs.Simd.Lanes.{zip2}
use Rattle.std.specs.Vec.{with_items}
use Rattle.std.proofs.lemmas.List.{with_items_is}
use Rattle.cb_bits.specs.Bits.{values, Holds}
use Rattle.cb_bits.proofs.United.{one_count, or_holds, or_values}
use Rattle.cb_bits.proofs.row.Row.or_from.Goals as goal

pub or_into-requires : goal.or_into-requires
or_into-requires c =
    ap length c.deref_mut.ensures.value
    ∙ one_count _ _ c.self.inside.len c.other.inside.len _ _ c.self.invariant c.other.invariant c.self.view_is c.other.view_is c.requires
    ∙ sym (ap length c.deref.ensures.value)

-- the words that are written are those of both rows
written : (c : goal.After-self-1) → (with_items c.self.inside.words c.or_into.new.a).items ≡ zip2 bit_or c.self.inside.words.items c.other.inside.words.items
written c =
    with_items_is c.self.inside.words c.or_into.new.a (c.or_into.auto.a ∙ c.deref_mut.ensures.len)
    ∙ c.or_into.ensures.union
    ∙ ap (λ a. zip2 bit_or a c.deref.result.now) c.deref_mut.ensures.value
    ∙ ap (zip2 bit_or c.self.inside.words.items) c.deref.ensures.value

pub invariant_of-self : goal.invariant_of-self
invariant_of-self c =
    subst (λ items. Holds items c.self.inside.len) (sym (written c))
    (or_holds _ _ c.self.inside.len c.other.inside.len _ _ c.self.invariant c.other.invariant c.self.view_is c.other.view_is c.requires)

pub returns : goal.returns
returns c =
    subst (λ items. values items c.self.inside.len ≡ zip2 (λ one other. one || other) c.args.self.now c.args.other.now) (sym (written c))
    (or_values _ _ c.self.inside.len c.other.inside.len _ _ c.self.invariant c.other.invariant c.self.view_is c.other.view_is c.requires)
