use Rattle.std.proofs.Common.{◌<◌, ◌^◌, ap, subst, sym, ◌∙◌}
use Rattle.cb_lanes.specs.Words.{count_bits}
use Rattle.cb_bits.proofs.Counted.{true_values, few_bits}
use Rattle.cb_bits.proofs.row.Row.ones.Goals as goal

pub count_ones-requires : goal.count_ones-requires
count_ones-requires c =
    subst (λ words. count_bits words < 2 ^ 64) (sym c.deref.ensures.value)
    (few_bits c.self.inside.words.items c.self.inside.len c.args.self.now c.self.view_is c.self.invariant)

pub returns : goal.returns
returns c =
    c.count_ones.ensures ∙ ap count_bits c.deref.ensures.value
    ∙ true_values c.self.inside.words.items c.self.inside.len c.args.self.now c.self.view_is c.self.invariant
