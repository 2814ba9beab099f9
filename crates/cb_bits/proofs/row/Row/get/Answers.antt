use Rattle.std.proofs.Common.{length, ap, ◌∙◌, arith}
use Rattle.cb_lanes.specs.Words.{bit_of}
use Rattle.cb_bits.proofs.Values.{row_len, row_bit}
use Rattle.cb_bits.proofs.row.Row.get.Goals as goal

pub is_set-requires : goal.is_set-requires
is_set-requires c =
    let long = row_len c.self.inside.words.items c.self.inside.len c.args.self.now c.self.view_is in
    let lt = c.requires in
    let enough = c.self.invariant.enough in
    let all = ap length c.deref.ensures.value in
    omega arith

pub returns : goal.returns
returns c =
    let long = row_len c.self.inside.words.items c.self.inside.len c.args.self.now c.self.view_is in
    let lt = c.requires in
    c.is_set.ensures ∙ ap (λ w. bit_of w c.args.i) c.deref.ensures.value
    ∙ row_bit c.self.inside.words.items c.self.inside.len c.args.self.now c.self.view_is c.args.i (omega arith)
