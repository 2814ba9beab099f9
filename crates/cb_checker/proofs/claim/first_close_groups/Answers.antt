use Rattle.std.proofs.Common.{length, ap, ◌∙◌, arith}
use Rattle.std.proofs.lemmas.List.{length-map}
use Rattle.cb_coding.specs.declared.group.Group.{Group}
use Rattle.cb_checker.proofs.Claiming.{first_short_of_groups}
use Rattle.cb_checker.proofs.claim.first_close_groups.Goals as goal

pub first_short-requires : goal.first_short-requires
first_short-requires c =
    let many = ap length c.codes.ensures.rows ∙ length-map c.args.groups.now.groups (λ (g : Group). g.code) in
    let few = c.requires in
    omega arith

pub returns : goal.returns
returns c =
    first_short_of_groups c.codes.result.now c.args.groups.now c.codes.ensures.width c.codes.ensures.rows c.args.places.now c.args.wish c.first_short.result
    c.first_short.ensures
