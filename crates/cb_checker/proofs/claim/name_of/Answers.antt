use Rattle.std.proofs.Common.{◌≡◌, ◌<◌, length, slice_get, Some, sym, ap, subst, ◌∙◌, arith}
use Rattle.cb_codes.proofs.Fitting.{length-named}
use Rattle.cb_checker.proofs.Claiming.{group_named}
use Rattle.cb_checker.proofs.claim.name_of.Goals as goal

pub at-group-requires : goal.at-group-requires
at-group-requires c =
    let many = ap length c.named.ensures ∙ length-named c.args.groups.now.groups in
    let low = c.requires.place in
    omega arith

pub at-requires : goal.at-requires
at-requires c =
    let groups = c.args.groups.now.groups in
    let group = c.at-group.result.now in
    let is = group_named groups c.args.place group (subst (λ gs. slice_get gs c.args.place ≡ Some group) c.named.ensures c.at-group.ensures) in
    let later : 0 < c.args.place = omega arith in
    let some = c.requires.members c.args.place is.0 later is.1 in
    subst (λ ms. 0 < length ms) is.2 some

pub returns : goal.returns
returns c =
    let groups = c.args.groups.now.groups in
    let group = c.at-group.result.now in
    let least = c.in_ok-least.least in
    let is = group_named groups c.args.place group (subst (λ gs. slice_get gs c.args.place ≡ Some group) c.named.ensures c.at-group.ensures) in
    let later : 0 < c.args.place = omega arith in
    let member : slice_get group.members 0 ≡ Some least = c.at.ensures ∙ ap Some (sym c.in_ok-least.ensures) in
    (later, is.0, is.1, subst (λ ms. slice_get ms 0 ≡ Some least) (sym is.2) member)
