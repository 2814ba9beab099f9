use Rattle.std.proofs.Common.{◌≡◌, ℕ, Option, None, sym, subst}
use Rattle.cb_topo.specs.Numbered.{IsNodeNamed}
use Rattle.cb_decode.specs.Found.{IsPlaceAmong}
use Rattle.cb_decode.proofs.Placed.{placed, placed_nowhere, within_ids}
use Rattle.cb_decode.proofs.word.position_of.Goals as goal

pub returns-in_err-id-clause-place : goal.returns-in_err-id-clause-place
returns-in_err-id-clause-place c = λ names named.
    let node = c.args.node.now in
    let absent = rw (c.bytes.ensures, c.bytes-2.ensures) at c.in_err-id.ensures.absent in
    subst (λ (found : Option ℕ). IsPlaceAmong names node found) (sym c.from_residual.ensures)
    (placed_nowhere c.args.topology.now c.model-model.ensures.whole c.args.columns.now node names named absent)

pub returns-clause-within : goal.returns-clause-within
returns-clause-within c = within_ids c.args.columns.now c.in_ok-id.id c.position.result c.position.ensures

pub returns-clause-place : goal.returns-clause-place
returns-clause-place c = λ names named.
    let node = c.args.node.now in
    let is = rw (c.bytes.ensures, c.bytes-2.ensures) at c.in_ok-id.ensures.found in
    placed c.args.topology.now c.model-model.ensures.whole c.args.columns.now node names named c.in_ok-id.id is c.position.result c.position.ensures
