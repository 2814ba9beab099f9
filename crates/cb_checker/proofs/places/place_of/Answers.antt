use Rattle.std.proofs.Common.{◌≡◌, Some, subst}
use Rattle.std.specs.Prelude.{slice_get}
use Rattle.cb_nodes.specs.declared.id.NodeId.{NodeId}
use Rattle.cb_topo.proofs.Positions.{has_position, at_position}
use Rattle.cb_checker.specs.Known.{IsIdAt}
use Rattle.cb_checker.proofs.Naming.{one_id}
use Rattle.cb_checker.proofs.Claiming.{found_some}
use Rattle.cb_checker.proofs.places.place_of.Goals as goal

pub unwrap-requires : goal.unwrap-requires
unwrap-requires c =
    let there = c.requires.there in
    let all = c.args.all.now in
    let id = c.unwrap-id.result in
    let is = found_some (IsIdAt c.args.ids.now c.args.number) c.id_at.result id c.unwrap-id.ensures c.id_at.ensures.found in
    let same = one_id c.args.ids.now c.args.number there.0 id there.1 is in
    has_position all id c.position.result there.2.0 c.position.ensures (subst (λ (x : NodeId). slice_get all there.2.0 ≡ Some x) same there.2.1)

pub returns : goal.returns
returns c = (
  c.unwrap-id.result,
  found_some (IsIdAt c.args.ids.now c.args.number) c.id_at.result c.unwrap-id.result c.unwrap-id.ensures c.id_at.ensures.found,
  at_position c.args.all.now c.unwrap-id.result c.position.result c.unwrap.result c.unwrap.ensures c.position.ensures,
)
