use Rattle.std.proofs.Common.{arith}
use Rattle.cb_distance.proofs.Others.{no_radii, one_radius_more, all_radii}
use Rattle.cb_distance.proofs.tolerance.radii.Goals as goal

pub loop-place-init : goal.loop-place-init
loop-place-init c = no_radii c.args.codes.now.width c.args.codes.now.rows c.args.cap c.new-radii.result c.new-radii.ensures

pub loop-place-preserved : goal.loop-place-preserved
loop-place-preserved c =
    let codes = c.args.codes.now in
    one_radius_more codes.width codes.rows c.args.cap c.loop-place.place c.loop-place.radii c.push.new.self c.nearest_need.result c.radius.result
    c.loop-place.invariant c.nearest_need.ensures c.radius.ensures c.in_ok-push.ensures.ok

pub returns : goal.returns
returns c =
    let codes = c.args.codes.now in
    all_radii codes.width codes.rows c.args.cap c.loop-place.place c.loop-place.radii (let len = c.len-place-end.ensures in omega arith) c.loop-place.invariant
