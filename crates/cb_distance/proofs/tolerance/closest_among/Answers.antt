use Rattle.std.proofs.Common.{◌<◌, ℕ, length, get_or, arith}
use Rattle.cb_distance.proofs.Others.{closer_low, closer_reached, looked_more}
use Rattle.cb_distance.proofs.tolerance.closest_among.Goals as goal

pub loop-other-preserved : goal.loop-other-preserved
loop-other-preserved c =
    let codes = c.args.codes.now in
    let place = c.args.place in
    let items = c.args.places.now in
    let n = c.loop-other.other-index in
    let best = c.loop-other.best in
    let closer = c.closer-best.result in
    let was = c.loop-other.invariant in
    let is = c.closer-best.ensures in
    let low : n < length items = omega arith in
    let within : (d : ℕ) → get_or items n d < length codes.rows = λ d. c.requires.places n d low in
    record {
      low = let less = closer_low codes place _ best closer is in let before = was.low in omega arith;
      looks = looked_more codes place items n best closer _ low was.looks is;
      reached = λ cap start. closer_reached codes cap place _ best closer (within _) is (was.reached cap start);
    }
