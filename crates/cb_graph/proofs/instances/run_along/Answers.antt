use Rattle.std.proofs.Common.{◌≡◌, ◌<◌, ◌≤◌, length, Some, refl, arith}
use Rattle.std.specs.Prelude.{slice_get}
use Rattle.std.proofs.lemmas.Option.{slice_get_read}
use Rattle.cb_model.proofs.Numbers.{contains_at}
use Rattle.cb_graph.proofs.Listing.{listed_few}
use Rattle.cb_graph.proofs.Running.{running_begun, running_live, running_more, running_done}
use Rattle.cb_graph.proofs.instances.run_along.Goals as goal

pub loop-place-init : goal.loop-place-init
loop-place-init c = record {
  capacity = c.requires.capacity;
  running = running_begun c.args.topology.now.net c.args.rel c.args.row.now c.args.list.now.items c.requires.listed;
}

pub links-requires : goal.links-requires
links-requires c =
    let list = c.loop-place.list.items in
    let id = c.index-id.result.now in
    let now = c.loop-place.invariant.running in
    let low : c.loop-place.place < length list = omega (arith, c.loop-place-test.true, c.len.ensures, c.loop-place.list.ok.0) in
    let here = slice_get_read list (length list) c.loop-place.place id refl low c.index-id.ensures in
    running_live c.args.topology.now.net c.args.rel c.args.row.now c.loop-place.place list c.loop-place.row now c.requires.live id
    ((now.listed.each id).0 (contains_at list c.loop-place.place id here))

pub add_each-requires-clause-places : goal.add_each-requires-clause-places
add_each-requires-clause-places c = λ id h.
    let link = (c.links.ensures.exactly id).0 h in
    omega (arith, c.requires.places.each id (link.to, link.to_is), c.loop-place.invariant.running.len)

pub loop-place-smaller : goal.loop-place-smaller
loop-place-smaller c =
    let list = c.loop-place.list.items in
    let low : c.loop-place.place < length list = omega (arith, c.loop-place-test.true, c.len.ensures, c.loop-place.list.ok.0) in
    let few = listed_few list c.loop-place.row c.loop-place.invariant.running.listed in
    omega (arith, low, few, c.add_each.ensures.length)

pub loop-place-preserved : goal.loop-place-preserved
loop-place-preserved c =
    let list = c.loop-place.list.items in
    let id = c.index-id.result.now in
    let low : c.loop-place.place < length list = omega (arith, c.loop-place-test.true, c.len.ensures, c.loop-place.list.ok.0) in
    let here = slice_get_read list (length list) c.loop-place.place id refl low c.index-id.ensures in
    record {
      capacity = c.add_each.ensures.capacity;
      running = running_more c.args.topology.now.net c.args.rel c.args.row.now c.loop-place.place list c.loop-place.row c.loop-place.invariant.running id here
          c.links.result.now c.links.ensures.exactly c.add_each.new.list.items c.add_each.new.row c.add_each.ensures.listed c.add_each.ensures.length c.add_each.ensures.each
          c.add_each.ensures.prefix;
    }

pub returns-clause-length : goal.returns-clause-length
returns-clause-length c = c.loop-place.invariant.running.len

pub returns-clause-exactly : goal.returns-clause-exactly
returns-clause-exactly c =
    let all : length c.loop-place.list.items ≤ c.loop-place.place = omega (arith, c.loop-place-test.false, c.len.ensures, c.loop-place.list.ok.0) in
    running_done c.args.topology.now.net c.args.rel c.args.row.now c.loop-place.place c.loop-place.list.items c.loop-place.row c.loop-place.invariant.running all
