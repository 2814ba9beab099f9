use Rattle.std.proofs.Common.{get_or, arith}
use Rattle.std.proofs.lemmas.List.Elements.{Contains-get_or}
use Rattle.cb_graph.specs.Instances.{IsNumber}
use Rattle.cb_graph.proofs.Gaining.{read_at, gained_next, gained_all}
use Rattle.cb_graph.proofs.instances.add_each.Goals as goal

pub add_one-requires-clause-place : goal.add_one-requires-clause-place
add_one-requires-clause-place c =
    let ids = c.args.ids.now in
    let x = get_or ids c.loop-id.id-index (record { 0 = 0 }) in
    omega (arith, c.requires.places x (Contains-get_or ids c.loop-id.id-index (record { 0 = 0 }) c.loop-id-test.true), c.loop-id.invariant.gained.len)

pub loop-id-preserved : goal.loop-id-preserved
loop-id-preserved c =
    let ids = c.args.ids.now in
    let x = get_or ids c.loop-id.id-index (record { 0 = 0 }) in
    record {
      listed = c.add_one.ensures.listed;
      capacity = c.add_one.ensures.capacity;
      gained = gained_next IsNumber c.args.row.now ids c.loop-id.id-index c.loop-id.row c.loop-id.invariant.gained x c.loop-id-test.true
          (read_at ids c.loop-id.id-index (record { 0 = 0 }) c.loop-id-test.true) c.add_one.new.row c.add_one.ensures.length c.add_one.ensures.each;
      prefix = λ place y is. c.add_one.ensures.prefix place y (c.loop-id.invariant.prefix place y is);
    }

pub returns-clause-each : goal.returns-clause-each
returns-clause-each c = gained_all IsNumber c.args.row.now c.args.ids.now c.loop-id.id-index c.loop-id.row c.loop-id.invariant.gained c.loop-id-test.false
