use Rattle.std.proofs.Common.{◌≡◌, ◌+◌, ◌-◌, length, get_or, slice_set, arith, refl}
use Rattle.std.proofs.lemmas.Option.{slice_get-get_or}
use Rattle.cb_breadth.specs.Trees.{visit}
use Rattle.cb_chains.proofs.Writing.{some_start, one_written, all_written}
use Rattle.cb_chains.proofs.tree.write_back.Goals as goal

pub overflow_sub-start : goal.overflow_sub-start
overflow_sub-start c =
    let visits = c.args.visits.now in
    let i = c.loop-position.position - 1 in
    let within = c.loop-position.invariant.within in
    let one : i + 1 ≡ c.loop-position.position = omega arith in
    let some = some_start visits c.requires.parents c.args.end (length c.args.path.now.items) c.loop-position.position c.loop-position.start c.loop-position.path.items
    c.loop-position.invariant c.requires.fits i one (get_or visits i (visit 0 0)) (slice_get-get_or visits i (visit 0 0) (omega arith))
    in
    omega arith

pub index_mut-requires : goal.index_mut-requires
index_mut-requires c =
    let visits = c.args.visits.now in
    let i = c.loop-position.position - 1 in
    let within = c.loop-position.invariant.within in
    let one : i + 1 ≡ c.loop-position.position = omega arith in
    let some = some_start visits c.requires.parents c.args.end (length c.args.path.now.items) c.loop-position.position c.loop-position.start c.loop-position.path.items
    c.loop-position.invariant c.requires.fits i one (get_or visits i (visit 0 0)) (slice_get-get_or visits i (visit 0 0) (omega arith))
    in
    let low = c.loop-position.invariant.low in
    let size = c.loop-position.path.ok.0 in
    omega arith

pub loop-position-smaller : goal.loop-position-smaller
loop-position-smaller c =
    let visits = c.args.visits.now in
    let i = c.loop-position.position - 1 in
    let within = c.loop-position.invariant.within in
    let early = c.requires.parents i (get_or visits i (visit 0 0)) (slice_get-get_or visits i (visit 0 0) (omega arith)) in
    omega arith

pub loop-position-preserved : goal.loop-position-preserved
loop-position-preserved c =
    let visits = c.args.visits.now in
    let i = c.loop-position.position - 1 in
    let within = c.loop-position.invariant.within in
    let one : i + 1 ≡ c.loop-position.position = omega arith in
    let v = get_or visits i (visit 0 0) in
    let at = slice_get-get_or visits i (visit 0 0) (omega arith) in
    let some = some_start visits c.requires.parents c.args.end (length c.args.path.now.items) c.loop-position.position c.loop-position.start c.loop-position.path.items
    c.loop-position.invariant c.requires.fits i one v at
    in
    one_written visits c.requires.parents c.args.end (length c.args.path.now.items) c.loop-position.position c.loop-position.start c.loop-position.path.items
    c.loop-position.invariant c.requires.fits i one v at (c.loop-position.start - 1)
    (slice_set c.loop-position.path.items (c.loop-position.start - 1) v.node) (omega arith) refl

pub returns-clause-chain : goal.returns-clause-chain
returns-clause-chain c =
    all_written c.args.visits.now c.args.end (length c.args.path.now.items) c.loop-position.position c.loop-position.start c.loop-position.path.items
    c.loop-position.invariant (omega arith)
