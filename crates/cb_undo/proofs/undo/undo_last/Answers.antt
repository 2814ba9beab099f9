use Rattle.std.proofs.Common.{refl}
use Rattle.std.specs.VecDeque.{deque_len, deque_capacity}
use Rattle.cb_topo.specs.Numbered.{topology_of}
use Rattle.cb_undo.proofs.Keeping.{first_undoes, makes_first, last_keeps}
use Rattle.cb_undo.proofs.undo.undo_last.Goals as goal

pub make_inverse-requires : goal.make_inverse-requires
make_inverse-requires g c =
    let old = c.args.inverses.now in
    let f = first_undoes (topology_of (g.N.EditedTopology.numbered c.args.network.now)) c.requires.0 old.items (deque_len old) (deque_capacity old) c.in-Some.inverse.now c.requires.1
    (c.in-Some.ensures.variant.0 refl) c.in-Some.ensures.lookup in
    (f.before, f.inverts)

pub returns-clause-kept : goal.returns-clause-kept
returns-clause-kept g c = λ depth kept.
    let old = c.args.inverses.now in
    let new = c.drop_first.new.inverses in
    let t = topology_of (g.N.EditedTopology.numbered c.args.network.now) in
    let x = c.in-Some.inverse.now in
    let some = c.in-Some.ensures.variant.0 refl in
    let f = first_undoes t depth old.items (deque_len old) (deque_capacity old) x kept some c.in-Some.ensures.lookup in
    last_keeps t (topology_of (g.N.EditedTopology.numbered c.make_inverse.new.network)) depth old.items new.items (deque_len old) (deque_capacity old) (deque_len new) (deque_capacity new) x
    c.args.steps.now c.make_inverse.new.steps kept f c.drop_first.ensures.rest (c.drop_first.ensures.count some) c.drop_first.ensures.capacity c.in_ok-make_inverse.ensures.made

pub returns-clause-makes : goal.returns-clause-makes
returns-clause-makes g c =
    let old = c.args.inverses.now in
    let new = c.drop_first.new.inverses in
    let t = topology_of (g.N.EditedTopology.numbered c.args.network.now) in
    let x = c.in-Some.inverse.now in
    let f = first_undoes t c.requires.0 old.items (deque_len old) (deque_capacity old) x c.requires.1 (c.in-Some.ensures.variant.0 refl) c.in-Some.ensures.lookup in
    makes_first t (topology_of (g.N.EditedTopology.numbered c.make_inverse.new.network)) old.items new.items x c.args.steps.now c.make_inverse.new.steps f c.drop_first.ensures.rest c.in_ok-make_inverse.ensures.made
