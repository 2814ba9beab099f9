use Rattle.std.proofs.Common.{◌<◌, ◌≤◌, ◌-◌, inl, inr, get_or, length, arith}
use Rattle.std.proofs.lemmas.Option.{slice_get-get_or}
use Rattle.cb_nodes.specs.declared.id.NodeId.{NodeId}
use Rattle.cb_checker.proofs.Entering.{bad_parent, no_node}
use Rattle.cb_checker.proofs.entries.reason_at.Goals as goal
use Rattle.cb_checker.proofs.entries.reason_at.Goals.{then-parent-eq0-via-then-parent-eq0, then-parent-eq0-via-else-parent-eq0+then-place-parent}

pub returns-then-parent-eq0-clause-judges : goal.returns-then-parent-eq0-clause-judges
returns-then-parent-eq0-clause-judges c = λ n whole root known.
    bad_parent n c.args.ids.now whole known c.args.before root c.args.span.now c.args.place c.at-entry.result.now c.at-entry.ensures
    (elim c.then-parent-eq0.branch [
      | then-parent-eq0-via-then-parent-eq0 w ↦ inl (omega (arith, w.if-parent-eq0))
      | then-parent-eq0-via-else-parent-eq0+then-place-parent w ↦ inr (omega (arith, w.if-place-parent))
    ])

pub returns-in_default-clause-judges : goal.returns-in_default-clause-judges
returns-in_default-clause-judges c = λ n whole root known.
    no_node n c.args.ids.now whole known c.args.before root c.args.span.now c.args.place c.at-entry.result.now c.at-entry.ensures
    (omega (arith, c.if-parent-eq0.false)) (omega (arith, c.if-place-parent.false)) c.in_default.ensures.none

pub returns-clause-stated : goal.returns-clause-stated
returns-clause-stated c =
    let entry = c.at-entry.result.now in
    let some : 0 < entry.parent = omega (arith, c.if-parent-eq0.false) in
    let earlier : entry.parent ≤ c.args.place = omega (arith, c.if-place-parent.false) in
    let placed = c.args.placed.now in
    let none : NodeId = record { 0 = 0 } in
    let size = c.requires.placed.count in
    let low : entry.parent - 1 < length placed = omega arith in
    record {
      entry = entry;
      is = c.at-entry.ensures;
      earlier = (some, earlier);
      from = c.requires.placed.each (entry.parent - 1) (get_or placed (entry.parent - 1) none) (slice_get-get_or placed (entry.parent - 1) none low);
      to = c.in-Some.ensures.found;
    }
