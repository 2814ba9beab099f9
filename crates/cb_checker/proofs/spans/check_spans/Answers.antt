use Rattle.std.proofs.Common.{◌≡◌, ◌≤◌, ◌+◌, [], ◌∷◌, length, min, refl, sym, subst, ◌∙◌, Some, arith}
use Rattle.std.specs.Prelude.{Ok, Err}
use Rattle.std.specs.List.{flat_map}
use Rattle.cb_coding.specs.Groups.{zeros}
use Rattle.cb_codes.specs.Grouped.{group, FitsTogether, groups_in}
use Rattle.cb_validity.specs.Checks.{Judges, asked_of, span_checks}
use Rattle.cb_topo.specs.Numbered.{Numbered, topology_of, IsLiveNode}
use Rattle.cb_checker.specs.Known.{verdict_of}
use Rattle.cb_checker.specs.Books.{IsReadOff, AddsCoded, AreGroupsReadTo}
use Rattle.cb_checker.specs.Listed.{AreMarked}
use Rattle.cb_checker.specs.Spans.{JudgesSpan}
use Rattle.cb_checker.proofs.Grouping.{none_held, one_more_held, all_held}
use Rattle.cb_checker.proofs.Joined.{exit}
use Rattle.cb_checker.proofs.Spanning.{entries_more, entries_within, spans_more, spans_fail, spans_pass}
use Rattle.cb_checker.proofs.spans.check_spans.Goals as goal

pub loop-place-init : goal.loop-place-init
loop-place-init g c = record {
  same = refl;
  marked = subst (λ (m : Numbered). AreMarked m c.in-Ok.marks) c.topology.ensures c.in-Ok.ensures;
  before = refl;
  held = (
      let made = c.in-Ok-of_quiet.grouping in
      let wide = c.len.ensures in
      none_held c.args.graph.now c.args.ids.now c.args.problems.now c.args.columns.now c.args.spans.now made
      (subst (λ w. FitsTogether w made) wide c.in-Ok-of_quiet.ensures.sound) (subst (λ w. groups_in made ≡ group (zeros w) [] ∷ []) wide c.in-Ok-of_quiet.ensures.quiet));
  passed = λ whole names known named place a low at. absurd (omega arith);
}

pub check_span-requires-clause-live : goal.check_span-requires-clause-live
check_span-requires-clause-live g c = λ i id at. subst (λ (m : Numbered). IsLiveNode m id) (sym c.loop-place.invariant.same) (c.requires.live i id at)

pub check_span-requires-clause-few : goal.check_span-requires-clause-few
check_span-requires-clause-few g c =
    let more = entries_more c.args.spans.now c.loop-place.place c.at-span.result.now c.at-span.ensures in
    let within = entries_within c.args.spans.now (c.loop-place.place + 1) in
    let before = c.loop-place.invariant.before in
    let few = c.requires.few in
    omega arith

pub overflow_cast-before : goal.overflow_cast-before
overflow_cast-before g c =
    let more = entries_more c.args.spans.now c.loop-place.place c.at-span.result.now c.at-span.ensures in
    let within = entries_within c.args.spans.now (c.loop-place.place + 1) in
    let before = c.loop-place.invariant.before in
    let few = c.requires.few in
    let size = c.len-in-loop-place.ensures in
    omega arith

pub overflow_add-before : goal.overflow_add-before
overflow_add-before g c =
    let more = entries_more c.args.spans.now c.loop-place.place c.at-span.result.now c.at-span.ensures in
    let within = entries_within c.args.spans.now (c.loop-place.place + 1) in
    let before = c.loop-place.invariant.before in
    let few = c.requires.few in
    let size = c.len-in-loop-place.ensures in
    omega arith

pub returns-in_err-check_span-clause-judges : goal.returns-in_err-check_span-clause-judges
returns-in_err-check_span-clause-judges g c = λ whole names known named.
    let n = c.args.graph.now in
    let ids = c.args.ids.now in
    let spans = c.args.spans.now in
    let root = c.at-root.result.now in
    let span = c.at-span.result.now in
    let reported = c.in_err-check_span.field-0.0 in
    let kept = c.loop-place.invariant in
    let judged = subst (λ (m : Numbered). JudgesSpan m ids (Some root) c.loop-place.before span span_checks (Err reported)) kept.same c.in_err-check_span.ensures.judges in
    exit (λ r. Judges (topology_of n) whole (flat_map span_checks (asked_of 0 names spans)) (verdict_of r)) c.from_residual.result reported c.from_residual.ensures.1
    (spans_fail n ids c.args.problems.now spans c.loop-place.place root span c.loop-place.before c.at-root.ensures c.at-span.ensures kept.before reported kept.passed judged whole names known named)

pub add_problem-requires-clause-node : goal.add_problem-requires-clause-node
add_problem-requires-clause-node g c =
    let root = c.at-root.result.now in
    let same = c.topology-in-loop-place.ensures ∙ (c.in_ok-check_span.ensures.same ∙ c.loop-place.invariant.same) in
    subst (λ (m : Numbered). IsLiveNode m root) (sym same) (c.requires.problems c.loop-place.place root c.at-root.ensures)

pub loop-place-preserved : goal.loop-place-preserved
loop-place-preserved g c =
    let n = c.args.graph.now in
    let ids = c.args.ids.now in
    let problems = c.args.problems.now in
    let columns = c.args.columns.now in
    let spans = c.args.spans.now in
    let place = c.loop-place.place in
    let root = c.at-root.result.now in
    let span = c.at-span.result.now in
    let kept = c.loop-place.invariant in
    let marks = c.check_span.new.marks in
    let added = c.in-Ok-add_problem.ensures in
    let more = entries_more spans place span c.at-span.ensures in
    let before = kept.before in
    let size = c.len-in-loop-place.ensures in
    let marked = subst (λ (m : Numbered). AreMarked m marks) kept.same c.in_ok-check_span.ensures.marked in
    let there = c.topology-in-loop-place.ensures ∙ (c.in_ok-check_span.ensures.same ∙ kept.same) in
    let adds = subst (λ (m : Numbered). AddsCoded m columns root marks.listed c.loop-place.grouping c.add_problem.new.grouping) there added in
    let read : IsReadOff n ids columns root span adds.problem = record {
      listed = marks.listed;
      lists = record { placed = marks.placed.items; are = c.in_ok-check_span.ensures.placed; each = marked.each };
      coded = adds.coded;
    } in
    let judged = subst (λ (m : Numbered). JudgesSpan m ids (Some root) c.loop-place.before span span_checks (Ok tt)) kept.same c.in_ok-check_span.ensures.judges in
    record {
      same = c.in_ok-check_span.ensures.same ∙ kept.same;
      marked = marked;
      before = omega arith;
      held = one_more_held n ids problems columns spans place c.loop-place.grouping c.add_problem.new.grouping root span marks.listed adds kept.held
          c.at-root.ensures c.at-span.ensures read;
      passed = spans_more n ids problems spans place root span c.loop-place.before c.at-root.ensures c.at-span.ensures kept.before kept.passed judged;
    }

pub returns-clause-judges : goal.returns-clause-judges
returns-clause-judges g c = λ whole names known named.
    let end : min (length c.args.problems.now) (length c.args.spans.now) ≤ c.loop-place.place =
    omega (arith, c.loop-place-test.false, c.min-place-end.ensures, c.len.ensures, c.len-2.ensures)
    in
    spans_pass c.args.graph.now c.args.ids.now c.args.problems.now c.args.spans.now c.loop-place.place c.loop-place.invariant.passed end whole names known named

pub returns-clause-groups : goal.returns-clause-groups
returns-clause-groups g c =
    let most = c.loop-place.auto.place-end in
    let end : c.loop-place.place ≡ min (length c.args.problems.now) (length c.args.spans.now) =
    omega (arith, c.loop-place-test.false, c.min-place-end.ensures, c.len.ensures, c.len-2.ensures)
    in
    let n = c.args.graph.now in
    let made = c.into_groups.result in
    subst (λ k. AreGroupsReadTo n c.args.ids.now c.args.problems.now c.args.columns.now c.args.spans.now k made) end
    (all_held n c.args.ids.now c.args.problems.now c.args.columns.now c.args.spans.now c.loop-place.place c.loop-place.grouping made c.loop-place.invariant.held
    c.into_groups.ensures.width c.into_groups.ensures.groups)
