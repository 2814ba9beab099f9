use Rattle.std.proofs.Common.{◌-◌, [], ◌∷◌, ◌++◌, List, length, map, sym, ap, subst, ◌∙◌}
use Rattle.std.specs.Prelude.{Ok, Err}
use Rattle.std.specs.List.{flat_map, range_with_len}
use Rattle.cb_topo.proofs.Positions.{live_below}
use Rattle.cb_validity.specs.Checks.{Asked, Check, Judges, root_check, entry_checks, closed_check, span_checks, places}
use Rattle.cb_validity.proofs.Stages.{passed_go_on, failed_stop}
use Rattle.cb_topo.specs.Numbered.{Numbered, topology_of, IsLiveNode}
use Rattle.cb_checker.specs.Spans.{asked, JudgesSpan, JudgesClosed}
use Rattle.cb_checker.proofs.Joined.{exit}
use Rattle.cb_checker.proofs.Placing.{live_placed}
use Rattle.cb_checker.proofs.Entering.{marked_more}
use Rattle.cb_checker.proofs.Closing.{forgot_marked}
use Rattle.cb_checker.proofs.span.check_span.Goals as goal

abbrev first : Asked → List Check
first a = root_check a ∷ []

abbrev later : Asked → List Check
later a = flat_map (entry_checks a) (range_with_len 1 (length a.span.entries - 1))

abbrev closing : Asked → List Check
closing a = map (closed_check a) (places a.span.entries)

pub returns-in_err-first-clause-judges : goal.returns-in_err-first-clause-judges
returns-in_err-first-clause-judges g c = λ whole name known named.
    let t = topology_of c.args.graph.now in
    let a = asked c.args.before name c.args.span.now in
    let reported = c.in_err-first.field-0.0 in
    let root = subst (λ (m : Numbered). JudgesSpan m c.args.ids.now c.args.root c.args.before c.args.span.now first (Err reported)) c.topology.ensures c.in_err-first.ensures.judges in
    exit (Judges t whole (span_checks a)) c.from_residual.result reported c.from_residual.ensures.1
    (failed_stop t whole (first a) (later a ++ closing a) reported (root whole name known named))

pub check_entries-requires-clause-marked : goal.check_entries-requires-clause-marked
check_entries-requires-clause-marked g c =
    let n = c.args.graph.now in
    let id = c.in_ok-first.first in
    let forgot = forgot_marked n c.args.marks.now c.forget.new.self c.requires.marked c.forget.ensures.placed c.forget.ensures.listed c.forget.ensures.found in
    let live = live_placed n c.args.ids.now c.requires.live c.args.span.now 0 id c.in_ok-first.ensures.first in
    marked_more n c.forget.new.self c.add.new.self id forgot (live_below n id live) c.in-Ok.ensures.placed c.in-Ok.ensures.listed
    (ap length c.in-Ok.ensures.found ∙ forgot.spare)

pub returns-in_err-check_entries-clause-judges : goal.returns-in_err-check_entries-clause-judges
returns-in_err-check_entries-clause-judges g c = λ whole name known named.
    let t = topology_of c.args.graph.now in
    let a = asked c.args.before name c.args.span.now in
    let reported = c.in_err-check_entries.field-0.0 in
    let root = subst (λ (m : Numbered). JudgesSpan m c.args.ids.now c.args.root c.args.before c.args.span.now first (Ok tt)) c.topology.ensures c.in_ok-first.ensures.judges in
    exit (Judges t whole (span_checks a)) c.from_residual-in_err-check_entries.result reported c.from_residual-in_err-check_entries.ensures.1
    (passed_go_on t whole (first a) (later a ++ closing a) (Err reported) (root whole name known named)
    (failed_stop t whole (later a) (closing a) reported (c.in_err-check_entries.ensures.judges whole name known)))

pub check_closed-requires-clause-live : goal.check_closed-requires-clause-live
check_closed-requires-clause-live g c = λ i id at.
    subst (λ (m : Numbered). IsLiveNode m id) (sym c.check_entries.ensures.same)
    (live_placed c.args.graph.now c.args.ids.now c.requires.live c.args.span.now i id (c.in_ok-check_entries.ensures.placed.each i id at))

pub returns-clause-judges : goal.returns-clause-judges
returns-clause-judges g c = λ whole name known named.
    let t = topology_of c.args.graph.now in
    let a = asked c.args.before name c.args.span.now in
    let root = subst (λ (m : Numbered). JudgesSpan m c.args.ids.now c.args.root c.args.before c.args.span.now first (Ok tt)) c.topology.ensures c.in_ok-first.ensures.judges in
    let closed = subst (λ (m : Numbered). JudgesClosed m c.check_entries.new.marks.placed.items c.args.before c.check_closed.result) c.check_entries.ensures.same c.check_closed.ensures.judges in
    passed_go_on t whole (first a) (later a ++ closing a) c.check_closed.result (root whole name known named)
    (passed_go_on t whole (later a) (closing a) c.check_closed.result (c.in_ok-check_entries.ensures.judges whole name known)
    (closed whole c.args.ids.now name c.args.span.now known c.in_ok-check_entries.ensures.placed))
