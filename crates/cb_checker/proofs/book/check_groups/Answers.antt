use Rattle.std.proofs.Common.{◌≡◌, ℕ, List, [], length, min, sym, subst, ◌∙◌, arith}
use Rattle.std.specs.Prelude.{Ok, Err}
use Rattle.cb_topo.proofs.Positions.{live_below}
use Rattle.cb_validity.specs.Checks.{IsGoodNode}
use Rattle.cb_topo.specs.Numbered.{Numbered, topology_of, AreNamed}
use Rattle.cb_checker.specs.Firsts.{AreAll, JudgesNodes}
use Rattle.cb_checker.specs.Known.{AreLive, verdict_of}
use Rattle.cb_checker.specs.Columns.{IsColumnAt, JudgesColumns}
use Rattle.cb_checker.specs.Places.{AreThere}
use Rattle.cb_checker.specs.Claims.{book_of, JudgesClaim}
use Rattle.cb_checker.specs.Books.{AreGroupsReadTo, JudgesSpans, JudgesCount}
use Rattle.cb_checker.proofs.Claiming.{have_members}
use Rattle.cb_checker.proofs.Joined.{exit}
use Rattle.cb_checker.proofs.Reading.{are_problems, all_there}
use Rattle.cb_checker.proofs.Booking.{IsJudged, in_nodes, in_columns, in_spans, in_count, in_claim, claim_judged, claim_grouped, live_named, is_known, nodes_same, columns_same}
use Rattle.cb_checker.proofs.book.check_groups.Goals as goal

pub returns-in_err-ids-clause-judges : goal.returns-in_err-ids-clause-judges
returns-in_err-ids-clause-judges g c = λ radii names are named.
    let n = c.args.graph.now in
    let sides = c.args.sides.now in
    let wish = c.args.wish in
    let nodes = c.args.nodes.now in
    let numbers = c.args.numbers.now in
    let spans = c.args.spans.now in
    let reported = c.in_err-ids.field-0.0 in
    let failed = (subst (λ (m : Numbered). JudgesNodes (topology_of m) nodes (Err reported)) c.topology.ensures c.in_err-ids.ensures.judges) (book_of wish nodes numbers radii spans) (nodes_same wish nodes numbers radii spans) in
    exit (λ r. IsJudged (topology_of n) wish nodes numbers radii spans names (verdict_of r)) c.from_residual.result reported c.from_residual.ensures.1
    (in_nodes (topology_of n) wish nodes numbers radii spans names reported failed)

pub check_columns-requires-clause-live : goal.check_columns-requires-clause-live
check_columns-requires-clause-live g c =
    let n = c.args.graph.now in
    let sides = c.args.sides.now in
    let wish = c.args.wish in
    let nodes = c.args.nodes.now in
    let numbers = c.args.numbers.now in
    let spans = c.args.spans.now in
    let ids = c.in_ok-ids.ids.items in
    let named_ids = subst (λ (m : Numbered). AreNamed m ids nodes) c.topology.ensures c.in_ok-ids.ensures.named in
    let good_nodes = subst (λ (m : Numbered). AreAll (IsGoodNode (topology_of m) nodes) (length nodes)) c.topology.ensures c.in_ok-ids.ensures.good in
    let live = live_named n ids nodes named_ids in
    subst (λ (m : Numbered). AreLive m c.deref.result.now) (sym c.topology-2.ensures) (subst (AreLive n) (sym c.deref.ensures.value) live)

pub returns-in_err-check_columns-clause-judges : goal.returns-in_err-check_columns-clause-judges
returns-in_err-check_columns-clause-judges g c = λ radii names are named.
    let n = c.args.graph.now in
    let sides = c.args.sides.now in
    let wish = c.args.wish in
    let nodes = c.args.nodes.now in
    let numbers = c.args.numbers.now in
    let spans = c.args.spans.now in
    let ids = c.in_ok-ids.ids.items in
    let named_ids = subst (λ (m : Numbered). AreNamed m ids nodes) c.topology.ensures c.in_ok-ids.ensures.named in
    let good_nodes = subst (λ (m : Numbered). AreAll (IsGoodNode (topology_of m) nodes) (length nodes)) c.topology.ensures c.in_ok-ids.ensures.good in
    let live = live_named n ids nodes named_ids in
    let known = is_known n ids (book_of wish nodes numbers radii spans) nodes (nodes_same wish nodes numbers radii spans) c.requires.sides.whole named_ids good_nodes in
    let first = (subst (λ (m : Numbered). JudgesNodes (topology_of m) nodes (Ok tt)) c.topology.ensures c.in_ok-ids.ensures.judges) (book_of wish nodes numbers radii spans) (nodes_same wish nodes numbers radii spans) in
    let reported = c.in_err-check_columns.field-0.0 in
    let failed = (subst (λ xs. JudgesColumns n xs numbers (Err reported)) c.deref.ensures.value
    (subst (λ (m : Numbered). JudgesColumns m c.deref.result.now numbers (Err reported)) c.topology-2.ensures c.in_err-check_columns.ensures.judges)) (book_of wish nodes numbers radii spans) known (columns_same wish nodes numbers radii spans)
    in
    exit (λ r. IsJudged (topology_of n) wish nodes numbers radii spans names (verdict_of r)) c.from_residual-in_err-check_columns.result reported c.from_residual-in_err-check_columns.ensures.1
    (in_columns (topology_of n) wish nodes numbers radii spans names reported first failed)

pub check_spans-requires-clause-live : goal.check_spans-requires-clause-live
check_spans-requires-clause-live g c =
    let n = c.args.graph.now in
    let sides = c.args.sides.now in
    let wish = c.args.wish in
    let nodes = c.args.nodes.now in
    let numbers = c.args.numbers.now in
    let spans = c.args.spans.now in
    let ids = c.in_ok-ids.ids.items in
    let named_ids = subst (λ (m : Numbered). AreNamed m ids nodes) c.topology.ensures c.in_ok-ids.ensures.named in
    let good_nodes = subst (λ (m : Numbered). AreAll (IsGoodNode (topology_of m) nodes) (length nodes)) c.topology.ensures c.in_ok-ids.ensures.good in
    let live = live_named n ids nodes named_ids in
    subst (AreLive n) (sym c.deref-2.ensures.value) live

pub check_spans-requires-clause-problems : goal.check_spans-requires-clause-problems
check_spans-requires-clause-problems g c =
    live_named c.args.graph.now c.args.sides.now.problems c.requires.sides.problem_names c.requires.sides.problems_named

pub check_spans-requires-clause-columns : goal.check_spans-requires-clause-columns
check_spans-requires-clause-columns g c = λ i id at.
    live_below c.args.graph.now id (live_named c.args.graph.now c.args.sides.now.columns c.requires.sides.column_names c.requires.sides.columns_named i id at)

pub returns-in_err-groups-clause-judges : goal.returns-in_err-groups-clause-judges
returns-in_err-groups-clause-judges g c = λ radii names are named.
    let n = c.args.graph.now in
    let sides = c.args.sides.now in
    let wish = c.args.wish in
    let nodes = c.args.nodes.now in
    let numbers = c.args.numbers.now in
    let spans = c.args.spans.now in
    let ids = c.in_ok-ids.ids.items in
    let named_ids = subst (λ (m : Numbered). AreNamed m ids nodes) c.topology.ensures c.in_ok-ids.ensures.named in
    let good_nodes = subst (λ (m : Numbered). AreAll (IsGoodNode (topology_of m) nodes) (length nodes)) c.topology.ensures c.in_ok-ids.ensures.good in
    let live = live_named n ids nodes named_ids in
    let known = is_known n ids (book_of wish nodes numbers radii spans) nodes (nodes_same wish nodes numbers radii spans) c.requires.sides.whole named_ids good_nodes in
    let first = (subst (λ (m : Numbered). JudgesNodes (topology_of m) nodes (Ok tt)) c.topology.ensures c.in_ok-ids.ensures.judges) (book_of wish nodes numbers radii spans) (nodes_same wish nodes numbers radii spans) in
    let second = (subst (λ xs. JudgesColumns n xs numbers (Ok tt)) c.deref.ensures.value
    (subst (λ (m : Numbered). JudgesColumns m c.deref.result.now numbers (Ok tt)) c.topology-2.ensures c.in_ok-check_columns.ensures.judges)) (book_of wish nodes numbers radii spans) known (columns_same wish nodes numbers radii spans)
    in
    let reported = c.in_err-groups.field-0.0 in
    let failed = (subst (λ xs. JudgesSpans n xs sides.problems spans (Err reported)) c.deref-2.ensures.value c.in_err-groups.ensures.judges) (book_of wish nodes numbers radii spans) names known named in
    exit (λ r. IsJudged (topology_of n) wish nodes numbers radii spans names (verdict_of r)) c.from_residual-in_err-groups.result reported c.from_residual-in_err-groups.ensures.1
    (in_spans (topology_of n) wish nodes numbers radii spans names reported first second failed)

pub check_count-requires-clause-live : goal.check_count-requires-clause-live
check_count-requires-clause-live g c =
    let n = c.args.graph.now in
    let sides = c.args.sides.now in
    let wish = c.args.wish in
    let nodes = c.args.nodes.now in
    let numbers = c.args.numbers.now in
    let spans = c.args.spans.now in
    let there = c.topology-3.ensures ∙ c.in_ok-groups.ensures.same in
    subst (λ (m : Numbered). AreLive m sides.problems) (sym there) (live_named n sides.problems c.requires.sides.problem_names c.requires.sides.problems_named)

pub returns-in_err-check_count-clause-judges : goal.returns-in_err-check_count-clause-judges
returns-in_err-check_count-clause-judges g c = λ radii names are named.
    let n = c.args.graph.now in
    let sides = c.args.sides.now in
    let wish = c.args.wish in
    let nodes = c.args.nodes.now in
    let numbers = c.args.numbers.now in
    let spans = c.args.spans.now in
    let ids = c.in_ok-ids.ids.items in
    let named_ids = subst (λ (m : Numbered). AreNamed m ids nodes) c.topology.ensures c.in_ok-ids.ensures.named in
    let good_nodes = subst (λ (m : Numbered). AreAll (IsGoodNode (topology_of m) nodes) (length nodes)) c.topology.ensures c.in_ok-ids.ensures.good in
    let live = live_named n ids nodes named_ids in
    let known = is_known n ids (book_of wish nodes numbers radii spans) nodes (nodes_same wish nodes numbers radii spans) c.requires.sides.whole named_ids good_nodes in
    let first = (subst (λ (m : Numbered). JudgesNodes (topology_of m) nodes (Ok tt)) c.topology.ensures c.in_ok-ids.ensures.judges) (book_of wish nodes numbers radii spans) (nodes_same wish nodes numbers radii spans) in
    let second = (subst (λ xs. JudgesColumns n xs numbers (Ok tt)) c.deref.ensures.value
    (subst (λ (m : Numbered). JudgesColumns m c.deref.result.now numbers (Ok tt)) c.topology-2.ensures c.in_ok-check_columns.ensures.judges)) (book_of wish nodes numbers radii spans) known (columns_same wish nodes numbers radii spans)
    in
    let third = (subst (λ xs. JudgesSpans n xs sides.problems spans (Ok tt)) c.deref-2.ensures.value c.in_ok-groups.ensures.judges) (book_of wish nodes numbers radii spans) names known named in
    let there = c.topology-3.ensures ∙ c.in_ok-groups.ensures.same in
    let reported = c.in_err-check_count.field-0.0 in
    let failed = (subst (λ (m : Numbered). JudgesCount m sides.problems spans (Err reported)) there c.in_err-check_count.ensures.judges) (book_of wish nodes numbers radii spans) names named in
    exit (λ r. IsJudged (topology_of n) wish nodes numbers radii spans names (verdict_of r)) c.from_residual-in_err-check_count.result reported c.from_residual-in_err-check_count.ensures.1
    (in_count (topology_of n) wish nodes numbers radii spans names reported first second third failed)

pub judge_groups-requires-clause-there : goal.judge_groups-requires-clause-there
judge_groups-requires-clause-there g c =
    let n = c.args.graph.now in
    let sides = c.args.sides.now in
    let wish = c.args.wish in
    let nodes = c.args.nodes.now in
    let numbers = c.args.numbers.now in
    let spans = c.args.spans.now in
    let ids = c.in_ok-ids.ids.items in
    let named_ids = subst (λ (m : Numbered). AreNamed m ids nodes) c.topology.ensures c.in_ok-ids.ensures.named in
    let good_nodes = subst (λ (m : Numbered). AreAll (IsGoodNode (topology_of m) nodes) (length nodes)) c.topology.ensures c.in_ok-ids.ensures.good in
    let live = live_named n ids nodes named_ids in
    let good_columns = subst (λ xs. AreAll (IsColumnAt n xs numbers) (length numbers)) c.deref.ensures.value
    (subst (λ (m : Numbered). AreAll (IsColumnAt m c.deref.result.now numbers) (length numbers)) c.topology-2.ensures c.in_ok-check_columns.ensures.good)
    in
    subst (λ xs. AreThere sides.columns xs numbers) (sym c.deref-3.ensures.value)
    (all_there n c.requires.sides.whole ids live sides.columns c.requires.sides.column_names c.requires.sides.columns_are c.requires.sides.columns_named numbers good_columns)

pub judge_groups-requires-clause-few : goal.judge_groups-requires-clause-few
judge_groups-requires-clause-few g c =
    let n = c.args.graph.now in
    let sides = c.args.sides.now in
    let wish = c.args.wish in
    let nodes = c.args.nodes.now in
    let numbers = c.args.numbers.now in
    let spans = c.args.spans.now in
    let radii : List ℕ = [] in
    let ids = c.in_ok-ids.ids.items in
    let named_ids = subst (λ (m : Numbered). AreNamed m ids nodes) c.topology.ensures c.in_ok-ids.ensures.named in
    let good_nodes = subst (λ (m : Numbered). AreAll (IsGoodNode (topology_of m) nodes) (length nodes)) c.topology.ensures c.in_ok-ids.ensures.good in
    let known = is_known n ids (book_of wish nodes numbers radii spans) nodes (nodes_same wish nodes numbers radii spans) c.requires.sides.whole named_ids good_nodes in
    let groups = c.in_ok-groups.groups in
    let same = c.in_ok-check_count.ensures.same in
    let all : min (length sides.problems) (length spans) ≡ length sides.problems = omega arith in
    let made = subst (λ k. AreGroupsReadTo n ids sides.problems sides.columns spans k groups) all
    (subst (λ xs. AreGroupsReadTo n xs sides.problems sides.columns spans (min (length sides.problems) (length spans)) groups) c.deref-2.ensures.value c.in_ok-groups.ensures.groups)
    in
    let are = are_problems n ids (book_of wish nodes numbers radii spans) known sides.columns c.requires.sides.column_names c.requires.sides.columns_are c.requires.sides.columns_named
    sides.problems c.requires.sides.problem_names c.requires.sides.problems_are c.requires.sides.problems_named spans made.coded made.read
    in
    let few = made.few are in
    let most = c.requires.few in
    omega arith

pub judge_groups-requires-clause-members : goal.judge_groups-requires-clause-members
judge_groups-requires-clause-members g c =
    let n = c.args.graph.now in
    let sides = c.args.sides.now in
    let wish = c.args.wish in
    let nodes = c.args.nodes.now in
    let numbers = c.args.numbers.now in
    let spans = c.args.spans.now in
    let radii : List ℕ = [] in
    let ids = c.in_ok-ids.ids.items in
    let named_ids = subst (λ (m : Numbered). AreNamed m ids nodes) c.topology.ensures c.in_ok-ids.ensures.named in
    let good_nodes = subst (λ (m : Numbered). AreAll (IsGoodNode (topology_of m) nodes) (length nodes)) c.topology.ensures c.in_ok-ids.ensures.good in
    let known = is_known n ids (book_of wish nodes numbers radii spans) nodes (nodes_same wish nodes numbers radii spans) c.requires.sides.whole named_ids good_nodes in
    let groups = c.in_ok-groups.groups in
    let same = c.in_ok-check_count.ensures.same in
    let all : min (length sides.problems) (length spans) ≡ length sides.problems = omega arith in
    let made = subst (λ k. AreGroupsReadTo n ids sides.problems sides.columns spans k groups) all
    (subst (λ xs. AreGroupsReadTo n xs sides.problems sides.columns spans (min (length sides.problems) (length spans)) groups) c.deref-2.ensures.value c.in_ok-groups.ensures.groups)
    in
    let are = are_problems n ids (book_of wish nodes numbers radii spans) known sides.columns c.requires.sides.column_names c.requires.sides.columns_are c.requires.sides.columns_named
    sides.problems c.requires.sides.problem_names c.requires.sides.problems_are c.requires.sides.problems_named spans made.coded made.read
    in
    have_members (length sides.columns) made.coded groups.groups (made.are are)

pub returns-in_err-judged-clause-judges : goal.returns-in_err-judged-clause-judges
returns-in_err-judged-clause-judges g c = λ radii names are_names named.
    let n = c.args.graph.now in
    let sides = c.args.sides.now in
    let wish = c.args.wish in
    let nodes = c.args.nodes.now in
    let numbers = c.args.numbers.now in
    let spans = c.args.spans.now in
    let ids = c.in_ok-ids.ids.items in
    let named_ids = subst (λ (m : Numbered). AreNamed m ids nodes) c.topology.ensures c.in_ok-ids.ensures.named in
    let good_nodes = subst (λ (m : Numbered). AreAll (IsGoodNode (topology_of m) nodes) (length nodes)) c.topology.ensures c.in_ok-ids.ensures.good in
    let known = is_known n ids (book_of wish nodes numbers radii spans) nodes (nodes_same wish nodes numbers radii spans) c.requires.sides.whole named_ids good_nodes in
    let groups = c.in_ok-groups.groups in
    let same = c.in_ok-check_count.ensures.same in
    let all : min (length sides.problems) (length spans) ≡ length sides.problems = omega arith in
    let made = subst (λ k. AreGroupsReadTo n ids sides.problems sides.columns spans k groups) all
    (subst (λ xs. AreGroupsReadTo n xs sides.problems sides.columns spans (min (length sides.problems) (length spans)) groups) c.deref-2.ensures.value c.in_ok-groups.ensures.groups)
    in
    let are = are_problems n ids (book_of wish nodes numbers radii spans) known sides.columns c.requires.sides.column_names c.requires.sides.columns_are c.requires.sides.columns_named
    sides.problems c.requires.sides.problem_names c.requires.sides.problems_are c.requires.sides.problems_named spans made.coded made.read
    in
    let first = (subst (λ (m : Numbered). JudgesNodes (topology_of m) nodes (Ok tt)) c.topology.ensures c.in_ok-ids.ensures.judges) (book_of wish nodes numbers radii spans) (nodes_same wish nodes numbers radii spans) in
    let second = (subst (λ xs. JudgesColumns n xs numbers (Ok tt)) c.deref.ensures.value
    (subst (λ (m : Numbered). JudgesColumns m c.deref.result.now numbers (Ok tt)) c.topology-2.ensures c.in_ok-check_columns.ensures.judges)) (book_of wish nodes numbers radii spans) known (columns_same wish nodes numbers radii spans)
    in
    let third = (subst (λ xs. JudgesSpans n xs sides.problems spans (Ok tt)) c.deref-2.ensures.value c.in_ok-groups.ensures.judges) (book_of wish nodes numbers radii spans) names known named in
    let there = c.topology-3.ensures ∙ c.in_ok-groups.ensures.same in
    let fourth = (subst (λ (m : Numbered). JudgesCount m sides.problems spans (Ok tt)) there c.in_ok-check_count.ensures.judges) (book_of wish nodes numbers radii spans) names named in
    let reported = c.in_err-judged.field-0.0 in
    let judged = subst (JudgesClaim sides.columns ids numbers groups wish) c.in_err-judged.was
    (subst (λ xs. JudgesClaim sides.columns xs numbers groups wish c.in-Ok.judged) c.deref-3.ensures.value c.in-Ok.ensures)
    in
    let failed = claim_judged n ids wish nodes numbers radii spans known sides c.requires.sides made.coded made.read same groups made.wide (made.are are) (Err reported) judged in
    exit (λ r. IsJudged (topology_of n) wish nodes numbers radii spans names (verdict_of r)) c.from_residual-in_err-judged.result reported c.from_residual-in_err-judged.ensures.1
    (in_claim (topology_of n) wish nodes numbers radii spans names (Err reported) first second third fourth failed)

pub returns-clause-judges : goal.returns-clause-judges
returns-clause-judges g c = λ radii names are_names named.
    let n = c.args.graph.now in
    let sides = c.args.sides.now in
    let wish = c.args.wish in
    let nodes = c.args.nodes.now in
    let numbers = c.args.numbers.now in
    let spans = c.args.spans.now in
    let ids = c.in_ok-ids.ids.items in
    let named_ids = subst (λ (m : Numbered). AreNamed m ids nodes) c.topology.ensures c.in_ok-ids.ensures.named in
    let good_nodes = subst (λ (m : Numbered). AreAll (IsGoodNode (topology_of m) nodes) (length nodes)) c.topology.ensures c.in_ok-ids.ensures.good in
    let known = is_known n ids (book_of wish nodes numbers radii spans) nodes (nodes_same wish nodes numbers radii spans) c.requires.sides.whole named_ids good_nodes in
    let groups = c.in_ok-groups.groups in
    let same = c.in_ok-check_count.ensures.same in
    let all : min (length sides.problems) (length spans) ≡ length sides.problems = omega arith in
    let made = subst (λ k. AreGroupsReadTo n ids sides.problems sides.columns spans k groups) all
    (subst (λ xs. AreGroupsReadTo n xs sides.problems sides.columns spans (min (length sides.problems) (length spans)) groups) c.deref-2.ensures.value c.in_ok-groups.ensures.groups)
    in
    let are = are_problems n ids (book_of wish nodes numbers radii spans) known sides.columns c.requires.sides.column_names c.requires.sides.columns_are c.requires.sides.columns_named
    sides.problems c.requires.sides.problem_names c.requires.sides.problems_are c.requires.sides.problems_named spans made.coded made.read
    in
    let first = (subst (λ (m : Numbered). JudgesNodes (topology_of m) nodes (Ok tt)) c.topology.ensures c.in_ok-ids.ensures.judges) (book_of wish nodes numbers radii spans) (nodes_same wish nodes numbers radii spans) in
    let second = (subst (λ xs. JudgesColumns n xs numbers (Ok tt)) c.deref.ensures.value
    (subst (λ (m : Numbered). JudgesColumns m c.deref.result.now numbers (Ok tt)) c.topology-2.ensures c.in_ok-check_columns.ensures.judges)) (book_of wish nodes numbers radii spans) known (columns_same wish nodes numbers radii spans)
    in
    let third = (subst (λ xs. JudgesSpans n xs sides.problems spans (Ok tt)) c.deref-2.ensures.value c.in_ok-groups.ensures.judges) (book_of wish nodes numbers radii spans) names known named in
    let there = c.topology-3.ensures ∙ c.in_ok-groups.ensures.same in
    let fourth = (subst (λ (m : Numbered). JudgesCount m sides.problems spans (Ok tt)) there c.in_ok-check_count.ensures.judges) (book_of wish nodes numbers radii spans) names named in
    let judged = subst (JudgesClaim sides.columns ids numbers groups wish) c.in_ok-judged.was
    (subst (λ xs. JudgesClaim sides.columns xs numbers groups wish c.in-Ok.judged) c.deref-3.ensures.value c.in-Ok.ensures)
    in
    in_claim (topology_of n) wish nodes numbers radii spans names (Ok tt) first second third fourth
    (claim_judged n ids wish nodes numbers radii spans known sides c.requires.sides made.coded made.read same groups made.wide (made.are are) (Ok c.in_ok-judged.field-0) judged)

pub returns-clause-grouped : goal.returns-clause-grouped
returns-clause-grouped g c =
    let n = c.args.graph.now in
    let sides = c.args.sides.now in
    let wish = c.args.wish in
    let nodes = c.args.nodes.now in
    let numbers = c.args.numbers.now in
    let spans = c.args.spans.now in
    let radii : List ℕ = [] in
    let ids = c.in_ok-ids.ids.items in
    let named_ids = subst (λ (m : Numbered). AreNamed m ids nodes) c.topology.ensures c.in_ok-ids.ensures.named in
    let good_nodes = subst (λ (m : Numbered). AreAll (IsGoodNode (topology_of m) nodes) (length nodes)) c.topology.ensures c.in_ok-ids.ensures.good in
    let known = is_known n ids (book_of wish nodes numbers radii spans) nodes (nodes_same wish nodes numbers radii spans) c.requires.sides.whole named_ids good_nodes in
    let groups = c.in_ok-groups.groups in
    let same = c.in_ok-check_count.ensures.same in
    let all : min (length sides.problems) (length spans) ≡ length sides.problems = omega arith in
    let made = subst (λ k. AreGroupsReadTo n ids sides.problems sides.columns spans k groups) all
    (subst (λ xs. AreGroupsReadTo n xs sides.problems sides.columns spans (min (length sides.problems) (length spans)) groups) c.deref-2.ensures.value c.in_ok-groups.ensures.groups)
    in
    let are = are_problems n ids (book_of wish nodes numbers radii spans) known sides.columns c.requires.sides.column_names c.requires.sides.columns_are c.requires.sides.columns_named
    sides.problems c.requires.sides.problem_names c.requires.sides.problems_are c.requires.sides.problems_named spans made.coded made.read
    in
    let few = made.few are in
    let most = c.requires.few in
    claim_grouped n ids wish nodes numbers radii spans known sides c.requires.sides made.coded made.read same groups made.wide (made.are are) (omega arith)
