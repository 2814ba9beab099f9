use Rattle.std.proofs.Common.{◌++◌, [], ◌∷◌, length, map, refl, sym, subst, ◌∙◌, arith}
use Rattle.std.specs.Prelude.{Ok, Err}
use Rattle.std.specs.List.{flat_map}
use Rattle.cb_cert.specs.declared.certificate.Certificate.TheVariants.{Thin}
use Rattle.cb_topo.proofs.Positions.{live_below}
use Rattle.cb_validity.specs.Checks.{IsGoodNode, Judges, thin_checks, node_check, places, asked_sides, span_checks, claim_check}
use Rattle.cb_validity.specs.declared.verdict.Rejected.TheVariants.{NotThin}
use Rattle.cb_validity.specs.Reading.{AreSidesApart}
use Rattle.cb_validity.proofs.Stages.{passed_go_on, failed_stop}
use Rattle.cb_topo.specs.Numbered.{Numbered, topology_of, AreNamed}
use Rattle.cb_checker.specs.Firsts.{AreAll, JudgesNodes}
use Rattle.cb_checker.specs.Known.{AreLive, verdict_of}
use Rattle.cb_checker.specs.Pairs.{JudgesSides, IsSideRead, IsRead}
use Rattle.cb_checker.proofs.Joined.{exit}
use Rattle.cb_checker.proofs.Booking.{live_named, is_known}
use Rattle.cb_checker.proofs.Thinning.{begun_sides, thin_holds, thin_fails, at_read, side_width, far_small, shows_thin}
use Rattle.cb_checker.proofs.thin.check_thin.Goals as goal

pub returns-in_err-ids-clause-judges : goal.returns-in_err-ids-clause-judges
returns-in_err-ids-clause-judges g c =
    let n = c.args.graph.now in
    let sides = c.args.sides.now in
    let nodes = c.args.nodes.now in
    let first = c.args.first.now in
    let second = c.args.second.now in
    let claim = c.args.claim in
    let thin = Thin claim.wanted claim.distance nodes first second in
    let of_nodes = map node_check (places nodes) in
    let of_sides = flat_map span_checks (asked_sides first second) in
    let reported = c.in_err-ids.field-0.0 in
    let failed = (subst (λ (m : Numbered). JudgesNodes (topology_of m) nodes (Err reported)) c.topology.ensures c.in_err-ids.ensures.judges) thin refl in
    exit (λ r. Judges (topology_of n) thin (thin_checks nodes first second) (verdict_of r)) c.from_residual.result reported c.from_residual.ensures.1
    (failed_stop (topology_of n) thin of_nodes (of_sides ++ claim_check ∷ []) reported failed)

pub read_sides-requires-clause-live : goal.read_sides-requires-clause-live
read_sides-requires-clause-live g c =
    let n = c.args.graph.now in
    let sides = c.args.sides.now in
    let nodes = c.args.nodes.now in
    let first = c.args.first.now in
    let second = c.args.second.now in
    let claim = c.args.claim in
    let thin = Thin claim.wanted claim.distance nodes first second in
    let of_nodes = map node_check (places nodes) in
    let of_sides = flat_map span_checks (asked_sides first second) in
    let ids = c.in_ok-ids.ids.items in
    let named_ids = subst (λ (m : Numbered). AreNamed m ids nodes) c.topology.ensures c.in_ok-ids.ensures.named in
    let good_nodes = subst (λ (m : Numbered). AreAll (IsGoodNode (topology_of m) nodes) (length nodes)) c.topology.ensures c.in_ok-ids.ensures.good in
    subst (AreLive n) (sym c.deref.ensures.value) (live_named n ids nodes named_ids)

pub read_sides-requires-clause-columns : goal.read_sides-requires-clause-columns
read_sides-requires-clause-columns g c = λ i id at.
    live_below c.args.graph.now id (live_named c.args.graph.now c.args.sides.now.columns c.requires.sides.column_names c.requires.sides.columns_named i id at)

pub returns-in_err-codes-clause-judges : goal.returns-in_err-codes-clause-judges
returns-in_err-codes-clause-judges g c =
    let n = c.args.graph.now in
    let sides = c.args.sides.now in
    let nodes = c.args.nodes.now in
    let first = c.args.first.now in
    let second = c.args.second.now in
    let claim = c.args.claim in
    let thin = Thin claim.wanted claim.distance nodes first second in
    let of_nodes = map node_check (places nodes) in
    let of_sides = flat_map span_checks (asked_sides first second) in
    let ids = c.in_ok-ids.ids.items in
    let named_ids = subst (λ (m : Numbered). AreNamed m ids nodes) c.topology.ensures c.in_ok-ids.ensures.named in
    let good_nodes = subst (λ (m : Numbered). AreAll (IsGoodNode (topology_of m) nodes) (length nodes)) c.topology.ensures c.in_ok-ids.ensures.good in
    let known = is_known n ids thin nodes refl c.requires.sides.whole named_ids good_nodes in
    let one = (subst (λ (m : Numbered). JudgesNodes (topology_of m) nodes (Ok tt)) c.topology.ensures c.in_ok-ids.ensures.judges) thin refl in
    let reported = c.in_err-codes.field-0.0 in
    let failed = (subst (λ xs. JudgesSides n xs first second (Err reported)) c.deref.ensures.value c.in_err-codes.ensures.judges) thin known in
    exit (λ r. Judges (topology_of n) thin (thin_checks nodes first second) (verdict_of r)) c.from_residual-in_err-codes.result reported c.from_residual-in_err-codes.ensures.1
    (passed_go_on (topology_of n) thin of_nodes (of_sides ++ claim_check ∷ []) (Err reported) one (failed_stop (topology_of n) thin of_sides (claim_check ∷ []) reported failed))

pub distance-far-requires : goal.distance-far-requires
distance-far-requires g c =
    let n = c.args.graph.now in
    let sides = c.args.sides.now in
    let nodes = c.args.nodes.now in
    let first = c.args.first.now in
    let second = c.args.second.now in
    let claim = c.args.claim in
    let thin = Thin claim.wanted claim.distance nodes first second in
    let of_nodes = map node_check (places nodes) in
    let of_sides = flat_map span_checks (asked_sides first second) in
    side_width c.deref.result.now sides.columns first c.in_ok-codes.codes.first c.in_ok-codes.ensures.first ∙ sym (c.in_ok-codes.ensures.second.coded.width)

pub overflow_cast-far : goal.overflow_cast-far
overflow_cast-far g c =
    let v = c.in_ok-codes.codes.first in
    let small = far_small v c.in_ok-codes.codes.second in
    let width = side_width c.deref.result.now c.args.sides.now.columns c.args.first.now v c.in_ok-codes.ensures.first in
    let few = c.requires.sides.few in
    let is = c.distance-far.ensures in
    omega arith

pub returns-then-not-holds-clause-judges : goal.returns-then-not-holds-clause-judges
returns-then-not-holds-clause-judges g c =
    let n = c.args.graph.now in
    let sides = c.args.sides.now in
    let nodes = c.args.nodes.now in
    let first = c.args.first.now in
    let second = c.args.second.now in
    let claim = c.args.claim in
    let thin = Thin claim.wanted claim.distance nodes first second in
    let of_nodes = map node_check (places nodes) in
    let of_sides = flat_map span_checks (asked_sides first second) in
    let ids = c.in_ok-ids.ids.items in
    let named_ids = subst (λ (m : Numbered). AreNamed m ids nodes) c.topology.ensures c.in_ok-ids.ensures.named in
    let good_nodes = subst (λ (m : Numbered). AreAll (IsGoodNode (topology_of m) nodes) (length nodes)) c.topology.ensures c.in_ok-ids.ensures.good in
    let known = is_known n ids thin nodes refl c.requires.sides.whole named_ids good_nodes in
    let one = (subst (λ (m : Numbered). JudgesNodes (topology_of m) nodes (Ok tt)) c.topology.ensures c.in_ok-ids.ensures.judges) thin refl in
    let two = (subst (λ xs. JudgesSides n xs first second (Ok tt)) c.deref.ensures.value c.in_ok-codes.ensures.judges) thin known in
    let read_first = subst (λ xs. IsSideRead xs sides.columns first c.in_ok-codes.codes.first) c.deref.ensures.value c.in_ok-codes.ensures.first in
    let read_second = subst (λ xs. IsRead xs sides.columns second c.in_ok-codes.codes.second) c.deref.ensures.value c.in_ok-codes.ensures.second in
    let at : AreSidesApart (topology_of n) nodes first second c.distance-far.result =
    at_read n ids thin known sides.columns c.requires.sides.column_names c.requires.sides.columns_are c.requires.sides.columns_named first second
    c.in_ok-codes.codes.first c.in_ok-codes.codes.second read_first read_second c.distance-far.result c.distance-far.ensures
    in
    let failed = thin_fails (topology_of n) claim.wanted claim.distance nodes first second c.distance-far.result at
    (λ same some less. let yes = c.holds.ensures.1 (same, some, less) in let no = c.if-not-holds.true in absurd (cc))
    in
    passed_go_on (topology_of n) thin of_nodes (of_sides ++ claim_check ∷ []) (Err (NotThin c.distance-far.result)) one
    (passed_go_on (topology_of n) thin of_sides (claim_check ∷ []) (Err (NotThin c.distance-far.result)) two failed)

pub shown-requires-clause-first : goal.shown-requires-clause-first
shown-requires-clause-first g c =
    let n = c.args.graph.now in
    let sides = c.args.sides.now in
    let nodes = c.args.nodes.now in
    let first = c.args.first.now in
    let second = c.args.second.now in
    let claim = c.args.claim in
    let thin = Thin claim.wanted claim.distance nodes first second in
    let of_nodes = map node_check (places nodes) in
    let of_sides = flat_map span_checks (asked_sides first second) in
    let ids = c.in_ok-ids.ids.items in
    let named_ids = subst (λ (m : Numbered). AreNamed m ids nodes) c.topology.ensures c.in_ok-ids.ensures.named in
    let good_nodes = subst (λ (m : Numbered). AreAll (IsGoodNode (topology_of m) nodes) (length nodes)) c.topology.ensures c.in_ok-ids.ensures.good in
    let known = is_known n ids thin nodes refl c.requires.sides.whole named_ids good_nodes in
    let one = (subst (λ (m : Numbered). JudgesNodes (topology_of m) nodes (Ok tt)) c.topology.ensures c.in_ok-ids.ensures.judges) thin refl in
    let two = (subst (λ xs. JudgesSides n xs first second (Ok tt)) c.deref.ensures.value c.in_ok-codes.ensures.judges) thin known in
    (begun_sides (topology_of n) thin first second two).0

pub shown-requires-clause-second : goal.shown-requires-clause-second
shown-requires-clause-second g c =
    let n = c.args.graph.now in
    let sides = c.args.sides.now in
    let nodes = c.args.nodes.now in
    let first = c.args.first.now in
    let second = c.args.second.now in
    let claim = c.args.claim in
    let thin = Thin claim.wanted claim.distance nodes first second in
    let of_nodes = map node_check (places nodes) in
    let of_sides = flat_map span_checks (asked_sides first second) in
    let ids = c.in_ok-ids.ids.items in
    let named_ids = subst (λ (m : Numbered). AreNamed m ids nodes) c.topology.ensures c.in_ok-ids.ensures.named in
    let good_nodes = subst (λ (m : Numbered). AreAll (IsGoodNode (topology_of m) nodes) (length nodes)) c.topology.ensures c.in_ok-ids.ensures.good in
    let known = is_known n ids thin nodes refl c.requires.sides.whole named_ids good_nodes in
    let one = (subst (λ (m : Numbered). JudgesNodes (topology_of m) nodes (Ok tt)) c.topology.ensures c.in_ok-ids.ensures.judges) thin refl in
    let two = (subst (λ xs. JudgesSides n xs first second (Ok tt)) c.deref.ensures.value c.in_ok-codes.ensures.judges) thin known in
    (begun_sides (topology_of n) thin first second two).1

pub returns-clause-judges : goal.returns-clause-judges
returns-clause-judges g c =
    let n = c.args.graph.now in
    let sides = c.args.sides.now in
    let nodes = c.args.nodes.now in
    let first = c.args.first.now in
    let second = c.args.second.now in
    let claim = c.args.claim in
    let thin = Thin claim.wanted claim.distance nodes first second in
    let of_nodes = map node_check (places nodes) in
    let of_sides = flat_map span_checks (asked_sides first second) in
    let ids = c.in_ok-ids.ids.items in
    let named_ids = subst (λ (m : Numbered). AreNamed m ids nodes) c.topology.ensures c.in_ok-ids.ensures.named in
    let good_nodes = subst (λ (m : Numbered). AreAll (IsGoodNode (topology_of m) nodes) (length nodes)) c.topology.ensures c.in_ok-ids.ensures.good in
    let known = is_known n ids thin nodes refl c.requires.sides.whole named_ids good_nodes in
    let one = (subst (λ (m : Numbered). JudgesNodes (topology_of m) nodes (Ok tt)) c.topology.ensures c.in_ok-ids.ensures.judges) thin refl in
    let two = (subst (λ xs. JudgesSides n xs first second (Ok tt)) c.deref.ensures.value c.in_ok-codes.ensures.judges) thin known in
    let read_first = subst (λ xs. IsSideRead xs sides.columns first c.in_ok-codes.codes.first) c.deref.ensures.value c.in_ok-codes.ensures.first in
    let read_second = subst (λ xs. IsRead xs sides.columns second c.in_ok-codes.codes.second) c.deref.ensures.value c.in_ok-codes.ensures.second in
    let at : AreSidesApart (topology_of n) nodes first second c.distance-far.result =
    at_read n ids thin known sides.columns c.requires.sides.column_names c.requires.sides.columns_are c.requires.sides.columns_named first second
    c.in_ok-codes.codes.first c.in_ok-codes.codes.second read_first read_second c.distance-far.result c.distance-far.ensures
    in
    let yes = c.holds.ensures.0 (let no = c.if-not-holds.false in cc) in
    let held = thin_holds (topology_of n) claim.wanted claim.distance nodes first second c.distance-far.result at yes.0 yes.1 yes.2 in
    passed_go_on (topology_of n) thin of_nodes (of_sides ++ claim_check ∷ []) (Ok tt) one (passed_go_on (topology_of n) thin of_sides (claim_check ∷ []) (Ok tt) two held)

pub returns-clause-shows : goal.returns-clause-shows
returns-clause-shows g c = shows_thin (topology_of c.args.graph.now) c.args.nodes.now c.args.first.now c.args.second.now c.args.claim c.in-Ok.shown c.in-Ok.ensures
