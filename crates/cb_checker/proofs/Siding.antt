-- The checks of the sides of a thin certificate.
use Rattle.std.proofs.Common.{◌≡◌, ℕ, List, [], ◌++◌, length, refl, sym, subst, arith, None}
use Rattle.std.specs.Prelude.{Result, Ok, Err, IfErr}
use Rattle.std.specs.List.{flat_map}
use Rattle.std.proofs.lemmas.List.{append-nil}
use Rattle.std.proofs.lemmas.List.Elements.{All-nil}
use Rattle.std.proofs.lemmas.List.Sums.{sum_by-cons}
use Rattle.cb_cert.specs.declared.certificate.Side.{Side}
use Rattle.cb_cert.specs.declared.certificate.Side.TheVariants.{Quiet, Root}
use Rattle.cb_cert.specs.declared.certificate.Span.{Span}
use Rattle.cb_validity.specs.declared.verdict.Rejected.{Rejected}
use Rattle.cb_validity.specs.declared.verdict.Rejected.TheVariants.{NoMemory}
use Rattle.cb_validity.specs.Canonical.{side_spans}
use Rattle.cb_validity.specs.Checks.{Check, Passes, Judges, asked_sides, span_checks}
use Rattle.cb_validity.specs.Verdicts.{entries_of}
use Rattle.cb_validity.proofs.Stages.{passed_go_on, failed_stop}
use Rattle.cb_nodes.specs.declared.id.NodeId.{NodeId}
use Rattle.cb_topo.specs.Numbered.{Numbered, topology_of}
use Rattle.cb_checker.specs.Known.{verdict_of}
use Rattle.cb_checker.specs.Pairs.{asked_side, JudgesSide, JudgesSides}
use Rattle.cb_checker.specs.Spans.{asked, JudgesSpan}

-- a span has the entries of a side that has it
pub entries_of_root : (span : Span) → entries_of (side_spans (Root span)) ≡ length span.entries
entries_of_root span = let e = sum_by-cons (λ (s : Span). length s.entries) span [] in omega arith

-- the checks of both sides are those of the first and those of the second
both_sides : (first : Side) (second : Span)
    → flat_map span_checks (asked_sides first second)
    ≡ flat_map span_checks (asked_side first) ++ (span_checks (asked (entries_of (side_spans first)) None second) ++ [])
both_sides Quiet second = refl
both_sides (Root span) second =
    let e : length span.entries ≡ entries_of (side_spans (Root span)) = sym (entries_of_root span) in
    subst (λ b. flat_map span_checks (asked_sides (Root span) second)
    ≡ flat_map span_checks (asked_side (Root span)) ++ (span_checks (asked b None second) ++ [])) e
    (sym (regrouped (span_checks (asked 0 None span)) (span_checks (asked (length span.entries) None second))))
  where
    regrouped : (xs ys : List Check) → (xs ++ []) ++ (ys ++ []) ≡ xs ++ (ys ++ [])
    regrouped xs ys = rw (append-nil xs) refl

-- the checks of a span of its own
pub of_span : (n : Numbered) (ids : List NodeId) (span : Span) (result : Result (Unit {0}) Rejected) → JudgesSpan n ids None 0 span span_checks result
    → JudgesSide n ids (Root span) result
of_span n ids span result judged = λ c known.
    subst (λ checks. Judges (topology_of n) c checks result) (sym (append-nil (span_checks (asked 0 None span)))) (judged c None known tt)

pub of_quiet : {X : Type 0} (n : Numbered) (ids : List NodeId) (result : Result X Rejected) → IfErr result (λ why. why ≡ NoMemory) → JudgesSide n ids Quiet (verdict_of result)
of_quiet n ids (Ok x) why = λ c known. All-nil (Passes (topology_of n) c)
of_quiet n ids (Err e) why = λ c known. subst (λ w. Judges (topology_of n) c [] (Err w)) (sym why) tt

pub first_stops : (n : Numbered) (ids : List NodeId) (first : Side) (second : Span) (reported : Rejected) → JudgesSide n ids first (Err reported)
    → JudgesSides n ids first second (Err reported)
first_stops n ids first second reported judged = λ c known.
    subst (λ checks. Judges (topology_of n) c checks (Err reported)) (sym (both_sides first second))
    (failed_stop (topology_of n) c (flat_map span_checks (asked_side first)) (span_checks (asked (entries_of (side_spans first)) None second) ++ []) reported
    (judged c known))

pub both_judged : (n : Numbered) (ids : List NodeId) (first : Side) (second : Span) (before : ℕ) (result : Result (Unit {0}) Rejected)
    → before ≡ entries_of (side_spans first) → JudgesSide n ids first (Ok tt) → JudgesSpan n ids None before second span_checks result
    → JudgesSides n ids first second result
both_judged n ids first second before result is one two = λ c known.
    subst (λ checks. Judges (topology_of n) c checks result) (sym (both_sides first second))
    (passed_go_on (topology_of n) c (flat_map span_checks (asked_side first)) (span_checks (asked (entries_of (side_spans first)) None second) ++ []) result
    (one c known)
    (subst (λ checks. Judges (topology_of n) c checks result) (sym (append-nil (span_checks (asked (entries_of (side_spans first)) None second))))
    (subst (λ b. Judges (topology_of n) c (span_checks (asked b None second)) result) is (two c None known tt))))
