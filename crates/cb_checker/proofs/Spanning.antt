-- The spans of a book, one after another.
use Rattle.std.proofs.Common.{◌≡◌, inl, inr, ℕ, zero, suc, ◌+◌, ◌<◌, ◌≤◌, List, [], ◌∷◌, ◌++◌, length, take, min, refl, sym, ap, subst, ◌∙◌, Some, arith}
use Rattle.std.specs.Prelude.{Ok, Err, slice_get}
use Rattle.std.specs.List.{All, AllZip, flat_map}
use Rattle.std.proofs.lemmas.Bool.{cases_lt}
use Rattle.std.proofs.lemmas.List.{length-append}
use Rattle.std.proofs.lemmas.List.Sums.{sum_by-cons}
use Rattle.std.proofs.lemmas.Option.{same_Some, slice_get_within}
use Rattle.cb_model.specs.declared.node.NodeName.{NodeName}
use Rattle.cb_coding.specs.declared.group.Problem.{Problem}
use Rattle.cb_coding.proofs.Pushed.{pushed_cases}
use Rattle.cb_cert.specs.declared.certificate.Certificate.{Certificate}
use Rattle.cb_cert.specs.declared.certificate.Span.{Span}
use Rattle.cb_validity.specs.declared.verdict.Rejected.{Rejected}
use Rattle.cb_validity.specs.declared.verdict.Rejected.TheVariants.{NoSpan, ExtraSpan}
use Rattle.cb_validity.specs.Checks.{Asked, Passes, Judges, asked_of, span_checks, no_more_problems, no_more_spans}
use Rattle.cb_validity.specs.Verdicts.{entries_of}
use Rattle.cb_validity.proofs.Stages.{passed_go_on}
use Rattle.cb_nodes.specs.declared.id.NodeId.{NodeId}
use Rattle.cb_topo.specs.Numbered.{Numbered, topology_of, IsNodeNamed, AreNamed}
use Rattle.cb_checker.specs.Known.{IsKnown}
use Rattle.cb_checker.specs.Books.{IsReadOff, AreReadTo}
use Rattle.cb_checker.specs.Spans.{asked, JudgesSpan}
use Rattle.cb_checker.proofs.Joined.{fails_here, flat_fails, flat_passes, pass_one, pass_two}
use Rattle.cb_checker.proofs.Naming.{zip_right, zip_left}

-- how many entries stand before a span

pub entries_more : (spans : List Span) (place : ℕ) (span : Span) → slice_get spans place ≡ Some span
    → entries_of (take (place + 1) spans) ≡ entries_of (take place spans) + length span.entries
entries_more [] place span at = absurd (cc)
entries_more (s ∷ spans) zero span at =
    let same : s ≡ span = same_Some s span at in
    let none : take 0 spans ≡ [] = refl in
    sum_by-cons (λ (x : Span). length x.entries) s [] ∙ subst (λ (x : Span). length s.entries + 0 ≡ 0 + length x.entries) same (omega arith)
entries_more (s ∷ spans) (suc k) span at =
    let rest = entries_more spans k span at in
    let e : suc k + 1 ≡ suc (k + 1) = omega arith in
    let one = sum_by-cons (λ (x : Span). length x.entries) s (take (k + 1) spans) in
    let two = sum_by-cons (λ (x : Span). length x.entries) s (take k spans) in
    rw e (omega (arith, one, two, rest))

pub entries_within : (spans : List Span) (place : ℕ) → entries_of (take place spans) ≤ entries_of spans
entries_within [] zero = omega arith
entries_within [] (suc k) = omega arith
entries_within (s ∷ spans) zero = omega arith
entries_within (s ∷ spans) (suc k) =
    let rest = entries_within spans k in
    let one = sum_by-cons (λ (x : Span). length x.entries) s spans in
    let two = sum_by-cons (λ (x : Span). length x.entries) s (take k spans) in
    omega (arith, one, two, rest)

-- the span at a place, as it is asked for
pub asked_there : (before : ℕ) (names : List NodeName) (spans : List Span) (place : ℕ) (name : NodeName) (span : Span) → slice_get names place ≡ Some name
    → slice_get spans place ≡ Some span → slice_get (asked_of before names spans) place ≡ Some (asked (before + entries_of (take place spans)) (Some name) span)
asked_there before [] spans place name span at_name at_span = absurd (cc)
asked_there before (p ∷ names) [] place name span at_name at_span = absurd (cc)
asked_there before (p ∷ names) (s ∷ spans) zero name span at_name at_span =
    let one : p ≡ name = same_Some p name at_name in
    let two : s ≡ span = same_Some s span at_span in
    let e : before ≡ before + entries_of [] = omega arith in
    ap Some (ap (λ q. asked before (Some q) s) one ∙ (ap (asked before (Some name)) two ∙ ap (λ b. asked b (Some name) span) e))
asked_there before (p ∷ names) (s ∷ spans) (suc k) name span at_name at_span =
    let rest = asked_there (before + length s.entries) names spans k name span at_name at_span in
    let one = sum_by-cons (λ (x : Span). length x.entries) s (take k spans) in
    let e : before + length s.entries + entries_of (take k spans) ≡ before + entries_of (take (suc k) (s ∷ spans)) = omega (arith, one) in
    subst (λ b. slice_get (asked_of (before + length s.entries) names spans) k ≡ Some (asked b (Some name) span)) e rest

-- what is asked for at a place is of a span and a name
pub asked_at : (before : ℕ) (names : List NodeName) (spans : List Span) (place : ℕ) (a : Asked) → slice_get (asked_of before names spans) place ≡ Some a
    → (name : NodeName) × (span : Span) × (slice_get names place ≡ Some name) × (slice_get spans place ≡ Some span)
asked_at before [] spans place a at = absurd (cc)
asked_at before (p ∷ names) [] place a at = absurd (cc)
asked_at before (p ∷ names) (s ∷ spans) zero a at = (p, s, refl, refl)
asked_at before (p ∷ names) (s ∷ spans) (suc k) a at = asked_at (before + length s.entries) names spans k a at

-- the checks of the span at a place are passed
abbrev pub SpansPass : Numbered → List NodeId → List NodeId → List Span → ℕ → Type 0
SpansPass n ids problems spans to = (c : Certificate) (names : List NodeName) → IsKnown n ids c → AreNamed n problems names → (place : ℕ) (a : Asked) → place < to
    → slice_get (asked_of 0 names spans) place ≡ Some a → All (Passes (topology_of n) c) (span_checks a)

module _ (n : Numbered) (ids problems : List NodeId) (spans : List Span) (place : ℕ) (root : NodeId) (span : Span) (before : ℕ)
    (at_root : slice_get problems place ≡ Some root) (at_span : slice_get spans place ≡ Some span) (before_is : before ≡ entries_of (take place spans)) where
  -- what is asked for here
  here : (names : List NodeName) → AreNamed n problems names
      → (name : NodeName) × (slice_get (asked_of 0 names spans) place ≡ Some (asked before (Some name) span)) × IsNodeNamed n root name
  here names named =
      let z = zip_right (IsNodeNamed n) problems names named place root at_root in
      let e : 0 + entries_of (take place spans) ≡ before = omega arith in
      (z.0, subst (λ b. slice_get (asked_of 0 names spans) place ≡ Some (asked b (Some z.0) span)) e (asked_there 0 names spans place z.0 span z.1 at_span), z.2)

  pub spans_more : SpansPass n ids problems spans place → JudgesSpan n ids (Some root) before span span_checks (Ok tt) → SpansPass n ids problems spans (place + 1)
  spans_more old judged = λ c names known named k a low at. elim (cases_lt k place) [
    | inl less ↦ old c names known named k a less at
    | inr le ↦
        let last : k ≡ place = omega arith in
        let h = here names named in
        let same : asked before (Some h.0) span ≡ a =
        same_Some (asked before (Some h.0) span) a (sym h.1 ∙ subst (λ j. slice_get (asked_of 0 names spans) j ≡ Some a) last at)
        in
        subst (λ x. All (Passes (topology_of n) c) (span_checks x)) same (judged c (Some h.0) known h.2)
  ]

  pub spans_fail : (reported : Rejected) → SpansPass n ids problems spans place → JudgesSpan n ids (Some root) before span span_checks (Err reported)
      → (c : Certificate) (names : List NodeName) → IsKnown n ids c → AreNamed n problems names
      → Judges (topology_of n) c (flat_map span_checks (asked_of 0 names spans)) (Err reported)
  spans_fail reported old judged = λ c names known named.
      let h = here names named in
      flat_fails (topology_of n) c span_checks (asked_of 0 names spans) place (asked before (Some h.0) span) h.1
      (λ j a low at. old c names known named j a low at) reported (judged c (Some h.0) known h.2)

pub spans_pass : (n : Numbered) (ids problems : List NodeId) (spans : List Span) (to : ℕ) → SpansPass n ids problems spans to → min (length problems) (length spans) ≤ to
    → (c : Certificate) (names : List NodeName) → IsKnown n ids c → AreNamed n problems names
    → All (Passes (topology_of n) c) (flat_map span_checks (asked_of 0 names spans))
spans_pass n ids problems spans to old end = λ c names known named.
    flat_passes (topology_of n) c span_checks (asked_of 0 names spans) (λ i a at.
    let is = asked_at 0 names spans i a at in
    let id = zip_left (IsNodeNamed n) problems names named i is.0 is.2 in
    let one = slice_get_within problems i id.0 id.1 in
    let two = slice_get_within spans i is.1 is.3 in
    old c names known named i a (omega arith) at)

-- problems with their codes

pub none_read : (n : Numbered) (ids problems columns : List NodeId) (spans : List Span) → AreReadTo n ids problems columns spans 0 []
none_read n ids problems columns spans = record { count = refl; each = λ i p at. absurd (cc) }

pub read_more : (n : Numbered) (ids problems columns : List NodeId) (spans : List Span) (to : ℕ) (coded : List Problem) (p : Problem) (id : NodeId) (span : Span)
    → AreReadTo n ids problems columns spans to coded → slice_get problems to ≡ Some id → slice_get spans to ≡ Some span → IsReadOff n ids columns id span p
    → AreReadTo n ids problems columns spans (to + 1) (coded ++ (p ∷ []))
read_more n ids problems columns spans to coded p id span old at_id at_span is = record {
  count = length-append coded (p ∷ []) ∙ ap (λ k. k + 1) old.count;
  each = λ i q there. elim (pushed_cases coded p q i there) [
    | inl before ↦ old.each i q before
    | inr (last, same) ↦
        let end : to ≡ i = let e = old.count in omega arith in (
          id,
          span,
          subst (λ k. slice_get problems k ≡ Some id) end at_id,
          subst (λ k. slice_get spans k ≡ Some span) end at_span,
          subst (IsReadOff n ids columns id span) same is,
        )
  ];
}

-- as many spans as problems

pub zip_lengths : {X Y : Type 0} (R : X → Y → Type 0) (xs : List X) (ys : List Y) → AllZip R xs ys → length xs ≡ length ys
zip_lengths R [] [] all = refl
zip_lengths R [] (y ∷ ys) all = absurd all
zip_lengths R (x ∷ xs) [] all = absurd all
zip_lengths R (x ∷ xs) (y ∷ ys) all = let rest = zip_lengths R xs ys all.1 in omega arith

module _ (n : Numbered) (problems : List NodeId) (spans : List Span) (c : Certificate) (names : List NodeName) (named : AreNamed n problems names) where
  same_size : length problems ≡ length names
  same_size = zip_lengths (IsNodeNamed n) problems names named

  pub no_span : (id : NodeId) (name : NodeName) → slice_get problems (length spans) ≡ Some id → IsNodeNamed n id name
      → ((a : NodeName) → IsNodeNamed n id a → a ≡ name)
      → Judges (topology_of n) c (no_more_problems names spans ∷ no_more_spans names spans ∷ []) (Err (NoSpan name))
  no_span id name at is one =
      let z = zip_right (IsNodeNamed n) problems names named (length spans) id at in
      let within = slice_get_within problems (length spans) id at in
      let size = same_size in
      fails_here (topology_of n) c (no_more_problems names spans) (no_more_spans names spans ∷ []) (NoSpan name)
      (λ fits. let f : length names ≤ length spans = fits in omega arith) (z.0, z.1, ap NoSpan (sym (one z.0 z.2)))

  pub extra_span : length problems < length spans → Judges (topology_of n) c (no_more_problems names spans ∷ no_more_spans names spans ∷ []) (Err (ExtraSpan (length problems + 1)))
  extra_span more =
      let size = same_size in
      let fits : length names ≤ length spans = omega arith in
      passed_go_on (topology_of n) c (no_more_problems names spans ∷ []) (no_more_spans names spans ∷ []) (Err (ExtraSpan (length problems + 1)))
      (pass_one (topology_of n) c (no_more_problems names spans) fits)
      (fails_here (topology_of n) c (no_more_spans names spans) [] (ExtraSpan (length problems + 1))
      (λ few. let f : length spans ≤ length names = few in omega arith) (ap (λ m. ExtraSpan (m + 1)) size))

  pub right_count : length problems ≡ length spans → All (Passes (topology_of n) c) (no_more_problems names spans ∷ no_more_spans names spans ∷ [])
  right_count same =
      let size = same_size in
      let a : length names ≤ length spans = omega arith in
      let b : length spans ≤ length names = omega arith in
      pass_two (topology_of n) c (no_more_problems names spans) (no_more_spans names spans) a b
