-- A whole thin certificate: its checks one after another, and its claim.
use Rattle.std.proofs.Common.{◌≡◌, ℕ, ◌<◌, ◌≤◌, List, [], ◌∷◌, Bool, false, length, refl, sym, ap, subst, ◌∙◌, None, arith}
use Rattle.std.specs.Prelude.{Result, Ok, Err, OnOk, IfErr}
use Rattle.std.specs.List.{All, flat_map}
use Rattle.std.proofs.lemmas.List.Elements.{All-head, All-tail}
use Rattle.cb_model.specs.declared.node.NodeName.{NodeName}
use Rattle.cb_coding.specs.Distance.{distance as distance_of, all_columns}
use Rattle.cb_network.specs.Topology.{Topology}
use Rattle.cb_network.proofs.One.{columns_are_one, same_truth}
use Rattle.cb_cert.specs.declared.certificate.Certificate.{Certificate}
use Rattle.cb_cert.specs.declared.certificate.Certificate.TheVariants.{Thin}
use Rattle.cb_cert.specs.declared.certificate.Side.{Side}
use Rattle.cb_cert.specs.declared.certificate.Side.TheVariants.{Quiet, Root}
use Rattle.cb_cert.specs.declared.certificate.Span.{Span}
use Rattle.cb_cert.specs.Format.{nodes_of}
use Rattle.cb_validity.specs.declared.verdict.Rejected.{Rejected}
use Rattle.cb_validity.specs.declared.verdict.Rejected.TheVariants.{NotThin}
use Rattle.cb_validity.specs.Checks.{Asked, Check, Passes, Judges, AreChecks, IsGoodRoot, asked_sides, span_checks, root_check, claim_check}
use Rattle.cb_validity.specs.Reading.{IsSpanCode, IsSideCode, AreSidesApart}
use Rattle.cb_validity.specs.Spans.{BeginsWithRoot, ListsNode}
use Rattle.cb_validity.specs.Valid.{IsValid, IsClose}
use Rattle.cb_validity.specs.Verdicts.{TellsWhy, CertificateShows}
use Rattle.cb_validity.proofs.Passing.{all_split, valid_passes_all}
use Rattle.cb_validity.proofs.Stages.{judged_is_first_fail}
use Rattle.std.specs.Prelude.{not, slice_index_or}
use Rattle.std.specs.List.{range_with_len}
use mathlib.Core.Bool.{beq}
use Rattle.std.proofs.lemmas.List.Sums.{count_by-le-length}
use Rattle.std.proofs.lemmas.List.FromFn.{length-range_with_len}
use Rattle.std.proofs.lemmas.List.{length-replicate}
use Rattle.cb_validity.specs.declared.verdict.Accepted.{Accepted}
use Rattle.cb_validity.specs.declared.verdict.Accepted.TheVariants as accepted
use Rattle.cb_checker.specs.declared.thin.Closeness.{Closeness}
use Rattle.cb_bits.specs.Bits.{differing}
use Rattle.cb_coding.specs.Groups.{zeros}
use Rattle.cb_network.specs.Nodes.{AreColumns}
use Rattle.cb_nodes.specs.declared.id.NodeId.{NodeId}
use Rattle.cb_topo.specs.Numbered.{Numbered, topology_of, AreNamed}
use Rattle.cb_checker.specs.Known.{verdict_of, IsKnown}
use Rattle.cb_checker.specs.Pairs.{IsRead, IsSideRead}
use Rattle.cb_checker.proofs.Reading.{width_same, code_read}
use Rattle.cb_checker.specs.Thin.{IsBegun, IsThinShown}
use Rattle.cb_checker.proofs.Joined.{fails_here, pass_one}

-- a span that passes its checks begins with some root
begun : (t : Topology) (c : Certificate) (a : Asked) → All (Passes t c) (span_checks a) → (root : NodeName) × BeginsWithRoot (nodes_of c) a.span root
begun t c a all =
    let good : IsGoodRoot t (nodes_of c) a = all 0 (root_check a) (omega arith) in
    (good.node, record { entry = good.entry; first = good.is; names = good.names; alone = good.alone })

pub begun_sides : (t : Topology) (c : Certificate) (first : Side) (second : Span) → All (Passes t c) (flat_map span_checks (asked_sides first second))
    → IsBegun (nodes_of c) first × IsBegun (nodes_of c) (Root second)
begun_sides t c Quiet second all =
    let each = all_split (Passes t c) span_checks (asked_sides Quiet second) all in
    (tt, begun t c (record { before = 0; root = None; span = second }) (All-head (λ a. All (Passes t c) (span_checks a)) (record { before = 0; root = None; span = second }) [] each))
begun_sides t c (Root span) second all =
    let P : Asked → Type 0 = λ a. All (Passes t c) (span_checks a) in
    let one : Asked = record { before = 0; root = None; span = span } in
    let two : Asked = record { before = length span.entries; root = None; span = second } in
    let each = all_split (Passes t c) span_checks (asked_sides (Root span) second) all in
    (begun t c one (All-head P one (two ∷ []) each), begun t c two (All-head P two [] (All-tail P one (two ∷ []) each)))

-- a span has one code over columns
code_once : (nodes : List NodeName) (span : Span) (columns : List NodeName) (v w : List Bool) → IsSpanCode nodes columns span v → IsSpanCode nodes columns span w → v ≡ w
code_once nodes span [] [] [] a b = refl
code_once nodes span [] [] (y ∷ w) a b = absurd b
code_once nodes span [] (x ∷ v) w a b = absurd a
code_once nodes span (c ∷ columns) [] w a b = absurd a
code_once nodes span (c ∷ columns) (x ∷ v) [] a b = absurd b
code_once nodes span (c ∷ columns) (x ∷ v) (y ∷ w) a b =
    let bits = same_truth (ListsNode nodes span c) x y a.0 b.0 in
    let rest = code_once nodes span columns v w a.1 b.1 in
    cc

side_once : (nodes : List NodeName) (s : Side) (columns : List NodeName) (v w : List Bool) → IsSideCode nodes columns s v → IsSideCode nodes columns s w → v ≡ w
side_once nodes Quiet columns v w a b = a ∙ sym b
side_once nodes (Root span) columns v w a b = code_once nodes span columns v w a b

far_once : (t : Topology) (nodes : List NodeName) (first : Side) (second : Span) (m n : ℕ) → AreSidesApart t nodes first second m → AreSidesApart t nodes first second n → m ≡ n
far_once t nodes first second m n a b =
    let columns = columns_are_one t a.columns b.columns a.columns_are b.columns_are in
    let v : a.v ≡ b.v = side_once nodes first a.columns a.v b.v a.first_is (subst (λ cs. IsSideCode nodes cs first b.v) (sym columns) b.first_is) in
    let w : a.w ≡ b.w = code_once nodes second a.columns a.w b.w a.second_is (subst (λ cs. IsSpanCode nodes cs second b.w) (sym columns) b.second_is) in
    let ours = a.far_is in
    let theirs = b.far_is in
    cc

-- the claim of a thin certificate
module _ (t : Topology) (wanted distance : ℕ) (nodes : List NodeName) (first : Side) (second : Span) (far : ℕ) (at : AreSidesApart t nodes first second far) where
  pub thin_holds : far ≡ distance → 0 < far → far < wanted → All (Passes t (Thin wanted distance nodes first second)) (claim_check ∷ [])
  thin_holds same some less =
      let close : IsClose wanted distance = record { some = subst (λ m. 0 < m) same some; less = subst (λ m. m < wanted) same less } in
      pass_one t (Thin wanted distance nodes first second) claim_check (subst (AreSidesApart t nodes first second) same at, close)

  pub thin_fails : ((far ≡ distance) → (0 < far) → (far < wanted) → ⊥) → Judges t (Thin wanted distance nodes first second) (claim_check ∷ []) (Err (NotThin far))
  thin_fails not = fails_here t (Thin wanted distance nodes first second) claim_check [] (NotThin far) (λ holds.
      let same = far_once t nodes first second far distance at holds.0 in
      let some = holds.1.some in
      let less = holds.1.less in
      not same (omega arith) (omega arith)) at

-- what all checks come to is the verdict
pub valid_of : {X : Type 0} (t : Topology) (c : Certificate) (checks : List Check) → AreChecks t c checks → (result : Result X Rejected)
    → Judges t c checks (verdict_of result) → OnOk result (IsValid t c)
valid_of t c checks are (Ok x) judged = (valid_passes_all t c checks are).1 judged
valid_of t c checks are (Err e) judged = tt

pub why_of : {X : Type 0} (t : Topology) (c : Certificate) (checks : List Check) → AreChecks t c checks → (result : Result X Rejected)
    → Judges t c checks (verdict_of result) → IfErr result (TellsWhy t c)
why_of t c checks are (Ok x) judged = tt
why_of t c checks are (Err e) judged = judged_is_first_fail t c checks are e judged

-- codes have one width
pub side_width : (ids columns : List NodeId) (s : Side) (code : List Bool) → IsSideRead ids columns s code → length code ≡ length columns
side_width ids columns Quiet code is = ap length is ∙ length-replicate (length columns) false
side_width ids columns (Root span) code is = is.coded.width

module _ (n : Numbered) (ids : List NodeId) (c : Certificate) (known : IsKnown n ids c) (columns : List NodeId) (names : List NodeName)
    (are : AreColumns (topology_of n) names) (named : AreNamed n columns names) where
  side_read : (s : Side) (code : List Bool) → IsSideRead ids columns s code → IsSideCode (nodes_of c) names s code
  side_read Quiet code is = is ∙ ap zeros (width_same n ids c known columns names are named)
  side_read (Root span) code is = code_read n ids c known columns names are named span is.listed code is.lists is.coded

  pub at_read : (first : Side) (second : Span) (v w : List Bool) → IsSideRead ids columns first v → IsRead ids columns second w → (far : ℕ) → far ≡ differing v w
      → AreSidesApart (topology_of n) (nodes_of c) first second far
  at_read first second v w read_v read_w far is = record {
    columns = names;
    columns_are = are;
    v = v;
    w = w;
    first_is = side_read first v read_v;
    second_is = code_read n ids c known columns names are named second read_w.listed w read_w.lists read_w.coded;
    far_is = subst (λ k. far ≡ distance_of (all_columns k) v w) (side_width ids columns first v read_v ∙ width_same n ids c known columns names are named) is;
  }

pub far_small : (v w : List Bool) → differing v w ≤ length v
far_small v w =
    let size = length-range_with_len 0 (length v) in
    let most = count_by-le-length (λ k. not (beq (slice_index_or v k false) (slice_index_or w k false))) (range_with_len 0 (length v)) in
    omega arith

-- what is shown of the two sides is what the certificate shows
pub shows_thin : (t : Topology) (nodes : List NodeName) (first : Side) (second : Span) (claim : Closeness) (shown : Accepted) → IsThinShown nodes first second claim shown
    → CertificateShows t (Thin claim.wanted claim.distance nodes first second) shown
shows_thin t nodes first second claim (accepted.Book d r g k) is = is
shows_thin t nodes first second claim (accepted.Capped n a b g k) is = is
shows_thin t nodes first second claim (accepted.Thin w f s x) is = is
