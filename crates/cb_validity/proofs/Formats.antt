-- What stands in a certificate of a topology is of the format.
use Rattle.std.proofs.Common.{◌≡◌, ◌≢◌, ℕ, zero, suc, ◌-◌, ◌<◌, ◌≤◌, List, [], ◌∷◌, ◌++◌, length, get_or, map, refl, sym, ap, subst, ◌∙◌, arith, true, nat_eq, Some, inl, inr}
use Rattle.std.specs.Prelude.{slice_get}
use Rattle.std.specs.List.{All, AllPairs, AllZip, Contains, flat_map, list_any, sum_by}
use Rattle.std.proofs.lemmas.Bool.{cases_Bool, eqb-true}
use Rattle.std.proofs.lemmas.Bool.Decides.{Decides-eqb}
use Rattle.std.proofs.lemmas.List.{length-map, get_or-map}
use Rattle.std.proofs.lemmas.List.Sums.{sum_by-append, sum_by-cons}
use Rattle.std.proofs.lemmas.List.Elements.{All-nil, All-cons, All-head, All-tail, All-append, All-map, All-contains}
use Rattle.std.proofs.lemmas.Map.Made.{IsDistinct-from_AllPairs}
use Rattle.std.proofs.lemmas.Map.Steps.{length-le_from_distinct_below}
use Rattle.std.proofs.lemmas.Option.{slice_get_within, slice_get-get_or}
use Rattle.cb_text.specs.Names.{IsName, IsInstance}
use Rattle.cb_model.specs.declared.node.NodeName.{NodeName}
use Rattle.cb_model.specs.declared.tables.EventRow.{EventRow}
use Rattle.cb_model.specs.WellTyped.{HasNames}
use Rattle.cb_model.specs.Order.{Rises}
use Rattle.cb_model.specs.NodeOrder.{node_cmp}
use Rattle.cb_model.proofs.Rising.{node_cmp_total, node_cmp_exact}
use Rattle.cb_network.specs.Topology.{Topology}
use Rattle.cb_network.specs.Nodes.{IsNodeOf, IsProblem, IsSymptomNode, IsColumn, IsCount, IsCountWithin}
use Rattle.cb_network.specs.Sound.{Sound}
use Rattle.cb_network.proofs.Counts.{count_of_rising}
use Rattle.cb_network.proofs.Sets.{len_of_part}
use Rattle.cb_network.proofs.Kept.{live_of}
use Rattle.cb_cert.specs.declared.certificate.Entry.{Entry}
use Rattle.cb_cert.specs.declared.certificate.Span.{Span}
use Rattle.cb_cert.specs.declared.certificate.Side.{Side}
use Rattle.cb_cert.specs.declared.certificate.Side.TheVariants as side
use Rattle.cb_cert.specs.declared.certificate.Certificate.{Certificate}
use Rattle.cb_cert.specs.declared.certificate.Certificate.TheVariants.{Book, Capped, Thin}
use Rattle.cb_cert.specs.declared.line.CertificateLine.TheVariants as line
use Rattle.cb_cert.specs.declared.line.Version.TheVariants.{First, Second}
use Rattle.cb_cert.specs.Lines.{certificate_lines, node_lines, column_lines, radius_lines, all_span_lines, span_lines, side_lines}
use Rattle.cb_cert.specs.Format.{Fits, IsWanted, IsCertificate, entries_in, entry_limit, certificate_node_limit, column_limit, nodes_of}
use Rattle.cb_cert.proofs.Sizes.{no_entries, one_span_entries}
use Rattle.cb_validity.specs.Spans.{AreNodes, StandsFor, IsListedAt, IsSpanOf}
use Rattle.cb_validity.specs.Valid.{AreColumnNumbers, AreSpans, IsSide, IsSpanOfProblem}
use Rattle.cb_validity.specs.Canonical.{side_spans}
use Rattle.cb_validity.specs.Verdicts.{entries_of, IsCheckable}
use Rattle.cb_validity.proofs.Canonicals.{contains_from_get}
use Rattle.cb_validity.proofs.Passing.{zip_lengths, all_joined, all_left, all_right}

-- a list in order of some nodes of a kind is no longer than the kind's limit
few_among : (P : NodeName → Type 0) (limit : ℕ) (xs : List NodeName) → Rises node_cmp xs → ((n : NodeName) → Contains xs n → P n) → IsCountWithin P limit
    → length xs ≤ limit
few_among P limit xs rise are within =
    let count : IsCount (Contains xs) (length xs) = count_of_rising (Contains xs) xs rise (λ n. ((λ c. c), (λ c. c))) in
    let all = within.1 in
    let less = len_of_part node_cmp_total node_cmp_exact count.nodes all.nodes (λ q has. (all.members q).1 (are q ((count.members q).0 has))) in
    let m = count.len in
    let k = all.len in
    let low = within.2 in
    omega arith

-- numbers below a bound
any_below : (n q : ℕ) (xs : List ℕ) → All (λ x. x < n) xs → list_any (nat_eq q) xs ≡ true → q < n
any_below n q [] all e = absurd (cc)
any_below n q (x ∷ xs) all e = elim (cases_Bool (nat_eq q x)) [
  | inl same ↦ let is : q ≡ x = eqb-true q x same in subst (λ y. y < n) (sym is) (All-head (λ y. y < n) x xs all)
  | inr other ↦ let rest : list_any (nat_eq q) xs ≡ true = rw other at e in any_below n q xs (All-tail (λ y. y < n) x xs all) rest
]

module _ (t : Topology) (nodes : List NodeName) (root : NodeName) (span : Span) (is : IsSpanOf t nodes root span) where
  -- each entry stands for a node
  entry_named : (k : ℕ) (e : Entry) → slice_get span.entries k ≡ Some e → (n : NodeName) × StandsFor nodes e.node n
  entry_named zero e at =
      let b = is.begins in
      let same : Some b.entry ≡ Some e = sym b.first ∙ at in
      let entry : b.entry ≡ e = cc in
      (root, subst (λ (x : Entry). StandsFor nodes x.node root) entry b.names)
  entry_named (suc k) e at = let has = is.edges (suc k) e (omega arith) at in (has.to, has.to_is)

  -- its number is one of a node
  entry_number : (k : ℕ) (e : Entry) → slice_get span.entries k ≡ Some e → (0 < e.node) × (e.node ≤ length nodes)
  entry_number k e at =
      let n = entry_named k e at in
      let s = n.1 in
      let some = s.counted in
      let within = slice_get_within nodes (e.node - 1) n.0 s.is in
      (s.counted, omega arith)

  -- its parent stands before it
  entry_parent : (k : ℕ) (e : Entry) → slice_get span.entries k ≡ Some e → e.parent ≤ k
  entry_parent zero e at =
      let b = is.begins in
      let same : Some b.entry ≡ Some e = sym b.first ∙ at in
      let entry : b.entry ≡ e = cc in
      let parent = ap (λ (x : Entry). x.parent) entry in
      let alone = b.alone in
      omega arith
  entry_parent (suc k) e at = let earlier = is.earlier (suc k) e (omega arith) at in earlier.1

  none : Entry
  none = record { node = 0; parent = 0 }

  -- a span has no more entries than there are nodes
  pub few_entries : length span.entries ≤ length nodes
  few_entries =
      let es = span.entries in
      let at : (k : ℕ) → k < length es → slice_get es k ≡ Some (get_or es k none) = λ k low. slice_get-get_or es k none low in
      let mapped : (k d : ℕ) → k < length es → get_or (map (λ (e : Entry). e.node - 1) es) k d ≡ (get_or es k none).node - 1 =
      λ k d low. get_or-map (λ (e : Entry). e.node - 1) es k none d low
      in
      let short = length-map es (λ (e : Entry). e.node - 1) in
      let differ : AllPairs (λ x y. x ≢ y) (map (λ (e : Entry). e.node - 1) es) = λ i j d low within same.
      let high : j < length es = omega arith in
      let below : i < length es = omega arith in
      let n = entry_named i (get_or es i none) (at i below) in
      let m = entry_named j (get_or es j none) (at j high) in
      let first = entry_number i (get_or es i none) (at i below) in
      let second = entry_number j (get_or es j none) (at j high) in
      let some_i = first.0 in
      let some_j = second.0 in
      let e = mapped i d below in
      let f = mapped j d high in
      let numbers : (get_or es j none).node ≡ (get_or es i none).node = omega arith in
      let here : IsListedAt nodes span i n.0 = record { entry = get_or es i none; is = at i below; names = n.1 } in
      let there : IsListedAt nodes span j n.0 = record { entry = get_or es j none; is = at j high; names = subst (λ k. StandsFor nodes k n.0) (sym numbers) n.1 } in
      let one = is.once i j n.0 here there in
      omega arith
      in
      let bounded : All (λ x. x < length nodes) (map (λ (e : Entry). e.node - 1) es) = λ k d low.
      let within : k < length es = omega arith in
      let number = entry_number k (get_or es k none) (at k within) in
      let some = number.0 in
      let most = number.1 in
      let e = mapped k d within in
      omega arith
      in
      let few = length-le_from_distinct_below (map (λ (e : Entry). e.node - 1) es) (length nodes) (IsDistinct-from_AllPairs Decides-eqb (map (λ (e : Entry). e.node - 1) es) differ)
      (λ q any. any_below (length nodes) q (map (λ (e : Entry). e.node - 1) es) bounded any)
      in
      omega arith

span_entries : (spans : List Span) → sum_by entries_in (flat_map span_lines spans) ≡ entries_of spans
span_entries [] = refl
span_entries (s ∷ spans) =
    let rest = span_entries spans in
    let both = sum_by-append entries_in (span_lines s) (flat_map span_lines spans) in
    let first = sum_by-cons entries_in (line.Span (length s.entries)) (map line.Entry s.entries) in
    let none = no_entries line.Entry (λ e. refl) s.entries in
    let whole = sum_by-cons (λ (x : Span). length x.entries) s spans in
    omega arith

-- numbers that stand for nodes are numbers of nodes
numbers_fit : (nodes : List NodeName) (numbers : List ℕ) (columns : List NodeName) → AllZip (StandsFor nodes) numbers columns
    → All (λ i. (0 < i) × (i ≤ length nodes)) numbers
numbers_fit nodes [] [] are = All-nil (λ i. (0 < i) × (i ≤ length nodes))
numbers_fit nodes [] (c ∷ columns) are = absurd are
numbers_fit nodes (i ∷ numbers) [] are = absurd are
numbers_fit nodes (i ∷ numbers) (c ∷ columns) are =
    let s : StandsFor nodes i c = are.0 in
    let some = s.counted in
    let within = slice_get_within nodes (i - 1) c s.is in
    All-cons (λ i. (0 < i) × (i ≤ length nodes)) i numbers (s.counted, omega arith) (numbers_fit nodes numbers columns are.1)

-- a node of the topology has names by the grammar
names_fit : (t : Topology) → Sound t → HasNames t.model → (n : NodeName) → IsNodeOf t n → IsName n.event × IsInstance n.instance
names_fit t sound named n (e, at) =
    let has = at.named.0 in
    let by_row = All-contains (λ (row : EventRow). IsName row.name) t.model.events has.row named.events (contains_from_get t.model.events e.0 has.row has.is) in
    (subst IsName at.named.1 by_row, sound.names n.instance (live_of t n.instance at.class at.of_class))

module _ (t : Topology) (c : Certificate) (few : length (nodes_of c) ≤ certificate_node_limit) where
  span_fits : (root : NodeName) (span : Span) → IsSpanOf t (nodes_of c) root span → All (Fits c) (span_lines span)
  span_fits root span is =
      let nodes = nodes_of c in
      let es = span.entries in
      let short = few_entries t nodes root span is in
      let some = slice_get_within es 0 is.begins.entry is.begins.first in
      let count : (0 < length es) × (length es ≤ certificate_node_limit) = (some, omega arith) in
      All-cons (Fits c) (line.Span (length es)) (map line.Entry es) count (All-map (Fits c) line.Entry es (λ k d low.
      let at = slice_get-get_or es k d low in
      let number = entry_number t nodes root span is k (get_or es k d) at in
      let parent = entry_parent t nodes root span is k (get_or es k d) at in
      (number, omega arith)))

  spans_fit : (problems : List NodeName) (spans : List Span) → AllZip (IsSpanOf t (nodes_of c)) problems spans → All (λ s. All (Fits c) (span_lines s)) spans
  spans_fit [] [] are = All-nil (λ s. All (Fits c) (span_lines s))
  spans_fit [] (s ∷ spans) are = absurd are
  spans_fit (p ∷ problems) [] are = absurd are
  spans_fit (p ∷ problems) (s ∷ spans) are =
      All-cons (λ s. All (Fits c) (span_lines s)) s spans (span_fits p s are.0) (spans_fit problems spans are.1)

pub book_is_of_format : (t : Topology) (far : ℕ) (nodes : List NodeName) (numbers : List ℕ) (spans : List Span) → Sound t → HasNames t.model
    → AreNodes t nodes → AreColumnNumbers t nodes numbers → AreSpans t nodes spans → IsWanted far → entries_of spans ≤ entry_limit
    → IsCertificate (Book far nodes numbers spans)
book_is_of_format t far nodes numbers spans sound named are_nodes are_columns are_spans wanted few =
    let c = Book far nodes numbers spans in
    let P = Fits c in
    let few_nodes : length nodes ≤ certificate_node_limit =
    few_among (IsNodeOf t) certificate_node_limit nodes are_nodes.rise (λ n in_nodes. All-contains (IsNodeOf t) nodes n are_nodes.live in_nodes) sound.few_nodes
    in
    let columns = are_columns.columns in
    let few_columns : length columns ≤ column_limit =
    few_among (IsSymptomNode t) column_limit columns are_columns.rise
    (λ n in_columns. let is = All-contains (IsColumn t) columns n are_columns.each in_columns in is.symptom) sound.few_symptoms
    in
    let same_columns = zip_lengths (StandsFor nodes) numbers columns are_columns.names in
    let problems = are_spans.problems in
    let few_problems : length problems ≤ column_limit =
    few_among (IsProblem t) column_limit problems are_spans.problems_are.rise are_spans.problems_are.each sound.few_problems
    in
    let same_spans = zip_lengths (IsSpanOf t nodes) problems spans are_spans.each in
    let nl = node_lines nodes in
    let cl = column_lines numbers in
    let sl = all_span_lines spans in
    let nodes_fit : All P nl = All-cons P (line.Nodes (length nodes)) (map line.Node nodes) few_nodes
    (All-map P line.Node nodes (λ k d low. names_fit t sound named (get_or nodes k d) (are_nodes.live k d low)))
    in
    let count : length numbers ≤ column_limit = omega arith in
    let columns_fit : All P cl = All-cons P (line.Columns (length numbers)) (map line.Column numbers) count
    (All-map P line.Column numbers (numbers_fit nodes numbers columns are_columns.names))
    in
    let span_count : length spans ≤ column_limit = omega arith in
    let spans_are : All P sl = All-cons P (line.Spans (length spans)) (flat_map span_lines spans) span_count
    (all_joined P span_lines spans (spans_fit t c few_nodes problems spans are_spans.each))
    in
    let body = nl ++ (cl ++ sl) in
    let claim = line.Book ∷ line.Distance far ∷ body in
    let body_fits : All P body = All-append P nl (cl ++ sl) nodes_fit (All-append P cl sl columns_fit spans_are) in
    let claim_fits : All P claim = All-cons P line.Book (line.Distance far ∷ body) tt (All-cons P (line.Distance far) body wanted body_fits) in
    let whole : All P (certificate_lines c) = All-cons P (line.Header First) (claim ++ line.End ∷ []) tt
    (All-append P claim (line.End ∷ []) claim_fits (All-cons P line.End [] tt (All-nil P)))
    in
    let e1 = sum_by-cons entries_in (line.Header First) (claim ++ line.End ∷ []) in
    let e2 = sum_by-append entries_in claim (line.End ∷ []) in
    let e3 = sum_by-cons entries_in line.Book (line.Distance far ∷ body) in
    let e4 = sum_by-cons entries_in (line.Distance far) body in
    let e5 = sum_by-append entries_in nl (cl ++ sl) in
    let e6 = sum_by-append entries_in cl sl in
    let e7 = sum_by-cons entries_in (line.Nodes (length nodes)) (map line.Node nodes) in
    let e8 = sum_by-cons entries_in (line.Columns (length numbers)) (map line.Column numbers) in
    let e9 = sum_by-cons entries_in (line.Spans (length spans)) (flat_map span_lines spans) in
    let n0 = no_entries line.Node (λ n. refl) nodes in
    let c0 = no_entries line.Column (λ i. refl) numbers in
    let s0 = span_entries spans in
    record { fit = whole; few = omega arith }

-- the lines of a side fit, and tell no more entries than there are nodes
side_fits : (t : Topology) (c : Certificate) → length (nodes_of c) ≤ certificate_node_limit → (first : Side) → IsSide t (nodes_of c) first
    → All (Fits c) (side_lines first) × (sum_by entries_in (side_lines first) ≤ length (nodes_of c))
side_fits t c few side.Quiet is = (All-cons (Fits c) line.Quiet [] tt (All-nil (Fits c)), (let e = sum_by-cons entries_in line.Quiet [] in omega arith))
side_fits t c few (side.Root span) is =
    let short = few_entries t (nodes_of c) is.root span is.is in
    let count = one_span_entries span in
    (span_fits t c few is.root span is.is, omega arith)

pub thin_is_of_format : (t : Topology) (wanted far : ℕ) (nodes : List NodeName) (first : Side) (second : Span) → Sound t → HasNames t.model
    → AreNodes t nodes → IsSide t nodes first → IsSpanOfProblem t nodes second → IsWanted wanted → far ≤ column_limit
    → IsCertificate (Thin wanted far nodes first second)
thin_is_of_format t wanted far nodes first second sound named are_nodes side_is span_is may low =
    let c = Thin wanted far nodes first second in
    let P = Fits c in
    let few_nodes : length nodes ≤ certificate_node_limit =
    few_among (IsNodeOf t) certificate_node_limit nodes are_nodes.rise (λ n in_nodes. All-contains (IsNodeOf t) nodes n are_nodes.live in_nodes) sound.few_nodes
    in
    let nl = node_lines nodes in
    let fl = side_lines first in
    let sl = span_lines second in
    let nodes_fit : All P nl = All-cons P (line.Nodes (length nodes)) (map line.Node nodes) few_nodes
    (All-map P line.Node nodes (λ k d within. names_fit t sound named (get_or nodes k d) (are_nodes.live k d within)))
    in
    let side = side_fits t c few_nodes first side_is in
    let span = span_fits t c few_nodes span_is.root second span_is.is in
    let body = nl ++ (fl ++ sl) in
    let claim = line.Thin ∷ line.Wanted wanted ∷ line.Distance far ∷ body in
    let body_fits : All P body = All-append P nl (fl ++ sl) nodes_fit (All-append P fl sl side.0 span) in
    let claim_fits : All P claim = All-cons P line.Thin (line.Wanted wanted ∷ line.Distance far ∷ body) tt
    (All-cons P (line.Wanted wanted) (line.Distance far ∷ body) may (All-cons P (line.Distance far) body low body_fits))
    in
    let whole : All P (certificate_lines c) = All-cons P (line.Header First) (claim ++ line.End ∷ []) tt
    (All-append P claim (line.End ∷ []) claim_fits (All-cons P line.End [] tt (All-nil P)))
    in
    let e1 = sum_by-cons entries_in (line.Header First) (claim ++ line.End ∷ []) in
    let e2 = sum_by-append entries_in claim (line.End ∷ []) in
    let e3 = sum_by-cons entries_in line.Thin (line.Wanted wanted ∷ line.Distance far ∷ body) in
    let e4 = sum_by-cons entries_in (line.Wanted wanted) (line.Distance far ∷ body) in
    let e5 = sum_by-cons entries_in (line.Distance far) body in
    let e6 = sum_by-append entries_in nl (fl ++ sl) in
    let e7 = sum_by-append entries_in fl sl in
    let e8 = sum_by-cons entries_in (line.Nodes (length nodes)) (map line.Node nodes) in
    let n0 = no_entries line.Node (λ n. refl) nodes in
    let s0 = one_span_entries second in
    let few_first = side.1 in
    let few_second = few_entries t nodes span_is.root second span_is.is in
    record { fit = whole; few = omega arith }

-- ---- what is of the format can be checked

-- of a side, its spans have as many entries as its lines tell
side_entries : (first : Side) → entries_of (side_spans first) ≡ sum_by entries_in (side_lines first)
side_entries side.Quiet = refl
side_entries (side.Root span) =
    let whole = sum_by-cons (λ (x : Span). length x.entries) span [] in
    let reported = one_span_entries span in
    omega arith

pub format_is_checkable : (c : Certificate) → IsCertificate c → IsCheckable c
format_is_checkable (Book far nodes numbers spans) is =
    let c = Book far nodes numbers spans in
    let P = Fits c in
    let nl = node_lines nodes in
    let cl = column_lines numbers in
    let sl = all_span_lines spans in
    let body = nl ++ (cl ++ sl) in
    let claim = line.Book ∷ line.Distance far ∷ body in
    let claim_fits = all_left P claim (line.End ∷ []) (All-tail P (line.Header First) (claim ++ line.End ∷ []) is.fit) in
    let beyond = All-tail P line.Book (line.Distance far ∷ body) claim_fits in
    let wanted = All-head P (line.Distance far) body beyond in
    let body_fits = All-tail P (line.Distance far) body beyond in
    let few_nodes = All-head P (line.Nodes (length nodes)) (map line.Node nodes) (all_left P nl (cl ++ sl) body_fits) in
    let later = all_right P nl (cl ++ sl) body_fits in
    let few_columns = All-head P (line.Columns (length numbers)) (map line.Column numbers) (all_left P cl sl later) in
    let few_spans = All-head P (line.Spans (length spans)) (flat_map span_lines spans) (all_right P cl sl later) in
    let few = is.few in
    let e1 = sum_by-cons entries_in (line.Header First) (claim ++ line.End ∷ []) in
    let e2 = sum_by-append entries_in claim (line.End ∷ []) in
    let e3 = sum_by-cons entries_in line.Book (line.Distance far ∷ body) in
    let e4 = sum_by-cons entries_in (line.Distance far) body in
    let e5 = sum_by-append entries_in nl (cl ++ sl) in
    let e6 = sum_by-append entries_in cl sl in
    let e9 = sum_by-cons entries_in (line.Spans (length spans)) (flat_map span_lines spans) in
    let s0 = span_entries spans in
    (wanted.0, omega arith)
format_is_checkable (Capped cap nodes numbers radii spans) is =
    let c = Capped cap nodes numbers radii spans in
    let P = Fits c in
    let nl = node_lines nodes in
    let cl = column_lines numbers in
    let rl = radius_lines radii in
    let sl = all_span_lines spans in
    let body = nl ++ (cl ++ (rl ++ sl)) in
    let claim = line.Book ∷ line.Cap cap ∷ body in
    let claim_fits = all_left P claim (line.End ∷ []) (All-tail P (line.Header Second) (claim ++ line.End ∷ []) is.fit) in
    let beyond = All-tail P line.Book (line.Cap cap ∷ body) claim_fits in
    let wanted = All-head P (line.Cap cap) body beyond in
    let body_fits = All-tail P (line.Cap cap) body beyond in
    let few_nodes = All-head P (line.Nodes (length nodes)) (map line.Node nodes) (all_left P nl (cl ++ (rl ++ sl)) body_fits) in
    let later = all_right P nl (cl ++ (rl ++ sl)) body_fits in
    let few_columns = All-head P (line.Columns (length numbers)) (map line.Column numbers) (all_left P cl (rl ++ sl) later) in
    let last = all_right P cl (rl ++ sl) later in
    let few_radii = All-head P (line.Radii (length radii)) (map line.Radius radii) (all_left P rl sl last) in
    let most_radii = few_radii.1 in
    let few_spans = All-head P (line.Spans (length spans)) (flat_map span_lines spans) (all_right P rl sl last) in
    let few = is.few in
    let e1 = sum_by-cons entries_in (line.Header Second) (claim ++ line.End ∷ []) in
    let e2 = sum_by-append entries_in claim (line.End ∷ []) in
    let e3 = sum_by-cons entries_in line.Book (line.Cap cap ∷ body) in
    let e4 = sum_by-cons entries_in (line.Cap cap) body in
    let e5 = sum_by-append entries_in nl (cl ++ (rl ++ sl)) in
    let e6 = sum_by-append entries_in cl (rl ++ sl) in
    let e7 = sum_by-append entries_in rl sl in
    let e9 = sum_by-cons entries_in (line.Spans (length spans)) (flat_map span_lines spans) in
    let s0 = span_entries spans in
    (wanted.0, omega arith, omega arith)
format_is_checkable (Thin wanted far nodes first second) is =
    let c = Thin wanted far nodes first second in
    let P = Fits c in
    let nl = node_lines nodes in
    let fl = side_lines first in
    let sl = span_lines second in
    let body = nl ++ (fl ++ sl) in
    let claim = line.Thin ∷ line.Wanted wanted ∷ line.Distance far ∷ body in
    let claim_fits = all_left P claim (line.End ∷ []) (All-tail P (line.Header First) (claim ++ line.End ∷ []) is.fit) in
    let beyond = All-tail P line.Thin (line.Wanted wanted ∷ line.Distance far ∷ body) claim_fits in
    let body_fits = All-tail P (line.Distance far) body (All-tail P (line.Wanted wanted) (line.Distance far ∷ body) beyond) in
    let few_nodes = All-head P (line.Nodes (length nodes)) (map line.Node nodes) (all_left P nl (fl ++ sl) body_fits) in
    let few = is.few in
    let e1 = sum_by-cons entries_in (line.Header First) (claim ++ line.End ∷ []) in
    let e2 = sum_by-append entries_in claim (line.End ∷ []) in
    let e3 = sum_by-cons entries_in line.Thin (line.Wanted wanted ∷ line.Distance far ∷ body) in
    let e4 = sum_by-cons entries_in (line.Wanted wanted) (line.Distance far ∷ body) in
    let e5 = sum_by-cons entries_in (line.Distance far) body in
    let e6 = sum_by-append entries_in nl (fl ++ sl) in
    let e7 = sum_by-append entries_in fl sl in
    let s0 = one_span_entries second in
    let s1 = side_entries first in
    omega arith
