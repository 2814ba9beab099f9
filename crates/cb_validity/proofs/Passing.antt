-- A certificate is valid exactly where it passes all its checks.
use Rattle.std.proofs.Common.{◌≡◌, ◌↔◌, ℕ, zero, suc, ◌+◌, ◌-◌, ◌<◌, ◌≤◌, List, [], ◌∷◌, ◌++◌, length, get_or, map, refl, sym, ap, subst, ◌∙◌, arith, Some, None, inl, inr}
use Rattle.std.specs.Prelude.{slice_get}
use Rattle.std.specs.Option.{option_map}
use Rattle.std.specs.List.{All, AllZip, flat_map, range_with_len}
use Rattle.std.specs.declared.cmp.Ordering.TheVariants.{Less}
use Rattle.std.proofs.lemmas.Bool.{cases_order}
use Rattle.std.proofs.lemmas.List.{length-map}
use Rattle.std.proofs.lemmas.List.FromFn.{length-range_with_len, get_or-range_with_len}
use Rattle.std.proofs.lemmas.List.Elements.{All-nil, All-cons, All-head, All-tail, All-append, All-map, All-weaker}
use Rattle.std.proofs.lemmas.Option.{same_Some, slice_get_within, slice_get-map, slice_get-get_or, get_or_from_slice_get}
use Rattle.cb_model.specs.declared.node.NodeName.{NodeName}
use Rattle.cb_model.specs.declared.wish.Wish.{Wish}
use Rattle.cb_model.specs.declared.wish.Wish.TheVariants.{Plain, Cap}
use Rattle.cb_model.specs.Order.{Rises}
use Rattle.cb_model.specs.NodeOrder.{node_cmp}
use Rattle.cb_model.proofs.Rising.{node_cmp_total}
use Rattle.cb_network.specs.Topology.{Topology}
use Rattle.cb_network.specs.Nodes.{IsNodeOf, IsColumn, AreProblems}
use Rattle.cb_network.proofs.One.{problems_are_one}
use Rattle.cb_cert.specs.declared.certificate.Entry.{Entry}
use Rattle.cb_cert.specs.declared.certificate.Span.{Span}
use Rattle.cb_cert.specs.declared.certificate.Side.{Side}
use Rattle.cb_cert.specs.declared.certificate.Side.TheVariants as side
use Rattle.cb_cert.specs.declared.certificate.Certificate.{Certificate}
use Rattle.cb_cert.specs.declared.certificate.Certificate.TheVariants as certificate
use Rattle.cb_validity.specs.declared.verdict.Rejected.{Rejected}
use Rattle.cb_validity.specs.Reading.{AreApart}
use Rattle.cb_validity.specs.Spans.{AreNodes, StandsFor, IsListedAt, IsEarlier, HasEdge, IsSpanOf}
use Rattle.cb_validity.specs.Valid.{AreColumnNumbers, IsSpanOfProblem, IsSide, IsValidBook, IsValidThin, IsValid}
use Rattle.cb_cert.specs.Format.{nodes_of}
use Rattle.cb_validity.specs.Checks.{Asked, Check, node_check, column_check, root_check, parent_check, edge_check, new_check, closed_check, no_more_problems, no_more_spans, claim_check, radius_check, places, entry_checks, span_checks, asked_of, asked_sides, book_checks, thin_checks, AreChecks, IsGoodNode, IsGoodColumn, IsAskedFor, IsGoodRoot, EntryIs, IsNewInSpan, IsClosedAt, ClaimHolds, certificate_columns, Passes, IsFirstFail}
use Rattle.cb_validity.proofs.SpanLaws.{stands_for_one}

-- lists that go together

pub zip_lengths : {X Y : Type 0} (R : X → Y → Type 0) (xs : List X) (ys : List Y) → AllZip R xs ys → length xs ≡ length ys
zip_lengths R [] [] all = refl
zip_lengths R [] (y ∷ ys) all = absurd all
zip_lengths R (x ∷ xs) [] all = absurd all
zip_lengths R (x ∷ xs) (y ∷ ys) all = let rest = zip_lengths R xs ys all.1 in omega arith

pub zip_at : {X Y : Type 0} (R : X → Y → Type 0) (xs : List X) (ys : List Y) (k : ℕ) (d : X) (e : Y) → AllZip R xs ys → k < length xs
    → R (get_or xs k d) (get_or ys k e)
zip_at R [] [] k d e all low = absurd (omega arith)
zip_at R [] (y ∷ ys) k d e all low = absurd all
zip_at R (x ∷ xs) [] k d e all low = absurd all
zip_at R (x ∷ xs) (y ∷ ys) zero d e all low = all.0
zip_at R (x ∷ xs) (y ∷ ys) (suc k) d e all low = zip_at R xs ys k d e all.1 (omega arith)

-- what holds of all items of lists that are joined, mapped or counted

module _ {X : Type 0} (P : X → Type 0) where
  pub all_left : (xs ys : List X) → All P (xs ++ ys) → All P xs
  all_left [] ys all = All-nil P
  all_left (x ∷ xs) ys all = All-cons P x xs (All-head P x (xs ++ ys) all) (all_left xs ys (All-tail P x (xs ++ ys) all))

  pub all_right : (xs ys : List X) → All P (xs ++ ys) → All P ys
  all_right [] ys all = all
  all_right (x ∷ xs) ys all = all_right xs ys (All-tail P x (xs ++ ys) all)

  pub all_unmapped : {Y : Type 0} (f : Y → X) (ys : List Y) → All P (map f ys) → All (λ y. P (f y)) ys
  all_unmapped f [] all = All-nil (λ y. P (f y))
  all_unmapped f (y ∷ ys) all = All-cons (λ y. P (f y)) y ys (All-head P (f y) (map f ys) all) (all_unmapped f ys (All-tail P (f y) (map f ys) all))

  pub all_split : {Y : Type 0} (f : Y → List X) (ys : List Y) → All P (flat_map f ys) → All (λ y. All P (f y)) ys
  all_split f [] all = All-nil (λ y. All P (f y))
  all_split f (y ∷ ys) all =
      All-cons (λ y. All P (f y)) y ys (all_left (f y) (flat_map f ys) all) (all_split f ys (all_right (f y) (flat_map f ys) all))

  pub all_joined : {Y : Type 0} (f : Y → List X) (ys : List Y) → All (λ y. All P (f y)) ys → All P (flat_map f ys)
  all_joined f [] all = All-nil P
  all_joined f (y ∷ ys) all =
      All-append P (f y) (flat_map f ys) (All-head (λ z. All P (f z)) y ys all) (all_joined f ys (All-tail (λ z. All P (f z)) y ys all))

-- what holds of each number of a range
pub all_of_range : (P : ℕ → Type 0) (a n : ℕ) → All P (range_with_len a n) → (k : ℕ) → a ≤ k → k < a + n → P k
all_of_range P a n all k low high =
    let is : get_or (range_with_len a n) (k - a) 0 ≡ k = get_or-range_with_len a n (k - a) 0 (omega arith) ∙ omega arith in
    subst P is (all (k - a) 0 (omega (arith, length-range_with_len a n)))

pub range_of_all : (P : ℕ → Type 0) (a n : ℕ) → ((k : ℕ) → a ≤ k → k < a + n → P k) → All P (range_with_len a n)
range_of_all P a n each i d low =
    let below : i < n = omega (arith, low, length-range_with_len a n) in
    subst P (sym (get_or-range_with_len a n i d below)) (each (a + i) (omega arith) (omega arith))

-- checks for each place of a list
pub checks_of_places : (P : Check → Type 0) {X : Type 0} (f : ℕ → Check) (xs : List X) → All P (map f (places xs)) → (k : ℕ) → k < length xs → P (f k)
checks_of_places P f xs all k low = all_of_range (λ i. P (f i)) 0 (length xs) (all_unmapped P f (places xs) all) k (omega arith) (omega arith)

pub places_of_checks : (P : Check → Type 0) {X : Type 0} (f : ℕ → Check) (xs : List X) → ((k : ℕ) → k < length xs → P (f k)) → All P (map f (places xs))
places_of_checks P f xs each = All-map P f (places xs) (range_of_all (λ i. P (f i)) 0 (length xs) (λ k low high. each k (omega arith)))

-- nodes each above the one before are in strict order
module _ (nodes : List NodeName) (above : (k : ℕ) (x y : NodeName) → slice_get nodes k ≡ Some x → slice_get nodes (suc k) ≡ Some y → node_cmp x y ≡ Less)
  where
    rises_by : (gap i : ℕ) (d : NodeName) → suc (i + gap) < length nodes → node_cmp (get_or nodes i d) (get_or nodes (suc (i + gap)) d) ≡ Less
    rises_by zero i d low =
        let e : i + 0 ≡ i = omega arith in
        rw e (above i (get_or nodes i d) (get_or nodes (suc i) d) (slice_get-get_or nodes i d (omega arith)) (slice_get-get_or nodes (suc i) d (omega arith)))
    rises_by (suc gap) i d low =
        let before = rises_by gap i d (omega arith) in
        let e : i + suc gap ≡ suc (i + gap) = omega arith in
        let last : node_cmp (get_or nodes (suc (i + gap)) d) (get_or nodes (suc (suc (i + gap))) d) ≡ Less =
        above (suc (i + gap)) _ _ (slice_get-get_or nodes (suc (i + gap)) d (omega arith)) (slice_get-get_or nodes (suc (suc (i + gap))) d (omega arith))
        in
        rw e (node_cmp_total.trans (get_or nodes i d) (get_or nodes (suc (i + gap)) d) (get_or nodes (suc (suc (i + gap))) d) before last)

    pub rises_from_next : Rises node_cmp nodes
    rises_from_next i j d low within =
        let e : suc (i + (j - i - 1)) ≡ j = omega arith in
        subst (λ k. node_cmp (get_or nodes i d) (get_or nodes k d) ≡ Less) e (rises_by (j - i - 1) i d (omega arith))

-- in strict order each is above the one before
pub next_from_rises : (nodes : List NodeName) → Rises node_cmp nodes → (k : ℕ) (x y : NodeName) → slice_get nodes k ≡ Some x
    → slice_get nodes (suc k) ≡ Some y → node_cmp x y ≡ Less
next_from_rises nodes rise k x y at_k at_next =
    let within = slice_get_within nodes (suc k) y at_next in
    rw (get_or_from_slice_get nodes k x x at_k, get_or_from_slice_get nodes (suc k) y x at_next) at (rise k (suc k) x (omega arith) within)

module _ (t : Topology) (c : Certificate) where
  -- nodes

  pub nodes_from_checks : All (Passes t c) (map node_check (places (nodes_of c))) → AreNodes t (nodes_of c)
  nodes_from_checks all =
      let nodes = nodes_of c in
      let good : (k : ℕ) → k < length nodes → IsGoodNode t nodes k = checks_of_places (Passes t c) node_check nodes all in
      record {
        rise = rises_from_next nodes (λ k x y at_k at_next.
            let g = good (suc k) (slice_get_within nodes (suc k) y at_next) in
            let same : g.node ≡ y = same_Some g.node y (sym g.is ∙ at_next) in
            subst (λ n. node_cmp x n ≡ Less) same (g.above k x refl at_k));
        live = λ k d low.
            let g = good k low in
            subst (IsNodeOf t) (sym (get_or_from_slice_get nodes k g.node d g.is)) g.live;
      }

  pub checks_from_nodes : AreNodes t (nodes_of c) → All (Passes t c) (map node_check (places (nodes_of c)))
  checks_from_nodes are =
      let nodes = nodes_of c in
      places_of_checks (Passes t c) node_check nodes (λ k low.
      let none : NodeName = record { event = []; instance = [] } in
      let is = slice_get-get_or nodes k none low in
      let good : IsGoodNode t nodes k = record {
        node = get_or nodes k none;
        is = is;
        live = are.live k none low;
        above = λ before other next at. next_from_rises nodes are.rise before other (get_or nodes k none) at (subst (λ i. slice_get nodes i ≡ Some (get_or nodes k none)) next is);
      } in
      good)

-- the span is that of a root that is asked for
abbrev pub IsAskedSpan : Topology → List NodeName → Asked → Type 0
IsAskedSpan t nodes a = (root : NodeName) × IsAskedFor t a.root root × IsSpanOf t nodes root a.span

module _ (t : Topology) (c : Certificate) (a : Asked) where
  span_from_checks : All (Passes t c) (span_checks a) → IsAskedSpan t (nodes_of c) a
  span_from_checks all =
      let nodes = nodes_of c in
      let P = Passes t c in
      let span = a.span in
      let n = length span.entries in
      let later = flat_map (entry_checks a) (range_with_len 1 (n - 1)) in
      let closing = map (closed_check a) (places span.entries) in
      let root : IsGoodRoot t nodes a = All-head P (root_check a) (later ++ closing) all in
      let rest = All-tail P (root_check a) (later ++ closing) all in
      let entries = all_split P (entry_checks a) (range_with_len 1 (n - 1)) (all_left P later closing rest) in
      let some : 0 < n = slice_get_within span.entries 0 root.entry root.is in
      let each : (k : ℕ) → 0 < k → k < n → All P (entry_checks a k) =
      λ k low high. all_of_range (λ i. All P (entry_checks a i)) 1 (n - 1) entries k (omega arith) (omega arith)
      in
      let parent : (k : ℕ) → 0 < k → k < n → EntryIs span k (λ entry. IsEarlier entry k) =
      λ k low high. All-head P (parent_check a k) (edge_check a k ∷ new_check a k ∷ []) (each k low high)
      in
      let after_parent : (k : ℕ) → 0 < k → k < n → All P (edge_check a k ∷ new_check a k ∷ []) =
      λ k low high. All-tail P (parent_check a k) (edge_check a k ∷ new_check a k ∷ []) (each k low high)
      in
      let edge : (k : ℕ) → 0 < k → k < n → EntryIs span k (HasEdge t nodes span) =
      λ k low high. All-head P (edge_check a k) (new_check a k ∷ []) (after_parent k low high)
      in
      let new : (k : ℕ) → 0 < k → k < n → IsNewInSpan nodes span k =
      λ k low high. All-head P (new_check a k) [] (All-tail P (edge_check a k) (new_check a k ∷ []) (after_parent k low high))
      in
      let closed : (k : ℕ) → k < n → IsClosedAt t nodes span k = checks_of_places P (closed_check a) span.entries (all_right P later closing rest) in
      let twice : (i j : ℕ) (m : NodeName) → IsListedAt nodes span i m → IsListedAt nodes span j m → i < j → ⊥ = λ i j m at_i at_j below.
      new j (omega arith) (slice_get_within span.entries j at_j.entry at_j.is) i m below at_i at_j
      in
      let is : IsSpanOf t nodes root.node span = record {
        begins = record { entry = root.entry; first = root.is; names = root.names; alone = root.alone };
        earlier = λ k entry low is.
            let e = parent k low (slice_get_within span.entries k entry is) in
            subst (λ (x : Entry). IsEarlier x k) (same_Some e.0 entry (sym e.1 ∙ is)) e.2;
        edges = λ k entry low is.
            let e = edge k low (slice_get_within span.entries k entry is) in
            subst (HasEdge t nodes span) (same_Some e.0 entry (sym e.1 ∙ is)) e.2;
        once = λ i j m at_i at_j. elim (cases_order i j) [
          | inl same ↦ same
          | inr (inl below) ↦ absurd (twice i j m at_i at_j below)
          | inr (inr above) ↦ absurd (twice j i m at_j at_i above)
        ];
        closed = λ p q listed e. closed listed.0 (slice_get_within span.entries listed.0 listed.1.entry listed.1.is) p q listed.1 e;
      } in
      (root.node, root.right, is)

  checks_from_span : IsAskedSpan t (nodes_of c) a → All (Passes t c) (span_checks a)
  checks_from_span (root, right, is) =
      let nodes = nodes_of c in
      let P = Passes t c in
      let span = a.span in
      let n = length span.entries in
      let later = flat_map (entry_checks a) (range_with_len 1 (n - 1)) in
      let closing = map (closed_check a) (places span.entries) in
      let good : IsGoodRoot t nodes a = record { entry = is.begins.entry; node = root; is = is.begins.first; names = is.begins.names; right = right; alone = is.begins.alone } in
      let none : Entry = record { node = 0; parent = 0 } in
      let each : (k : ℕ) → 0 < k → k < n → All P (entry_checks a k) = λ k low high.
      let at = slice_get-get_or span.entries k none high in
      let parent : Passes t c (parent_check a k) = (get_or span.entries k none, at, is.earlier k (get_or span.entries k none) low at) in
      let edge : Passes t c (edge_check a k) = (get_or span.entries k none, at, is.edges k (get_or span.entries k none) low at) in
      let new : Passes t c (new_check a k) = λ before m below at_before at_k. let same = is.once before k m at_before at_k in omega arith in
      All-cons P (parent_check a k) (edge_check a k ∷ new_check a k ∷ []) parent
      (All-cons P (edge_check a k) (new_check a k ∷ []) edge (All-cons P (new_check a k) [] new (All-nil P)))
      in
      let some : 0 < n = slice_get_within span.entries 0 is.begins.entry is.begins.first in
      let entries = all_joined P (entry_checks a) (range_with_len 1 (n - 1))
      (range_of_all (λ k. All P (entry_checks a k)) 1 (n - 1) (λ k low high. each k (omega arith) (omega arith)))
      in
      let closed = places_of_checks P (closed_check a) span.entries (λ k low p q at e. is.closed p q (k, at) e) in
      All-cons P (root_check a) (later ++ closing) good (All-append P later closing entries closed)

-- columns

no_node : NodeName
no_node = record { event = []; instance = [] }

-- the node of a number
abbrev named : List NodeName → ℕ → NodeName
named nodes i = get_or nodes (i - 1) no_node

named_stands : (nodes : List NodeName) (i : ℕ) (n : NodeName) → StandsFor nodes i n → StandsFor nodes i (named nodes i)
named_stands nodes i n s = record { counted = s.counted; is = slice_get-get_or nodes (i - 1) no_node (slice_get_within nodes (i - 1) n s.is) }

zip_named : (nodes : List NodeName) (numbers : List ℕ) → All (λ i. StandsFor nodes i (named nodes i)) numbers
    → AllZip (StandsFor nodes) numbers (map (named nodes) numbers)
zip_named nodes [] all = tt
zip_named nodes (i ∷ numbers) all =
    (All-head (λ i. StandsFor nodes i (named nodes i)) i numbers all, zip_named nodes numbers (All-tail (λ i. StandsFor nodes i (named nodes i)) i numbers all))

module _ (t : Topology) (nodes : List NodeName) (numbers : List ℕ) where
  columns_from_good : ((k : ℕ) → k < length numbers → IsGoodColumn t nodes numbers k) → AreColumnNumbers t nodes numbers
  columns_from_good good =
      let stand : All (λ i. StandsFor nodes i (named nodes i)) numbers = λ k d low.
      let g = good k low in
      subst (λ i. StandsFor nodes i (named nodes i)) (sym (get_or_from_slice_get numbers k g.number d g.is)) (named_stands nodes g.number g.column g.names)
      in
      let columns = map (named nodes) numbers in
      let at : (k : ℕ) (low : k < length numbers) (x : NodeName) → slice_get columns k ≡ Some x → StandsFor nodes (good k low).number x = λ k low x e.
      let g = good k low in
      let there : slice_get columns k ≡ Some (named nodes g.number) = slice_get-map (named nodes) numbers k ∙ ap (option_map (named nodes)) g.is in
      subst (StandsFor nodes g.number) (same_Some (named nodes g.number) x (sym there ∙ e)) (named_stands nodes g.number g.column g.names)
      in
      let short : length columns ≡ length numbers = length-map numbers (named nodes) in
      record {
        columns = columns;
        names = zip_named nodes numbers stand;
        each = All-map (IsColumn t) (named nodes) numbers (λ k d low.
            let g = good k low in
            let same : g.column ≡ named nodes g.number = stands_for_one nodes g.number g.column (named nodes g.number) g.names (named_stands nodes g.number g.column g.names) in
            let watched : IsColumn t (named nodes g.number) = subst (IsColumn t) same g.watched in
            subst (λ i. IsColumn t (named nodes i)) (sym (get_or_from_slice_get numbers k g.number d g.is)) watched);
        rise = rises_from_next columns (λ k x y at_k at_next.
            let high : suc k < length numbers = omega (arith, short, slice_get_within columns (suc k) y at_next) in
            let g = good (suc k) high in
            let low : k < length numbers = omega arith in
            let same : g.column ≡ y = stands_for_one nodes g.number g.column y g.names (at (suc k) high y at_next) in
            subst (λ n. node_cmp x n ≡ Less) same (g.above k (good k low).number x refl (good k low).is (at k low x at_k)));
      }

  good_from_columns : AreColumnNumbers t nodes numbers → (k : ℕ) → k < length numbers → IsGoodColumn t nodes numbers k
  good_from_columns are k low =
      let columns = are.columns in
      let short : length numbers ≡ length columns = zip_lengths (StandsFor nodes) numbers columns are.names in
      let is = slice_get-get_or numbers k 0 low in
      record {
        number = get_or numbers k 0;
        column = get_or columns k no_node;
        is = is;
        names = zip_at (StandsFor nodes) numbers columns k 0 no_node are.names low;
        watched = are.each k no_node (omega arith);
        above = λ before i other next at stands.
            let below : before < length numbers = slice_get_within numbers before i at in
            let there : StandsFor nodes i (get_or columns before no_node) =
            subst (λ j. StandsFor nodes j (get_or columns before no_node)) (get_or_from_slice_get numbers before i 0 at)
            (zip_at (StandsFor nodes) numbers columns before 0 no_node are.names below)
            in
            let same : get_or columns before no_node ≡ other = stands_for_one nodes i (get_or columns before no_node) other there stands in
            subst (λ n. node_cmp n (get_or columns k no_node) ≡ Less) same (are.rise before k no_node (omega arith) (omega arith));
      }

-- spans of problems

module _ (t : Topology) (nodes : List NodeName) where
  spans_from_asked : (before : ℕ) (problems : List NodeName) (spans : List Span) → length problems ≡ length spans
      → All (IsAskedSpan t nodes) (asked_of before problems spans) → AllZip (IsSpanOf t nodes) problems spans
  spans_from_asked before [] [] same all = tt
  spans_from_asked before [] (s ∷ spans) same all = absurd (cc)
  spans_from_asked before (p ∷ problems) [] same all = absurd (cc)
  spans_from_asked before (p ∷ problems) (s ∷ spans) same all =
      let a : Asked = record { before = before; root = Some p; span = s } in
      let later = asked_of (before + length s.entries) problems spans in
      let first = All-head (IsAskedSpan t nodes) a later all in (
        subst (λ r. IsSpanOf t nodes r s) first.1 first.2,
        spans_from_asked (before + length s.entries) problems spans (omega arith) (All-tail (IsAskedSpan t nodes) a later all),
      )

  asked_from_spans : (before : ℕ) (problems : List NodeName) (spans : List Span) → AllZip (IsSpanOf t nodes) problems spans
      → All (IsAskedSpan t nodes) (asked_of before problems spans)
  asked_from_spans before [] [] are = All-nil (IsAskedSpan t nodes)
  asked_from_spans before [] (s ∷ spans) are = absurd are
  asked_from_spans before (p ∷ problems) [] are = absurd are
  asked_from_spans before (p ∷ problems) (s ∷ spans) are =
      let a : Asked = record { before = before; root = Some p; span = s } in
      All-cons (IsAskedSpan t nodes) a (asked_of (before + length s.entries) problems spans) (p, refl, are.0)
      (asked_from_spans (before + length s.entries) problems spans are.1)

-- a certificate with the parts of a book, which claims that its groups are as far apart as a wish asks

module _ (t : Topology) (c : Certificate) (wish : Wish) (spans : List Span) (problems : List NodeName) (problems_are : AreProblems t problems) where
  abbrev their_nodes : List NodeName
  their_nodes = nodes_of c

  abbrev their_columns : List ℕ
  their_columns = certificate_columns c

  abbrev far_apart : Type 0
  far_apart = AreApart t their_nodes their_columns spans wish

  book_passes : (far_apart → ClaimHolds t c) → IsValidBook t wish their_nodes their_columns spans
      → All (Passes t c) (book_checks problems their_nodes their_columns spans)
  book_passes claims valid =
      let nodes = their_nodes in
      let columns = their_columns in
      let P = Passes t c in
      let first = map node_check (places nodes) in
      let second = map column_check (places columns) in
      let third = flat_map span_checks (asked_of 0 problems spans) in
      let last = no_more_problems problems spans ∷ no_more_spans problems spans ∷ claim_check ∷ [] in
      let are = valid.spans_are in
      let each = subst (λ ps. AllZip (IsSpanOf t nodes) ps spans) (problems_are_one t are.problems problems are.problems_are problems_are) are.each in
      let asked = asked_from_spans t nodes 0 problems spans each in
      let same : length problems ≡ length spans = zip_lengths (IsSpanOf t nodes) problems spans each in
      let checked : All P third = all_joined P span_checks (asked_of 0 problems spans)
      (All-weaker (IsAskedSpan t nodes) (λ a. All P (span_checks a)) (checks_from_span t c) (asked_of 0 problems spans) asked)
      in
      let no_problem : length problems ≤ length spans = omega arith in
      let no_span : length spans ≤ length problems = omega arith in
      let tail : All P last = All-cons P (no_more_problems problems spans) (no_more_spans problems spans ∷ claim_check ∷ []) no_problem
      (All-cons P (no_more_spans problems spans) (claim_check ∷ []) no_span (All-cons P claim_check [] (claims valid.apart) (All-nil P)))
      in
      All-append P first (second ++ (third ++ last)) (checks_from_nodes t c valid.nodes_are)
      (All-append P second (third ++ last) (places_of_checks P column_check columns (good_from_columns t nodes columns valid.columns_are))
      (All-append P third last checked tail))

  book_valid : (ClaimHolds t c → far_apart) → All (Passes t c) (book_checks problems their_nodes their_columns spans)
      → IsValidBook t wish their_nodes their_columns spans
  book_valid claims all =
      let nodes = their_nodes in
      let columns = their_columns in
      let P = Passes t c in
      let first = map node_check (places nodes) in
      let second = map column_check (places columns) in
      let third = flat_map span_checks (asked_of 0 problems spans) in
      let last = no_more_problems problems spans ∷ no_more_spans problems spans ∷ claim_check ∷ [] in
      let beyond = all_right P first (second ++ (third ++ last)) all in
      let rest = all_right P second (third ++ last) beyond in
      let end = all_right P third last rest in
      let no_problem : length problems ≤ length spans = All-head P (no_more_problems problems spans) (no_more_spans problems spans ∷ claim_check ∷ []) end in
      let end' = All-tail P (no_more_problems problems spans) (no_more_spans problems spans ∷ claim_check ∷ []) end in
      let no_span : length spans ≤ length problems = All-head P (no_more_spans problems spans) (claim_check ∷ []) end' in
      let claim = All-head P claim_check [] (All-tail P (no_more_spans problems spans) (claim_check ∷ []) end') in
      let asked = All-weaker (λ a. All P (span_checks a)) (IsAskedSpan t nodes) (span_from_checks t c) (asked_of 0 problems spans)
      (all_split P span_checks (asked_of 0 problems spans) (all_left P third last rest))
      in
      record {
        nodes_are = nodes_from_checks t c (all_left P first (second ++ (third ++ last)) all);
        columns_are = columns_from_good t nodes columns (checks_of_places P column_check columns (all_left P second (third ++ last) beyond));
        spans_are = record { problems = problems; problems_are = problems_are; each = spans_from_asked t nodes 0 problems spans (omega arith) asked };
        apart = claims claim;
      }

-- a thin certificate

module _ (t : Topology) (w d : ℕ) (nodes : List NodeName) (second : Span) where
  side_is_asked : (first : Side) → IsSide t nodes first → IsSpanOfProblem t nodes second → All (IsAskedSpan t nodes) (asked_sides first second)
  side_is_asked side.Quiet is other =
      All-cons (IsAskedSpan t nodes) (record { before = 0; root = None; span = second }) [] (other.root, other.problem, other.is) (All-nil (IsAskedSpan t nodes))
  side_is_asked (side.Root span) is other =
      let a : Asked = record { before = 0; root = None; span = span } in
      let b : Asked = record { before = length span.entries; root = None; span = second } in
      All-cons (IsAskedSpan t nodes) a (b ∷ []) (is.root, is.problem, is.is)
      (All-cons (IsAskedSpan t nodes) b [] (other.root, other.problem, other.is) (All-nil (IsAskedSpan t nodes)))

  asked_is_side : (first : Side) → All (IsAskedSpan t nodes) (asked_sides first second) → IsSide t nodes first × IsSpanOfProblem t nodes second
  asked_is_side side.Quiet all =
      let a : Asked = record { before = 0; root = None; span = second } in
      let is = All-head (IsAskedSpan t nodes) a [] all in
      (tt, record { root = is.0; problem = is.1; is = is.2 })
  asked_is_side (side.Root span) all =
      let a : Asked = record { before = 0; root = None; span = span } in
      let b : Asked = record { before = length span.entries; root = None; span = second } in
      let is = All-head (IsAskedSpan t nodes) a (b ∷ []) all in
      let other = All-head (IsAskedSpan t nodes) b [] (All-tail (IsAskedSpan t nodes) a (b ∷ []) all) in
      (record { root = is.0; problem = is.1; is = is.2 }, record { root = other.0; problem = other.1; is = other.2 })

  thin_passes : (first : Side) → IsValidThin t w d nodes first second → All (Passes t (certificate.Thin w d nodes first second)) (thin_checks nodes first second)
  thin_passes first valid =
      let c = certificate.Thin w d nodes first second in
      let P = Passes t c in
      let asked = side_is_asked first valid.first_is valid.second_is in
      let checked = all_joined P span_checks (asked_sides first second)
      (All-weaker (IsAskedSpan t nodes) (λ a. All P (span_checks a)) (checks_from_span t c) (asked_sides first second) asked)
      in
      All-append P (map node_check (places nodes)) (flat_map span_checks (asked_sides first second) ++ claim_check ∷ []) (checks_from_nodes t c valid.nodes_are)
      (All-append P (flat_map span_checks (asked_sides first second)) (claim_check ∷ []) checked (All-cons P claim_check [] (valid.apart, valid.close) (All-nil P)))

  thin_valid : (first : Side) → All (Passes t (certificate.Thin w d nodes first second)) (thin_checks nodes first second) → IsValidThin t w d nodes first second
  thin_valid first all =
      let c = certificate.Thin w d nodes first second in
      let P = Passes t c in
      let nodes_passed = map node_check (places nodes) in
      let third = flat_map span_checks (asked_sides first second) in
      let rest = all_right P nodes_passed (third ++ claim_check ∷ []) all in
      let claim = All-head P claim_check [] (all_right P third (claim_check ∷ []) rest) in
      let asked = All-weaker (λ a. All P (span_checks a)) (IsAskedSpan t nodes) (span_from_checks t c) (asked_sides first second)
      (all_split P span_checks (asked_sides first second) (all_left P third (claim_check ∷ []) rest))
      in
      let sides = asked_is_side first asked in
      record {
        nodes_are = nodes_from_checks t c (all_left P nodes_passed (third ++ claim_check ∷ []) all);
        first_is = sides.0;
        second_is = sides.1;
        apart = claim.0;
        close = claim.1;
      }

pub valid_is_not_rejected_by : (t : Topology) (c : Certificate) → ((checks : List Check) → AreChecks t c checks → All (Passes t c) checks)
    → (reported : Rejected) → IsFirstFail t c reported → ⊥
valid_is_not_rejected_by t c pass reported first =
    let f = first.2 in
    let all = subst (All (Passes t c)) f.are (pass first.0 first.1) in
    f.fails (All-head (Passes t c) f.check f.after (all_right (Passes t c) f.before (f.check ∷ f.after) all))

pub valid_passes_all : (t : Topology) (c : Certificate) (checks : List Check) → AreChecks t c checks → IsValid t c ↔ All (Passes t c) checks
valid_passes_all t (certificate.Book d nodes columns spans) checks (problems, problems_are, is) =
    let c = certificate.Book d nodes columns spans in (
      (λ valid. subst (All (Passes t c)) (sym is) (book_passes t c (Plain d) spans problems problems_are (λ claim. claim) valid)),
      (λ all. book_valid t c (Plain d) spans problems problems_are (λ claim. claim) (subst (All (Passes t c)) is all)),
    )
valid_passes_all t (certificate.Capped cap nodes columns radii spans) checks (problems, problems_are, is) =
    let c = certificate.Capped cap nodes columns radii spans in
    let first = book_checks problems nodes columns spans in (
      (λ valid. subst (All (Passes t c)) (sym is) (All-append (Passes t c) first (radius_check ∷ [])
          (book_passes t c (Cap cap) spans problems problems_are (λ claim. claim) valid.book)
          (All-cons (Passes t c) radius_check [] valid.radii_are (All-nil (Passes t c))))),
      (λ all. let passed = subst (All (Passes t c)) is all in record {
        book = book_valid t c (Cap cap) spans problems problems_are (λ claim. claim) (all_left (Passes t c) first (radius_check ∷ []) passed);
        radii_are = All-head (Passes t c) radius_check [] (all_right (Passes t c) first (radius_check ∷ []) passed);
      }),
    )
valid_passes_all t (certificate.Thin w d nodes first second) checks is = (
  (λ valid. subst (All (Passes t (certificate.Thin w d nodes first second))) (sym is) (thin_passes t w d nodes second first valid)),
  (λ all. thin_valid t w d nodes second first (subst (All (Passes t (certificate.Thin w d nodes first second))) is all)),
)

pub valid_is_not_rejected : (t : Topology) (c : Certificate) (reported : Rejected) → IsValid t c → IsFirstFail t c reported → ⊥
valid_is_not_rejected t c reported valid first =
    valid_is_not_rejected_by t c (λ checks are. (valid_passes_all t c checks are).0 valid) reported first
