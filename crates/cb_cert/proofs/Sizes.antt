-- How long the text of a certificate is.
use Rattle.std.proofs.Common.{◌≡◌, ℕ, ◌+◌, ◌*◌, ◌<◌, ◌≤◌, List, [], ◌∷◌, ◌++◌, length, map, codes, refl, sym, subst, arith}
use Rattle.std.specs.Fmt.{decimal}
use Rattle.std.specs.List.{All, flat_map, sum_by}
use Rattle.std.proofs.lemmas.Fmt.{length-decimal-le}
use Rattle.std.proofs.lemmas.List.{length-append}
use Rattle.std.proofs.lemmas.List.Sums.{sum_by-append, sum_by-cons}
use Rattle.std.proofs.lemmas.List.Elements.{All-nil, All-cons, All-head, All-tail}
use Rattle.cb_text.specs.Lines.{line_limit, HasShortLines}
use Rattle.cb_model.specs.declared.node.NodeName.{NodeName}
use Rattle.cb_cert.specs.declared.certificate.Certificate.{Certificate}
use Rattle.cb_cert.specs.declared.certificate.Certificate.TheVariants as certificate
use Rattle.cb_cert.specs.declared.certificate.Entry.{Entry}
use Rattle.cb_cert.specs.declared.certificate.Side.{Side}
use Rattle.cb_cert.specs.declared.certificate.Side.TheVariants as side
use Rattle.cb_cert.specs.declared.certificate.Span.{Span}
use Rattle.cb_cert.specs.declared.line.CertificateLine.{CertificateLine}
use Rattle.cb_cert.specs.declared.line.CertificateLine.TheVariants as line
use Rattle.cb_cert.specs.declared.line.Version.TheVariants.{First, Second}
use Rattle.cb_cert.specs.Lines.{certificate_lines, span_lines, node_lines, column_lines, radius_lines, all_span_lines, side_lines, line_text, ended, text_of}
use Rattle.cb_cert.specs.Format.{Fits, IsCertificate, SpellsCertificate, IsDistance, HasValidNames, nodes_of, certificate_node_limit, entries_in}
use Rattle.cb_cert.proofs.TextLines.{few_nodes}

-- ---- lines

-- the length of a line, for those with one number of five digits at most
numbered : (word : List ℕ) (n : ℕ) → n < 100000 → length (word ++ decimal n) ≤ length word + 5
numbered word n small =
    let digits = length-decimal-le 5 n (omega arith) small (omega arith) in
    let whole = length-append word (decimal n) in
    omega arith

-- no line has more bytes than this
most : CertificateLine → ℕ
most (line.Node n) = 132
most l = 22

most_of : (l : CertificateLine) → most l ≤ 132
unfolding most
most_of (line.Header version) = omega arith
most_of line.Book = omega arith
most_of line.Thin = omega arith
most_of (line.Wanted w) = omega arith
most_of (line.Distance d) = omega arith
most_of (line.Cap n) = omega arith
most_of (line.Nodes n) = omega arith
most_of (line.Node n) = omega arith
most_of (line.Columns n) = omega arith
most_of (line.Column i) = omega arith
most_of (line.Radii n) = omega arith
most_of (line.Radius r) = omega arith
most_of (line.Spans n) = omega arith
most_of line.Quiet = omega arith
most_of (line.Span n) = omega arith
most_of (line.Entry e) = omega arith
most_of line.End = omega arith

distance_is_small : (c : Certificate) (d : ℕ) → IsDistance c d → d < 100000
distance_is_small (certificate.Book distance nodes columns spans) d is = let (some, few) = is in omega arith
distance_is_small (certificate.Capped cap nodes columns radii spans) d is = absurd is
distance_is_small (certificate.Thin wanted distance nodes first second) d is = omega (arith, is)

-- the length of four parts
four_parts : (a b c d : List ℕ) → length (a ++ b ++ c ++ d) ≡ length a + length b + length c + length d
four_parts a b c d =
    let whole = length-append (a ++ b ++ c) d in
    let prefix = length-append (a ++ b) c in
    let first = length-append a b in
    omega (arith, whole, prefix, first)

node_line : (n : NodeName) → HasValidNames n → length (codes "node " ++ n.event ++ codes "@" ++ n.instance) ≤ 132
node_line n is =
    let parts = four_parts (codes "node ") n.event (codes "@") n.instance in
    let event = is.0.short in
    let instance = is.1.short in
    omega (arith, parts, event, instance)

entry_line : (e : Entry) → e.node < 100000 → e.parent < 100000 → length (codes "entry " ++ decimal e.node ++ codes " " ++ decimal e.parent) ≤ 22
entry_line e low parent =
    let parts = four_parts (codes "entry ") (decimal e.node) (codes " ") (decimal e.parent) in
    let node_digits = length-decimal-le 5 e.node (omega arith) low (omega arith) in
    let digits = length-decimal-le 5 e.parent (omega arith) parent (omega arith) in
    omega (arith, parts, node_digits, digits)

module _ (c : Certificate) (few : length (nodes_of c) ≤ certificate_node_limit) where
  short_line : (l : CertificateLine) → Fits c l → length (line_text l) ≤ most l
  unfolding most
  short_line (line.Header First) fits = omega arith
  short_line (line.Header Second) fits = omega arith
  short_line line.Book fits = omega arith
  short_line line.Thin fits = omega arith
  short_line (line.Wanted w) fits = let (some, low) = fits in let is = numbered (codes "wanted ") w (omega arith) in omega arith
  short_line (line.Distance d) fits = let is = numbered (codes "distance ") d (distance_is_small c d fits) in omega arith
  short_line (line.Cap n) fits = let (some, low) = fits in let is = numbered (codes "cap ") n (omega arith) in omega arith
  short_line (line.Nodes n) fits = let is = numbered (codes "nodes ") n (omega (arith, fits)) in omega arith
  short_line (line.Node n) fits = node_line n fits
  short_line (line.Columns n) fits = let is = numbered (codes "columns ") n (omega (arith, fits)) in omega arith
  short_line (line.Column i) fits = let (some, low) = fits in let is = numbered (codes "column ") i (omega arith) in omega arith
  short_line (line.Radii n) fits = let (some, low) = fits in let is = numbered (codes "radii ") n (omega arith) in omega arith
  short_line (line.Radius r) fits = let is = numbered (codes "radius ") r (omega (arith, fits)) in omega arith
  short_line (line.Spans n) fits = let is = numbered (codes "spans ") n (omega (arith, fits)) in omega arith
  short_line line.Quiet fits = omega arith
  short_line (line.Span n) fits = let (some, low) = fits in let is = numbered (codes "span ") n (omega arith) in omega arith
  short_line (line.Entry e) fits = let within = fits.0.1 in let parent = fits.1 in entry_line e (omega arith) (omega arith)
  short_line line.End fits = omega arith

  -- with its LF
  ended_line : (l : CertificateLine) → Fits c l → length (ended l) ≤ most l + 1
  ended_line l fits = let short = short_line l fits in let whole = length-append (line_text l) (codes "\n") in omega arith

  -- each line of the text is short
  short_lines : (ls : List CertificateLine) → All (Fits c) ls → All (λ (text : List ℕ). length text ≤ line_limit) (map line_text ls)
  short_lines [] fit = All-nil (λ (text : List ℕ). length text ≤ line_limit)
  short_lines (l ∷ ls) fit =
      let here = short_line l (All-head (Fits c) l ls fit) in
      let low = most_of l in
      All-cons (λ (text : List ℕ). length text ≤ line_limit) (line_text l) (map line_text ls) (omega arith) (short_lines ls (All-tail (Fits c) l ls fit))

-- ---- the whole text

-- what holds of all of two lists holds of each
all_prefix : {X : Type 0} (P : X → Type 0) (xs ys : List X) → All P (xs ++ ys) → All P xs
all_prefix P [] ys all = All-nil P
all_prefix P (x ∷ xs) ys all = All-cons P x xs (All-head P x (xs ++ ys) all) (all_prefix P xs ys (All-tail P x (xs ++ ys) all))

all_back : {X : Type 0} (P : X → Type 0) (xs ys : List X) → All P (xs ++ ys) → All P ys
all_back P [] ys all = all
all_back P (x ∷ xs) ys all = all_back P xs ys (All-tail P x (xs ++ ys) all)

-- how many bytes lines have together
bytes_of : List CertificateLine → ℕ
bytes_of ls = length (flat_map ended ls)

bytes_cons : (l : CertificateLine) (ls : List CertificateLine) → bytes_of (l ∷ ls) ≡ length (ended l) + bytes_of ls
unfolding bytes_of
bytes_cons l ls = length-append (ended l) (flat_map ended ls)

bytes_none : bytes_of [] ≡ 0
unfolding bytes_of
bytes_none = refl

bytes_append : (xs ys : List CertificateLine) → bytes_of (xs ++ ys) ≡ bytes_of xs + bytes_of ys
bytes_append [] ys = let none = bytes_none in omega arith
bytes_append (x ∷ xs) ys =
    let rest = bytes_append xs ys in
    let whole = bytes_cons x (xs ++ ys) in
    let prefix = bytes_cons x xs in
    omega arith

-- nothing on these lines counts entries
pub no_entries : {X : Type 0} (f : X → CertificateLine) → ((x : X) → entries_in (f x) ≡ 0) → (xs : List X) → sum_by entries_in (map f xs) ≡ 0
no_entries f zero_each [] = refl
no_entries f zero_each (x ∷ xs) =
    let rest = no_entries f zero_each xs in
    let here = zero_each x in
    let whole = sum_by-cons entries_in (f x) (map f xs) in
    omega arith

-- how many entries a span's lines tell
pub one_span_entries : (span : Span) → sum_by entries_in (span_lines span) ≡ length span.entries
one_span_entries span =
    let first = sum_by-cons entries_in (line.Span (length span.entries)) (map line.Entry span.entries) in
    let none = no_entries line.Entry (λ e. refl) span.entries in
    omega arith

module _ (c : Certificate) (few : length (nodes_of c) ≤ certificate_node_limit) where
  -- lines of at most 22 bytes
  small_lines : {X : Type 0} (f : X → CertificateLine) → ((x : X) → most (f x) ≡ 22) → (xs : List X) → All (Fits c) (map f xs) → bytes_of (map f xs) ≤ 23 * length xs
  small_lines f is [] fit = let none = bytes_none in omega arith
  small_lines f is (x ∷ xs) fit =
      let here = ended_line c few (f x) (All-head (Fits c) (f x) (map f xs) fit) in
      let low = is x in
      let rest = small_lines f is xs (All-tail (Fits c) (f x) (map f xs) fit) in
      let whole = bytes_cons (f x) (map f xs) in
      omega arith

  node_bytes : (nodes : List NodeName) → All (Fits c) (map line.Node nodes) → bytes_of (map line.Node nodes) ≤ 133 * length nodes
  unfolding most
  node_bytes [] fit = let none = bytes_none in omega arith
  node_bytes (n ∷ nodes) fit =
      let here = ended_line c few (line.Node n) (All-head (Fits c) (line.Node n) (map line.Node nodes) fit) in
      let rest = node_bytes nodes (All-tail (Fits c) (line.Node n) (map line.Node nodes) fit) in
      let whole = bytes_cons (line.Node n) (map line.Node nodes) in
      omega arith

  -- a span: its first line, and a line for each entry
  span_bytes : (span : Span) → All (Fits c) (span_lines span) → bytes_of (span_lines span) ≤ 23 + 23 * sum_by entries_in (span_lines span)
  unfolding most
  span_bytes span fit =
      let first = line.Span (length span.entries) in
      let here = ended_line c few first (All-head (Fits c) first (map line.Entry span.entries) fit) in
      let rest = small_lines line.Entry (λ e. refl) span.entries (All-tail (Fits c) first (map line.Entry span.entries) fit) in
      let whole = bytes_cons first (map line.Entry span.entries) in
      let reported = one_span_entries span in
      omega arith

  spans_bytes : (spans : List Span) → All (Fits c) (flat_map span_lines spans)
      → bytes_of (flat_map span_lines spans) ≤ 23 * length spans + 23 * sum_by entries_in (flat_map span_lines spans)
  spans_bytes [] fit = let none = bytes_none in omega arith
  spans_bytes (span ∷ spans) fit =
      let here = span_bytes span (all_prefix (Fits c) (span_lines span) (flat_map span_lines spans) fit) in
      let rest = spans_bytes spans (all_back (Fits c) (span_lines span) (flat_map span_lines spans) fit) in
      let whole = bytes_append (span_lines span) (flat_map span_lines spans) in
      let reported = sum_by-append entries_in (span_lines span) (flat_map span_lines spans) in
      omega arith

  side_bytes : (first : Side) → All (Fits c) (side_lines first) → bytes_of (side_lines first) ≤ 23 + 23 * sum_by entries_in (side_lines first)
  unfolding most
  side_bytes side.Quiet fit =
      let here = ended_line c few line.Quiet tt in
      let whole = bytes_cons line.Quiet [] in
      let none = bytes_none in
      omega arith
  side_bytes (side.Root span) fit = span_bytes span fit

-- the text of a certificate of the format has at most 32 MiB
book_bytes : (far : ℕ) (nodes : List NodeName) (numbers : List ℕ) (spans : List Span) → IsCertificate (certificate.Book far nodes numbers spans)
    → bytes_of (certificate_lines (certificate.Book far nodes numbers spans)) ≤ 33554432
unfolding most
book_bytes far nodes numbers spans is =
    let c = certificate.Book far nodes numbers spans in
    let P = Fits c in
    let nl = node_lines nodes in
    let cl = column_lines numbers in
    let sl = all_span_lines spans in
    let body = nl ++ (cl ++ sl) in
    let claim = line.Book ∷ line.Distance far ∷ body in
    let claim_fits = all_prefix P claim (line.End ∷ []) (All-tail P (line.Header First) (claim ++ line.End ∷ []) is.fit) in
    let beyond = All-tail P line.Book (line.Distance far ∷ body) claim_fits in
    let body_fits = All-tail P (line.Distance far) body beyond in
    let nodes_fit = all_prefix P nl (cl ++ sl) body_fits in
    let few_nodes = All-head P (line.Nodes (length nodes)) (map line.Node nodes) nodes_fit in
    let later = all_back P nl (cl ++ sl) body_fits in
    let columns_fit = all_prefix P cl sl later in
    let few_columns = All-head P (line.Columns (length numbers)) (map line.Column numbers) columns_fit in
    let spans_fit = all_back P cl sl later in
    let few_spans = All-head P (line.Spans (length spans)) (flat_map span_lines spans) spans_fit in
    let few = is.few in
    -- entries
    let e1 = sum_by-cons entries_in (line.Header First) (claim ++ line.End ∷ []) in
    let e2 = sum_by-append entries_in claim (line.End ∷ []) in
    let e3 = sum_by-cons entries_in line.Book (line.Distance far ∷ body) in
    let e4 = sum_by-cons entries_in (line.Distance far) body in
    let e5 = sum_by-append entries_in nl (cl ++ sl) in
    let e6 = sum_by-append entries_in cl sl in
    let e7 = sum_by-cons entries_in (line.Spans (length spans)) (flat_map span_lines spans) in
    -- bytes
    let b1 = bytes_cons (line.Header First) (claim ++ line.End ∷ []) in
    let b2 = bytes_append claim (line.End ∷ []) in
    let b3 = bytes_cons line.Book (line.Distance far ∷ body) in
    let b4 = bytes_cons (line.Distance far) body in
    let b5 = bytes_append nl (cl ++ sl) in
    let b6 = bytes_append cl sl in
    let b7 = bytes_cons (line.Spans (length spans)) (flat_map span_lines spans) in
    let b8 = bytes_cons (line.Nodes (length nodes)) (map line.Node nodes) in
    let b9 = bytes_cons (line.Columns (length numbers)) (map line.Column numbers) in
    let b10 = bytes_cons line.End [] in
    let b11 = bytes_none in
    -- how many at most
    let m1 = ended_line c few_nodes (line.Header First) tt in
    let m2 = ended_line c few_nodes line.Book tt in
    let m3 = ended_line c few_nodes (line.Distance far) (All-head P (line.Distance far) body beyond) in
    let m4 = ended_line c few_nodes (line.Nodes (length nodes)) few_nodes in
    let m5 = ended_line c few_nodes (line.Columns (length numbers)) few_columns in
    let m6 = ended_line c few_nodes (line.Spans (length spans)) few_spans in
    let m7 = ended_line c few_nodes line.End tt in
    let m8 = node_bytes c few_nodes nodes (All-tail P (line.Nodes (length nodes)) (map line.Node nodes) nodes_fit) in
    let m9 = small_lines c few_nodes line.Column (λ i. refl) numbers (All-tail P (line.Columns (length numbers)) (map line.Column numbers) columns_fit) in
    let m10 = spans_bytes c few_nodes spans (All-tail P (line.Spans (length spans)) (flat_map span_lines spans) spans_fit) in
    omega arith

capped_bytes : (cap : ℕ) (nodes : List NodeName) (numbers radii : List ℕ) (spans : List Span) → IsCertificate (certificate.Capped cap nodes numbers radii spans)
    → bytes_of (certificate_lines (certificate.Capped cap nodes numbers radii spans)) ≤ 33554432
unfolding most
capped_bytes cap nodes numbers radii spans is =
    let c = certificate.Capped cap nodes numbers radii spans in
    let P = Fits c in
    let nl = node_lines nodes in
    let cl = column_lines numbers in
    let rl = radius_lines radii in
    let sl = all_span_lines spans in
    let body = nl ++ (cl ++ (rl ++ sl)) in
    let claim = line.Book ∷ line.Cap cap ∷ body in
    let claim_fits = all_prefix P claim (line.End ∷ []) (All-tail P (line.Header Second) (claim ++ line.End ∷ []) is.fit) in
    let beyond = All-tail P line.Book (line.Cap cap ∷ body) claim_fits in
    let body_fits = All-tail P (line.Cap cap) body beyond in
    let nodes_fit = all_prefix P nl (cl ++ (rl ++ sl)) body_fits in
    let few_nodes = All-head P (line.Nodes (length nodes)) (map line.Node nodes) nodes_fit in
    let later = all_back P nl (cl ++ (rl ++ sl)) body_fits in
    let columns_fit = all_prefix P cl (rl ++ sl) later in
    let few_columns = All-head P (line.Columns (length numbers)) (map line.Column numbers) columns_fit in
    let last = all_back P cl (rl ++ sl) later in
    let radii_fit = all_prefix P rl sl last in
    let few_radii = All-head P (line.Radii (length radii)) (map line.Radius radii) radii_fit in
    let (some_radii, most_radii) = few_radii in
    let spans_fit = all_back P rl sl last in
    let few_spans = All-head P (line.Spans (length spans)) (flat_map span_lines spans) spans_fit in
    let few = is.few in
    -- entries
    let e1 = sum_by-cons entries_in (line.Header Second) (claim ++ line.End ∷ []) in
    let e2 = sum_by-append entries_in claim (line.End ∷ []) in
    let e3 = sum_by-cons entries_in line.Book (line.Cap cap ∷ body) in
    let e4 = sum_by-cons entries_in (line.Cap cap) body in
    let e5 = sum_by-append entries_in nl (cl ++ (rl ++ sl)) in
    let e6 = sum_by-append entries_in cl (rl ++ sl) in
    let e7 = sum_by-append entries_in rl sl in
    let e8 = sum_by-cons entries_in (line.Spans (length spans)) (flat_map span_lines spans) in
    -- bytes
    let b1 = bytes_cons (line.Header Second) (claim ++ line.End ∷ []) in
    let b2 = bytes_append claim (line.End ∷ []) in
    let b3 = bytes_cons line.Book (line.Cap cap ∷ body) in
    let b4 = bytes_cons (line.Cap cap) body in
    let b5 = bytes_append nl (cl ++ (rl ++ sl)) in
    let b6 = bytes_append cl (rl ++ sl) in
    let b7 = bytes_append rl sl in
    let b8 = bytes_cons (line.Spans (length spans)) (flat_map span_lines spans) in
    let b9 = bytes_cons (line.Nodes (length nodes)) (map line.Node nodes) in
    let b10 = bytes_cons (line.Columns (length numbers)) (map line.Column numbers) in
    let b11 = bytes_cons (line.Radii (length radii)) (map line.Radius radii) in
    let b12 = bytes_cons line.End [] in
    let b13 = bytes_none in
    -- how many at most
    let m1 = ended_line c few_nodes (line.Header Second) tt in
    let m2 = ended_line c few_nodes line.Book tt in
    let m3 = ended_line c few_nodes (line.Cap cap) (All-head P (line.Cap cap) body beyond) in
    let m4 = ended_line c few_nodes (line.Nodes (length nodes)) few_nodes in
    let m5 = ended_line c few_nodes (line.Columns (length numbers)) few_columns in
    let m6 = ended_line c few_nodes (line.Radii (length radii)) few_radii in
    let m7 = ended_line c few_nodes (line.Spans (length spans)) few_spans in
    let m8 = ended_line c few_nodes line.End tt in
    let m9 = node_bytes c few_nodes nodes (All-tail P (line.Nodes (length nodes)) (map line.Node nodes) nodes_fit) in
    let m10 = small_lines c few_nodes line.Column (λ i. refl) numbers (All-tail P (line.Columns (length numbers)) (map line.Column numbers) columns_fit) in
    let m11 = small_lines c few_nodes line.Radius (λ r. refl) radii (All-tail P (line.Radii (length radii)) (map line.Radius radii) radii_fit) in
    let m12 = spans_bytes c few_nodes spans (All-tail P (line.Spans (length spans)) (flat_map span_lines spans) spans_fit) in
    omega arith

thin_bytes : (wanted far : ℕ) (nodes : List NodeName) (first : Side) (second : Span) → IsCertificate (certificate.Thin wanted far nodes first second)
    → bytes_of (certificate_lines (certificate.Thin wanted far nodes first second)) ≤ 33554432
unfolding most
thin_bytes wanted far nodes first second is =
    let c = certificate.Thin wanted far nodes first second in
    let P = Fits c in
    let nl = node_lines nodes in
    let fl = side_lines first in
    let sl = span_lines second in
    let body = nl ++ (fl ++ sl) in
    let claim = line.Thin ∷ line.Wanted wanted ∷ line.Distance far ∷ body in
    let claim_fits = all_prefix P claim (line.End ∷ []) (All-tail P (line.Header First) (claim ++ line.End ∷ []) is.fit) in
    let beyond = All-tail P line.Thin (line.Wanted wanted ∷ line.Distance far ∷ body) claim_fits in
    let far_fits = All-tail P (line.Wanted wanted) (line.Distance far ∷ body) beyond in
    let body_fits = All-tail P (line.Distance far) body far_fits in
    let nodes_fit = all_prefix P nl (fl ++ sl) body_fits in
    let few_nodes = All-head P (line.Nodes (length nodes)) (map line.Node nodes) nodes_fit in
    let later = all_back P nl (fl ++ sl) body_fits in
    let few = is.few in
    -- entries
    let e1 = sum_by-cons entries_in (line.Header First) (claim ++ line.End ∷ []) in
    let e2 = sum_by-append entries_in claim (line.End ∷ []) in
    let e3 = sum_by-cons entries_in line.Thin (line.Wanted wanted ∷ line.Distance far ∷ body) in
    let e4 = sum_by-cons entries_in (line.Wanted wanted) (line.Distance far ∷ body) in
    let e5 = sum_by-cons entries_in (line.Distance far) body in
    let e6 = sum_by-append entries_in nl (fl ++ sl) in
    let e7 = sum_by-append entries_in fl sl in
    -- bytes
    let b1 = bytes_cons (line.Header First) (claim ++ line.End ∷ []) in
    let b2 = bytes_append claim (line.End ∷ []) in
    let b3 = bytes_cons line.Thin (line.Wanted wanted ∷ line.Distance far ∷ body) in
    let b4 = bytes_cons (line.Wanted wanted) (line.Distance far ∷ body) in
    let b5 = bytes_cons (line.Distance far) body in
    let b6 = bytes_append nl (fl ++ sl) in
    let b7 = bytes_append fl sl in
    let b8 = bytes_cons (line.Nodes (length nodes)) (map line.Node nodes) in
    let b10 = bytes_cons line.End [] in
    let b11 = bytes_none in
    -- how many at most
    let m1 = ended_line c few_nodes (line.Header First) tt in
    let m2 = ended_line c few_nodes line.Thin tt in
    let m3 = ended_line c few_nodes (line.Wanted wanted) (All-head P (line.Wanted wanted) (line.Distance far ∷ body) beyond) in
    let m4 = ended_line c few_nodes (line.Distance far) (All-head P (line.Distance far) body far_fits) in
    let m5 = ended_line c few_nodes (line.Nodes (length nodes)) few_nodes in
    let m7 = ended_line c few_nodes line.End tt in
    let m8 = node_bytes c few_nodes nodes (All-tail P (line.Nodes (length nodes)) (map line.Node nodes) nodes_fit) in
    let m9 = side_bytes c few_nodes first (all_prefix P fl sl later) in
    let m10 = span_bytes c few_nodes second (all_back P fl sl later) in
    omega arith

pub text_is_short : (c : Certificate) → IsCertificate c → length (text_of c) ≤ 33554432
unfolding bytes_of
text_is_short (certificate.Book far nodes numbers spans) is = book_bytes far nodes numbers spans is
text_is_short (certificate.Capped cap nodes numbers radii spans) is = capped_bytes cap nodes numbers radii spans is
text_is_short (certificate.Thin wanted far nodes first second) is = thin_bytes wanted far nodes first second is

pub spelled_is_short : (text : List ℕ) (c : Certificate) → SpellsCertificate text c → HasShortLines text
spelled_is_short text c spells =
    subst (All (λ (line : List ℕ). length line ≤ line_limit)) (sym spells.lines)
    (short_lines c (few_nodes c spells.is) (certificate_lines c) spells.is.fit)
