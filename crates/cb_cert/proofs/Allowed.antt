-- What a certificate begins with may come.
use Rattle.std.proofs.Common.{◌≡◌, ℕ, List, [], ◌∷◌, ◌++◌, length, map, replicate, sym, subst}
use Rattle.std.specs.List.{All, flat_map}
use Rattle.std.proofs.lemmas.List.{append_assoc}
use Rattle.std.proofs.lemmas.List.Elements.{All-head, All-tail}
use Rattle.cb_model.specs.declared.node.NodeName.{NodeName}
use Rattle.cb_cert.specs.declared.certificate.Entry.{Entry}
use Rattle.cb_cert.specs.declared.certificate.Span.{Span}
use Rattle.cb_cert.specs.declared.certificate.Side.{Side}
use Rattle.cb_cert.specs.declared.certificate.Side.TheVariants as side
use Rattle.cb_cert.specs.declared.certificate.Certificate.{Certificate}
use Rattle.cb_cert.specs.declared.certificate.Certificate.TheVariants as certificate
use Rattle.cb_cert.specs.declared.line.CertificateLine.{CertificateLine}
use Rattle.cb_cert.specs.declared.line.CertificateLine.TheVariants as line
use Rattle.cb_cert.specs.declared.line.Version.TheVariants.{First, Second}
use Rattle.cb_cert.specs.Ahead.{TextPlace, at_header, at_kind, at_wanted, at_distance, at_thin_distance, at_cap, at_nodes, at_node, at_columns, at_column, at_radii, at_radius, at_spans, at_span, at_side, at_entry, at_end, MayStand, MayCome, opened, nodes_after, all_places}
use Rattle.cb_cert.specs.Format.{Fits, nodes_of}
use Rattle.cb_cert.specs.Prefixes.{Begins}
use Rattle.cb_cert.specs.Lines.{certificate_lines, span_lines, node_lines, column_lines, radius_lines, all_span_lines, side_lines}
use Rattle.cb_cert.proofs.Uniques.{three_parts, four_parts}

-- the first of these lines that fit the certificate may come
abbrev Goes : Certificate → ℕ → List TextPlace → List CertificateLine → Type 0
Goes c n ahead whole = (ls more : List CertificateLine) → whole ≡ ls ++ more → All (Fits c) ls → MayCome n ahead ls

goes_end : (c : Certificate) (n : ℕ) → Goes c n [] []
goes_end c n [] more e fit = tt
goes_end c n (l ∷ ls) more e fit = absurd (cc)

goes_cons : (c : Certificate) (n : ℕ) (place : TextPlace) (ahead : List TextPlace) (l : CertificateLine) (rest : List CertificateLine) → (Fits c l → MayStand n place l)
    → Goes c (nodes_after n l) (opened l place ++ ahead) rest → Goes c n (place ∷ ahead) (l ∷ rest)
goes_cons c n place ahead l rest may later [] more e fit = tt
goes_cons c n place ahead l rest may later (m ∷ ls) more e fit =
    let same : m ≡ l = cc in
    let tails : rest ≡ ls ++ more = cc in
    let here : Fits c l = subst (Fits c) same (All-head (Fits c) m ls fit) in
    subst (λ k. MayStand n place k × MayCome (nodes_after n k) (opened k place ++ ahead) ls) (sym same)
    (may here, later ls more tails (All-tail (Fits c) m ls fit))

goes_nodes : (c : Certificate) (n : ℕ) (ahead : List TextPlace) (rest : List CertificateLine) (xs : List NodeName) → Goes c n ahead rest
    → Goes c n (replicate (length xs) at_node ++ ahead) (map line.Node xs ++ rest)
goes_nodes c n ahead rest [] later = later
goes_nodes c n ahead rest (x ∷ xs) later =
    goes_cons c n at_node (replicate (length xs) at_node ++ ahead) (line.Node x) (map line.Node xs ++ rest) (λ fits. fits) (goes_nodes c n ahead rest xs later)

module _ (c : Certificate) where
  goes_columns : (ahead : List TextPlace) (rest : List CertificateLine) (xs : List ℕ) → Goes c (length (nodes_of c)) ahead rest
      → Goes c (length (nodes_of c)) (replicate (length xs) at_column ++ ahead) (map line.Column xs ++ rest)
  goes_columns ahead rest [] later = later
  goes_columns ahead rest (x ∷ xs) later =
      goes_cons c (length (nodes_of c)) at_column (replicate (length xs) at_column ++ ahead) (line.Column x) (map line.Column xs ++ rest) (λ fits. fits)
      (goes_columns ahead rest xs later)

  goes_radii : (ahead : List TextPlace) (rest : List CertificateLine) (xs : List ℕ) → Goes c (length (nodes_of c)) ahead rest
      → Goes c (length (nodes_of c)) (replicate (length xs) at_radius ++ ahead) (map line.Radius xs ++ rest)
  goes_radii ahead rest [] later = later
  goes_radii ahead rest (x ∷ xs) later =
      goes_cons c (length (nodes_of c)) at_radius (replicate (length xs) at_radius ++ ahead) (line.Radius x) (map line.Radius xs ++ rest) (λ fits. fits)
      (goes_radii ahead rest xs later)

  goes_entries : (ahead : List TextPlace) (rest : List CertificateLine) (xs : List Entry) → Goes c (length (nodes_of c)) ahead rest
      → Goes c (length (nodes_of c)) (replicate (length xs) at_entry ++ ahead) (map line.Entry xs ++ rest)
  goes_entries ahead rest [] later = later
  goes_entries ahead rest (x ∷ xs) later =
      goes_cons c (length (nodes_of c)) at_entry (replicate (length xs) at_entry ++ ahead) (line.Entry x) (map line.Entry xs ++ rest) (λ fits. fits)
      (goes_entries ahead rest xs later)

  goes_span : (ahead : List TextPlace) (rest : List CertificateLine) (s : Span) → Goes c (length (nodes_of c)) ahead rest
      → Goes c (length (nodes_of c)) (at_span ∷ ahead) (span_lines s ++ rest)
  goes_span ahead rest s later =
      goes_cons c (length (nodes_of c)) at_span ahead (line.Span (length s.entries)) (map line.Entry s.entries ++ rest) (λ fits. fits)
      (goes_entries ahead rest s.entries later)

  goes_spans : (ahead : List TextPlace) (rest : List CertificateLine) (ss : List Span) → Goes c (length (nodes_of c)) ahead rest
      → Goes c (length (nodes_of c)) (replicate (length ss) at_span ++ ahead) (flat_map span_lines ss ++ rest)
  goes_spans ahead rest [] later = later
  goes_spans ahead rest (s ∷ ss) later =
      subst (Goes c (length (nodes_of c)) (replicate (length (s ∷ ss)) at_span ++ ahead)) (sym (append_assoc (span_lines s) (flat_map span_lines ss) rest))
      (goes_span (replicate (length ss) at_span ++ ahead) (flat_map span_lines ss ++ rest) s (goes_spans ahead rest ss later))

  goes_side : (ahead : List TextPlace) (rest : List CertificateLine) (s : Side) → Goes c (length (nodes_of c)) ahead rest
      → Goes c (length (nodes_of c)) (at_side ∷ ahead) (side_lines s ++ rest)
  goes_side ahead rest side.Quiet later = goes_cons c (length (nodes_of c)) at_side ahead line.Quiet rest (λ fits. tt) later
  goes_side ahead rest (side.Root s) later =
      goes_cons c (length (nodes_of c)) at_side ahead (line.Span (length s.entries)) (map line.Entry s.entries ++ rest) (λ fits. fits)
      (goes_entries ahead rest s.entries later)

  goes_last : Goes c (length (nodes_of c)) (at_end ∷ []) (line.End ∷ [])
  goes_last = goes_cons c (length (nodes_of c)) at_end [] line.End [] (λ fits. tt) (goes_end c (length (nodes_of c)))

goes_whole : (c : Certificate) → Goes c 0 all_places (certificate_lines c)
goes_whole (certificate.Book d nodes columns spans) =
    let c = certificate.Book d nodes columns spans in
    let end = line.End ∷ [] in
    let body = node_lines nodes ++ (column_lines columns ++ (all_span_lines spans ++ end)) in
    let ahead = at_columns ∷ at_spans ∷ at_end ∷ [] in
    let at_the_spans : Goes c (length nodes) (at_spans ∷ at_end ∷ []) (all_span_lines spans ++ end) =
    goes_cons c (length nodes) at_spans (at_end ∷ []) (line.Spans (length spans)) (flat_map span_lines spans ++ end) (λ fits. fits)
    (goes_spans c (at_end ∷ []) end spans (goes_last c))
    in
    let at_the_columns : Goes c (length nodes) ahead (column_lines columns ++ (all_span_lines spans ++ end)) =
    goes_cons c (length nodes) at_columns (at_spans ∷ at_end ∷ []) (line.Columns (length columns)) (map line.Column columns ++ (all_span_lines spans ++ end)) (λ fits. fits)
    (goes_columns c (at_spans ∷ at_end ∷ []) (all_span_lines spans ++ end) columns at_the_spans)
    in
    let at_the_nodes : Goes c 0 (at_nodes ∷ ahead) body =
    goes_cons c 0 at_nodes ahead (line.Nodes (length nodes)) (map line.Node nodes ++ (column_lines columns ++ (all_span_lines spans ++ end))) (λ fits. fits)
    (goes_nodes c (length nodes) ahead (column_lines columns ++ (all_span_lines spans ++ end)) nodes at_the_columns)
    in
    let moved = subst (Goes c 0 (at_nodes ∷ ahead)) (sym (three_parts (node_lines nodes) (column_lines columns) (all_span_lines spans) end)) at_the_nodes in
    let rest = (node_lines nodes ++ (column_lines columns ++ all_span_lines spans)) ++ end in
    goes_cons c 0 at_header (at_end ∷ []) (line.Header First) (line.Book ∷ line.Distance d ∷ rest) (λ fits. tt)
    (goes_cons c 0 (at_kind First) (at_end ∷ []) line.Book (line.Distance d ∷ rest) (λ fits. tt)
    (goes_cons c 0 at_distance (at_nodes ∷ ahead) (line.Distance d) rest (λ fits. fits) moved))
goes_whole (certificate.Capped cap nodes columns radii spans) =
    let c = certificate.Capped cap nodes columns radii spans in
    let end = line.End ∷ [] in
    let from_spans = all_span_lines spans ++ end in
    let from_radii = radius_lines radii ++ from_spans in
    let from_columns = column_lines columns ++ from_radii in
    let ahead = at_columns ∷ at_radii ∷ at_spans ∷ at_end ∷ [] in
    let at_the_spans : Goes c (length nodes) (at_spans ∷ at_end ∷ []) from_spans =
    goes_cons c (length nodes) at_spans (at_end ∷ []) (line.Spans (length spans)) (flat_map span_lines spans ++ end) (λ fits. fits)
    (goes_spans c (at_end ∷ []) end spans (goes_last c))
    in
    let at_the_radii : Goes c (length nodes) (at_radii ∷ at_spans ∷ at_end ∷ []) from_radii =
    goes_cons c (length nodes) at_radii (at_spans ∷ at_end ∷ []) (line.Radii (length radii)) (map line.Radius radii ++ from_spans) (λ fits. fits)
    (goes_radii c (at_spans ∷ at_end ∷ []) from_spans radii at_the_spans)
    in
    let at_the_columns : Goes c (length nodes) ahead from_columns =
    goes_cons c (length nodes) at_columns (at_radii ∷ at_spans ∷ at_end ∷ []) (line.Columns (length columns)) (map line.Column columns ++ from_radii) (λ fits. fits)
    (goes_columns c (at_radii ∷ at_spans ∷ at_end ∷ []) from_radii columns at_the_radii)
    in
    let at_the_nodes : Goes c 0 (at_nodes ∷ ahead) (node_lines nodes ++ from_columns) =
    goes_cons c 0 at_nodes ahead (line.Nodes (length nodes)) (map line.Node nodes ++ from_columns) (λ fits. fits)
    (goes_nodes c (length nodes) ahead from_columns nodes at_the_columns)
    in
    let moved = subst (Goes c 0 (at_nodes ∷ ahead)) (sym (four_parts (node_lines nodes) (column_lines columns) (radius_lines radii) (all_span_lines spans) end)) at_the_nodes in
    let rest = (node_lines nodes ++ (column_lines columns ++ (radius_lines radii ++ all_span_lines spans))) ++ end in
    goes_cons c 0 at_header (at_end ∷ []) (line.Header Second) (line.Book ∷ line.Cap cap ∷ rest) (λ fits. tt)
    (goes_cons c 0 (at_kind Second) (at_end ∷ []) line.Book (line.Cap cap ∷ rest) (λ fits. tt)
    (goes_cons c 0 at_cap (at_nodes ∷ ahead) (line.Cap cap) rest (λ fits. fits) moved))
goes_whole (certificate.Thin w d nodes first second) =
    let c = certificate.Thin w d nodes first second in
    let end = line.End ∷ [] in
    let body = node_lines nodes ++ (side_lines first ++ (span_lines second ++ end)) in
    let ahead = at_side ∷ at_span ∷ at_end ∷ [] in
    let at_the_span : Goes c (length nodes) (at_span ∷ at_end ∷ []) (span_lines second ++ end) = goes_span c (at_end ∷ []) end second (goes_last c) in
    let at_the_side : Goes c (length nodes) ahead (side_lines first ++ (span_lines second ++ end)) =
    goes_side c (at_span ∷ at_end ∷ []) (span_lines second ++ end) first at_the_span
    in
    let at_the_nodes : Goes c 0 (at_nodes ∷ ahead) body =
    goes_cons c 0 at_nodes ahead (line.Nodes (length nodes)) (map line.Node nodes ++ (side_lines first ++ (span_lines second ++ end))) (λ fits. fits)
    (goes_nodes c (length nodes) ahead (side_lines first ++ (span_lines second ++ end)) nodes at_the_side)
    in
    let moved = subst (Goes c 0 (at_nodes ∷ ahead)) (sym (three_parts (node_lines nodes) (side_lines first) (span_lines second) end)) at_the_nodes in
    let rest = (node_lines nodes ++ (side_lines first ++ span_lines second)) ++ end in
    goes_cons c 0 at_header (at_end ∷ []) (line.Header First) (line.Thin ∷ line.Wanted w ∷ line.Distance d ∷ rest) (λ fits. tt)
    (goes_cons c 0 (at_kind First) (at_end ∷ []) line.Thin (line.Wanted w ∷ line.Distance d ∷ rest) (λ fits. tt)
    (goes_cons c 0 at_wanted (at_thin_distance ∷ at_nodes ∷ ahead) (line.Wanted w) (line.Distance d ∷ rest) (λ fits. fits)
    (goes_cons c 0 at_thin_distance (at_nodes ∷ ahead) (line.Distance d) rest (λ fits. fits) moved)))

-- what a certificate begins with may come
pub prefixes_may_come : (ls : List CertificateLine) → Begins ls → MayCome 0 all_places ls
prefixes_may_come ls prefix = goes_whole prefix.of ls prefix.more prefix.are prefix.fit
