-- A certificate is known by its lines.
use Rattle.std.proofs.Common.{◌≡◌, ℕ, List, [], ◌∷◌, ◌++◌, length, map, refl, sym, ap, ◌∙◌, arith}
use Rattle.std.specs.List.{flat_map}
use Rattle.std.proofs.lemmas.List.{append_assoc, append-nil}
use Rattle.cb_model.specs.declared.node.NodeName.{NodeName}
use Rattle.cb_cert.specs.declared.certificate.Span.{Span}
use Rattle.cb_cert.specs.declared.certificate.Side.{Side}
use Rattle.cb_cert.specs.declared.certificate.Side.TheVariants as side
use Rattle.cb_cert.specs.declared.certificate.Certificate.{Certificate}
use Rattle.cb_cert.specs.declared.certificate.Certificate.TheVariants as certificate
use Rattle.cb_cert.specs.declared.line.CertificateLine.{CertificateLine}
use Rattle.cb_cert.specs.declared.line.CertificateLine.TheVariants as line
use Rattle.cb_cert.specs.Lines.{certificate_lines, span_lines, node_lines, column_lines, radius_lines, all_span_lines, side_lines}

heads : {X : Type 0} (x y : X) (xs ys : List X) → x ∷ xs ≡ y ∷ ys → (x ≡ y) × (xs ≡ ys)
heads x y xs ys e = (cc, cc)

-- two lists of one length, each followed by something, are one where the whole is
cut : {X Y : Type 0} (f : X → Y) → ((x x' : X) → f x ≡ f x' → x ≡ x') → (xs ys : List X) (us vs : List Y) → length xs ≡ length ys
    → map f xs ++ us ≡ map f ys ++ vs → (xs ≡ ys) × (us ≡ vs)
cut f one [] [] us vs l e = (refl, e)
cut f one [] (y ∷ ys) us vs l e = absurd (cc)
cut f one (x ∷ xs) [] us vs l e = absurd (cc)
cut f one (x ∷ xs) (y ∷ ys) us vs l e =
    let h = heads (f x) (f y) (map f xs ++ us) (map f ys ++ vs) e in
    let same = one x y h.0 in
    let rest = cut f one xs ys us vs (omega arith) h.1 in
    let tails = rest.0 in
    (cc, rest.1)

-- a span and what follows it
cut_span : (a b : Span) (us vs : List CertificateLine) → span_lines a ++ us ≡ span_lines b ++ vs → (a ≡ b) × (us ≡ vs)
cut_span a b us vs e =
    let h = heads (line.Span (length a.entries)) (line.Span (length b.entries)) (map line.Entry a.entries ++ us) (map line.Entry b.entries ++ vs) e in
    let count = h.0 in
    let short : length a.entries ≡ length b.entries = cc in
    let rest = cut line.Entry (λ x y same. cc) a.entries b.entries us vs short h.1 in
    let entries = rest.0 in
    ((λ i. record { entries = entries i }), rest.1)

-- spans and what follows them
cut_spans : (xs ys : List Span) (us vs : List CertificateLine) → length xs ≡ length ys → flat_map span_lines xs ++ us ≡ flat_map span_lines ys ++ vs
    → (xs ≡ ys) × (us ≡ vs)
cut_spans [] [] us vs l e = (refl, e)
cut_spans [] (y ∷ ys) us vs l e = absurd (cc)
cut_spans (x ∷ xs) [] us vs l e = absurd (cc)
cut_spans (x ∷ xs) (y ∷ ys) us vs l e =
    let moved = sym (append_assoc (span_lines x) (flat_map span_lines xs) us) ∙ (e ∙ append_assoc (span_lines y) (flat_map span_lines ys) vs) in
    let first = cut_span x y (flat_map span_lines xs ++ us) (flat_map span_lines ys ++ vs) moved in
    let rest = cut_spans xs ys us vs (omega arith) first.1 in
    let here = first.0 in
    let tails = rest.0 in
    (cc, rest.1)

-- nodes and what follows them
cut_nodes : (xs ys : List NodeName) (us vs : List CertificateLine) → node_lines xs ++ us ≡ node_lines ys ++ vs → (xs ≡ ys) × (us ≡ vs)
cut_nodes xs ys us vs e =
    let h = heads (line.Nodes (length xs)) (line.Nodes (length ys)) (map line.Node xs ++ us) (map line.Node ys ++ vs) e in
    let count = h.0 in
    let short : length xs ≡ length ys = cc in
    cut line.Node (λ x y same. cc) xs ys us vs short h.1

-- columns and what follows them
cut_columns : (xs ys : List ℕ) (us vs : List CertificateLine) → column_lines xs ++ us ≡ column_lines ys ++ vs → (xs ≡ ys) × (us ≡ vs)
cut_columns xs ys us vs e =
    let h = heads (line.Columns (length xs)) (line.Columns (length ys)) (map line.Column xs ++ us) (map line.Column ys ++ vs) e in
    let count = h.0 in
    let short : length xs ≡ length ys = cc in
    cut line.Column (λ x y same. cc) xs ys us vs short h.1

-- radii and what follows them
cut_radii : (xs ys : List ℕ) (us vs : List CertificateLine) → radius_lines xs ++ us ≡ radius_lines ys ++ vs → (xs ≡ ys) × (us ≡ vs)
cut_radii xs ys us vs e =
    let h = heads (line.Radii (length xs)) (line.Radii (length ys)) (map line.Radius xs ++ us) (map line.Radius ys ++ vs) e in
    let count = h.0 in
    let short : length xs ≡ length ys = cc in
    cut line.Radius (λ x y same. cc) xs ys us vs short h.1

-- all spans and what follows them
cut_all_spans : (xs ys : List Span) (us vs : List CertificateLine) → all_span_lines xs ++ us ≡ all_span_lines ys ++ vs → (xs ≡ ys) × (us ≡ vs)
cut_all_spans xs ys us vs e =
    let h = heads (line.Spans (length xs)) (line.Spans (length ys)) (flat_map span_lines xs ++ us) (flat_map span_lines ys ++ vs) e in
    let count = h.0 in
    let short : length xs ≡ length ys = cc in
    cut_spans xs ys us vs short h.1

-- a side and what follows it
cut_side : (a b : Side) (us vs : List CertificateLine) → side_lines a ++ us ≡ side_lines b ++ vs → (a ≡ b) × (us ≡ vs)
cut_side side.Quiet side.Quiet us vs e = (refl, (heads line.Quiet line.Quiet us vs e).1)
cut_side side.Quiet (side.Root b) us vs e = absurd (cc)
cut_side (side.Root a) side.Quiet us vs e = absurd (cc)
cut_side (side.Root a) (side.Root b) us vs e = let parts = cut_span a b us vs e in (ap side.Root parts.0, parts.1)

-- three parts and what follows them
pub three_parts : (xs ys zs us : List CertificateLine) → (xs ++ (ys ++ zs)) ++ us ≡ xs ++ (ys ++ (zs ++ us))
three_parts xs ys zs us = append_assoc xs (ys ++ zs) us ∙ ap (λ (ls : List CertificateLine). xs ++ ls) (append_assoc ys zs us)

-- four parts
pub four_parts : (xs ys zs ws us : List CertificateLine) → (xs ++ (ys ++ (zs ++ ws))) ++ us ≡ xs ++ (ys ++ (zs ++ (ws ++ us)))
four_parts xs ys zs ws us = append_assoc xs (ys ++ (zs ++ ws)) us ∙ ap (λ (ls : List CertificateLine). xs ++ ls) (three_parts ys zs ws us)

-- the lines of a certificate end where those of the same certificate end
pub goes_on : (a b : Certificate) (us : List CertificateLine) → certificate_lines a ≡ certificate_lines b ++ us → (a ≡ b) × (us ≡ [])
goes_on (certificate.Book d ns cs ss) (certificate.Book d' ns' cs' ss') us e =
    let end = line.End ∷ [] in
    let body = (node_lines ns ++ (column_lines cs ++ all_span_lines ss)) ++ end in
    let body' = ((node_lines ns' ++ (column_lines cs' ++ all_span_lines ss')) ++ end) ++ us in
    let distance : d ≡ d' = cc in
    let rest : body ≡ body' = cc in
    let moved : body ≡ (node_lines ns' ++ (column_lines cs' ++ all_span_lines ss')) ++ line.End ∷ us =
    rest ∙ append_assoc (node_lines ns' ++ (column_lines cs' ++ all_span_lines ss')) end us
    in
    let parts = sym (three_parts (node_lines ns) (column_lines cs) (all_span_lines ss) end)
    ∙ (moved ∙ three_parts (node_lines ns') (column_lines cs') (all_span_lines ss') (line.End ∷ us))
    in
    let nodes = cut_nodes ns ns' (column_lines cs ++ (all_span_lines ss ++ end)) (column_lines cs' ++ (all_span_lines ss' ++ line.End ∷ us)) parts in
    let columns = cut_columns cs cs' (all_span_lines ss ++ end) (all_span_lines ss' ++ line.End ∷ us) nodes.1 in
    let spans = cut_all_spans ss ss' end (line.End ∷ us) columns.1 in
    let last = heads line.End line.End [] us spans.1 in
    let n = nodes.0 in
    let c = columns.0 in
    let s = spans.0 in
    (cc, sym last.1)
goes_on (certificate.Book d ns cs ss) (certificate.Capped d' ns' cs' rs' ss') us e = absurd (cc)
goes_on (certificate.Book d ns cs ss) (certificate.Thin w d' ns' first second) us e = absurd (cc)
goes_on (certificate.Capped d ns cs rs ss) (certificate.Book d' ns' cs' ss') us e = absurd (cc)
goes_on (certificate.Capped d ns cs rs ss) (certificate.Thin w d' ns' first second) us e = absurd (cc)
goes_on (certificate.Capped d ns cs rs ss) (certificate.Capped d' ns' cs' rs' ss') us e =
    let end = line.End ∷ [] in
    let body = (node_lines ns ++ (column_lines cs ++ (radius_lines rs ++ all_span_lines ss))) ++ end in
    let parts_of = node_lines ns' ++ (column_lines cs' ++ (radius_lines rs' ++ all_span_lines ss')) in
    let cap : d ≡ d' = cc in
    let rest : body ≡ (parts_of ++ end) ++ us = cc in
    let moved : body ≡ parts_of ++ line.End ∷ us = rest ∙ append_assoc parts_of end us in
    let parts = sym (four_parts (node_lines ns) (column_lines cs) (radius_lines rs) (all_span_lines ss) end)
    ∙ (moved ∙ four_parts (node_lines ns') (column_lines cs') (radius_lines rs') (all_span_lines ss') (line.End ∷ us))
    in
    let nodes = cut_nodes ns ns' (column_lines cs ++ (radius_lines rs ++ (all_span_lines ss ++ end)))
    (column_lines cs' ++ (radius_lines rs' ++ (all_span_lines ss' ++ line.End ∷ us))) parts
    in
    let columns = cut_columns cs cs' (radius_lines rs ++ (all_span_lines ss ++ end)) (radius_lines rs' ++ (all_span_lines ss' ++ line.End ∷ us)) nodes.1 in
    let radii = cut_radii rs rs' (all_span_lines ss ++ end) (all_span_lines ss' ++ line.End ∷ us) columns.1 in
    let spans = cut_all_spans ss ss' end (line.End ∷ us) radii.1 in
    let last = heads line.End line.End [] us spans.1 in
    let n = nodes.0 in
    let c = columns.0 in
    let r = radii.0 in
    let s = spans.0 in
    (cc, sym last.1)
goes_on (certificate.Thin w d ns first second) (certificate.Capped d' ns' cs' rs' ss') us e = absurd (cc)
goes_on (certificate.Thin w d ns first second) (certificate.Book d' ns' cs' ss') us e = absurd (cc)
goes_on (certificate.Thin w d ns first second) (certificate.Thin w' d' ns' first' second') us e =
    let end = line.End ∷ [] in
    let body = (node_lines ns ++ (side_lines first ++ span_lines second)) ++ end in
    let body' = ((node_lines ns' ++ (side_lines first' ++ span_lines second')) ++ end) ++ us in
    let wanted : w ≡ w' = cc in
    let distance : d ≡ d' = cc in
    let rest : body ≡ body' = cc in
    let moved : body ≡ (node_lines ns' ++ (side_lines first' ++ span_lines second')) ++ line.End ∷ us =
    rest ∙ append_assoc (node_lines ns' ++ (side_lines first' ++ span_lines second')) end us
    in
    let parts = sym (three_parts (node_lines ns) (side_lines first) (span_lines second) end)
    ∙ (moved ∙ three_parts (node_lines ns') (side_lines first') (span_lines second') (line.End ∷ us))
    in
    let nodes = cut_nodes ns ns' (side_lines first ++ (span_lines second ++ end)) (side_lines first' ++ (span_lines second' ++ line.End ∷ us)) parts in
    let sides = cut_side first first' (span_lines second ++ end) (span_lines second' ++ line.End ∷ us) nodes.1 in
    let spans = cut_span second second' end (line.End ∷ us) sides.1 in
    let last = heads line.End line.End [] us spans.1 in
    let n = nodes.0 in
    let s = sides.0 in
    let p = spans.0 in
    (cc, sym last.1)

pub lines_are_of_one : (a b : Certificate) → certificate_lines a ≡ certificate_lines b → a ≡ b
lines_are_of_one a b e = (goes_on a b [] (e ∙ sym (append-nil (certificate_lines b)))).0
