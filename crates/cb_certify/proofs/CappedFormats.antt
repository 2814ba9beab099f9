-- Where a book is of the format, so is the certificate for a cap with its lists.
use Rattle.std.proofs.Common.{ℕ, ◌<◌, ◌≤◌, List, [], ◌∷◌, ◌++◌, length, get_or, map, refl, arith}
use Rattle.std.specs.Prelude.{⊤}
use Rattle.std.specs.List.{All, flat_map, sum_by}
use Rattle.std.proofs.lemmas.List.Sums.{sum_by-append, sum_by-cons}
use Rattle.std.proofs.lemmas.List.Elements.{All-nil, All-cons, All-tail, All-append, All-map}
use Rattle.cb_model.specs.declared.node.NodeName.{NodeName}
use Rattle.cb_cert.specs.declared.certificate.Certificate.TheVariants.{Book, Capped}
use Rattle.cb_cert.specs.declared.certificate.Span.{Span}
use Rattle.cb_cert.specs.declared.line.CertificateLine.{CertificateLine}
use Rattle.cb_cert.specs.declared.line.CertificateLine.TheVariants as line
use Rattle.cb_cert.specs.declared.line.Version.TheVariants.{First, Second}
use Rattle.cb_cert.specs.Lines.{certificate_lines, node_lines, column_lines, radius_lines, all_span_lines, span_lines}
use Rattle.cb_cert.specs.Format.{Fits, IsWanted, IsCertificate, entries_in, entry_limit, radii_limit, greatest_radius}
use Rattle.cb_cert.proofs.Sizes.{no_entries}
use Rattle.cb_validity.proofs.Passing.{all_joined, all_left, all_right}

-- the line tells no distance
abbrev TellsNoDistance : CertificateLine → Type 0
TellsNoDistance (line.Distance d) = ⊥
TellsNoDistance l = ⊤

span_tells_none : (span : Span) → All TellsNoDistance (span_lines span)
span_tells_none span =
    All-cons TellsNoDistance (line.Span (length span.entries)) (map line.Entry span.entries) tt
    (All-map TellsNoDistance line.Entry span.entries (λ k d low. tt))

module _ (distance cap : ℕ) (nodes : List NodeName) (numbers radii : List ℕ) (spans : List Span) where
  abbrev FitsBook : CertificateLine → Type 0
  FitsBook l = Fits (Book distance nodes numbers spans) l

  abbrev FitsCapped : CertificateLine → Type 0
  FitsCapped l = Fits (Capped cap nodes numbers radii spans) l

  -- a line of a book fits the other, unless it tells the distance
  fits_too : (l : CertificateLine) → TellsNoDistance l → FitsBook l → FitsCapped l
  fits_too (line.Header version) none fits = tt
  fits_too line.Book none fits = tt
  fits_too line.Thin none fits = tt
  fits_too (line.Wanted w) none fits = fits
  fits_too (line.Distance d) none fits = absurd none
  fits_too (line.Cap n) none fits = fits
  fits_too (line.Nodes n) none fits = fits
  fits_too (line.Node n) none fits = fits
  fits_too (line.Columns n) none fits = fits
  fits_too (line.Column i) none fits = fits
  fits_too (line.Radii n) none fits = fits
  fits_too (line.Radius r) none fits = fits
  fits_too (line.Spans n) none fits = fits
  fits_too line.Quiet none fits = tt
  fits_too (line.Span n) none fits = fits
  fits_too (line.Entry e) none fits = fits
  fits_too line.End none fits = tt

  all_fit : (ls : List CertificateLine) → All TellsNoDistance ls → All FitsBook ls → All FitsCapped ls
  all_fit ls none fit = λ k d low. fits_too (get_or ls k d) (none k d low) (fit k d low)

  nodes_tell_none : All TellsNoDistance (node_lines nodes)
  nodes_tell_none =
      All-cons TellsNoDistance (line.Nodes (length nodes)) (map line.Node nodes) tt (All-map TellsNoDistance line.Node nodes (λ k d low. tt))

  columns_tell_none : All TellsNoDistance (column_lines numbers)
  columns_tell_none =
      All-cons TellsNoDistance (line.Columns (length numbers)) (map line.Column numbers) tt (All-map TellsNoDistance line.Column numbers (λ k d low. tt))

  spans_tell_none : All TellsNoDistance (all_span_lines spans)
  spans_tell_none =
      All-cons TellsNoDistance (line.Spans (length spans)) (flat_map span_lines spans) tt
      (all_joined TellsNoDistance span_lines spans (λ k d low. span_tells_none (get_or spans k d)))

  pub capped_is_of_format : IsCertificate (Book distance nodes numbers spans) → IsWanted cap → 0 < length radii → length radii ≤ radii_limit
      → All (λ r. r ≤ greatest_radius) radii → IsCertificate (Capped cap nodes numbers radii spans)
  capped_is_of_format is wanted some few_radii low_radii =
      let P = FitsBook in
      let Q = FitsCapped in
      let nl = node_lines nodes in
      let cl = column_lines numbers in
      let rl = radius_lines radii in
      let sl = all_span_lines spans in
      let book = nl ++ (cl ++ sl) in
      let book_claim = line.Book ∷ line.Distance distance ∷ book in
      let book_fits : All P book =
      All-tail P (line.Distance distance) book (All-tail P line.Book (line.Distance distance ∷ book)
      (all_left P book_claim (line.End ∷ []) (All-tail P (line.Header First) (book_claim ++ line.End ∷ []) is.fit)))
      in
      let none = All-append TellsNoDistance nl (cl ++ sl) nodes_tell_none (All-append TellsNoDistance cl sl columns_tell_none spans_tell_none) in
      let fit = all_fit book none book_fits in
      let later = all_right Q nl (cl ++ sl) fit in
      let radii_fit : All Q rl = All-cons Q (line.Radii (length radii)) (map line.Radius radii) (some, few_radii) (All-map Q line.Radius radii low_radii) in
      let body = nl ++ (cl ++ (rl ++ sl)) in
      let claim = line.Book ∷ line.Cap cap ∷ body in
      let body_fits : All Q body = All-append Q nl (cl ++ (rl ++ sl)) (all_left Q nl (cl ++ sl) fit)
      (All-append Q cl (rl ++ sl) (all_left Q cl sl later) (All-append Q rl sl radii_fit (all_right Q cl sl later)))
      in
      let claim_fits : All Q claim = All-cons Q line.Book (line.Cap cap ∷ body) tt (All-cons Q (line.Cap cap) body wanted body_fits) in
      let whole : All Q (certificate_lines (Capped cap nodes numbers radii spans)) = All-cons Q (line.Header Second) (claim ++ line.End ∷ []) tt
      (All-append Q claim (line.End ∷ []) claim_fits (All-cons Q line.End [] tt (All-nil Q)))
      in
      let few = is.few in
      let b1 = sum_by-cons entries_in (line.Header First) (book_claim ++ line.End ∷ []) in
      let b2 = sum_by-append entries_in book_claim (line.End ∷ []) in
      let b3 = sum_by-cons entries_in line.Book (line.Distance distance ∷ book) in
      let b4 = sum_by-cons entries_in (line.Distance distance) book in
      let b5 = sum_by-append entries_in nl (cl ++ sl) in
      let b6 = sum_by-append entries_in cl sl in
      let e1 = sum_by-cons entries_in (line.Header Second) (claim ++ line.End ∷ []) in
      let e2 = sum_by-append entries_in claim (line.End ∷ []) in
      let e3 = sum_by-cons entries_in line.Book (line.Cap cap ∷ body) in
      let e4 = sum_by-cons entries_in (line.Cap cap) body in
      let e5 = sum_by-append entries_in nl (cl ++ (rl ++ sl)) in
      let e6 = sum_by-append entries_in cl (rl ++ sl) in
      let e7 = sum_by-append entries_in rl sl in
      let e8 = sum_by-cons entries_in (line.Radii (length radii)) (map line.Radius radii) in
      let r0 = no_entries line.Radius (λ r. refl) radii in
      record { fit = whole; few = omega arith }
