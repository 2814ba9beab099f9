-- What may come is what some certificate begins with.
use Rattle.std.proofs.Common.{◌≡◌, ℕ, zero, suc, ◌<◌, ◌≤◌, List, [], ◌∷◌, ◌++◌, length, map, replicate, refl, sym, ap, subst, ◌∙◌, arith}
use Rattle.std.specs.List.{All, flat_map}
use Rattle.std.proofs.lemmas.List.{append_assoc}
use Rattle.std.proofs.lemmas.List.Elements.{All-nil, All-cons, All-weaker}
use Rattle.cb_cert.specs.declared.certificate.Span.{Span}
use Rattle.cb_cert.specs.declared.certificate.Side.TheVariants as side
use Rattle.cb_cert.specs.declared.certificate.Certificate.{Certificate}
use Rattle.cb_cert.specs.declared.certificate.Certificate.TheVariants as certificate
use Rattle.cb_cert.specs.declared.line.CertificateLine.{CertificateLine}
use Rattle.cb_cert.specs.declared.line.CertificateLine.TheVariants as line
use Rattle.cb_cert.specs.declared.line.Version.{Version}
use Rattle.cb_cert.specs.declared.line.Version.TheVariants.{First, Second}
use Rattle.cb_cert.specs.Ahead.{TextPlace, at_kind, at_wanted, at_distance, at_thin_distance, at_cap, at_nodes, at_node, at_columns, at_column, at_radii, at_radius, at_spans, at_span, at_side, at_entry, at_end, MayStand, MayCome, opened, nodes_after, all_places}
use Rattle.cb_cert.specs.Format.{Fits, HasValidNames, IsEntry, IsWanted, nodes_of, certificate_node_limit, column_limit, radii_limit, greatest_radius}
use Rattle.cb_cert.specs.Prefixes.{Begins}
use Rattle.cb_cert.specs.Lines.{certificate_lines, span_lines, node_lines, column_lines, radius_lines, all_span_lines, side_lines}
use Rattle.cb_cert.proofs.Uniques.{three_parts, four_parts}
use Rattle.cb_cert.proofs.Readings.{prefix_part}

-- what fits after the number of nodes, in a certificate with n nodes
abbrev Later : ℕ → CertificateLine → Type 0
Later n (line.Node x) = HasValidNames x
Later n (line.Columns m) = m ≤ column_limit
Later n (line.Column i) = (0 < i) × (i ≤ n)
Later n (line.Radii m) = (0 < m) × (m ≤ radii_limit)
Later n (line.Radius r) = r ≤ greatest_radius
Later n (line.Spans m) = m ≤ column_limit
Later n (line.Span m) = (0 < m) × (m ≤ certificate_node_limit)
Later n (line.Entry e) = IsEntry n e
Later n line.Quiet = Unit {0}
Later n line.End = Unit {0}
Later n l = ⊥

later_fits : (c : Certificate) (n : ℕ) → length (nodes_of c) ≡ n → (l : CertificateLine) → Later n l → Fits c l
later_fits c n e (line.Node x) p = p
later_fits c n e (line.Columns m) p = p
later_fits c n e (line.Column i) p = subst (λ k. (0 < i) × (i ≤ k)) (sym e) p
later_fits c n e (line.Radii m) p = p
later_fits c n e (line.Radius r) p = p
later_fits c n e (line.Spans m) p = p
later_fits c n e (line.Span m) p = p
later_fits c n e (line.Entry x) p = subst (λ k. IsEntry k x) (sym e) p
later_fits c n e line.Quiet p = tt
later_fits c n e line.End p = tt
later_fits c n e l p = absurd p

-- the lines, which fit, are the prefix of a whole such that T
record Fills (n : ℕ) (T : List CertificateLine → Type 0) (ls : List CertificateLine) : Type 0 where
  whole : List CertificateLine
  is : T whole
  more : List CertificateLine
  are : whole ≡ ls ++ more
  fit : All (Later n) ls

-- whatever may come can be completed
abbrev Can : ℕ → List TextPlace → (List CertificateLine → Type 0) → Type 0
Can n ahead T = (ls : List CertificateLine) → MayCome n ahead ls → Fills n T ls

refill : (n : ℕ) (T U : List CertificateLine → Type 0) (ls : List CertificateLine) → ((whole : List CertificateLine) → T whole → U whole) → Fills n T ls → Fills n U ls
refill n T U ls change r = record { whole = r.whole; is = change r.whole r.is; more = r.more; are = r.are; fit = r.fit }

-- one line, and a whole after it
record After {X : Type 0} (f : X → CertificateLine) (T : X → List CertificateLine → Type 0) (whole : List CertificateLine) : Type 0 where
  of : X
  rest : List CertificateLine
  is : T of rest
  whole_is : whole ≡ f of ∷ rest

-- items, a line each, and a whole after them
record Items {X : Type 0} (f : X → CertificateLine) (k : ℕ) (T : List CertificateLine → Type 0) (whole : List CertificateLine) : Type 0 where
  of : List X
  rest : List CertificateLine
  many : length of ≡ k
  is : T rest
  whole_is : whole ≡ map f of ++ rest

-- what stands at a place is a line that f makes
abbrev Back : {X : Type 0} → ℕ → TextPlace → (X → CertificateLine) → Type 0
Back {X} n place f = (l : CertificateLine) → MayStand n place l → (x : X) × (l ≡ f x)

-- lines that f makes stay within the certificate's nodes, fit, and open such places
record Made {X : Type 0} (n : ℕ) (place : TextPlace) (f : X → CertificateLine) (places : X → List TextPlace) : Type 0 where
  back : Back n place f
  keeps : (x : X) → nodes_after n (f x) ≡ n
  opens : (x : X) → opened (f x) place ≡ places x
  fits : (x : X) → MayStand n place (f x) → Later n (f x)

can_one : {X : Type 0} (n : ℕ) (place : TextPlace) (f : X → CertificateLine) (places : X → List TextPlace) (ahead : List TextPlace) (T : X → List CertificateLine → Type 0) (some : X)
    → Made n place f places → ((x : X) → Can n (places x ++ ahead) (T x)) → Can n (place ∷ ahead) (After f T)
can_one n place f places ahead T some made later [] p =
    let r = later some [] tt in
    record { whole = f some ∷ r.whole; is = record { of = some; rest = r.whole; is = r.is; whole_is = refl }; more = f some ∷ r.whole; are = refl; fit = All-nil (Later n) }
can_one n place f places ahead T some made later (l ∷ ls) p =
    let b = made.back l p.0 in
    let x = b.0 in
    let e : l ≡ f x = b.1 in
    let here : MayStand n place (f x) = subst (MayStand n place) e p.0 in
    let moved : MayCome (nodes_after n (f x)) (opened (f x) place ++ ahead) ls = subst (λ m. MayCome (nodes_after n m) (opened m place ++ ahead) ls) e p.1 in
    let kept : MayCome n (opened (f x) place ++ ahead) ls = subst (λ m. MayCome m (opened (f x) place ++ ahead) ls) (made.keeps x) moved in
    let r = later x ls (subst (λ (ps : List TextPlace). MayCome n (ps ++ ahead) ls) (made.opens x) kept) in
    let tail = r.are in
    let whole : f x ∷ r.whole ≡ l ∷ (ls ++ r.more) = cc in
    record {
      whole = f x ∷ r.whole;
      is = record { of = x; rest = r.whole; is = r.is; whole_is = refl };
      more = r.more;
      are = whole;
      fit = All-cons (Later n) l ls (subst (Later n) (sym e) (made.fits x here)) r.fit;
    }

can_items : {X : Type 0} (n : ℕ) (place : TextPlace) (f : X → CertificateLine) (ahead : List TextPlace) (T : List CertificateLine → Type 0) (some : X) (k : ℕ)
    → Made n place f (λ x. []) → Can n ahead T → Can n (replicate k place ++ ahead) (Items f k T)
can_items n place f ahead T some zero made later ls p =
    refill n T (Items f zero T) ls (λ whole is. record { of = []; rest = whole; many = refl; is = is; whole_is = refl }) (later ls p)
can_items n place f ahead T some (suc k) made later ls p =
    refill n (After f (λ x. Items f k T)) (Items f (suc k) T) ls
    (λ whole b. let i = b.is in let first = b.whole_is in let rest = i.whole_is in let many = i.many in
    record { of = b.of ∷ i.of; rest = i.rest; many = ap suc many; is = i.is; whole_is = cc })
    (can_one n place f (λ x. []) (replicate k place ++ ahead) (λ x. Items f k T) some made
    (λ x. can_items n place f ahead T some k made later) ls p)

can_end : (n : ℕ) → Can n [] (λ whole. whole ≡ [])
can_end n [] p = record { whole = []; is = refl; more = []; are = refl; fit = All-nil (Later n) }
can_end n (l ∷ ls) p = absurd p

-- the lines at each place

back_node : (n : ℕ) → Back n at_node line.Node
back_node n (line.Node x) p = (x, refl)
back_node n l p = absurd p

back_columns : (n : ℕ) → Back n at_columns line.Columns
back_columns n (line.Columns x) p = (x, refl)
back_columns n l p = absurd p

back_column : (n : ℕ) → Back n at_column line.Column
back_column n (line.Column x) p = (x, refl)
back_column n l p = absurd p

back_radii : (n : ℕ) → Back n at_radii line.Radii
back_radii n (line.Radii x) p = (x, refl)
back_radii n l p = absurd p

back_radius : (n : ℕ) → Back n at_radius line.Radius
back_radius n (line.Radius x) p = (x, refl)
back_radius n l p = absurd p

back_spans : (n : ℕ) → Back n at_spans line.Spans
back_spans n (line.Spans x) p = (x, refl)
back_spans n l p = absurd p

back_span : (n : ℕ) → Back n at_span line.Span
back_span n (line.Span x) p = (x, refl)
back_span n l p = absurd p

back_entry : (n : ℕ) → Back n at_entry line.Entry
back_entry n (line.Entry x) p = (x, refl)
back_entry n l p = absurd p

back_end : (n : ℕ) → Back n at_end (λ (x : Unit {0}). line.End)
back_end n line.End p = (tt, refl)
back_end n l p = absurd p

made_node : (n : ℕ) → Made n at_node line.Node (λ x. [])
made_node n = record { back = back_node n; keeps = λ x. refl; opens = λ x. refl; fits = λ x p. p }

made_columns : (n : ℕ) → Made n at_columns line.Columns (λ k. replicate k at_column)
made_columns n = record { back = back_columns n; keeps = λ x. refl; opens = λ x. refl; fits = λ x p. p }

made_column : (n : ℕ) → Made n at_column line.Column (λ x. [])
made_column n = record { back = back_column n; keeps = λ x. refl; opens = λ x. refl; fits = λ x p. p }

made_radii : (n : ℕ) → Made n at_radii line.Radii (λ k. replicate k at_radius)
made_radii n = record { back = back_radii n; keeps = λ x. refl; opens = λ x. refl; fits = λ x p. p }

made_radius : (n : ℕ) → Made n at_radius line.Radius (λ x. [])
made_radius n = record { back = back_radius n; keeps = λ x. refl; opens = λ x. refl; fits = λ x p. p }

made_spans : (n : ℕ) → Made n at_spans line.Spans (λ k. replicate k at_span)
made_spans n = record { back = back_spans n; keeps = λ x. refl; opens = λ x. refl; fits = λ x p. p }

made_span : (n : ℕ) → Made n at_span line.Span (λ k. replicate k at_entry)
made_span n = record { back = back_span n; keeps = λ x. refl; opens = λ x. refl; fits = λ x p. p }

made_entry : (n : ℕ) → Made n at_entry line.Entry (λ x. [])
made_entry n = record { back = back_entry n; keeps = λ x. refl; opens = λ x. refl; fits = λ x p. p }

made_end : (n : ℕ) → Made n at_end (λ (x : Unit {0}). line.End) (λ x. [])
made_end n = record { back = back_end n; keeps = λ x. refl; opens = λ x. refl; fits = λ x p. tt }

-- nodes, columns and spans, and what follows them

-- the lines that f makes of something, and a whole after them
record Parts {X : Type 0} (f : X → List CertificateLine) (T : List CertificateLine → Type 0) (whole : List CertificateLine) : Type 0 where
  of : X
  rest : List CertificateLine
  is : T rest
  whole_is : whole ≡ f of ++ rest

-- a number of spans, and a whole after them
record Spans (k : ℕ) (T : List CertificateLine → Type 0) (whole : List CertificateLine) : Type 0 where
  of : List Span
  rest : List CertificateLine
  many : length of ≡ k
  is : T rest
  whole_is : whole ≡ flat_map span_lines of ++ rest

abbrev Last : List CertificateLine → Type 0
Last whole = whole ≡ line.End ∷ []

can_last : (n : ℕ) → Can n (at_end ∷ []) Last
can_last n ls p =
    refill n (After (λ (x : Unit {0}). line.End) (λ x whole. whole ≡ [])) Last ls (λ whole b. let none = b.is in let is = b.whole_is in cc)
    (can_one n at_end (λ (x : Unit {0}). line.End) (λ x. []) [] (λ x whole. whole ≡ []) tt (made_end n) (λ x. can_end n) ls p)

module _ (n : ℕ) (ahead : List TextPlace) (T : List CertificateLine → Type 0) (later : Can n ahead T) where
  can_entries : (k : ℕ) → Can n (replicate k at_entry ++ ahead) (Items line.Entry k T)
  can_entries k = can_items n at_entry line.Entry ahead T (record { node = 1; parent = 0 }) k (made_entry n) later

  can_span : Can n (at_span ∷ ahead) (Parts span_lines T)
  can_span ls p =
      refill n (After line.Span (λ k. Items line.Entry k T)) (Parts span_lines T) ls
      (λ whole b. let i = b.is in let first = b.whole_is in let rest = i.whole_is in let many = i.many in
      record { of = record { entries = i.of }; rest = i.rest; is = i.is; whole_is = cc })
      (can_one n at_span line.Span (λ k. replicate k at_entry) ahead (λ k. Items line.Entry k T) 1 (made_span n) can_entries ls p)

  can_side : Can n (at_side ∷ ahead) (Parts side_lines T)
  can_side [] p =
      let r = later [] tt in
      record {
        whole = line.Quiet ∷ r.whole;
        is = record { of = side.Quiet; rest = r.whole; is = r.is; whole_is = refl };
        more = line.Quiet ∷ r.whole;
        are = refl;
        fit = All-nil (Later n);
      }
  can_side (line.Quiet ∷ ls) p =
      let r = later ls p.1 in
      let tail = r.are in
      let whole : line.Quiet ∷ r.whole ≡ line.Quiet ∷ (ls ++ r.more) = cc in
      record {
        whole = line.Quiet ∷ r.whole;
        is = record { of = side.Quiet; rest = r.whole; is = r.is; whole_is = refl };
        more = r.more;
        are = whole;
        fit = All-cons (Later n) line.Quiet ls tt r.fit;
      }
  can_side (line.Span k ∷ ls) p =
      refill n (Parts span_lines T) (Parts side_lines T) (line.Span k ∷ ls)
      (λ whole b. record { of = side.Root b.of; rest = b.rest; is = b.is; whole_is = b.whole_is }) (can_span (line.Span k ∷ ls) p)
  can_side (l ∷ ls) p = absurd p.0

  can_columns : Can n (at_columns ∷ ahead) (Parts column_lines T)
  can_columns ls p =
      refill n (After line.Columns (λ k. Items line.Column k T)) (Parts column_lines T) ls
      (λ whole b. let i = b.is in let first = b.whole_is in let rest = i.whole_is in let many = i.many in
      record { of = i.of; rest = i.rest; is = i.is; whole_is = cc })
      (can_one n at_columns line.Columns (λ k. replicate k at_column) ahead (λ k. Items line.Column k T) 0 (made_columns n)
      (λ k. can_items n at_column line.Column ahead T 1 k (made_column n) later) ls p)

  can_radii : Can n (at_radii ∷ ahead) (Parts radius_lines T)
  can_radii ls p =
      refill n (After line.Radii (λ k. Items line.Radius k T)) (Parts radius_lines T) ls
      (λ whole b. let i = b.is in let first = b.whole_is in let rest = i.whole_is in let many = i.many in
      record { of = i.of; rest = i.rest; is = i.is; whole_is = cc })
      (can_one n at_radii line.Radii (λ k. replicate k at_radius) ahead (λ k. Items line.Radius k T) 1 (made_radii n)
      (λ k. can_items n at_radius line.Radius ahead T 0 k (made_radius n) later) ls p)

can_many_spans : (n : ℕ) (ahead : List TextPlace) (T : List CertificateLine → Type 0) → Can n ahead T → (k : ℕ) → Can n (replicate k at_span ++ ahead) (Spans k T)
can_many_spans n ahead T later zero ls p =
    refill n T (Spans zero T) ls (λ whole is. record { of = []; rest = whole; many = refl; is = is; whole_is = refl }) (later ls p)
can_many_spans n ahead T later (suc k) ls p =
    refill n (Parts span_lines (Spans k T)) (Spans (suc k) T) ls
    (λ whole b. let i = b.is in let first = b.whole_is in let rest = i.whole_is in let many = i.many in
    let together = append_assoc (span_lines b.of) (flat_map span_lines i.of) i.rest in
    record { of = b.of ∷ i.of; rest = i.rest; many = ap suc many; is = i.is; whole_is = first ∙ (ap (λ ls. span_lines b.of ++ ls) rest ∙ sym together) })
    (can_span n (replicate k at_span ++ ahead) (Spans k T) (can_many_spans n ahead T later k) ls p)

can_all_spans : (n : ℕ) (ahead : List TextPlace) (T : List CertificateLine → Type 0) → Can n ahead T → Can n (at_spans ∷ ahead) (Parts all_span_lines T)
can_all_spans n ahead T later ls p =
    refill n (After line.Spans (λ k. Spans k T)) (Parts all_span_lines T) ls
    (λ whole b. let i = b.is in let first = b.whole_is in let rest = i.whole_is in let many = i.many in
    record { of = i.of; rest = i.rest; is = i.is; whole_is = cc })
    (can_one n at_spans line.Spans (λ k. replicate k at_span) ahead (λ k. Spans k T) 0 (made_spans n) (can_many_spans n ahead T later) ls p)

can_nodes : (n : ℕ) (ahead : List TextPlace) (T : List CertificateLine → Type 0) → Can n ahead T → (k : ℕ) → Can n (replicate k at_node ++ ahead) (Items line.Node k T)
can_nodes n ahead T later k = can_items n at_node line.Node ahead T (record { event = []; instance = [] }) k (made_node n) later

-- the lines of a whole certificate

fitting : (c : Certificate) (l : CertificateLine) (ls : List CertificateLine) → Fits c l → All (Fits c) ls → All (Fits c) (l ∷ ls)
fitting c l ls = All-cons (Fits c) l ls

book_goes_on : (d m : ℕ) → IsWanted d → m ≤ certificate_node_limit → (ls : List CertificateLine) → MayCome m (replicate m at_node ++ at_columns ∷ at_spans ∷ at_end ∷ []) ls
    → Begins (line.Header First ∷ line.Book ∷ line.Distance d ∷ line.Nodes m ∷ ls)
book_goes_on d m wanted low ls p =
    let spans = can_all_spans m (at_end ∷ []) Last (can_last m) in
    let columns = can_columns m (at_spans ∷ at_end ∷ []) (Parts all_span_lines Last) spans in
    let r = can_nodes m (at_columns ∷ at_spans ∷ at_end ∷ []) (Parts column_lines (Parts all_span_lines Last)) columns m ls p in
    let x = r.is in
    let y = x.is in
    let z = y.is in
    let c = certificate.Book d x.of y.of z.of in
    let first = x.whole_is in
    let second = y.whole_is in
    let third = z.whole_is in
    let end = z.is in
    let tail = r.are in
    let many = x.many in
    let body = three_parts (node_lines x.of) (column_lines y.of) (all_span_lines z.of) (line.End ∷ []) in
    let is : certificate_lines c ≡ line.Header First ∷ line.Book ∷ line.Distance d ∷ line.Nodes m ∷ (ls ++ r.more) = cc in
    record {
      of = c;
      few = omega arith;
      more = r.more;
      are = is;
      fit = fitting c (line.Header First) (line.Book ∷ line.Distance d ∷ line.Nodes m ∷ ls) tt
          (fitting c line.Book (line.Distance d ∷ line.Nodes m ∷ ls) tt
          (fitting c (line.Distance d) (line.Nodes m ∷ ls) wanted
          (fitting c (line.Nodes m) ls low (All-weaker (Later m) (Fits c) (later_fits c m many) ls r.fit))));
    }

capped_goes_on : (d m : ℕ) → IsWanted d → m ≤ certificate_node_limit → (ls : List CertificateLine)
    → MayCome m (replicate m at_node ++ at_columns ∷ at_radii ∷ at_spans ∷ at_end ∷ []) ls
    → Begins (line.Header Second ∷ line.Book ∷ line.Cap d ∷ line.Nodes m ∷ ls)
capped_goes_on d m wanted low ls p =
    let spans = can_all_spans m (at_end ∷ []) Last (can_last m) in
    let radii = can_radii m (at_spans ∷ at_end ∷ []) (Parts all_span_lines Last) spans in
    let columns = can_columns m (at_radii ∷ at_spans ∷ at_end ∷ []) (Parts radius_lines (Parts all_span_lines Last)) radii in
    let r = can_nodes m (at_columns ∷ at_radii ∷ at_spans ∷ at_end ∷ []) (Parts column_lines (Parts radius_lines (Parts all_span_lines Last))) columns m ls p in
    let x = r.is in
    let y = x.is in
    let z = y.is in
    let w = z.is in
    let c = certificate.Capped d x.of y.of z.of w.of in
    let first = x.whole_is in
    let second = y.whole_is in
    let third = z.whole_is in
    let fourth = w.whole_is in
    let end = w.is in
    let tail = r.are in
    let many = x.many in
    let body = four_parts (node_lines x.of) (column_lines y.of) (radius_lines z.of) (all_span_lines w.of) (line.End ∷ []) in
    let is : certificate_lines c ≡ line.Header Second ∷ line.Book ∷ line.Cap d ∷ line.Nodes m ∷ (ls ++ r.more) = cc in
    record {
      of = c;
      few = omega arith;
      more = r.more;
      are = is;
      fit = fitting c (line.Header Second) (line.Book ∷ line.Cap d ∷ line.Nodes m ∷ ls) tt
          (fitting c line.Book (line.Cap d ∷ line.Nodes m ∷ ls) tt
          (fitting c (line.Cap d) (line.Nodes m ∷ ls) wanted
          (fitting c (line.Nodes m) ls low (All-weaker (Later m) (Fits c) (later_fits c m many) ls r.fit))));
    }

thin_goes_on : (w d m : ℕ) → IsWanted w → d ≤ column_limit → m ≤ certificate_node_limit → (ls : List CertificateLine)
    → MayCome m (replicate m at_node ++ at_side ∷ at_span ∷ at_end ∷ []) ls
    → Begins (line.Header First ∷ line.Thin ∷ line.Wanted w ∷ line.Distance d ∷ line.Nodes m ∷ ls)
thin_goes_on w d m wanted far low ls p =
    let span = can_span m (at_end ∷ []) Last (can_last m) in
    let first_side = can_side m (at_span ∷ at_end ∷ []) (Parts span_lines Last) span in
    let r = can_nodes m (at_side ∷ at_span ∷ at_end ∷ []) (Parts side_lines (Parts span_lines Last)) first_side m ls p in
    let x = r.is in
    let y = x.is in
    let z = y.is in
    let c = certificate.Thin w d x.of y.of z.of in
    let first = x.whole_is in
    let second = y.whole_is in
    let third = z.whole_is in
    let end = z.is in
    let tail = r.are in
    let many = x.many in
    let body = three_parts (node_lines x.of) (side_lines y.of) (span_lines z.of) (line.End ∷ []) in
    let is : certificate_lines c ≡ line.Header First ∷ line.Thin ∷ line.Wanted w ∷ line.Distance d ∷ line.Nodes m ∷ (ls ++ r.more) = cc in
    record {
      of = c;
      few = omega arith;
      more = r.more;
      are = is;
      fit = fitting c (line.Header First) (line.Thin ∷ line.Wanted w ∷ line.Distance d ∷ line.Nodes m ∷ ls) tt
          (fitting c line.Thin (line.Wanted w ∷ line.Distance d ∷ line.Nodes m ∷ ls) tt
          (fitting c (line.Wanted w) (line.Distance d ∷ line.Nodes m ∷ ls) wanted
          (fitting c (line.Distance d) (line.Nodes m ∷ ls) far
          (fitting c (line.Nodes m) ls low (All-weaker (Later m) (Fits c) (later_fits c m many) ls r.fit)))));
    }

one_wanted : IsWanted 1
one_wanted = ((omega arith), (omega arith))

book_nodes : (d : ℕ) → IsWanted d → (ls : List CertificateLine) → MayCome 0 (at_nodes ∷ at_columns ∷ at_spans ∷ at_end ∷ []) ls
    → Begins (line.Header First ∷ line.Book ∷ line.Distance d ∷ ls)
book_nodes d wanted [] p =
    prefix_part (line.Header First ∷ line.Book ∷ line.Distance d ∷ []) (line.Nodes 0 ∷ []) (book_goes_on d 0 wanted (omega arith) [] tt)
book_nodes d wanted (line.Nodes m ∷ ls) p = book_goes_on d m wanted p.0 ls p.1
book_nodes d wanted (l ∷ ls) p = absurd p.0

book_distance : (ls : List CertificateLine) → MayCome 0 (at_distance ∷ at_nodes ∷ at_columns ∷ at_spans ∷ at_end ∷ []) ls → Begins (line.Header First ∷ line.Book ∷ ls)
book_distance [] p = prefix_part (line.Header First ∷ line.Book ∷ []) (line.Distance 1 ∷ []) (book_nodes 1 one_wanted [] tt)
book_distance (line.Distance d ∷ ls) p = book_nodes d p.0 ls p.1
book_distance (l ∷ ls) p = absurd p.0

capped_nodes : (d : ℕ) → IsWanted d → (ls : List CertificateLine) → MayCome 0 (at_nodes ∷ at_columns ∷ at_radii ∷ at_spans ∷ at_end ∷ []) ls
    → Begins (line.Header Second ∷ line.Book ∷ line.Cap d ∷ ls)
capped_nodes d wanted [] p =
    prefix_part (line.Header Second ∷ line.Book ∷ line.Cap d ∷ []) (line.Nodes 0 ∷ []) (capped_goes_on d 0 wanted (omega arith) [] tt)
capped_nodes d wanted (line.Nodes m ∷ ls) p = capped_goes_on d m wanted p.0 ls p.1
capped_nodes d wanted (l ∷ ls) p = absurd p.0

capped_cap : (ls : List CertificateLine) → MayCome 0 (at_cap ∷ at_nodes ∷ at_columns ∷ at_radii ∷ at_spans ∷ at_end ∷ []) ls
    → Begins (line.Header Second ∷ line.Book ∷ ls)
capped_cap [] p = prefix_part (line.Header Second ∷ line.Book ∷ []) (line.Cap 1 ∷ []) (capped_nodes 1 one_wanted [] tt)
capped_cap (line.Cap d ∷ ls) p = capped_nodes d p.0 ls p.1
capped_cap (l ∷ ls) p = absurd p.0

thin_nodes : (w d : ℕ) → IsWanted w → d ≤ column_limit → (ls : List CertificateLine) → MayCome 0 (at_nodes ∷ at_side ∷ at_span ∷ at_end ∷ []) ls
    → Begins (line.Header First ∷ line.Thin ∷ line.Wanted w ∷ line.Distance d ∷ ls)
thin_nodes w d wanted far [] p =
    prefix_part (line.Header First ∷ line.Thin ∷ line.Wanted w ∷ line.Distance d ∷ []) (line.Nodes 0 ∷ []) (thin_goes_on w d 0 wanted far (omega arith) [] tt)
thin_nodes w d wanted far (line.Nodes m ∷ ls) p = thin_goes_on w d m wanted far p.0 ls p.1
thin_nodes w d wanted far (l ∷ ls) p = absurd p.0

thin_distance : (w : ℕ) → IsWanted w → (ls : List CertificateLine) → MayCome 0 (at_thin_distance ∷ at_nodes ∷ at_side ∷ at_span ∷ at_end ∷ []) ls
    → Begins (line.Header First ∷ line.Thin ∷ line.Wanted w ∷ ls)
thin_distance w wanted [] p =
    prefix_part (line.Header First ∷ line.Thin ∷ line.Wanted w ∷ []) (line.Distance 0 ∷ []) (thin_nodes w 0 wanted (omega arith) [] tt)
thin_distance w wanted (line.Distance d ∷ ls) p = thin_nodes w d wanted p.0 ls p.1
thin_distance w wanted (l ∷ ls) p = absurd p.0

thin_wanted : (ls : List CertificateLine) → MayCome 0 (at_wanted ∷ at_thin_distance ∷ at_nodes ∷ at_side ∷ at_span ∷ at_end ∷ []) ls
    → Begins (line.Header First ∷ line.Thin ∷ ls)
thin_wanted [] p = prefix_part (line.Header First ∷ line.Thin ∷ []) (line.Wanted 1 ∷ []) (thin_distance 1 one_wanted [] tt)
thin_wanted (line.Wanted w ∷ ls) p = thin_distance w p.0 ls p.1
thin_wanted (l ∷ ls) p = absurd p.0

kind_goes_on : (version : Version) (ls : List CertificateLine) → MayCome 0 (at_kind version ∷ at_end ∷ []) ls → Begins (line.Header version ∷ ls)
kind_goes_on First [] p = prefix_part (line.Header First ∷ []) (line.Book ∷ []) (book_distance [] tt)
kind_goes_on First (line.Book ∷ ls) p = book_distance ls p.1
kind_goes_on First (line.Thin ∷ ls) p = thin_wanted ls p.1
kind_goes_on First (l ∷ ls) p = absurd p.0
kind_goes_on Second [] p = prefix_part (line.Header Second ∷ []) (line.Book ∷ []) (capped_cap [] tt)
kind_goes_on Second (line.Book ∷ ls) p = capped_cap ls p.1
kind_goes_on Second (l ∷ ls) p = absurd p.0

-- what may come is what some certificate begins with
pub may_come_begins : (ls : List CertificateLine) → MayCome 0 all_places ls → Begins ls
may_come_begins [] p = prefix_part [] (line.Header First ∷ []) (kind_goes_on First [] tt)
may_come_begins (line.Header version ∷ ls) p = kind_goes_on version ls p.1
may_come_begins (l ∷ ls) p = absurd p.0
