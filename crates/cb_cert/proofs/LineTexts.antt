-- A line is known by its text.
use Rattle.std.proofs.Common.{◌≡◌, ℕ, ◌+◌, ◌^◌, ◌<◌, ◌≤◌, ◌%◌, List, [], ◌∷◌, ◌++◌, length, get_or, codes, refl, sym, ap, subst, ◌∙◌, arith, true, false, nat_eq, rules, ◌*◌, ◌⊎◌, suc, inl, inr, if◌then◌else◌}
use Rattle.std.specs.Fmt.{decimal}
use Rattle.std.specs.List.{slice_split}
use Rattle.std.proofs.lemmas.Bool.{false_from_ne_true, eqb-true}
use Rattle.std.proofs.lemmas.Fmt.{decimal_by_steps, decimal_injective}
use Rattle.std.proofs.lemmas.List.{append_assoc, append_cancel_left}
use Rattle.std.proofs.lemmas.List.Splits.{slice_split_at}
use Rattle.std.proofs.lemmas.List.Elements.{All-nil, All-cons, All-append}
use Rattle.cb_text.specs.Names.{IsRun}
use Rattle.cb_text.proofs.Cuts.{Lacks, name_lacks_at}
use Rattle.cb_model.specs.declared.node.NodeName.{NodeName}
use Rattle.cb_cert.specs.declared.certificate.Entry.{Entry}
use Rattle.cb_cert.specs.declared.certificate.Certificate.{Certificate}
use Rattle.cb_cert.specs.declared.certificate.Certificate.TheVariants as certificate
use Rattle.cb_cert.specs.declared.line.CertificateLine.{CertificateLine}
use Rattle.cb_cert.specs.declared.line.CertificateLine.TheVariants as line
use Rattle.cb_cert.specs.declared.line.Version.{Version}
use Rattle.cb_cert.specs.declared.line.Version.TheVariants.{First, Second}
use Rattle.cb_cert.specs.Lines.{line_text}
use Rattle.cb_cert.specs.Format.{Fits, IsDistance, nodes_of, certificate_node_limit}

-- the prefix is what stands before the first of these bytes
pub cut_once : (cut : ℕ) (prefix back other_prefix other_back : List ℕ) → Lacks cut prefix → Lacks cut other_prefix
    → prefix ++ cut ∷ back ≡ other_prefix ++ cut ∷ other_back → (prefix ≡ other_prefix) × (back ≡ other_back)
cut_once cut prefix back other_prefix other_back lacks other_lacks same =
    let here = slice_split_at (λ b. nat_eq b cut) prefix cut back lacks (search rules) in
    let there = slice_split_at (λ b. nat_eq b cut) other_prefix cut other_back other_lacks (search rules) in
    let both = sym here ∙ (ap (slice_split (λ b. nat_eq b cut)) same ∙ there) in
    let prefixes : prefix ≡ other_prefix = cc in
    let tails = append_cancel_left prefix (cut ∷ back) (cut ∷ other_back) (same ∙ ap (λ (f : List ℕ). f ++ cut ∷ other_back) (sym prefixes)) in
    (prefixes, cc)

-- the digits of a number are no space
pub digits_lack_space : (n : ℕ) → n < 2 ^ 64 → Lacks 32 (decimal n)
digits_lack_space n small =
    let digit : (d : ℕ) → Lacks 32 ((48 + d) ∷ []) = λ d.
    All-cons (λ b. nat_eq b 32 ≡ false) (48 + d) [] (false_from_ne_true _ (λ is. let e = eqb-true (48 + d) 32 is in omega arith)) (All-nil (λ b. nat_eq b 32 ≡ false))
    in
    decimal_by_steps (λ m ds. Lacks 32 ds) (λ m low. digit m)
    (λ m ds low lacks. All-append (λ b. nat_eq b 32 ≡ false) ds ((48 + m % 10) ∷ []) lacks (digit (m % 10))) n small

-- the numbers of a line have at most 64 bits, and the event of a node is a name
abbrev pub IsSmall : CertificateLine → Type 0
IsSmall (line.Wanted w) = w < 2 ^ 64
IsSmall (line.Distance d) = d < 2 ^ 64
IsSmall (line.Cap c) = c < 2 ^ 64
IsSmall (line.Nodes n) = n < 2 ^ 64
IsSmall (line.Node n) = IsRun n.event
IsSmall (line.Columns n) = n < 2 ^ 64
IsSmall (line.Column i) = i < 2 ^ 64
IsSmall (line.Radii n) = n < 2 ^ 64
IsSmall (line.Radius r) = r < 2 ^ 64
IsSmall (line.Spans n) = n < 2 ^ 64
IsSmall (line.Span n) = n < 2 ^ 64
IsSmall (line.Entry e) = (e.node < 2 ^ 64) × (e.parent < 2 ^ 64)
IsSmall l = Unit {0}

small_distance : (c : Certificate) (d : ℕ) → IsDistance c d → d < 2 ^ 64
small_distance (certificate.Book e nodes columns spans) d is = let most = is.1 in omega arith
small_distance (certificate.Capped cap nodes columns radii spans) d is = absurd is
small_distance (certificate.Thin w e nodes first second) d is = omega arith

pub fitting_is_small : (c : Certificate) → length (nodes_of c) ≤ certificate_node_limit → (l : CertificateLine) → Fits c l → IsSmall l
fitting_is_small c few (line.Header version) fits = tt
fitting_is_small c few line.Book fits = tt
fitting_is_small c few line.Thin fits = tt
fitting_is_small c few (line.Wanted w) fits = let most = fits.1 in omega arith
fitting_is_small c few (line.Distance d) fits = small_distance c d fits
fitting_is_small c few (line.Cap n) fits = let most = fits.1 in omega arith
fitting_is_small c few (line.Nodes n) fits = omega arith
fitting_is_small c few (line.Node n) fits = fits.0.run
fitting_is_small c few (line.Columns n) fits = omega arith
fitting_is_small c few (line.Column i) fits = let most = fits.1 in omega arith
fitting_is_small c few (line.Radii n) fits = let most = fits.1 in omega arith
fitting_is_small c few (line.Radius r) fits = omega arith
fitting_is_small c few (line.Spans n) fits = omega arith
fitting_is_small c few line.Quiet fits = tt
fitting_is_small c few (line.Span n) fits = let most = fits.1 in omega arith
fitting_is_small c few (line.Entry e) fits = let most = fits.0.1 in let below = fits.1 in ((omega arith), (omega arith))
fitting_is_small c few line.End fits = tt

-- texts that differ in a byte
clash : (k : ℕ) (xs ys : List ℕ) → nat_eq (get_or xs k 0) (get_or ys k 0) ≡ false → xs ≡ ys → ⊥
clash k xs ys differ same =
    let itself : nat_eq (get_or ys k 0) (get_or ys k 0) ≡ true = search rules in
    let at : nat_eq (get_or ys k 0) (get_or ys k 0) ≡ false = subst (λ (zs : List ℕ). nat_eq (get_or zs k 0) (get_or ys k 0) ≡ false) same differ in
    cc

-- a number after a word
numbers : (word : List ℕ) (m n : ℕ) → m < 2 ^ 64 → n < 2 ^ 64 → word ++ decimal m ≡ word ++ decimal n → m ≡ n
numbers word m n small_m small_n e = decimal_injective m n small_m small_n (append_cancel_left word (decimal m) (decimal n) e)

same_node : (m n : NodeName) → IsRun m.event → IsRun n.event → line_text (line.Node m) ≡ line_text (line.Node n) → m ≡ n
same_node m n run_m run_n e =
    let back : (p : NodeName) → codes "node " ++ p.event ++ codes "@" ++ p.instance ≡ codes "node " ++ (p.event ++ 64 ∷ p.instance) = λ p.
    append_assoc (codes "node " ++ p.event) (codes "@") p.instance ∙ append_assoc (codes "node ") p.event (64 ∷ p.instance)
    in
    let joined = append_cancel_left (codes "node ") (m.event ++ 64 ∷ m.instance) (n.event ++ 64 ∷ n.instance) (sym (back m) ∙ (e ∙ back n)) in
    let parts = cut_once 64 m.event m.instance n.event n.instance (name_lacks_at m.event run_m) (name_lacks_at n.event run_n) joined in
    let event = parts.0 in
    let instance = parts.1 in
    λ i. record { event = event i; instance = instance i }

pub same_entry : (x y : Entry) → IsSmall (line.Entry x) → IsSmall (line.Entry y) → line_text (line.Entry x) ≡ line_text (line.Entry y) → x ≡ y
same_entry x y small_x small_y e =
    let back : (z : Entry) → codes "entry " ++ decimal z.node ++ codes " " ++ decimal z.parent ≡ codes "entry " ++ (decimal z.node ++ 32 ∷ decimal z.parent) = λ z.
    append_assoc (codes "entry " ++ decimal z.node) (codes " ") (decimal z.parent) ∙ append_assoc (codes "entry ") (decimal z.node) (32 ∷ decimal z.parent)
    in
    let joined = append_cancel_left (codes "entry ") (decimal x.node ++ 32 ∷ decimal x.parent) (decimal y.node ++ 32 ∷ decimal y.parent) (sym (back x) ∙ (e ∙ back y)) in
    let parts = cut_once 32 (decimal x.node) (decimal x.parent) (decimal y.node) (decimal y.parent) (digits_lack_space x.node small_x.0) (digits_lack_space y.node small_y.0) joined in
    let node = decimal_injective x.node y.node small_x.0 small_y.0 parts.0 in
    let parent = decimal_injective x.parent y.parent small_x.1 small_y.1 parts.1 in
    λ i. record { node = node i; parent = parent i }

-- a line's first byte, and how many bytes stand before its first space, tell what it is

abbrev before_space : List ℕ → ℕ
before_space [] = 0
before_space (b ∷ bytes) = if nat_eq b 32 then 0 else suc (before_space bytes)

abbrev mark : List ℕ → ℕ
mark bytes = get_or bytes 0 0 * 100 + before_space bytes

abbrev mark_of : CertificateLine → ℕ
mark_of (line.Header version) = 9908
mark_of line.Book = 10704
mark_of line.Thin = 10704
mark_of (line.Wanted n) = 11906
mark_of (line.Distance n) = 10008
mark_of (line.Cap n) = 9903
mark_of (line.Nodes n) = 11005
mark_of (line.Node n) = 11004
mark_of (line.Columns n) = 9907
mark_of (line.Column n) = 9906
mark_of (line.Radii n) = 11405
mark_of (line.Radius n) = 11406
mark_of (line.Spans n) = 11505
mark_of line.Quiet = 11305
mark_of (line.Span n) = 11504
mark_of (line.Entry e) = 10105
mark_of line.End = 10103

mark_is : (l : CertificateLine) → mark (line_text l) ≡ mark_of l
mark_is (line.Header First) = refl
mark_is (line.Header Second) = refl
mark_is line.Book = refl
mark_is line.Thin = refl
mark_is (line.Wanted n) = refl
mark_is (line.Distance n) = refl
mark_is (line.Cap n) = refl
mark_is (line.Nodes n) = refl
mark_is (line.Node n) = refl
mark_is (line.Columns n) = refl
mark_is (line.Column n) = refl
mark_is (line.Radii n) = refl
mark_is (line.Radius n) = refl
mark_is (line.Spans n) = refl
mark_is line.Quiet = refl
mark_is (line.Span n) = refl
mark_is (line.Entry e) = refl
mark_is line.End = refl

same_mark : (l m : CertificateLine) → line_text l ≡ line_text m → mark_of m ≡ mark_of l
same_mark l m same = sym (mark_is m) ∙ (ap mark (sym same) ∙ mark_is l)

only_header : (m : CertificateLine) → mark_of m ≡ 9908 → (version : Version) × (m ≡ line.Header version)
only_header (line.Header version) is = (version, refl)
only_header m is = absurd (omega (arith, is))

only_kind : (m : CertificateLine) → mark_of m ≡ 10704 → (m ≡ line.Book) ⊎ (m ≡ line.Thin)
only_kind line.Book is = inl refl
only_kind line.Thin is = inr refl
only_kind m is = absurd (omega (arith, is))

only_wanted : (m : CertificateLine) → mark_of m ≡ 11906 → (n : ℕ) × (m ≡ line.Wanted n)
only_wanted (line.Wanted n) is = (n, refl)
only_wanted m is = absurd (omega (arith, is))

only_distance : (m : CertificateLine) → mark_of m ≡ 10008 → (n : ℕ) × (m ≡ line.Distance n)
only_distance (line.Distance n) is = (n, refl)
only_distance m is = absurd (omega (arith, is))

only_cap : (m : CertificateLine) → mark_of m ≡ 9903 → (n : ℕ) × (m ≡ line.Cap n)
only_cap (line.Cap n) is = (n, refl)
only_cap m is = absurd (omega (arith, is))

only_nodes : (m : CertificateLine) → mark_of m ≡ 11005 → (n : ℕ) × (m ≡ line.Nodes n)
only_nodes (line.Nodes n) is = (n, refl)
only_nodes m is = absurd (omega (arith, is))

only_node : (m : CertificateLine) → mark_of m ≡ 11004 → (n : NodeName) × (m ≡ line.Node n)
only_node (line.Node n) is = (n, refl)
only_node m is = absurd (omega (arith, is))

only_columns : (m : CertificateLine) → mark_of m ≡ 9907 → (n : ℕ) × (m ≡ line.Columns n)
only_columns (line.Columns n) is = (n, refl)
only_columns m is = absurd (omega (arith, is))

only_column : (m : CertificateLine) → mark_of m ≡ 9906 → (n : ℕ) × (m ≡ line.Column n)
only_column (line.Column n) is = (n, refl)
only_column m is = absurd (omega (arith, is))

only_radii : (m : CertificateLine) → mark_of m ≡ 11405 → (n : ℕ) × (m ≡ line.Radii n)
only_radii (line.Radii n) is = (n, refl)
only_radii m is = absurd (omega (arith, is))

only_radius : (m : CertificateLine) → mark_of m ≡ 11406 → (n : ℕ) × (m ≡ line.Radius n)
only_radius (line.Radius n) is = (n, refl)
only_radius m is = absurd (omega (arith, is))

only_spans : (m : CertificateLine) → mark_of m ≡ 11505 → (n : ℕ) × (m ≡ line.Spans n)
only_spans (line.Spans n) is = (n, refl)
only_spans m is = absurd (omega (arith, is))

only_quiet : (m : CertificateLine) → mark_of m ≡ 11305 → m ≡ line.Quiet
only_quiet line.Quiet is = refl
only_quiet m is = absurd (omega (arith, is))

only_span : (m : CertificateLine) → mark_of m ≡ 11504 → (n : ℕ) × (m ≡ line.Span n)
only_span (line.Span n) is = (n, refl)
only_span m is = absurd (omega (arith, is))

only_entry : (m : CertificateLine) → mark_of m ≡ 10105 → (e : Entry) × (m ≡ line.Entry e)
only_entry (line.Entry e) is = (e, refl)
only_entry m is = absurd (omega (arith, is))

only_end : (m : CertificateLine) → mark_of m ≡ 10103 → m ≡ line.End
only_end line.End is = refl
only_end m is = absurd (omega (arith, is))

same_version : (v w : Version) → line_text (line.Header v) ≡ line_text (line.Header w) → v ≡ w
same_version First First same = refl
same_version First Second same = absurd (clash 21 (line_text (line.Header First)) (line_text (line.Header Second)) refl same)
same_version Second First same = absurd (clash 21 (line_text (line.Header Second)) (line_text (line.Header First)) refl same)
same_version Second Second same = refl

-- a line of something, which is known by the line's text
of_one : {X : Type 0} (f : X → CertificateLine) → ((x y : X) → IsSmall (f x) → IsSmall (f y) → line_text (f x) ≡ line_text (f y) → x ≡ y)
    → (x : X) (m : CertificateLine) → (y : X) × (m ≡ f y) → IsSmall (f x) → IsSmall m → line_text (f x) ≡ line_text m → f x ≡ m
of_one f one x m is s u same =
    ap f (one x is.0 s (subst IsSmall is.1 u) (same ∙ ap line_text is.1)) ∙ sym is.1

-- lines of one text are one
pub line_text_one : (l m : CertificateLine) → IsSmall l → IsSmall m → line_text l ≡ line_text m → l ≡ m
line_text_one (line.Header version) m s u same = of_one line.Header (λ v w t t'. same_version v w) version m (only_header m (same_mark (line.Header version) m same)) s u same
line_text_one line.Book m s u same = elim (only_kind m (same_mark line.Book m same)) [
  | inl is ↦ sym is
  | inr is ↦ absurd (clash 5 (line_text line.Book) (line_text line.Thin) refl (same ∙ ap line_text is))
]
line_text_one line.Thin m s u same = elim (only_kind m (same_mark line.Thin m same)) [
  | inl is ↦ absurd (clash 5 (line_text line.Thin) (line_text line.Book) refl (same ∙ ap line_text is))
  | inr is ↦ sym is
]
line_text_one (line.Wanted n) m s u same = of_one line.Wanted (numbers (codes "wanted ")) n m (only_wanted m (same_mark (line.Wanted n) m same)) s u same
line_text_one (line.Distance n) m s u same = of_one line.Distance (numbers (codes "distance ")) n m (only_distance m (same_mark (line.Distance n) m same)) s u same
line_text_one (line.Cap n) m s u same = of_one line.Cap (numbers (codes "cap ")) n m (only_cap m (same_mark (line.Cap n) m same)) s u same
line_text_one (line.Nodes n) m s u same = of_one line.Nodes (numbers (codes "nodes ")) n m (only_nodes m (same_mark (line.Nodes n) m same)) s u same
line_text_one (line.Node n) m s u same = of_one line.Node same_node n m (only_node m (same_mark (line.Node n) m same)) s u same
line_text_one (line.Columns n) m s u same = of_one line.Columns (numbers (codes "columns ")) n m (only_columns m (same_mark (line.Columns n) m same)) s u same
line_text_one (line.Column n) m s u same = of_one line.Column (numbers (codes "column ")) n m (only_column m (same_mark (line.Column n) m same)) s u same
line_text_one (line.Radii n) m s u same = of_one line.Radii (numbers (codes "radii ")) n m (only_radii m (same_mark (line.Radii n) m same)) s u same
line_text_one (line.Radius n) m s u same = of_one line.Radius (numbers (codes "radius ")) n m (only_radius m (same_mark (line.Radius n) m same)) s u same
line_text_one (line.Spans n) m s u same = of_one line.Spans (numbers (codes "spans ")) n m (only_spans m (same_mark (line.Spans n) m same)) s u same
line_text_one line.Quiet m s u same = sym (only_quiet m (same_mark line.Quiet m same))
line_text_one (line.Span n) m s u same = of_one line.Span (numbers (codes "span ")) n m (only_span m (same_mark (line.Span n) m same)) s u same
line_text_one (line.Entry e) m s u same = of_one line.Entry same_entry e m (only_entry m (same_mark (line.Entry e) m same)) s u same
line_text_one line.End m s u same = sym (only_end m (same_mark line.End m same))
