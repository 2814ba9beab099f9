-- A text has one reading.
use Rattle.std.proofs.Common.{◌≡◌, ◌≢◌, ◌⊎◌, ℕ, ◌+◌, ◌<◌, ◌≤◌, List, [], ◌∷◌, ◌++◌, length, map, refl, sym, ap, subst, ◌∙◌, arith, inl, inr}
use Rattle.std.specs.Prelude.{Result, Ok, Err}
use Rattle.std.specs.List.{All, sum_by}
use Rattle.std.proofs.lemmas.List.{append_assoc, append-nil, append_cancel_left, map-append}
use Rattle.std.proofs.lemmas.List.Sums.{sum_by-append}
use Rattle.std.proofs.lemmas.List.Elements.{All-nil, All-cons, All-head, All-tail, All-weaker}
use Rattle.cb_text.specs.Lines.{lines_of}
use Rattle.cb_cert.specs.declared.certificate.Certificate.{Certificate}
use Rattle.cb_cert.specs.declared.certificate.Certificate.TheVariants as certificate
use Rattle.cb_cert.specs.declared.fault.CertText.{CertText}
use Rattle.cb_cert.specs.declared.fault.CertText.TheVariants as fault
use Rattle.cb_cert.specs.declared.line.CertificateLine.{CertificateLine}
use Rattle.cb_cert.specs.declared.line.CertificateLine.TheVariants as line
use Rattle.cb_cert.specs.declared.line.Version.{Version}
use Rattle.cb_cert.specs.Lines.{version_of, certificate_lines, line_text, text_of}
use Rattle.cb_cert.specs.Format.{Fits, IsCertificate, entries_in, entry_limit}
use Rattle.cb_cert.specs.Prefixes.{Begins, IsCertificatePrefix, AreCertificateLines, IsReading}
use Rattle.cb_cert.proofs.LineTexts.{IsSmall, fitting_is_small, line_text_one}
use Rattle.cb_cert.proofs.TextLines.{few_nodes, text_spells}
use Rattle.cb_cert.proofs.Uniques.{goes_on, lines_are_of_one}

-- parts of what holds of all

all_prefix : {X : Type 0} (P : X → Type 0) (xs ys : List X) → All P (xs ++ ys) → All P xs
all_prefix P [] ys all = All-nil P
all_prefix P (x ∷ xs) ys all = All-cons P x xs (All-head P x (xs ++ ys) all) (all_prefix P xs ys (All-tail P x (xs ++ ys) all))

pub all_last : {X : Type 0} (P : X → Type 0) (xs : List X) (x : X) → All P (xs ++ x ∷ []) → P x
all_last P [] x all = All-head P x [] all
all_last P (y ∷ xs) x all = all_last P xs x (All-tail P y (xs ++ x ∷ []) all)

-- what is a beginning up to some line is one up to any line before
pub prefix_part : (xs ys : List CertificateLine) → Begins (xs ++ ys) → Begins xs
prefix_part xs ys begins = record {
  of = begins.of;
  few = begins.few;
  more = ys ++ begins.more;
  are = begins.are ∙ append_assoc xs ys begins.more;
  fit = all_prefix (Fits begins.of) xs ys begins.fit;
}

-- a prefix of a prefix is one
prefix_of_prefix : (xs ys : List CertificateLine) → IsCertificatePrefix (xs ++ ys) → IsCertificatePrefix xs
prefix_of_prefix xs ys is = record {
  begins = prefix_part xs ys is.begins;
  few = let e = sum_by-append entries_in xs ys in let most = is.few in omega arith;
}

-- the lines of a certificate of the format are a prefix
pub whole_is_prefix : (lines : List CertificateLine) → AreCertificateLines lines → IsCertificatePrefix lines
whole_is_prefix lines (c, is, e) = record {
  begins = record { of = c; few = few_nodes c is; more = []; are = sym e ∙ sym (append-nil lines); fit = subst (All (Fits c)) (sym e) is.fit };
  few = subst (λ ls. sum_by entries_in ls ≤ entry_limit) (sym e) is.few;
}

-- nothing goes on from a whole certificate
whole_ends : (lines : List CertificateLine) → AreCertificateLines lines → (l : CertificateLine) → ¬ Begins (lines ++ l ∷ [])
whole_ends lines (c, is, e) l begins =
    let longer : certificate_lines begins.of ≡ certificate_lines c ++ l ∷ begins.more =
    begins.are ∙ (append_assoc lines (l ∷ []) begins.more ∙ ap (λ ls. ls ++ l ∷ begins.more) e)
    in
    let none = (goes_on begins.of c (l ∷ begins.more) longer).1 in
    cc

-- lines that a certificate begins with are small
begins_is_small : (lines : List CertificateLine) → Begins lines → All IsSmall lines
begins_is_small lines begins = All-weaker (Fits begins.of) IsSmall (fitting_is_small begins.of begins.few) lines begins.fit

prefix_is_small : (lines : List CertificateLine) → IsCertificatePrefix lines → All IsSmall lines
prefix_is_small lines is = begins_is_small lines is.begins

-- a prefix begins with a header
prefix_head : (l : CertificateLine) (ls : List CertificateLine) → Begins (l ∷ ls) → (version : Version) × (l ≡ line.Header version)
prefix_head l ls begins = let e = begins.are in (version_of begins.of, cc)

-- a reading: the lines that are as they should be, what follows them, and that nothing that should be follows
record Reads (text : List ℕ) (before : List CertificateLine) (rest : List (List ℕ)) : Type 0 where
  lines : lines_of text ≡ map line_text before ++ rest
  prefix : IsCertificatePrefix before
  stuck : (l : CertificateLine) (more : List (List ℕ)) → IsCertificatePrefix (before ++ l ∷ []) → rest ≡ line_text l ∷ more → ⊥

-- of two readings neither is longer
no_longer : (text : List ℕ) (xs : List CertificateLine) (l : CertificateLine) (ls : List CertificateLine) (us vs : List (List ℕ)) → Reads text xs us → Reads text (xs ++ l ∷ ls) vs → ⊥
no_longer text xs l ls us vs a b =
    let joined : map line_text xs ++ us ≡ map line_text xs ++ line_text l ∷ (map line_text ls ++ vs) =
    sym a.lines ∙ (b.lines ∙ (ap (λ ts. ts ++ vs) (map-append line_text xs (l ∷ ls)) ∙ append_assoc (map line_text xs) (map line_text (l ∷ ls)) vs))
    in
    let rest = append_cancel_left (map line_text xs) us (line_text l ∷ (map line_text ls ++ vs)) joined in
    let longer : IsCertificatePrefix ((xs ++ l ∷ []) ++ ls) = subst IsCertificatePrefix (sym (append_assoc xs (l ∷ []) ls)) b.prefix in
    a.stuck l (map line_text ls ++ vs) (prefix_of_prefix (xs ++ l ∷ []) ls longer) rest

-- two lists of lines with texts that agree: they are one, or one is longer
compare : (xs ys : List CertificateLine) (us vs : List (List ℕ)) → All IsSmall xs → All IsSmall ys → map line_text xs ++ us ≡ map line_text ys ++ vs
    → ((xs ≡ ys) × (us ≡ vs)) ⊎ (((l : CertificateLine) × (ls : List CertificateLine) × (ys ≡ xs ++ l ∷ ls)) ⊎ ((l : CertificateLine) × (ls : List CertificateLine) × (xs ≡ ys ++ l ∷ ls)))
compare [] [] us vs small_x small_y e = inl (refl, e)
compare [] (y ∷ ys) us vs small_x small_y e = inr (inl (y, ys, refl))
compare (x ∷ xs) [] us vs small_x small_y e = inr (inr (x, xs, refl))
compare (x ∷ xs) (y ∷ ys) us vs small_x small_y e =
    let texts : line_text x ≡ line_text y = cc in
    let tails : map line_text xs ++ us ≡ map line_text ys ++ vs = cc in
    let same = line_text_one x y (All-head IsSmall x xs small_x) (All-head IsSmall y ys small_y) texts in
    elim (compare xs ys us vs (All-tail IsSmall x xs small_x) (All-tail IsSmall y ys small_y) tails) [
      | inl one ↦ let rest = one.0 in inl (cc, one.1)
      | inr (inl longer) ↦ let rest = longer.2 in inr (inl (longer.0, longer.1, cc))
      | inr (inr longer) ↦ let rest = longer.2 in inr (inr (longer.0, longer.1, cc))
    ]

-- readings end at the same lines
same_lines : (text : List ℕ) (xs ys : List CertificateLine) (us vs : List (List ℕ)) → Reads text xs us → Reads text ys vs → (xs ≡ ys) × (us ≡ vs)
same_lines text xs ys us vs a b =
    elim (compare xs ys us vs (prefix_is_small xs a.prefix) (prefix_is_small ys b.prefix) (sym a.lines ∙ b.lines)) [
      | inl one ↦ one
      | inr (inl longer) ↦ absurd (no_longer text xs longer.0 longer.1 us vs a (subst (λ zs. Reads text zs vs) longer.2 b))
      | inr (inr longer) ↦ absurd (no_longer text ys longer.0 longer.1 vs us b (subst (λ zs. Reads text zs us) longer.2 a))
    ]

-- why a reading ends
abbrev Ended : Result Certificate CertText → List CertificateLine → List (List ℕ) → Type 0
Ended (Ok c) before rest = (rest ≡ []) × IsCertificate c × (before ≡ certificate_lines c)
Ended (Err fault.BadHeader) before rest =
    (met : List ℕ) × (after : List (List ℕ)) × (rest ≡ met ∷ after) × (before ≡ []) × ((version : Version) → met ≢ line_text (line.Header version))
Ended (Err (fault.BadLine n)) before rest =
    (met : List ℕ) × (after : List (List ℕ)) × (rest ≡ met ∷ after) × (n ≡ length before + 1) × (before ≢ []) × (AreCertificateLines before → ⊥)
    × ((l : CertificateLine) → met ≡ line_text l → ¬ Begins (before ++ l ∷ []))
Ended (Err fault.Truncated) before rest = (rest ≡ []) × (AreCertificateLines before → ⊥)
Ended (Err (fault.Extra n)) before rest =
    (met : List ℕ) × (after : List (List ℕ)) × (rest ≡ met ∷ after) × (n ≡ length before + 1) × AreCertificateLines before
Ended (Err (fault.TooManyEntries n)) before rest =
    (k : ℕ) × (after : List (List ℕ)) × (rest ≡ line_text (line.Span k) ∷ after) × (n ≡ length before + 1) × Begins (before ++ line.Span k ∷ [])
    × (entry_limit < sum_by entries_in (before ++ line.Span k ∷ []))
Ended (Err fault.NoMemory) before rest = ⊥

-- a reading with where and why it ends
record IsEnded (text : List ℕ) (a : Result Certificate CertText) : Type 0 where
  before : List CertificateLine
  rest : List (List ℕ)
  reads : Reads text before rest
  ended : Ended a before rest

-- nothing is a prefix
pub nothing_is_prefix : IsCertificatePrefix []
nothing_is_prefix = record {
  begins = record { of = certificate.Book 1 [] [] []; few = omega arith; more = certificate_lines (certificate.Book 1 [] [] []); are = refl; fit = All-nil (Fits (certificate.Book 1 [] [] [])) };
  few = omega arith;
}

ended_of : (text : List ℕ) (a : Result Certificate CertText) → IsReading text a → IsEnded text a
ended_of text (Ok c) p = record {
  before = certificate_lines c;
  rest = [];
  reads = record {
    lines = p.lines ∙ sym (append-nil (map line_text (certificate_lines c)));
    prefix = whole_is_prefix (certificate_lines c) (c, p.is, refl);
    stuck = λ l more f e. cc;
  };
  ended = (refl, p.is, refl);
}
ended_of text (Err fault.BadHeader) p = record {
  before = [];
  rest = p.first ∷ p.after;
  reads = record {
    lines = p.lines;
    prefix = nothing_is_prefix;
    stuck = λ l more f e.
        let header = prefix_head l [] f.begins in
        let first : p.first ≡ line_text l = cc in
        p.other header.0 (first ∙ ap line_text header.1);
  };
  ended = (p.first, p.after, refl, refl, p.other);
}
ended_of text (Err (fault.BadLine n)) p = record {
  before = p.before;
  rest = p.line ∷ p.met.after;
  reads = record {
    lines = p.met.lines;
    prefix = p.met.prefix;
    stuck = λ l more f e. let is : p.line ≡ line_text l = cc in p.none l is f.begins;
  };
  ended = (p.line, p.met.after, refl, p.met.number_is, p.later, p.open_ended, p.none);
}
ended_of text (Err fault.Truncated) p = record {
  before = p.before;
  rest = [];
  reads = record { lines = p.lines ∙ sym (append-nil (map line_text p.before)); prefix = p.prefix; stuck = λ l more f e. cc };
  ended = (refl, p.open_ended);
}
ended_of text (Err (fault.Extra n)) p = record {
  before = p.before;
  rest = p.line ∷ p.met.after;
  reads = record { lines = p.met.lines; prefix = p.met.prefix; stuck = λ l more f e. whole_ends p.before p.whole l f.begins };
  ended = (p.line, p.met.after, refl, p.met.number_is, p.whole);
}
ended_of text (Err (fault.TooManyEntries n)) p = record {
  before = p.before;
  rest = line_text (line.Span p.entries) ∷ p.met.after;
  reads = record {
    lines = p.met.lines;
    prefix = p.met.prefix;
    stuck = λ l more f e.
        let texts : line_text (line.Span p.entries) ≡ line_text l = cc in
        let small = all_last IsSmall p.before (line.Span p.entries) (begins_is_small _ p.begins) in
        let small_l = all_last IsSmall p.before l (prefix_is_small _ f) in
        let same = line_text_one (line.Span p.entries) l small small_l texts in
        let few : sum_by entries_in (p.before ++ line.Span p.entries ∷ []) ≤ entry_limit =
        subst (λ m. sum_by entries_in (p.before ++ m ∷ []) ≤ entry_limit) (sym same) f.few
        in
        let many = p.many in
        omega arith;
  };
  ended = (p.entries, p.met.after, refl, p.met.number_is, p.begins, p.many);
}
ended_of text (Err fault.NoMemory) p = absurd p

pub no_header : (before : List CertificateLine) → before ≡ [] → AreCertificateLines before → ⊥
no_header before none (c, is, e) = cc

no_span : (before : List CertificateLine) (k : ℕ) → before ≡ [] → Begins (before ++ line.Span k ∷ []) → ⊥
no_span before k none begins =
    let header = prefix_head (line.Span k) [] (subst (λ ls. Begins (ls ++ line.Span k ∷ [])) none begins) in
    let is = header.1 in
    cc

ended_one : (a b : Result Certificate CertText) (before : List CertificateLine) (rest : List (List ℕ)) → Ended a before rest → Ended b before rest → a ≡ b
ended_one (Ok c) (Ok d) before rest p q = ap Ok (lines_are_of_one c d (sym p.2 ∙ q.2))
ended_one (Ok c) (Err fault.BadHeader) before rest p q = absurd (let x = p.0 in let y = q.2 in cc)
ended_one (Ok c) (Err (fault.BadLine n)) before rest p q = absurd (let x = p.0 in let y = q.2 in cc)
ended_one (Ok c) (Err fault.Truncated) before rest p q = absurd (q.1 (c, p.1, p.2))
ended_one (Ok c) (Err (fault.Extra n)) before rest p q = absurd (let x = p.0 in let y = q.2 in cc)
ended_one (Ok c) (Err (fault.TooManyEntries n)) before rest p q = absurd (let x = p.0 in let y = q.2 in cc)
ended_one (Err fault.BadHeader) (Ok d) before rest p q = absurd (let x = q.0 in let y = p.2 in cc)
ended_one (Err fault.BadHeader) (Err fault.BadHeader) before rest p q = refl
ended_one (Err fault.BadHeader) (Err (fault.BadLine n)) before rest p q = absurd (q.4 p.3)
ended_one (Err fault.BadHeader) (Err fault.Truncated) before rest p q = absurd (let x = p.2 in let y = q.0 in cc)
ended_one (Err fault.BadHeader) (Err (fault.Extra n)) before rest p q = absurd (no_header before p.3 q.4)
ended_one (Err fault.BadHeader) (Err (fault.TooManyEntries n)) before rest p q = absurd (no_span before q.0 p.3 q.4)
ended_one (Err (fault.BadLine m)) (Ok d) before rest p q = absurd (let x = q.0 in let y = p.2 in cc)
ended_one (Err (fault.BadLine m)) (Err fault.BadHeader) before rest p q = absurd (p.4 q.3)
ended_one (Err (fault.BadLine m)) (Err (fault.BadLine n)) before rest p q = ap (λ k. Err (fault.BadLine k)) (p.3 ∙ sym q.3)
ended_one (Err (fault.BadLine m)) (Err fault.Truncated) before rest p q = absurd (let x = p.2 in let y = q.0 in cc)
ended_one (Err (fault.BadLine m)) (Err (fault.Extra n)) before rest p q = absurd (p.5 q.4)
ended_one (Err (fault.BadLine m)) (Err (fault.TooManyEntries n)) before rest p q = absurd (p.6 (line.Span q.0) (let x = p.2 in let y = q.2 in cc) q.4)
ended_one (Err fault.Truncated) (Ok d) before rest p q = absurd (p.1 (d, q.1, q.2))
ended_one (Err fault.Truncated) (Err fault.BadHeader) before rest p q = absurd (let x = q.2 in let y = p.0 in cc)
ended_one (Err fault.Truncated) (Err (fault.BadLine n)) before rest p q = absurd (let x = q.2 in let y = p.0 in cc)
ended_one (Err fault.Truncated) (Err fault.Truncated) before rest p q = refl
ended_one (Err fault.Truncated) (Err (fault.Extra n)) before rest p q = absurd (let x = p.0 in let y = q.2 in cc)
ended_one (Err fault.Truncated) (Err (fault.TooManyEntries n)) before rest p q = absurd (let x = p.0 in let y = q.2 in cc)
ended_one (Err (fault.Extra m)) (Ok d) before rest p q = absurd (let x = q.0 in let y = p.2 in cc)
ended_one (Err (fault.Extra m)) (Err fault.BadHeader) before rest p q = absurd (no_header before q.3 p.4)
ended_one (Err (fault.Extra m)) (Err (fault.BadLine n)) before rest p q = absurd (q.5 p.4)
ended_one (Err (fault.Extra m)) (Err fault.Truncated) before rest p q = absurd (let x = q.0 in let y = p.2 in cc)
ended_one (Err (fault.Extra m)) (Err (fault.Extra n)) before rest p q = ap (λ k. Err (fault.Extra k)) (p.3 ∙ sym q.3)
ended_one (Err (fault.Extra m)) (Err (fault.TooManyEntries n)) before rest p q = absurd (whole_ends before p.4 (line.Span q.0) q.4)
ended_one (Err (fault.TooManyEntries m)) (Ok d) before rest p q = absurd (let x = q.0 in let y = p.2 in cc)
ended_one (Err (fault.TooManyEntries m)) (Err fault.BadHeader) before rest p q = absurd (no_span before p.0 q.3 p.4)
ended_one (Err (fault.TooManyEntries m)) (Err (fault.BadLine n)) before rest p q = absurd (q.6 (line.Span p.0) (let x = q.2 in let y = p.2 in cc) p.4)
ended_one (Err (fault.TooManyEntries m)) (Err fault.Truncated) before rest p q = absurd (let x = q.0 in let y = p.2 in cc)
ended_one (Err (fault.TooManyEntries m)) (Err (fault.Extra n)) before rest p q = absurd (whole_ends before q.4 (line.Span p.0) p.4)
ended_one (Err (fault.TooManyEntries m)) (Err (fault.TooManyEntries n)) before rest p q = ap (λ k. Err (fault.TooManyEntries k)) (p.3 ∙ sym q.3)
ended_one (Ok c) (Err fault.NoMemory) before rest p q = absurd q
ended_one (Err fault.BadHeader) (Err fault.NoMemory) before rest p q = absurd q
ended_one (Err (fault.BadLine m)) (Err fault.NoMemory) before rest p q = absurd q
ended_one (Err fault.Truncated) (Err fault.NoMemory) before rest p q = absurd q
ended_one (Err (fault.Extra m)) (Err fault.NoMemory) before rest p q = absurd q
ended_one (Err (fault.TooManyEntries m)) (Err fault.NoMemory) before rest p q = absurd q
ended_one (Err fault.NoMemory) b before rest p q = absurd p

pub reading_is_one : (text : List ℕ) (a b : Result Certificate CertText) → IsReading text a → IsReading text b → a ≡ b
reading_is_one text a b p q =
    let x = ended_of text a p in
    let y = ended_of text b q in
    let same = same_lines text x.before y.before x.rest y.rest x.reads y.reads in
    let moved : Ended b x.before y.rest = subst (λ ls. Ended b ls y.rest) (sym same.0) y.ended in
    ended_one a b x.before x.rest x.ended (subst (Ended b x.before) (sym same.1) moved)

pub written_is_read : (c : Certificate) (reading : Result Certificate CertText) → IsCertificate c → IsReading (text_of c) reading → reading ≡ Ok c
written_is_read c reading is read = reading_is_one (text_of c) reading (Ok c) read (text_spells c is)
