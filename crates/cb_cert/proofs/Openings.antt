-- The first line of a span.
use Rattle.std.proofs.Common.{◌≡◌, ◌≢◌, ◌⊎◌, ℕ, List, [], ◌∷◌, ◌++◌, map, replicate, refl, sym, ap, subst, ◌∙◌, arith, inr}
use Rattle.std.specs.Prelude.{Ok, Err}
use Rattle.std.proofs.lemmas.List.{append_assoc}
use Rattle.std.proofs.lemmas.List.Sums.{sum_by-append}
use Rattle.cb_cert.specs.declared.fault.CertText.{CertText}
use Rattle.cb_cert.specs.declared.fault.CertText.TheVariants as fault
use Rattle.cb_cert.specs.declared.line.CertificateLine.{CertificateLine}
use Rattle.cb_cert.specs.declared.line.CertificateLine.TheVariants as line
use Rattle.cb_cert.specs.declared.line.Version.TheVariants.{First, Second}
use Rattle.cb_cert.specs.declared.reader.Reader.{Reader}
use Rattle.cb_cert.specs.Ahead.{TextPlace, at_kind, at_span, at_side, at_entry, MayStand, opened, nodes_after}
use Rattle.cb_cert.specs.Format.{entries_in}
use Rattle.cb_cert.specs.Prefixes.{IsFault}
use Rattle.cb_cert.specs.Lines.{line_text}
use Rattle.cb_cert.specs.Steps.{HasRead, Moves, IsLength, CountsSpan}
use Rattle.cb_cert.proofs.Moved.{next_number, taken, prefix, missed}

-- the text ends before a line that is wanted
pub no_line : (text : List ℕ) (reader : Reader) (before : List CertificateLine) (n : ℕ) (place : TextPlace) (ahead : List TextPlace) → HasRead text reader before n (place ∷ ahead)
    → (why : CertText) → (why ≡ fault.Truncated) × (reader.lines ≡ []) → (why ≡ fault.NoMemory) ⊎ IsFault text why
no_line text reader before n place ahead read why none =
    subst (λ w. (w ≡ fault.NoMemory) ⊎ IsFault text w) (sym none.0)
    (missed text reader before n place ahead (λ met. ⊥) read (λ l met wrong is stands. wrong) fault.Truncated none.1)

pub only_span : (n : ℕ) (l : CertificateLine) → MayStand n at_span l → (k : ℕ) × (l ≡ line.Span k) × IsLength k
only_span n (line.Span k) p = (k, refl, p)
only_span n l p = absurd p

pub only_side : (n : ℕ) (l : CertificateLine) → MayStand n at_side l → l ≢ line.Quiet → (k : ℕ) × (l ≡ line.Span k) × IsLength k
only_side n (line.Span k) p other = (k, refl, p)
only_side n line.Quiet p other = absurd (other refl)
only_side n l p other = absurd p

module _ (text : List ℕ) (old mid new : Reader) (met : List ℕ) (before : List CertificateLine) (n : ℕ) (place : TextPlace) (ahead : List TextPlace)
    (read : HasRead text old before n (place ∷ ahead)) (moves : Moves old mid met) where
  -- the line of a span is read
  pub counted : (k : ℕ) → CountsSpan met mid new (Ok k) → ((m : ℕ) → IsLength m → MayStand n place (line.Span m))
      → HasRead text new (before ++ line.Span k ∷ []) n (replicate k at_entry ++ ahead)
  counted k counts may =
      let is = (counts.0).is in
      let same = counts.1 in
      let lines = moves.lines_are in
      taken text old new before n place ahead (line.Span k) read
      (record {
        lines_are = cc;
        number_is = omega (arith, moves.number_is, counts.2);
        entries_are = omega (arith, moves.entries_are, counts.3);
        few = counts.4;
      })
      (may k (counts.0).length_is) (λ e. cc)

  -- it isn't the line of a span, or there are too many entries
  pub counted_not : ((l : CertificateLine) → MayStand n place l → met ≡ line_text l → (k : ℕ) × (l ≡ line.Span k) × IsLength k)
      → ((m : ℕ) → IsLength m → MayStand n place (line.Span m)) → (why : CertText) → CountsSpan met mid new (Err why)
      → (why ≡ fault.NoMemory) ⊎ IsFault text why
  counted_not only may (fault.BadLine k) p =
      missed text old before n place ahead (λ m. (l : CertificateLine) → m ≡ line_text l → MayStand n place l → ⊥) read
      (λ l m wrong is stands. wrong l is stands) (fault.BadLine k)
      (record {
        met = met;
        after = mid.lines;
        lines_are = moves.lines_are;
        number_is = p.0 ∙ moves.number_is;
        wrong = λ l is stands. let back = only l stands is in p.1 back.0 (record { is = is ∙ ap line_text back.1; length_is = back.2 });
      })
  counted_not only may (fault.TooManyEntries k) p =
      let q = p.1 in
      let m = q.0 in
      let is = (q.1).is in
      let lines = moves.lines_are in
      let first : old.lines ≡ line_text (line.Span m) ∷ mid.lines = cc in
      inr (record {
        before = before;
        entries = m;
        met = record {
          after = mid.lines;
          lines = read.lines_are ∙ ap (λ (ts : List (List ℕ)). map line_text before ++ ts) first;
          prefix = prefix text old before n (place ∷ ahead) read;
          number_is = next_number text old before n (place ∷ ahead) met mid.lines k read moves.lines_are (p.0 ∙ moves.number_is);
        };
        begins = read.goes_on (line.Span m ∷ []) (may m (q.1).length_is, tt);
        many = omega (arith, q.2, moves.entries_are, read.entries_are, sum_by-append entries_in before (line.Span m ∷ []));
      })
  counted_not only may fault.BadHeader p = absurd p
  counted_not only may fault.Truncated p = absurd p
  counted_not only may (fault.Extra k) p = absurd p
  counted_not only may fault.NoMemory p = absurd p

  -- a line that is always the same is read
  pub fixed : (l : CertificateLine) → met ≡ line_text l → entries_in l ≡ 0 → l ≢ line.End → MayStand n place l
      → HasRead text mid (before ++ l ∷ []) (nodes_after n l) (opened l place ++ ahead)
  fixed l is light inside may =
      let lines = moves.lines_are in
      taken text old mid before n place ahead l read
      (record {
        lines_are = cc;
        number_is = moves.number_is;
        entries_are = omega (arith, moves.entries_are, light);
        few = omega (arith, moves.entries_are, read.few);
      })
      may inside

-- no kind of certificate that there is in the version
pub other_kind : (n : ℕ) (l : CertificateLine) (met : List ℕ) → (met ≢ line_text line.Book) × (met ≢ line_text line.Thin) → met ≡ line_text l
    → MayStand n (at_kind First) l → ⊥
other_kind n line.Book met other is stands = other.0 is
other_kind n line.Thin met other is stands = other.1 is
other_kind n l met other is stands = absurd stands

pub no_book : (n : ℕ) (l : CertificateLine) (met : List ℕ) → met ≢ line_text line.Book → met ≡ line_text l → MayStand n (at_kind Second) l → ⊥
no_book n line.Book met other is stands = other is
no_book n l met other is stands = absurd stands

-- lines that were read one after another
pub regroup_book : (before : List CertificateLine) (a b : CertificateLine) (xs ys zs : List CertificateLine)
    → ((((before ++ a ∷ []) ++ b ∷ []) ++ xs) ++ ys) ++ zs ≡ before ++ a ∷ b ∷ (xs ++ (ys ++ zs))
regroup_book before a b xs ys zs =
    let two = (before ++ a ∷ []) ++ b ∷ [] in
    let rest = xs ++ (ys ++ zs) in
    append_assoc (two ++ xs) ys zs
    ∙ (append_assoc two xs (ys ++ zs) ∙ (append_assoc (before ++ a ∷ []) (b ∷ []) rest ∙ append_assoc before (a ∷ []) (b ∷ rest)))

pub regroup_capped : (before : List CertificateLine) (a b : CertificateLine) (xs ys zs ws : List CertificateLine)
    → (((((before ++ a ∷ []) ++ b ∷ []) ++ xs) ++ ys) ++ zs) ++ ws ≡ before ++ a ∷ b ∷ (xs ++ (ys ++ (zs ++ ws)))
regroup_capped before a b xs ys zs ws =
    append_assoc ((((before ++ a ∷ []) ++ b ∷ []) ++ xs) ++ ys) zs ws ∙ regroup_book before a b xs ys (zs ++ ws)

pub regroup_thin : (before : List CertificateLine) (a b d : CertificateLine) (xs ys zs : List CertificateLine)
    → (((((before ++ a ∷ []) ++ b ∷ []) ++ d ∷ []) ++ xs) ++ ys) ++ zs ≡ before ++ a ∷ b ∷ d ∷ (xs ++ (ys ++ zs))
regroup_thin before a b d xs ys zs =
    let two = (before ++ a ∷ []) ++ b ∷ [] in
    let rest = xs ++ (ys ++ zs) in
    append_assoc ((two ++ d ∷ []) ++ xs) ys zs
    ∙ (append_assoc (two ++ d ∷ []) xs (ys ++ zs)
    ∙ (append_assoc two (d ∷ []) rest
    ∙ (append_assoc (before ++ a ∷ []) (b ∷ []) (d ∷ rest) ∙ append_assoc before (a ∷ []) (b ∷ d ∷ rest))))
