-- How a text begins and ends.
use Rattle.std.proofs.Common.{◌≡◌, ◌≢◌, ◌⊎◌, ℕ, ◌+◌, ◌-◌, ◌^◌, ◌<◌, min, List, [], ◌∷◌, ◌++◌, length, map, refl, sym, ap, subst, ◌∙◌, arith, inl, inr}
use Rattle.std.specs.List.{All}
use Rattle.std.proofs.lemmas.List.{append_assoc, append-nil, map-append, length-append, length-map}
use Rattle.std.proofs.lemmas.List.Sums.{sum_by-append}
use Rattle.std.proofs.lemmas.List.Elements.{All-nil, All-cons}
use Rattle.cb_text.specs.Lines.{lines_of}
use Rattle.cb_cert.specs.declared.certificate.Certificate.{Certificate}
use Rattle.cb_cert.specs.declared.fault.CertText.{CertText}
use Rattle.cb_cert.specs.declared.fault.CertText.TheVariants as fault
use Rattle.cb_cert.specs.declared.line.CertificateLine.{CertificateLine}
use Rattle.cb_cert.specs.declared.line.CertificateLine.TheVariants as line
use Rattle.cb_cert.specs.declared.line.Version.{Version}
use Rattle.cb_cert.specs.declared.reader.Reader.{Reader}
use Rattle.cb_cert.specs.Ahead.{at_kind, at_end, MayStand}
use Rattle.cb_cert.specs.Format.{Fits, IsCertificate, SpellsCertificate, entries_in}
use Rattle.cb_cert.specs.Prefixes.{IsFault}
use Rattle.cb_cert.specs.Lines.{version_of, certificate_lines, claim_lines, line_text}
use Rattle.cb_cert.specs.Steps.{HasRead, Moves}
use Rattle.cb_cert.proofs.Allowed.{prefixes_may_come}
use Rattle.cb_cert.proofs.Completed.{may_come_begins}
use Rattle.cb_cert.proofs.Moved.{missed}
use Rattle.cb_cert.proofs.Readings.{nothing_is_prefix, no_header, whole_is_prefix}
use Rattle.cb_cert.proofs.Uniques.{goes_on}

-- a text without lines
pub empty : (text : List ℕ) → lines_of text ≡ [] → IsFault text fault.Truncated
empty text none = record { before = []; lines = none; prefix = nothing_is_prefix; open_ended = no_header [] refl }

-- the header was read
pub begun : (text : List ℕ) (reader : Reader) (version : Version) → lines_of text ≡ line_text (line.Header version) ∷ reader.lines → reader.number ≡ 1
    → reader.entries ≡ 0 → length (lines_of text) < 2 ^ 64 → HasRead text reader (line.Header version ∷ []) 0 (at_kind version ∷ at_end ∷ [])
begun text reader version lines number entries small = record {
  lines_are = lines;
  number_is = number;
  small = small;
  entries_are = entries;
  few = omega arith;
  begun = λ none. cc;
  unended = All-cons (λ l. l ≢ line.End) (line.Header version) [] (λ e. cc) (All-nil (λ l. l ≢ line.End));
  goes_on = λ ls may. may_come_begins (line.Header version ∷ ls) (tt, may);
  no_other = λ ls begins. (prefixes_may_come (line.Header version ∷ ls) begins).1;
}

-- a fault that isn't out of memory
sure : (text : List ℕ) (why : CertText) → why ≢ fault.NoMemory → (why ≡ fault.NoMemory) ⊎ IsFault text why → IsFault text why
sure text why other (inl none) = absurd (other none)
sure text why other (inr is) = is

only_end : (n : ℕ) (l : CertificateLine) → MayStand n at_end l → l ≡ line.End
only_end n line.End p = refl
only_end n l p = absurd p

module _ (text : List ℕ) (c : Certificate) (n : ℕ) (old : Reader) (read : HasRead text old (line.Header (version_of c) ∷ claim_lines c) n (at_end ∷ [])) where
  -- what was read, with the last line, is a certificate of the format
  whole : IsCertificate c
  whole =
      let begins = read.goes_on (line.End ∷ []) (tt, tt) in
      let same = goes_on begins.of c begins.more begins.are in
      record {
        fit = subst (λ k. All (Fits k) (certificate_lines c)) same.0 begins.fit;
        few = omega (arith, read.few, read.entries_are, sum_by-append entries_in (line.Header (version_of c) ∷ claim_lines c) (line.End ∷ []));
      }

  -- the last line is missing
  pub no_end : old.lines ≡ [] → IsFault text fault.Truncated
  no_end none =
      sure text fault.Truncated (λ e. cc)
      (missed text old (line.Header (version_of c) ∷ claim_lines c) n at_end [] (λ met. met ≢ line_text line.End) read
      (λ l met wrong is stands. wrong (is ∙ ap line_text (only_end n l stands))) fault.Truncated none)

  -- another line stands there
  pub other_end : (new : Reader) (met : List ℕ) → Moves old new met → met ≢ line_text line.End → IsFault text (fault.BadLine new.number)
  other_end new met moves other =
      sure text (fault.BadLine new.number) (λ e. cc)
      (missed text old (line.Header (version_of c) ∷ claim_lines c) n at_end [] (λ met. met ≢ line_text line.End) read
      (λ l met wrong is stands. wrong (is ∙ ap line_text (only_end n l stands))) (fault.BadLine new.number)
      (record { met = met; after = new.lines; lines_are = moves.lines_are; number_is = moves.number_is; wrong = other }))

  module _ (new : Reader) (met : List ℕ) (moves : Moves old new met) (is : met ≡ line_text line.End) where
    lines : (rest : List (List ℕ)) → new.lines ≡ rest → lines_of text ≡ map line_text (certificate_lines c) ++ rest
    lines rest e =
        let first : old.lines ≡ line_text line.End ∷ rest = let l = moves.lines_are in cc in
        read.lines_are
        ∙ (ap (λ (ts : List (List ℕ)). map line_text (line.Header (version_of c) ∷ claim_lines c) ++ ts) first
        ∙ sym (ap (λ (ts : List (List ℕ)). ts ++ rest) (map-append line_text (line.Header (version_of c) ∷ claim_lines c) (line.End ∷ []))
        ∙ append_assoc (map line_text (line.Header (version_of c) ∷ claim_lines c)) (line_text line.End ∷ []) rest))

    -- nothing follows
    pub spelt : new.lines ≡ [] → SpellsCertificate text c
    spelt none = record { is = whole; lines = lines [] none ∙ append-nil (map line_text (certificate_lines c)) }

    -- something follows
    pub further : (next : List ℕ) (after : List (List ℕ)) (k : ℕ) → new.lines ≡ next ∷ after → k ≡ min (new.number + 1) (2 ^ 64 - 1)
        → IsFault text (fault.Extra k)
    further next after k e number =
        let all : length (lines_of text) ≡ length (map line_text (certificate_lines c)) + length (next ∷ after) =
        ap length (lines (next ∷ after) e) ∙ length-append (map line_text (certificate_lines c)) (next ∷ after)
        in
        let some : length (certificate_lines c) ≡ length (line.Header (version_of c) ∷ claim_lines c) + 1 = length-append (line.Header (version_of c) ∷ claim_lines c) (line.End ∷ []) in
        let many = length-map (certificate_lines c) line_text in
        record {
          before = certificate_lines c;
          line = next;
          met = record {
            after = after;
            lines = lines (next ∷ after) e;
            prefix = whole_is_prefix (certificate_lines c) (c, whole, refl);
            number_is = omega (arith, all, some, many, read.small, read.number_is, moves.number_is, number);
          };
          whole = (c, whole, refl);
        }
