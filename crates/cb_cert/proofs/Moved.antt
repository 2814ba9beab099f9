-- Reading on, one line after the other.
use Rattle.std.proofs.Common.{◌≡◌, ◌≢◌, ◌⊎◌, ℕ, ◌+◌, ◌-◌, ◌^◌, ◌≤◌, min, List, [], ◌∷◌, ◌++◌, length, map, refl, sym, ap, subst, ◌∙◌, arith, inl, inr}
use Rattle.std.specs.List.{All}
use Rattle.std.proofs.lemmas.List.{append_assoc, append-nil, map-append, length-append, length-map}
use Rattle.std.proofs.lemmas.List.Sums.{sum_by-append}
use Rattle.std.proofs.lemmas.List.Elements.{All-push, All-tail}
use Rattle.cb_text.specs.Lines.{lines_of}
use Rattle.cb_cert.specs.declared.fault.CertText.{CertText}
use Rattle.cb_cert.specs.declared.fault.CertText.TheVariants as fault
use Rattle.cb_cert.specs.declared.line.CertificateLine.{CertificateLine}
use Rattle.cb_cert.specs.declared.line.CertificateLine.TheVariants as line
use Rattle.cb_cert.specs.declared.reader.Reader.{Reader}
use Rattle.cb_cert.specs.Ahead.{TextPlace, MayStand, opened, nodes_after}
use Rattle.cb_cert.specs.Format.{entries_in, entry_limit}
use Rattle.cb_cert.specs.Prefixes.{Begins, IsCertificatePrefix, AreCertificateLines, IsFault}
use Rattle.cb_cert.specs.Lines.{version_of, claim_lines, line_text}
use Rattle.cb_cert.specs.Steps.{HasRead, Moves, Misses}
use Rattle.cb_cert.proofs.Readings.{all_last}

-- the reader has read one line more, and its entries are counted
pub record Passes (old new : Reader) (l : CertificateLine) : Type 0 where
  pub lines_are : old.lines ≡ line_text l ∷ new.lines
  pub number_is : new.number ≡ min (old.number + 1) (2 ^ 64 - 1)
  pub entries_are : new.entries ≡ old.entries + entries_in l
  pub few : new.entries ≤ entry_limit

-- the number of the line after those that were read
pub next_number : (text : List ℕ) (reader : Reader) (before : List CertificateLine) (n : ℕ) (ahead : List TextPlace) (met : List ℕ) (after : List (List ℕ)) (k : ℕ)
    → HasRead text reader before n ahead → reader.lines ≡ met ∷ after → k ≡ min (reader.number + 1) (2 ^ 64 - 1) → k ≡ length before + 1
next_number text reader before n ahead met after k read lines number =
    let all : length (lines_of text) ≡ length (map line_text before) + length reader.lines = ap length read.lines_are ∙ length-append (map line_text before) reader.lines in
    let some : length reader.lines ≡ length after + 1 = omega (arith, ap length lines) in
    omega (arith, all, some, length-map before line_text, read.small, read.number_is, number)

pub taken : (text : List ℕ) (old new : Reader) (before : List CertificateLine) (n : ℕ) (place : TextPlace) (ahead : List TextPlace) (l : CertificateLine)
    → HasRead text old before n (place ∷ ahead) → Passes old new l → MayStand n place l → l ≢ line.End
    → HasRead text new (before ++ l ∷ []) (nodes_after n l) (opened l place ++ ahead)
taken text old new before n place ahead l read next stands going =
    let number = next_number text old before n (place ∷ ahead) (line_text l) new.lines new.number read next.lines_are next.number_is in
    record {
      lines_are = read.lines_are
          ∙ (ap (λ (ts : List (List ℕ)). map line_text before ++ ts) next.lines_are
          ∙ sym (ap (λ (ts : List (List ℕ)). ts ++ new.lines) (map-append line_text before (l ∷ []))
          ∙ append_assoc (map line_text before) (line_text l ∷ []) new.lines));
      number_is = omega (arith, number, length-append before (l ∷ []));
      small = read.small;
      entries_are = omega (arith, next.entries_are, read.entries_are, sum_by-append entries_in before (l ∷ []));
      few = next.few;
      begun = λ none. let e = ap length none in let m = length-append before (l ∷ []) in omega arith;
      unended = All-push (λ k. k ≢ line.End) before l read.unended going;
      goes_on = λ ls may. subst Begins (sym (append_assoc before (l ∷ []) ls)) (read.goes_on (l ∷ ls) (stands, may));
      no_other = λ ls begins. (read.no_other (l ∷ ls) (subst Begins (append_assoc before (l ∷ []) ls) begins)).1;
    }

-- what was read is as it should be
pub prefix : (text : List ℕ) (reader : Reader) (before : List CertificateLine) (n : ℕ) (ahead : List TextPlace) → HasRead text reader before n ahead → IsCertificatePrefix before
prefix text reader before n ahead read = record {
  begins = subst Begins (append-nil before) (read.goes_on [] tt);
  few = omega (arith, read.few, read.entries_are);
}

-- and it isn't all
pub going : (text : List ℕ) (reader : Reader) (before : List CertificateLine) (n : ℕ) (ahead : List TextPlace) → HasRead text reader before n ahead → ¬ AreCertificateLines before
going text reader before n ahead read whole =
    let c = whole.0 in
    let over = subst (All (λ k. k ≢ line.End)) (whole.2) read.unended in
    let beyond = All-tail (λ k. k ≢ line.End) (line.Header (version_of c)) (claim_lines c ++ line.End ∷ []) over in
    all_last (λ k. k ≢ line.End) (claim_lines c) line.End beyond refl

-- why the next line isn't read is why the text is no certificate
pub missed : (text : List ℕ) (reader : Reader) (before : List CertificateLine) (n : ℕ) (place : TextPlace) (ahead : List TextPlace) (Wrong : List ℕ → Type 0)
    → HasRead text reader before n (place ∷ ahead)
    → ((l : CertificateLine) (met : List ℕ) → Wrong met → met ≡ line_text l → MayStand n place l → ⊥)
    → (why : CertText) → Misses reader Wrong why → (why ≡ fault.NoMemory) ⊎ IsFault text why
missed text reader before n place ahead Wrong read never fault.BadHeader miss = absurd miss
missed text reader before n place ahead Wrong read never (fault.BadLine k) miss = inr (record {
  before = before;
  line = miss.met;
  met = record {
    after = miss.after;
    lines = read.lines_are ∙ ap (λ (ts : List (List ℕ)). map line_text before ++ ts) miss.lines_are;
    prefix = prefix text reader before n (place ∷ ahead) read;
    number_is = next_number text reader before n (place ∷ ahead) miss.met miss.after k read miss.lines_are miss.number_is;
  };
  later = read.begun;
  open_ended = going text reader before n (place ∷ ahead) read;
  none = λ l is begins. never l miss.met miss.wrong is (read.no_other (l ∷ []) begins).0;
})
missed text reader before n place ahead Wrong read never fault.Truncated miss = inr (record {
  before = before;
  lines = read.lines_are ∙ (ap (λ (ts : List (List ℕ)). map line_text before ++ ts) miss ∙ append-nil (map line_text before));
  prefix = prefix text reader before n (place ∷ ahead) read;
  open_ended = going text reader before n (place ∷ ahead) read;
})
missed text reader before n place ahead Wrong read never (fault.Extra k) miss = absurd miss
missed text reader before n place ahead Wrong read never (fault.TooManyEntries k) miss = absurd miss
missed text reader before n place ahead Wrong read never fault.NoMemory miss = inl refl

-- the lines of one form, whose entries don't count, stand at a place
pub record Stand {X : Type 0} (n : ℕ) (place : TextPlace) (f : X → CertificateLine) (P : X → Type 0) : Type 0 where
  pub may : (x : X) → P x → MayStand n place (f x)
  pub only : (l : CertificateLine) → MayStand n place l → (x : X) × (l ≡ f x) × P x
  pub light : (x : X) → entries_in (f x) ≡ 0
  pub inside : (x : X) → f x ≢ line.End

-- one line of this form is read
pub took : {X : Type 0} (n : ℕ) (place : TextPlace) (f : X → CertificateLine) (P : X → Type 0) → Stand n place f P → (text : List ℕ) (old new : Reader) (before : List CertificateLine)
    (ahead : List TextPlace) → HasRead text old before n (place ∷ ahead) → (x : X) → Moves old new (line_text (f x)) × P x
    → HasRead text new (before ++ f x ∷ []) (nodes_after n (f x)) (opened (f x) place ++ ahead)
took n place f P stand text old new before ahead read x takes =
    let moves = takes.0 in
    let light = stand.light x in
    taken text old new before n place ahead (f x) read
    (record {
      lines_are = moves.lines_are;
      number_is = moves.number_is;
      entries_are = omega (arith, moves.entries_are, light);
      few = omega (arith, moves.entries_are, read.few);
    })
    (stand.may x takes.1) (stand.inside x)

-- or it is missing or wrong
pub took_not : {X : Type 0} (n : ℕ) (place : TextPlace) (f : X → CertificateLine) (P : X → Type 0) → Stand n place f P → (text : List ℕ) (old : Reader) (before : List CertificateLine)
    (ahead : List TextPlace) → HasRead text old before n (place ∷ ahead) → (why : CertText)
    → Misses old (λ met. (x : X) → P x → met ≢ line_text (f x)) why → (why ≡ fault.NoMemory) ⊎ IsFault text why
took_not {X} n place f P stand text old before ahead read why miss =
    missed text old before n place ahead (λ met. (x : X) → P x → met ≢ line_text (f x)) read
    (λ l met wrong is stands. let back = stand.only l stands in wrong back.0 back.2 (is ∙ ap line_text back.1)) why miss

-- a line that was read and is wrong
pub is_bad : (old new : Reader) (met : List ℕ) (Wrong : List ℕ → Type 0) → Moves old new met → Wrong met → (why : CertText)
    → why ≡ fault.BadLine new.number → Misses old Wrong why
is_bad old new met Wrong moves wrong why e =
    subst (Misses old Wrong) (sym e)
    (record { met = met; after = new.lines; lines_are = moves.lines_are; number_is = moves.number_is; wrong = wrong })
