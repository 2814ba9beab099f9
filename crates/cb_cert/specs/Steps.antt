-- What a reader has read, and what it comes to.
use Rattle.std.specs.Prelude.{◌≡◌, ◌≢◌, ◌⊎◌, ⊤, ℕ, ◌+◌, ◌-◌, ◌^◌, ◌<◌, ◌≤◌, min, List, [], ◌∷◌, ◌++◌, length, map, Result, Ok, Err}
use Rattle.std.specs.List.{All, sum_by}
use Rattle.cb_text.specs.Lines.{lines_of}
use Rattle.cb_cert.specs.declared.certificate.Certificate.{Certificate}
use Rattle.cb_cert.specs.declared.fault.CertText.{CertText}
use Rattle.cb_cert.specs.declared.fault.CertText.TheVariants as fault
use Rattle.cb_cert.specs.declared.line.CertificateLine.{CertificateLine}
use Rattle.cb_cert.specs.declared.line.CertificateLine.TheVariants as line
use Rattle.cb_cert.specs.declared.reader.Reader.{Reader}
use Rattle.cb_cert.specs.Ahead.{TextPlace, at_end, MayCome}
use Rattle.cb_cert.specs.Format.{IsBetween, SpellsCertificate, entries_in, entry_limit, certificate_node_limit}
use Rattle.cb_cert.specs.Prefixes.{Begins, IsFault}
use Rattle.cb_cert.specs.Lines.{version_of, claim_lines, line_text}

-- of the text these lines were read, and exactly what may come where these positions are ahead goes on from them
pub record HasRead (text : List ℕ) (reader : Reader) (before : List CertificateLine) (n : ℕ) (ahead : List TextPlace) : Type 0 where
  pub lines_are : lines_of text ≡ map line_text before ++ reader.lines
  pub number_is : reader.number ≡ length before
  pub small : length (lines_of text) < 2 ^ 64
  pub entries_are : reader.entries ≡ sum_by entries_in before
  pub few : reader.entries ≤ entry_limit
  pub begun : before ≢ []
  pub unended : All (λ l. l ≢ line.End) before
  pub goes_on : (ls : List CertificateLine) → MayCome n ahead ls → Begins (before ++ ls)
  pub no_other : (ls : List CertificateLine) → Begins (before ++ ls) → MayCome n ahead ls

-- the reader has read one line more
pub record Moves (old new : Reader) (met : List ℕ) : Type 0 where
  pub lines_are : old.lines ≡ met ∷ new.lines
  pub number_is : new.number ≡ min (old.number + 1) (2 ^ 64 - 1)
  pub entries_are : new.entries ≡ old.entries

-- the next line is wrong
pub record IsNextLineWrong (old : Reader) (number : ℕ) (Wrong : List ℕ → Type 0) : Type 0 where
  pub met : List ℕ
  pub after : List (List ℕ)
  pub lines_are : old.lines ≡ met ∷ after
  pub number_is : number ≡ min (old.number + 1) (2 ^ 64 - 1)
  pub wrong : Wrong met

-- why the next line isn't read: there is none, it is wrong, or there was no memory for it
abbrev pub Misses : Reader → (List ℕ → Type 0) → CertText → Type 0
Misses old Wrong fault.Truncated = old.lines ≡ []
Misses old Wrong (fault.BadLine number) = IsNextLineWrong old number Wrong
Misses old Wrong fault.NoMemory = ⊤
Misses old Wrong why = ⊥

-- the next line is read, which has this form for something such that P; or it is missing or not of this form
abbrev pub TakesForm : {X : Type 0} → (X → List ℕ) → (X → Type 0) → Reader → Reader → Result X CertText → Type 0
TakesForm form P old new (Ok x) = Moves old new (form x) × P x
TakesForm {X} form P old new (Err why) = Misses old (λ met. (x : X) → P x → met ≢ form x) why

-- that many entries are not too many for one span
abbrev pub IsLength : ℕ → Type 0
IsLength = IsBetween 1 certificate_node_limit

-- the line is that of a span with `entries` entries
pub record IsSpanLine (met : List ℕ) (entries : ℕ) : Type 0 where
  pub is : met ≡ line_text (line.Span entries)
  pub length_is : IsLength entries

-- the number of entries of the line is added; or the line isn't that of a span, or the span has too many entries
abbrev pub CountsSpan : List ℕ → Reader → Reader → Result ℕ CertText → Type 0
CountsSpan met old new (Ok n) =
    IsSpanLine met n × (new.lines ≡ old.lines) × (new.number ≡ old.number) × (new.entries ≡ old.entries + n) × (new.entries ≤ entry_limit)
CountsSpan met old new (Err (fault.BadLine number)) = (number ≡ old.number) × ((n : ℕ) → ¬ IsSpanLine met n)
CountsSpan met old new (Err (fault.TooManyEntries number)) = (number ≡ old.number) × ((n : ℕ) × IsSpanLine met n × (entry_limit < old.entries + n))
CountsSpan met old new (Err why) = ⊥

-- the lines of what was read were read too, or the text has this fault
abbrev pub ReadsOrFails : {X : Type 0} → List ℕ → Reader → List CertificateLine → List TextPlace → (X → List CertificateLine) → (X → ℕ) → Result X CertText → Type 0
ReadsOrFails text new before ahead lines nodes (Ok x) = HasRead text new (before ++ lines x) (nodes x) ahead
ReadsOrFails text new before ahead lines nodes (Err why) = (why ≡ fault.NoMemory) ⊎ IsFault text why

-- wherever these positions are ahead, the lines of what is read there are read, or the text's first fault is met
abbrev pub ReadsLines : {X : Type 0} → ℕ → List TextPlace → (X → List CertificateLine) → (X → ℕ) → Reader → Reader → Result X CertText → Type 0
ReadsLines n places lines nodes old new result =
    (text : List ℕ) (before : List CertificateLine) (ahead : List TextPlace) → HasRead text old before n (places ++ ahead)
    → ReadsOrFails text new before ahead lines nodes result

-- the same where the first of the lines was read before
abbrev pub ReadsAfter : {X : Type 0} → CertificateLine → ℕ → List TextPlace → (X → List CertificateLine) → (X → ℕ) → Reader → Reader → Result X CertText → Type 0
ReadsAfter first n places lines nodes old new result =
    (text : List ℕ) (before : List CertificateLine) (ahead : List TextPlace) → HasRead text old (before ++ first ∷ []) n (places ++ ahead)
    → ReadsOrFails text new before ahead lines nodes result

-- the text spells the certificate, or it has this fault
abbrev pub SpellsOrFails : List ℕ → Certificate → Result (Unit {0}) CertText → Type 0
SpellsOrFails text c (Ok done) = SpellsCertificate text c
SpellsOrFails text c (Err why) = IsFault text why

-- once all that the certificate claims was read, the text ends as it should, or it has a fault
abbrev pub Finishes : Reader → Result (Unit {0}) CertText → Type 0
Finishes old result =
    (text : List ℕ) (c : Certificate) (n : ℕ) → HasRead text old (line.Header (version_of c) ∷ claim_lines c) n (at_end ∷ []) → SpellsOrFails text c result
