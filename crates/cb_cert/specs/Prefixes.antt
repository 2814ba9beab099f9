-- The first fault of a text that spells no certificate.
use Rattle.std.specs.Prelude.{◌≡◌, ◌≢◌, ℕ, ◌+◌, ◌<◌, ◌≤◌, List, [], ◌∷◌, ◌++◌, length, map, Result, Ok, Err}
use Rattle.std.specs.List.{All, sum_by}
use Rattle.cb_text.specs.Lines.{lines_of}
use Rattle.cb_cert.specs.declared.certificate.Certificate.{Certificate}
use Rattle.cb_cert.specs.declared.fault.CertText.{CertText}
use Rattle.cb_cert.specs.declared.fault.CertText.TheVariants.{BadHeader, BadLine, Truncated, Extra, TooManyEntries, NoMemory}
use Rattle.cb_cert.specs.declared.line.CertificateLine.{CertificateLine}
use Rattle.cb_cert.specs.declared.line.CertificateLine.TheVariants.{Header, Span}
use Rattle.cb_cert.specs.declared.line.Version.{Version}
use Rattle.cb_cert.specs.Lines.{certificate_lines, line_text}
use Rattle.cb_cert.specs.Format.{Fits, IsCertificate, SpellsCertificate, entries_in, entry_limit, certificate_node_limit, nodes_of}

-- A certificate with not too many nodes begins with these lines, and they fit it. Those that follow need not fit: of what is
-- still to come nothing is known.
pub record Begins (lines : List CertificateLine) : Type 0 where
  pub of : Certificate
  pub few : length (nodes_of of) ≤ certificate_node_limit
  pub more : List CertificateLine
  pub are : certificate_lines of ≡ lines ++ more
  pub fit : All (Fits of) lines

-- these lines are as they should be: a certificate begins with them, and they have not too many entries
pub record IsCertificatePrefix (lines : List CertificateLine) : Type 0 where
  pub begins : Begins lines
  pub few : sum_by entries_in lines ≤ entry_limit

-- these are all lines of a certificate
abbrev pub AreCertificateLines : List CertificateLine → Type 0
AreCertificateLines lines = (c : Certificate) × IsCertificate c × (lines ≡ certificate_lines c)

-- the text has these lines, as they should be, and then this one, whose number this is
pub record IsLineAfterPrefix (text : List ℕ) (before : List CertificateLine) (line : List ℕ) (number : ℕ) : Type 0 where
  pub after : List (List ℕ)
  pub lines : lines_of text ≡ map line_text before ++ line ∷ after
  pub prefix : IsCertificatePrefix before
  pub number_is : number ≡ length before + 1

-- the first line is the header of neither version
pub record IsBadHeader (text : List ℕ) : Type 0 where
  pub first : List ℕ
  pub after : List (List ℕ)
  pub lines : lines_of text ≡ first ∷ after
  pub other : (version : Version) → first ≢ line_text (Header version)

-- a later line is none that a certificate has there
pub record IsBadLine (text : List ℕ) (number : ℕ) : Type 0 where
  pub before : List CertificateLine
  pub line : List ℕ
  pub met : IsLineAfterPrefix text before line number
  pub later : before ≢ []
  pub open_ended : ¬ AreCertificateLines before
  pub none : (l : CertificateLine) → line ≡ line_text l → ¬ Begins (before ++ l ∷ [])

-- the lines are as they should be, and there are more to come
pub record IsTruncated (text : List ℕ) : Type 0 where
  pub before : List CertificateLine
  pub lines : lines_of text ≡ map line_text before
  pub prefix : IsCertificatePrefix before
  pub open_ended : ¬ AreCertificateLines before

-- another line follows the last one
pub record IsExtra (text : List ℕ) (number : ℕ) : Type 0 where
  pub before : List CertificateLine
  pub line : List ℕ
  pub met : IsLineAfterPrefix text before line number
  pub whole : AreCertificateLines before

-- a span begins as it should, and brings too many entries
pub record IsTooMany (text : List ℕ) (number : ℕ) : Type 0 where
  pub before : List CertificateLine
  pub entries : ℕ
  pub met : IsLineAfterPrefix text before (line_text (Span entries)) number
  pub begins : Begins (before ++ Span entries ∷ [])
  pub many : entry_limit < sum_by entries_in (before ++ Span entries ∷ [])

-- the text's first fault
abbrev pub IsFault : List ℕ → CertText → Type 0
IsFault text BadHeader = IsBadHeader text
IsFault text (BadLine number) = IsBadLine text number
IsFault text Truncated = IsTruncated text
IsFault text (Extra number) = IsExtra text number
IsFault text (TooManyEntries number) = IsTooMany text number
IsFault text NoMemory = ⊥

-- the certificate that the text spells, or its first fault
abbrev pub IsReading : List ℕ → Result Certificate CertText → Type 0
IsReading text (Ok c) = SpellsCertificate text c
IsReading text (Err fault) = IsFault text fault
