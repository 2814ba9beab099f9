-- What holds of the format, whatever the program does.
use Rattle.std.specs.Prelude.{◌≡◌, ◌↔◌, ℕ, ◌≤◌, List, length, Result, Ok}
use Rattle.cb_text.specs.Lines.{HasShortLines}
use Rattle.cb_cert.specs.declared.certificate.Certificate.{Certificate}
use Rattle.cb_cert.specs.declared.fault.CertText.{CertText}
use Rattle.cb_cert.specs.Lines.{certificate_lines, text_of}
use Rattle.cb_cert.specs.Format.{IsCertificate, SpellsCertificate}
use Rattle.cb_cert.specs.declared.line.CertificateLine.{CertificateLine}
use Rattle.cb_cert.specs.Ahead.{MayCome, all_places}
use Rattle.cb_cert.specs.Prefixes.{Begins, IsReading}

-- the text of a certificate of the format spells it
abbrev pub TextSpells : Type 0
TextSpells = (c : Certificate) → IsCertificate c → SpellsCertificate (text_of c) c

-- no two certificates have the same lines
abbrev pub LinesAreOfOne : Type 0
LinesAreOfOne = (a b : Certificate) → certificate_lines a ≡ certificate_lines b → a ≡ b

-- a text has one reading: one certificate, or one first fault
abbrev pub ReadingIsOne : Type 0
ReadingIsOne = (text : List ℕ) (a b : Result Certificate CertText) → IsReading text a → IsReading text b → a ≡ b

-- what is written is read again: the text of a certificate of the format has no other reading
abbrev pub WrittenIsRead : Type 0
WrittenIsRead = (c : Certificate) (reading : Result Certificate CertText) → IsCertificate c → IsReading (text_of c) reading → reading ≡ Ok c

-- what may come position by position is exactly what some certificate begins with
abbrev pub PlacesAreExact : Type 0
PlacesAreExact = (ls : List CertificateLine) → MayCome 0 all_places ls ↔ Begins ls

-- the text of a certificate of the format has at most 32 MiB
abbrev pub TextIsShort : Type 0
TextIsShort = (c : Certificate) → IsCertificate c → length (text_of c) ≤ 33554432

-- no line of a text that spells a certificate is too long
abbrev pub SpelledIsShort : Type 0
SpelledIsShort = (text : List ℕ) (c : Certificate) → SpellsCertificate text c → HasShortLines text
