-- A codebook that is given by a certificate.
use Rattle.std.specs.Prelude.{◌≡◌, ℕ, List}
use Rattle.cb_text.specs.Lines.{HasShortLines}
use Rattle.cb_model.specs.declared.node.NodeName.{NodeName}
use Rattle.cb_network.specs.Topology.{Topology}
use Rattle.cb_cert.specs.declared.certificate.Certificate.{Certificate}
use Rattle.cb_cert.specs.declared.certificate.Certificate.TheVariants.{Book as BookClaim, Capped as CapClaim}
use Rattle.cb_cert.specs.declared.certificate.Span.{Span}
use Rattle.cb_cert.specs.Format.{IsCertificate, SpellsCertificate}
use Rattle.cb_validity.specs.Valid.{IsValid}
use Rattle.cb_validity.specs.declared.verdict.Accepted.{Accepted}
use Rattle.cb_validity.specs.Verdicts.{CertificateShows}
use Rattle.cb_topo.specs.Numbered.{topology_of}
use Rattle.cb_report.specs.CertificateTexts.{accepted_text}
use Rattle.cb_outcome.specs.Judged.{Known, certified}
use Rattle.cb_file_kinds.specs.declared.book_file.GivenBook.{GivenBook}
use Rattle.cb_file_kinds.specs.declared.book_file.GivenWish.{GivenWish}
use Rattle.cb_file_kinds.specs.declared.book_file.GivenWish.TheVariants.{Plain, Cap}
use Rattle.cb_file_kinds.specs.declared.certificate_file.Shown.{Shown}
use Rattle.cb_file_kinds.specs.declared.certificate_file.ValidCertificate.{ValidCertificate}
use Rattle.cb_file_kinds.specs.declared.book_file.ShownBook.{ShownBook}

-- the certificate of a codebook that keeps this, over columns, with these spans
abbrev pub claim_of : GivenWish → List NodeName → List ℕ → List Span → Certificate
claim_of (Plain distance) nodes columns spans = BookClaim distance nodes columns spans
claim_of (Cap cap radii) nodes columns spans = CapClaim cap nodes columns radii spans

-- that of a given one
abbrev pub certificate_of : GivenBook → List Span → Certificate
certificate_of given spans = claim_of given.wish given.nodes given.columns spans

-- it is the codebook of a certificate of the format, which is valid; its graph is of the topology
pub record IsGivenBy (t : Topology) (c : Certificate) (given : GivenBook) : Type 0 where
  pub spans : List Span
  pub is : c ≡ certificate_of given spans
  pub of_format : IsCertificate (certificate_of given spans)
  pub valid : IsValid t (certificate_of given spans)
  pub graph : topology_of given.graph ≡ t

-- of some certificate and some topology
abbrev pub IsGivenBySome : GivenBook → Type 0
IsGivenBySome given = (t : Topology) × (c : Certificate) × IsGivenBy t c given

-- the line says what the certificate shows
pub record IsAcceptedLine (t : Topology) (c : Certificate) (line : List ℕ) : Type 0 where
  pub accepted : Accepted
  pub shows : CertificateShows t c accepted
  pub is : line ≡ accepted_text accepted

-- the certificate is valid, and shows this; the graph is of the topology
pub record IsCertificateShown (t : Topology) (c : Certificate) (shown : Shown) : Type 0 where
  pub valid : IsValid t c
  pub shows : CertificateShows t c shown.accepted
  pub graph : topology_of shown.graph ≡ t

-- the text spells the certificate, and its lines aren't too long
pub record IsValidFrom (t : Topology) (text : List ℕ) (valid : ValidCertificate) : Type 0 where
  pub lines : HasShortLines text
  pub spelled : SpellsCertificate text valid.certificate
  pub shown : IsCertificateShown t valid.certificate valid.shown

-- it is the codebook of the certificate, with its line
pub record IsShownBy (t : Topology) (c : Certificate) (shown : ShownBook) : Type 0 where
  pub given : IsGivenBy t c shown.book
  pub line : IsAcceptedLine t c shown.line.items

-- the book that was shown, by what is known
abbrev pub IsKnownBook : Topology → ShownBook → Known → Type 0
IsKnownBook t shown known = (c : Certificate) × (known ≡ certified t c) × IsShownBy t c shown
