-- What `codebook` writes is the text of a valid certificate.
use Rattle.std.proofs.Common.{◌≡◌, ◌⊎◌, ℕ, List, sym, ap, subst, inl, inr}
use Rattle.cb_model.specs.declared.wish.Wish.{Wish}
use Rattle.cb_model.specs.declared.wish.Wish.TheVariants.{Plain, Cap}
use Rattle.cb_network.specs.Topology.{Topology}
use Rattle.cb_cert.specs.declared.certificate.Certificate.{Certificate}
use Rattle.cb_cert.specs.Format.{IsCertificate}
use Rattle.cb_cert.specs.Lines.{text_of}
use Rattle.cb_cert.proofs.Sizes.{text_is_short, spelled_is_short}
use Rattle.cb_cert.proofs.TextLines.{text_spells}
use Rattle.cb_validity.specs.Valid.{IsValid}
use Rattle.cb_validity.proofs.Codebooks.{codebook_is_valid, shortfall_is_valid}
use Rattle.cb_report.specs.declared.fault.Fault.TheVariants as faults
use Rattle.cb_outcome.specs.Roles.{Wanted, Role}
use Rattle.cb_outcome.specs.Outcome.{Outcome, refused}
use Rattle.cb_outcome.specs.Texts.{IsValidText}
use Rattle.cb_outcome.specs.Judged.{IsShortFor}
use Rattle.cb_outcome.specs.Jobs.{CodebookGives, RefusesWish}

-- the text of a certificate file that is accepted
pub record IsAcceptable (t : Topology) (text : List ℕ) : Type 0 where
  pub certificate : Certificate
  pub valid : IsValidText t text certificate
  pub short : IsShortFor (Role.certificate Wanted.any) text

pub text_is_valid : (t : Topology) (c : Certificate) → IsCertificate c → IsValid t c → IsValidText t (text_of c) c
text_is_valid t c of_format valid = record { spelled = text_spells c of_format; valid = valid }

pub text_fits : (c : Certificate) → IsCertificate c → IsShortFor (Role.certificate Wanted.any) (text_of c)
text_fits c of_format =
    record { bytes = text_is_short c of_format; lines = λ limited. spelled_is_short (text_of c) c (text_spells c of_format) }

acceptable : (t : Topology) (c : Certificate) (text : List ℕ) → IsCertificate c → IsValid t c → text ≡ text_of c → IsAcceptable t text
acceptable t c text of_format valid same =
    subst (IsAcceptable t) (sym same)
    (record { certificate = c; valid = text_is_valid t c of_format valid; short = text_fits c of_format })

-- what is written where a distance is refused
refused_spells : (t : Topology) (wish : Wish) (whole : ℕ) (outcome : Outcome) → RefusesWish t wish whole outcome → IsAcceptable t outcome.out
refused_spells t (Plain d) whole outcome p =
    let valid = shortfall_is_valid t d p.first p.second p.distance p.certificate (record { close = p.close; canonical = p.canonical }) in
    acceptable t p.certificate outcome.out p.of_format valid (ap (λ (o : Outcome). o.out) p.gives)
refused_spells t (Cap cap) whole outcome p = absurd p

-- what is written of a codebook, if anything is
pub codebook_spells : (t : Topology) (wish : Wish) (whole : ℕ) (outcome : Outcome) → CodebookGives t wish whole outcome
    → IsAcceptable t outcome.out ⊎ (outcome ≡ refused faults.LimitEntries whole)
codebook_spells t wish whole outcome (inl p) =
    inl (acceptable t p.certificate outcome.out p.of_format (codebook_is_valid t wish p.certificate p.is) (ap (λ (o : Outcome). o.out) p.gives))
codebook_spells t wish whole outcome (inr (inl many)) = inr many.gives
codebook_spells t wish whole outcome (inr (inr p)) = inl (refused_spells t wish whole outcome p)
