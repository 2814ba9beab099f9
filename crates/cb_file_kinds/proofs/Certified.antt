-- What judging the text of a certificate shows.
use Rattle.std.proofs.Common.{◌≡◌, ◌⊎◌, ◌≤◌, ℕ, List, length, refl, sym, subst, inl, inr}
use Rattle.cb_text.specs.Lines.{HasShortLines, IsFirstLong}
use Rattle.cb_network.specs.Topology.{Topology}
use Rattle.cb_cert.specs.declared.certificate.Certificate.{Certificate}
use Rattle.cb_cert.specs.declared.fault.CertText.{CertText}
use Rattle.cb_cert.specs.declared.fault.CertText.TheVariants as texts
use Rattle.cb_cert.specs.Format.{SpellsCertificate}
use Rattle.cb_cert.specs.Prefixes.{IsFault as IsTextFault}
use Rattle.cb_validity.specs.declared.verdict.Rejected.{Rejected}
use Rattle.cb_validity.specs.declared.verdict.Rejected.TheVariants as rejected
use Rattle.cb_validity.specs.Valid.{IsValid}
use Rattle.cb_validity.specs.Verdicts.{TellsWhy}
use Rattle.cb_outcome.specs.Roles.{Wanted, Role, byte_limit}
use Rattle.cb_report.specs.declared.fault.Fault.{Fault}
use Rattle.cb_report.specs.declared.fault.Fault.TheVariants as faults
use Rattle.cb_report.specs.FaultSources.{fault_of_text, fault_of_rejected}
use Rattle.cb_outcome.specs.Judged.{File, Known, network, certified, Says, IsRejection, IsCertificateFault, RefusesFile}
use Rattle.cb_outcome.specs.Texts.{IsWantedKind}
use Rattle.cb_file_kinds.specs.Kinds.{file_in_role, IsWant, SaysAfter, StopsJudging}

-- why a certificate is rejected, as a fault
pub rejection : (t : Topology) (c : Certificate) (why : Rejected) → TellsWhy t c why
    → IsWant (fault_of_rejected why) ⊎ IsRejection t c (fault_of_rejected why)
rejection t c rejected.NoMemory tells = inl refl
rejection t c (rejected.BadNode place) tells = inr (record { why = rejected.BadNode place; fails = tells; is = refl })
rejection t c (rejected.BadColumn place) tells = inr (record { why = rejected.BadColumn place; fails = tells; is = refl })
rejection t c (rejected.NoSpan problem) tells = inr (record { why = rejected.NoSpan problem; fails = tells; is = refl })
rejection t c (rejected.ExtraSpan place) tells = inr (record { why = rejected.ExtraSpan place; fails = tells; is = refl })
rejection t c (rejected.BadRoot entry) tells = inr (record { why = rejected.BadRoot entry; fails = tells; is = refl })
rejection t c (rejected.BadParent entry) tells = inr (record { why = rejected.BadParent entry; fails = tells; is = refl })
rejection t c (rejected.NoEdge entry) tells = inr (record { why = rejected.NoEdge entry; fails = tells; is = refl })
rejection t c (rejected.Repeated entry) tells = inr (record { why = rejected.Repeated entry; fails = tells; is = refl })
rejection t c (rejected.NotClosed entry successor) tells = inr (record { why = rejected.NotClosed entry successor; fails = tells; is = refl })
rejection t c (rejected.TooClose first second distance) tells = inr (record { why = rejected.TooClose first second distance; fails = tells; is = refl })
rejection t c (rejected.NotThin distance) tells = inr (record { why = rejected.NotThin distance; fails = tells; is = refl })
rejection t c (rejected.BadRadius place) tells = inr (record { why = rejected.BadRadius place; fails = tells; is = refl })

-- a certificate, after a topology
module _ (wanted : Wanted) (name text : List ℕ) (short : length text ≤ byte_limit (Role.certificate wanted)) (t : Topology) where
  abbrev Network : Known → Type 0
  Network known = known ≡ network t

  abbrev TextFile : File
  TextFile = file_in_role (Role.certificate wanted) name text

  refuses : (fault : Fault) → RefusesFile (network t) TextFile fault → StopsJudging Network TextFile fault
  refuses fault r = inr (λ known is. subst (λ (k : Known). RefusesFile k TextFile fault) (sym is) r)

  pub certificate_long : (line : ℕ) → IsFirstLong text line → StopsJudging Network TextFile (faults.LimitLine name line)
  certificate_long line first = refuses (faults.LimitLine name line) (inr (inl (record { bytes = short; limited = tt; line = line; first = first; is = refl })))

  module _ (lines : HasShortLines text) where
    faulty : (fault : Fault) → IsCertificateFault t text fault → StopsJudging Network TextFile fault
    faulty fault has = refuses fault (inr (inr (record { short = record { bytes = short; lines = λ limited. lines }; has = inl has })))

    pub certificate_bad : (why : CertText) → (why ≡ texts.NoMemory) ⊎ IsTextFault text why → StopsJudging Network TextFile (fault_of_text why)
    certificate_bad why (inl want) = inl (rw want refl)
    certificate_bad why (inr is) = faulty (fault_of_text why) (inl (record { why = why; has = is; is = refl }))

    pub certificate_refused : (c : Certificate) → SpellsCertificate text c → (fault : Fault) → IsWant fault ⊎ IsRejection t c fault
        → StopsJudging Network TextFile fault
    certificate_refused c spelled fault (inl want) = inl want
    certificate_refused c spelled fault (inr r) = faulty fault (inr (c, spelled, r))

    -- a valid one that isn't of the wanted kind
    pub certificate_unwanted : (c : Certificate) → SpellsCertificate text c → IsValid t c → (¬ IsWantedKind wanted c) → StopsJudging Network TextFile faults.NotBook
    certificate_unwanted c spelled valid other =
        refuses faults.NotBook (inr (inr (record {
          short = record { bytes = short; lines = λ limited. lines };
          has = inr (record { certificate = c; valid = record { spelled = spelled; valid = valid }; other = other; is = refl });
        })))

    -- and one that is
    pub certificate_says : (c : Certificate) → SpellsCertificate text c → IsValid t c → IsWantedKind wanted c → (After : Known → Type 0) → After (certified t c)
        → SaysAfter Network After TextFile
    certificate_says c spelled valid kind After after known before =
        let says : Says (network t) TextFile (certified t c) = record {
          short = record { bytes = short; lines = λ limited. lines };
          means = (c, record { spelled = spelled; valid = valid }, kind, refl);
        } in
        (certified t c, after, subst (λ (k : Known). Says k TextFile (certified t c)) (sym before) says)
