-- What reading and judging one file leaves. `old` is reported before it, `new` after it.
use Rattle.std.specs.Prelude.{◌≡◌, ◌⊎◌, ℕ, List, IfSome}
use Rattle.cb_io.specs.Outside.{FilesReport, left_of, ReadsAll, ReadsPrefix, KeepsOthers, NoCountFalls, ReadFailed}
use Rattle.cb_network.specs.Topology.{Topology}
use Rattle.cb_cert.specs.declared.certificate.Certificate.{Certificate}
use Rattle.cb_validity.specs.declared.verdict.Accepted.{Accepted}
use Rattle.cb_validity.specs.Valid.{IsValid}
use Rattle.cb_validity.specs.Verdicts.{CertificateShows}
use Rattle.cb_levels.specs.declared.levels.Levels.{Levels}
use Rattle.cb_levels.specs.declared.verdict.Proved.{Proved}
use Rattle.cb_levels.specs.Checks.{ShowsReach}
use Rattle.cb_levels.specs.Valid.{AreLevelsOf}
use Rattle.cb_outcome.specs.Roles.{Role}
use Rattle.cb_report.specs.declared.fault.Fault.{Fault}
use Rattle.cb_report.specs.declared.fault.Fault.TheVariants as faults
use Rattle.cb_report.specs.declared.status.Status.TheVariants.{Memory}
use Rattle.cb_report.specs.Faults.{status_of}
use Rattle.cb_outcome.specs.Judged.{File, Known, levelled, Says, RefusesFile}
use Rattle.cb_file_kinds.specs.declared.levels_file.ProvedLevels.{ProvedLevels}

-- a file of this role and name, with this text
abbrev pub file_in_role : Role → List ℕ → List ℕ → File
file_in_role role name text = record { role = role; name = name; text = text }

-- the fault is out of memory
abbrev pub IsWant : Fault → Type 0
IsWant fault = status_of fault ≡ Memory

-- after each that is known before, the file says one that is known after
abbrev pub SaysAfter : (Known → Type 0) → (Known → Type 0) → File → Type 0
SaysAfter Before After file = (known : Known) → Before known → (next : Known) × After next × Says known file next

-- after each that is known before, the file is refused for this
abbrev pub RefusesAfter : (Known → Type 0) → File → Fault → Type 0
RefusesAfter Before file fault = (known : Known) → Before known → RefusesFile known file fault

-- a file isn't judged to say something: memory ran out, or it is refused
abbrev pub StopsJudging : (Known → Type 0) → File → Fault → Type 0
StopsJudging Before file fault = IsWant fault ⊎ RefusesAfter Before file fault

-- a prefix of what was left of the name was read, of every other name there is left what there was, and no count of faults fell
pub record ReadsOnly (name : List ℕ) (old new : FilesReport) : Type 0 where
  pub prefix : ReadsPrefix old new name
  pub others : KeepsOthers old new name
  pub counts : NoCountFalls old new

-- all that was left of the name was read, and it says something
pub record ReadsSaying (role : Role) (name : List ℕ) (Before After : Known → Type 0) (old new : FilesReport) : Type 0 where
  pub text : List ℕ
  pub read : ReadsAll old new name text
  pub says : SaysAfter Before After (file_in_role role name text)

-- the text is what was left of the name, where that is reported
abbrev pub IsTextOf : FilesReport → List ℕ → List ℕ → Type 0
IsTextOf old name text = IfSome (left_of old name) (λ left. text ≡ left)

-- a read of the name failed, and the fault tells that
pub record FailsToRead (name : List ℕ) (old new : FilesReport) (fault : Fault) : Type 0 where
  pub is : fault ≡ faults.ReadFault name
  pub failed : ReadFailed old new name

-- the text of the name is refused for this
pub record IsTextRefused (role : Role) (name : List ℕ) (Before : Known → Type 0) (old : FilesReport) (fault : Fault) : Type 0 where
  pub text : List ℕ
  pub text_is : IsTextOf old name text
  pub refuses : RefusesAfter Before (file_in_role role name text) fault

-- the file stops the run: memory ran out, a read failed, or it is refused
abbrev pub StopsReading : Role → List ℕ → (Known → Type 0) → FilesReport → FilesReport → Fault → Type 0
StopsReading role name Before old new fault = IsWant fault ⊎ (FailsToRead name old new fault ⊎ IsTextRefused role name Before old fault)

-- the certificate is valid, and shows this
pub record IsCertificateAccepted (t : Topology) (c : Certificate) (accepted : Accepted) : Type 0 where
  pub valid : IsValid t c
  pub shows : CertificateShows t c accepted

-- the levels are those of the problem that is shown, and show this
pub record AreProved (t : Topology) (levels : Levels) (proved : Proved) : Type 0 where
  pub valid : AreLevelsOf t proved.root levels
  pub shows : ShowsReach t levels proved

-- the levels that a file of them states, by what is known
abbrev pub IsLevelled : Topology → ProvedLevels → Known → Type 0
IsLevelled t value known = (known ≡ levelled t value.levels) × AreProved t value.levels value.proved
