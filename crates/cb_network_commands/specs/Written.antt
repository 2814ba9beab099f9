-- What is written of a codebook, and of a matrix.
use Rattle.std.specs.Prelude.{◌≡◌, ⊤, ℕ, List, [], length, Option, None, Some}
use Rattle.cb_model.specs.declared.node.GroupName.TheVariants.{Least}
use Rattle.cb_model.specs.declared.node.NodeName.{NodeName}
use Rattle.cb_coding.specs.declared.book.Pair.{Pair}
use Rattle.cb_coding.specs.declared.group.Group.{Group}
use Rattle.cb_coding.specs.Groups.{codes_of}
use Rattle.cb_coding.specs.Pairs.{IsClosestPair}
use Rattle.cb_cert.specs.Format.{IsCertificate}
use Rattle.cb_cert.specs.Lines.{text_of}
use Rattle.cb_certify.specs.declared.codebook.Codebook.{Codebook}
use Rattle.cb_certify.specs.declared.codebook.Codebook.TheVariants.{Certified, TooManyEntries, TooClose}
use Rattle.cb_report.specs.MatrixText.{matrix_text}
use Rattle.cb_report.specs.declared.fault.Fault.{Fault}
use Rattle.cb_report.specs.declared.fault.Fault.TheVariants.{LimitEntries, Distance}

-- the lines are those of the columns, the groups with their codes, and how far the closest two are apart
pub record IsMatrixText (columns : List NodeName) (groups : List Group) (lines : List ℕ) : Type 0 where
  pub least : Option Pair
  pub least_is : IsClosestPair (length columns) (codes_of groups) least
  pub lines_are : lines ≡ matrix_text columns groups least

-- the certificate is of the format
abbrev pub CanBeWritten : Codebook → Type 0
CanBeWritten (Certified certificate) = IsCertificate certificate
CanBeWritten TooManyEntries = ⊤
CanBeWritten (TooClose wanted first second distance certificate) = IsCertificate certificate

-- the bytes, and the fault beside them
abbrev pub IsWritten : Codebook → List ℕ → Option Fault → Type 0
IsWritten (Certified certificate) bytes fault = (bytes ≡ text_of certificate) × (fault ≡ None)
IsWritten TooManyEntries bytes fault = (bytes ≡ []) × (fault ≡ Some LimitEntries)
IsWritten (TooClose wanted first second distance certificate) bytes fault =
    (bytes ≡ text_of certificate) × (fault ≡ Some (Distance wanted first (Least second) distance))
