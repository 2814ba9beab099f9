-- What holds of certificates that are written and read.
use Rattle.std.specs.Prelude.{ℕ}
use Rattle.cb_model.specs.declared.node.NodeName.{NodeName}
use Rattle.cb_model.specs.declared.node.GroupName.{GroupName}
use Rattle.cb_model.specs.declared.wish.Wish.{Wish}
use Rattle.cb_network.specs.Topology.{Topology}
use Rattle.cb_cert.specs.declared.certificate.Certificate.{Certificate}
use Rattle.cb_cert.specs.Format.{IsCertificate}
use Rattle.cb_validity.specs.Valid.{IsValid}
use Rattle.cb_validity.specs.Verdicts.{IsCheckable}
use Rattle.cb_validity.specs.Codebooks.{IsCodebook, IsShortfall}

-- the certificate of a codebook is valid, be it for a distance or for a cap
abbrev pub CodebookIsValid : Type 0
CodebookIsValid = (t : Topology) (wish : Wish) (c : Certificate) → IsCodebook t wish c → IsValid t c

-- and so is the one that there is none
abbrev pub ShortfallIsValid : Type 0
ShortfallIsValid = (t : Topology) (wanted : ℕ) (first : GroupName) (second : NodeName) (distance : ℕ) (c : Certificate)
    → IsShortfall t wanted first second distance c → IsValid t c

-- what is of the format can be checked
abbrev pub FormatIsCheckable : Type 0
FormatIsCheckable = (c : Certificate) → IsCertificate c → IsCheckable c
