-- Lines of nodes and of entries, by their bytes.
use Rattle.std.specs.Prelude.{◌≡◌, ◌≢◌, ℕ, ◌<◌, ◌^◌, List, codes, decimal, ◌++◌, Option, None, Some}
use Rattle.cb_model.specs.declared.node.NodeName.{NodeName}
use Rattle.cb_cert.specs.declared.certificate.Entry.{Entry}
use Rattle.cb_cert.specs.declared.line.CertificateLine.TheVariants as line
use Rattle.cb_cert.specs.Format.{HasValidNames}
use Rattle.cb_cert.specs.Lines.{line_text}

-- the numbers of the entry have at most 32 bits
abbrev pub IsShortEntry : Entry → Type 0
IsShortEntry e = (e.node < 2 ^ 32) × (e.parent < 2 ^ 32)

-- two numbers with a space between
abbrev pub numbers_text : Entry → List ℕ
numbers_text e = decimal e.node ++ codes " " ++ decimal e.parent

-- the bytes are no two short numbers with a space between
abbrev pub IsNoPair : List ℕ → Type 0
IsNoPair bytes = (e : Entry) → IsShortEntry e → bytes ≢ numbers_text e

-- the bytes are no line of an entry with short numbers
abbrev pub IsNoEntry : List ℕ → Type 0
IsNoEntry bytes = (e : Entry) → IsShortEntry e → bytes ≢ line_text (line.Entry e)

-- the bytes are the line of this node, whose names are names; or of no node
abbrev pub IsNodeLine : List ℕ → Option NodeName → Type 0
IsNodeLine bytes (Some n) = (bytes ≡ line_text (line.Node n)) × HasValidNames n
IsNodeLine bytes None = (n : NodeName) → HasValidNames n → bytes ≢ line_text (line.Node n)
