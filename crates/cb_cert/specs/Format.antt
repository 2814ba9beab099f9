-- Which certificates are of the format, and which text spells which.
use Rattle.std.specs.Prelude.{◌≡◌, ⊤, ℕ, ◌<◌, ◌≤◌, List, length, map}
use Rattle.std.specs.List.{All, sum_by}
use Rattle.cb_text.specs.Names.{IsName, IsInstance}
use Rattle.cb_text.specs.Lines.{lines_of}
use Rattle.cb_model.specs.declared.node.NodeName.{NodeName}
use Rattle.cb_cert.specs.declared.certificate.Certificate.{Certificate}
use Rattle.cb_cert.specs.declared.certificate.Certificate.TheVariants.{Book, Capped, Thin}
use Rattle.cb_cert.specs.declared.certificate.Entry.{Entry}
use Rattle.cb_cert.specs.declared.line.CertificateLine.{CertificateLine}
use Rattle.cb_cert.specs.declared.line.CertificateLine.TheVariants as line
use Rattle.cb_cert.specs.Lines.{certificate_lines, line_text}

-- a distance that is wanted is at most this, and so is a cap
abbrev pub wanted_limit : ℕ
wanted_limit = 9999

-- at most this many nodes
abbrev pub certificate_node_limit : ℕ
certificate_node_limit = 65536

-- at most this many columns, and at most this many spans
abbrev pub column_limit : ℕ
column_limit = 8192

-- at most this many radii
abbrev pub radii_limit : ℕ
radii_limit = 8193

-- a radius is at most this
abbrev pub greatest_radius : ℕ
greatest_radius = 4999

-- at most this many entries, in all spans together
abbrev pub entry_limit : ℕ
entry_limit = 1048576

-- the nodes that the numbers of a certificate stand for
abbrev pub nodes_of : Certificate → List NodeName
nodes_of (Book distance nodes columns spans) = nodes
nodes_of (Capped cap nodes columns radii spans) = nodes
nodes_of (Thin wanted distance nodes first second) = nodes

-- a number is that of a node of the certificate
abbrev pub IsCertNodeNumber : Certificate → ℕ → Type 0
IsCertNodeNumber c i = (0 < i) × (i ≤ length (nodes_of c))

-- a number in a range
abbrev pub IsBetween : ℕ → ℕ → ℕ → Type 0
IsBetween least most n = (least ≤ n) × (n ≤ most)

-- a distance that may be wanted, or a cap
abbrev pub IsWanted : ℕ → Type 0
IsWanted d = (0 < d) × (d ≤ wanted_limit)

-- a book's distance may be wanted; two groups that are too close differ in some number of columns; a cap has no distance beside it
abbrev pub IsDistance : Certificate → ℕ → Type 0
IsDistance (Book distance nodes columns spans) d = IsWanted d
IsDistance (Capped cap nodes columns radii spans) d = ⊥
IsDistance (Thin wanted distance nodes first second) d = d ≤ column_limit

-- the names of a node are names
abbrev pub HasValidNames : NodeName → Type 0
HasValidNames n = IsName n.event × IsInstance n.instance

-- an entry among that many nodes: its node is one of them, and its parent may be a position of a span, or 0
abbrev pub IsEntry : ℕ → Entry → Type 0
IsEntry nodes e = ((0 < e.node) × (e.node ≤ nodes)) × (e.parent ≤ certificate_node_limit)

-- the numbers of a line of the certificate are in their ranges, and its names are names
abbrev pub Fits : Certificate → CertificateLine → Type 0
Fits c (line.Wanted w) = IsWanted w
Fits c (line.Distance d) = IsDistance c d
Fits c (line.Cap n) = IsWanted n
Fits c (line.Nodes n) = n ≤ certificate_node_limit
Fits c (line.Node n) = HasValidNames n
Fits c (line.Columns n) = n ≤ column_limit
Fits c (line.Column i) = IsCertNodeNumber c i
Fits c (line.Radii n) = (0 < n) × (n ≤ radii_limit)
Fits c (line.Radius r) = r ≤ greatest_radius
Fits c (line.Spans n) = n ≤ column_limit
Fits c (line.Span n) = (0 < n) × (n ≤ certificate_node_limit)
Fits c (line.Entry e) = IsEntry (length (nodes_of c)) e
Fits c l = ⊤

-- how many entries the spans that begin on these lines have
abbrev pub entries_in : CertificateLine → ℕ
entries_in (line.Span n) = n
entries_in l = 0

-- the certificate is of the format: each of its lines fits, and its entries are not too many
pub record IsCertificate (c : Certificate) : Type 0 where
  pub fit : All (Fits c) (certificate_lines c)
  pub few : sum_by entries_in (certificate_lines c) ≤ entry_limit

-- the lines of the text are those of the certificate; whether the last one has a LF makes no difference
pub record SpellsCertificate (text : List ℕ) (c : Certificate) : Type 0 where
  pub is : IsCertificate c
  pub lines : lines_of text ≡ map line_text (certificate_lines c)
