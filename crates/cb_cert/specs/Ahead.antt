-- What may come at each position of a certificate's text.
use Rattle.std.specs.Prelude.{⊤, ℕ, ◌<◌, ◌≤◌, List, [], ◌∷◌, ◌++◌, replicate}
use Rattle.cb_cert.specs.declared.line.CertificateLine.{CertificateLine}
use Rattle.cb_cert.specs.declared.line.CertificateLine.TheVariants as line
use Rattle.cb_cert.specs.declared.line.Version.{Version}
use Rattle.cb_cert.specs.declared.line.Version.TheVariants.{First, Second}
use Rattle.cb_cert.specs.Format.{IsWanted, HasValidNames, IsEntry, column_limit, certificate_node_limit, radii_limit, greatest_radius}

-- a position, by what stands there; the distance of a thin certificate, which may be 0, has a position of its own
pub data TextPlace : Type 0 where
  at_header : TextPlace
  at_kind : Version → TextPlace
  at_wanted : TextPlace
  at_distance : TextPlace
  at_thin_distance : TextPlace
  at_cap : TextPlace
  at_nodes : TextPlace
  at_node : TextPlace
  at_columns : TextPlace
  at_column : TextPlace
  at_radii : TextPlace
  at_radius : TextPlace
  at_spans : TextPlace
  at_span : TextPlace
  at_side : TextPlace
  at_entry : TextPlace
  at_end : TextPlace

-- the line may stand at the position in a certificate with n nodes
abbrev pub MayStand : ℕ → TextPlace → CertificateLine → Type 0
MayStand n at_header (line.Header version) = ⊤
MayStand n (at_kind version) line.Book = ⊤
MayStand n (at_kind First) line.Thin = ⊤
MayStand n at_wanted (line.Wanted w) = IsWanted w
MayStand n at_distance (line.Distance d) = IsWanted d
MayStand n at_thin_distance (line.Distance d) = d ≤ column_limit
MayStand n at_cap (line.Cap c) = IsWanted c
MayStand n at_nodes (line.Nodes m) = m ≤ certificate_node_limit
MayStand n at_node (line.Node x) = HasValidNames x
MayStand n at_columns (line.Columns m) = m ≤ column_limit
MayStand n at_column (line.Column i) = (0 < i) × (i ≤ n)
MayStand n at_radii (line.Radii m) = (0 < m) × (m ≤ radii_limit)
MayStand n at_radius (line.Radius r) = r ≤ greatest_radius
MayStand n at_spans (line.Spans m) = m ≤ column_limit
MayStand n at_span (line.Span m) = (0 < m) × (m ≤ certificate_node_limit)
MayStand n at_side line.Quiet = ⊤
MayStand n at_side (line.Span m) = (0 < m) × (m ≤ certificate_node_limit)
MayStand n at_entry (line.Entry e) = IsEntry n e
MayStand n at_end line.End = ⊤
MayStand n place l = ⊥

-- the positions that come right after a line, which stands at this one
abbrev pub opened : CertificateLine → TextPlace → List TextPlace
opened (line.Header version) place = at_kind version ∷ []
opened line.Book (at_kind First) = at_distance ∷ at_nodes ∷ at_columns ∷ at_spans ∷ []
opened line.Book (at_kind Second) = at_cap ∷ at_nodes ∷ at_columns ∷ at_radii ∷ at_spans ∷ []
opened line.Thin place = at_wanted ∷ at_thin_distance ∷ at_nodes ∷ at_side ∷ at_span ∷ []
opened (line.Nodes n) place = replicate n at_node
opened (line.Columns n) place = replicate n at_column
opened (line.Radii n) place = replicate n at_radius
opened (line.Spans n) place = replicate n at_span
opened (line.Span n) place = replicate n at_entry
opened l place = []

-- how many nodes the certificate has, once the line is read
abbrev pub nodes_after : ℕ → CertificateLine → ℕ
nodes_after n (line.Nodes m) = m
nodes_after n l = n

-- these lines may come in a certificate with n nodes where these positions are ahead
abbrev pub MayCome : ℕ → List TextPlace → List CertificateLine → Type 0
MayCome n ahead [] = ⊤
MayCome n [] (l ∷ ls) = ⊥
MayCome n (place ∷ ahead) (l ∷ ls) = MayStand n place l × MayCome (nodes_after n l) (opened l place ++ ahead) ls

-- what is ahead at the beginning
abbrev pub all_places : List TextPlace
all_places = at_header ∷ at_end ∷ []
