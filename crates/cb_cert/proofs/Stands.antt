-- Which lines stand at each place, one after the other.
use Rattle.std.proofs.Common.{◌≡◌, ℕ, refl, arith}
use Rattle.cb_model.specs.declared.node.NodeName.{NodeName}
use Rattle.cb_cert.specs.declared.certificate.Entry.{Entry}
use Rattle.cb_cert.specs.declared.line.CertificateLine.{CertificateLine}
use Rattle.cb_cert.specs.declared.line.CertificateLine.TheVariants as line
use Rattle.cb_cert.specs.Ahead.{at_wanted, at_distance, at_thin_distance, at_cap, at_nodes, at_node, at_columns, at_column, at_radii, at_radius, at_spans, at_entry, MayStand}
use Rattle.cb_cert.specs.Format.{IsBetween, HasValidNames, IsEntry, wanted_limit, certificate_node_limit, column_limit, radii_limit, greatest_radius}
use Rattle.cb_cert.proofs.Moved.{Stand}

only_wanted : (n : ℕ) (l : CertificateLine) → MayStand n at_wanted l → (x : ℕ) × (l ≡ line.Wanted x) × IsBetween 1 wanted_limit x
only_wanted n (line.Wanted x) p = (x, refl, p)
only_wanted n l p = absurd p

pub wanted : (n : ℕ) → Stand n at_wanted line.Wanted (IsBetween 1 wanted_limit)
wanted n = record { may = λ x p. p; only = only_wanted n; light = λ x. refl; inside = λ x e. cc }

only_distance : (n : ℕ) (l : CertificateLine) → MayStand n at_distance l → (x : ℕ) × (l ≡ line.Distance x) × IsBetween 1 wanted_limit x
only_distance n (line.Distance x) p = (x, refl, p)
only_distance n l p = absurd p

pub distance : (n : ℕ) → Stand n at_distance line.Distance (IsBetween 1 wanted_limit)
distance n = record { may = λ x p. p; only = only_distance n; light = λ x. refl; inside = λ x e. cc }

only_thin : (n : ℕ) (l : CertificateLine) → MayStand n at_thin_distance l → (x : ℕ) × (l ≡ line.Distance x) × IsBetween 0 column_limit x
only_thin n (line.Distance x) p = (x, refl, ((omega arith), p))
only_thin n l p = absurd p

pub thin_distance : (n : ℕ) → Stand n at_thin_distance line.Distance (IsBetween 0 column_limit)
thin_distance n = record { may = λ x p. p.1; only = only_thin n; light = λ x. refl; inside = λ x e. cc }

only_cap : (n : ℕ) (l : CertificateLine) → MayStand n at_cap l → (x : ℕ) × (l ≡ line.Cap x) × IsBetween 1 wanted_limit x
only_cap n (line.Cap x) p = (x, refl, p)
only_cap n l p = absurd p

pub cap : (n : ℕ) → Stand n at_cap line.Cap (IsBetween 1 wanted_limit)
cap n = record { may = λ x p. p; only = only_cap n; light = λ x. refl; inside = λ x e. cc }

only_nodes : (n : ℕ) (l : CertificateLine) → MayStand n at_nodes l → (x : ℕ) × (l ≡ line.Nodes x) × IsBetween 0 certificate_node_limit x
only_nodes n (line.Nodes x) p = (x, refl, ((omega arith), p))
only_nodes n l p = absurd p

pub nodes : (n : ℕ) → Stand n at_nodes line.Nodes (IsBetween 0 certificate_node_limit)
nodes n = record { may = λ x p. p.1; only = only_nodes n; light = λ x. refl; inside = λ x e. cc }

only_node : (n : ℕ) (l : CertificateLine) → MayStand n at_node l → (x : NodeName) × (l ≡ line.Node x) × HasValidNames x
only_node n (line.Node x) p = (x, refl, p)
only_node n l p = absurd p

pub one_node : (n : ℕ) → Stand n at_node line.Node HasValidNames
one_node n = record { may = λ x p. p; only = only_node n; light = λ x. refl; inside = λ x e. cc }

only_columns : (n : ℕ) (l : CertificateLine) → MayStand n at_columns l → (x : ℕ) × (l ≡ line.Columns x) × IsBetween 0 column_limit x
only_columns n (line.Columns x) p = (x, refl, ((omega arith), p))
only_columns n l p = absurd p

pub columns : (n : ℕ) → Stand n at_columns line.Columns (IsBetween 0 column_limit)
columns n = record { may = λ x p. p.1; only = only_columns n; light = λ x. refl; inside = λ x e. cc }

only_column : (n : ℕ) (l : CertificateLine) → MayStand n at_column l → (x : ℕ) × (l ≡ line.Column x) × IsBetween 1 n x
only_column n (line.Column x) p = (x, refl, p)
only_column n l p = absurd p

pub column : (n : ℕ) → Stand n at_column line.Column (IsBetween 1 n)
column n = record { may = λ x p. p; only = only_column n; light = λ x. refl; inside = λ x e. cc }

only_radii : (n : ℕ) (l : CertificateLine) → MayStand n at_radii l → (x : ℕ) × (l ≡ line.Radii x) × IsBetween 1 radii_limit x
only_radii n (line.Radii x) p = (x, refl, p)
only_radii n l p = absurd p

pub radii : (n : ℕ) → Stand n at_radii line.Radii (IsBetween 1 radii_limit)
radii n = record { may = λ x p. p; only = only_radii n; light = λ x. refl; inside = λ x e. cc }

only_radius : (n : ℕ) (l : CertificateLine) → MayStand n at_radius l → (x : ℕ) × (l ≡ line.Radius x) × IsBetween 0 greatest_radius x
only_radius n (line.Radius x) p = (x, refl, ((omega arith), p))
only_radius n l p = absurd p

pub radius : (n : ℕ) → Stand n at_radius line.Radius (IsBetween 0 greatest_radius)
radius n = record { may = λ x p. p.1; only = only_radius n; light = λ x. refl; inside = λ x e. cc }

only_spans : (n : ℕ) (l : CertificateLine) → MayStand n at_spans l → (x : ℕ) × (l ≡ line.Spans x) × IsBetween 0 column_limit x
only_spans n (line.Spans x) p = (x, refl, ((omega arith), p))
only_spans n l p = absurd p

pub spans : (n : ℕ) → Stand n at_spans line.Spans (IsBetween 0 column_limit)
spans n = record { may = λ x p. p.1; only = only_spans n; light = λ x. refl; inside = λ x e. cc }

only_entry : (n : ℕ) (l : CertificateLine) → MayStand n at_entry l → (x : Entry) × (l ≡ line.Entry x) × IsEntry n x
only_entry n (line.Entry x) p = (x, refl, p)
only_entry n l p = absurd p

pub entry : (n : ℕ) → Stand n at_entry line.Entry (IsEntry n)
entry n = record { may = λ x p. p; only = only_entry n; light = λ x. refl; inside = λ x e. cc }
