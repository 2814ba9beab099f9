-- Valid levels are of the format.
use Rattle.std.proofs.Common.{◌≡◌, ℕ, zero, suc, ◌-◌, ◌<◌, ◌≤◌, List, [], ◌∷◌, ◌++◌, length, get_or, map, refl, sym, ap, subst, ◌∙◌, arith, Some}
use Rattle.std.specs.Prelude.{slice_get}
use Rattle.std.specs.List.{All}
use Rattle.std.proofs.lemmas.List.{length-map}
use Rattle.std.proofs.lemmas.List.Elements.{All-head, All-tail}
use Rattle.std.proofs.lemmas.Option.{same_Some, slice_get_within, slice_get-get_or}
use Rattle.cb_model.specs.declared.node.NodeName.{NodeName}
use Rattle.cb_model.specs.WellTyped.{HasNames}
use Rattle.cb_network.specs.Topology.{Topology}
use Rattle.cb_network.specs.Sound.{Sound}
use Rattle.cb_cert.specs.declared.certificate.Certificate.{Certificate}
use Rattle.cb_cert.specs.declared.certificate.Certificate.TheVariants.{Thin}
use Rattle.cb_cert.specs.declared.line.Version.TheVariants.{First}
use Rattle.cb_cert.specs.declared.certificate.Entry.{Entry}
use Rattle.cb_cert.specs.declared.certificate.Side.TheVariants.{Quiet}
use Rattle.cb_cert.specs.declared.certificate.Span.{Span}
use Rattle.cb_cert.specs.declared.line.CertificateLine.{CertificateLine}
use Rattle.cb_cert.specs.declared.line.CertificateLine.TheVariants as cert
use Rattle.cb_cert.specs.Format.{IsEntry, IsCertificate, Fits}
use Rattle.cb_cert.specs.Lines.{node_lines, span_lines}
use Rattle.cb_cert.proofs.TextLines.{few_nodes}
use Rattle.cb_validity.specs.Spans.{StandsFor, IsListedAt, IsSpanOf, HasEdge}
use Rattle.cb_validity.proofs.Formats.{thin_is_of_format}
use Rattle.cb_validity.proofs.Passing.{all_left, all_right, all_unmapped}
use Rattle.cb_levels.specs.declared.levels.LevelEntry.{LevelEntry}
use Rattle.cb_levels.specs.declared.levels.Levels.{Levels}
use Rattle.cb_levels.specs.Listed.{IsEntryAt}
use Rattle.cb_levels.specs.Valid.{AreLevelsOf, AreValidLevels}
use Rattle.cb_levels.specs.Format.{IsLevels}

-- an item of a mapped list
map_at : {X Y : Type 0} (f : X → Y) (xs : List X) (k : ℕ) (x : X) → slice_get xs k ≡ Some x → slice_get (map f xs) k ≡ Some (f x)
map_at f [] k x at = absurd (cc)
map_at f (y ∷ xs) zero x at = ap (λ z. Some (f z)) (same_Some y x at)
map_at f (y ∷ xs) (suc k) x at = map_at f xs k x at

map_back : {X Y : Type 0} (f : X → Y) (xs : List X) (k : ℕ) (y : Y) → slice_get (map f xs) k ≡ Some y → (x : X) × (slice_get xs k ≡ Some x) × (f x ≡ y)
map_back f [] k y at = absurd (cc)
map_back f (x ∷ xs) zero y at = (x, refl, same_Some (f x) y at)
map_back f (x ∷ xs) (suc k) y at = map_back f xs k y at

-- what holds of all items holds of the one at a position
all_at : {X : Type 0} (Q : X → Type 0) (xs : List X) → All Q xs → (k : ℕ) (x : X) → slice_get xs k ≡ Some x → Q x
all_at Q xs all k x at =
    let low = slice_get_within xs k x at in
    subst Q (same_Some (get_or xs k x) x (sym (slice_get-get_or xs k x low) ∙ at)) (all k x low)

-- the entry without its level
abbrev bare : LevelEntry → Entry
bare e = record { node = e.node; parent = e.parent }

module _ (t : Topology) (root : NodeName) (levels : Levels) (are : AreLevelsOf t root levels) where
  abbrev span : Span
  span = record { entries = map bare levels.entries }

  -- what the span lists is listed
  listed : (k : ℕ) (n : NodeName) → IsListedAt levels.nodes span k n → (e : LevelEntry) × IsEntryAt levels k e n
  listed k n at =
      let back = map_back bare levels.entries k at.entry at.is in
      (back.0, record { is = back.1; names = subst (λ (x : Entry). StandsFor levels.nodes x.node n) (sym back.2) at.names })

  lists : (k : ℕ) (e : LevelEntry) (n : NodeName) → IsEntryAt levels k e n → IsListedAt levels.nodes span k n
  lists k e n at = record { entry = bare e; is = map_at bare levels.entries k e at.is; names = at.names }

  -- without levels, the entries are a span of the root
  span_is : IsSpanOf t levels.nodes root span
  span_is =
      let begins = are.begins in
      let first = begins.first in
      record {
        begins = record { entry = bare begins.entry; first = map_at bare levels.entries 0 begins.entry first.is; names = first.names; alone = begins.alone };
        earlier = λ k x low at.
            let back = map_back bare levels.entries k x at in
            let has = are.parents k back.0 low back.1 in
            subst (λ (y : Entry). (0 < y.parent) × (y.parent ≤ k)) back.2 (has.counted, has.earlier);
        edges = λ k x low at.
            let back = map_back bare levels.entries k x at in
            let has = are.parents k back.0 low back.1 in
            let edge : HasEdge t levels.nodes span (bare back.0) = record {
              from = has.source;
              to = has.target;
              from_is = lists (back.0.parent - 1) has.from has.source has.from_is;
              to_is = has.to_is;
              edge = has.edge;
            } in
            subst (HasEdge t levels.nodes span) back.2 edge;
        once = λ i j n a b.
            let x = listed i n a in
            let y = listed j n b in
            are.once i j x.0 y.0 n x.1 y.1;
        closed = λ p q l edge.
            let x = listed l.0 p l.1 in
            let near = are.closed l.0 x.0 p q x.1 edge in
            (near.position, lists near.position near.entry q near.listed);
      }

  -- no level is above the entry's position
  level_low : (bound k : ℕ) (e : LevelEntry) → k < bound → slice_get levels.entries k ≡ Some e → e.level ≤ k
  level_low zero k e low at = absurd (omega arith)
  level_low (suc bound) zero e low at =
      let begins = are.begins in
      let first = begins.first in
      let same : begins.entry ≡ e = same_Some begins.entry e (sym first.is ∙ at) in
      let level = ap (λ (x : LevelEntry). x.level) same in
      let start = begins.level in
      omega arith
  level_low (suc bound) (suc k) e low at =
      let has = are.parents (suc k) e (omega arith) at in
      let counted = has.counted in
      let earlier = has.earlier in
      let from = has.from_is in
      let below = level_low bound (e.parent - 1) has.from (omega arith) from.is in
      let level = has.level in
      omega arith

  module _ (sound : Sound t) (named : HasNames t.model) where
    abbrev c : Certificate
    c = Thin 1 0 levels.nodes Quiet span

    abbrev P : CertificateLine → Type 0
    P = Fits c

    is_certificate : IsCertificate c
    is_certificate =
        thin_is_of_format t 1 0 levels.nodes Quiet span sound named are.nodes_are tt (record { root = root; problem = (are.begins).problem; is = span_is })
        (omega arith, omega arith) (omega arith)

    pub of_format : IsLevels levels
    of_format =
        let nl = node_lines levels.nodes in
        let sl = span_lines span in
        let body = nl ++ cert.Quiet ∷ sl in
        let claim = cert.Thin ∷ cert.Wanted 1 ∷ cert.Distance 0 ∷ body in
        let claim_fits = all_left P claim (cert.End ∷ []) (All-tail P (cert.Header First) (claim ++ cert.End ∷ []) (is_certificate.fit)) in
        let later = All-tail P (cert.Wanted 1) (cert.Distance 0 ∷ body) (All-tail P cert.Thin (cert.Wanted 1 ∷ cert.Distance 0 ∷ body) claim_fits) in
        let body_fits = All-tail P (cert.Distance 0) body later in
        let names = all_unmapped P cert.Node levels.nodes (All-tail P (cert.Nodes (length levels.nodes)) (map cert.Node levels.nodes) (all_left P nl (cert.Quiet ∷ sl) body_fits)) in
        let span_fits = All-tail P cert.Quiet sl (all_right P nl (cert.Quiet ∷ sl) body_fits) in
        let count = All-head P (cert.Span (length span.entries)) (map cert.Entry span.entries) span_fits in
        let entries = all_unmapped P cert.Entry span.entries (All-tail P (cert.Span (length span.entries)) (map cert.Entry span.entries) span_fits) in
        let some = count.0 in
        let most = count.1 in
        let long = length-map levels.entries bare in
        let few = few_nodes c is_certificate in
        let first = (are.begins).first in
        let names_first = first.names in
        let counted = names_first.counted in
        let one = slice_get_within levels.nodes ((are.begins).entry.node - 1) root names_first.is in
        record {
          nodes = (omega arith, omega arith);
          names = names;
          entries = (omega arith, omega arith);
          each = λ k d low.
              let e = get_or levels.entries k d in
              let at = slice_get-get_or levels.entries k d low in
              let fits : IsEntry (length levels.nodes) (bare e) = all_at (λ x. P (cert.Entry x)) span.entries entries k (bare e) (map_at bare levels.entries k e at) in
              let level = level_low (suc k) k e (omega arith) at in
              record { node = (fits.0.0, fits.0.1); level = omega arith; parent = fits.1 };
        }

pub valid_is_of_format : (t : Topology) (levels : Levels) → Sound t → HasNames t.model → AreValidLevels t levels → IsLevels levels
valid_is_of_format t levels sound named valid = of_format t valid.0 levels valid.1 sound named
