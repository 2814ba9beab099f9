-- What is made of a book's certificate is the certificate of a codebook.
use Rattle.std.proofs.Common.{◌≡◌, ℕ, ◌+◌, ◌/◌, ◌<◌, ◌≤◌, List, [], ◌∷◌, Bool, length, get_or, refl, sym, subst, ap, ◌∙◌, inl, inr, arith}
use Rattle.std.specs.List.{All}
use Rattle.std.specs.Prelude.{slice_index_or}
use Rattle.std.proofs.lemmas.List.{length-map}
use Rattle.std.proofs.lemmas.List.Elements.{All-from_get_or}
use Rattle.cb_model.specs.declared.node.NodeName.{NodeName}
use Rattle.cb_model.specs.declared.wish.Wish.{Wish}
use Rattle.cb_model.specs.declared.wish.Wish.TheVariants.{Plain, Cap}
use Rattle.cb_coding.specs.declared.book.CapBook.{CapBook}
use Rattle.cb_coding.specs.declared.group.Group.{Group}
use Rattle.cb_coding.specs.Answers.{radius}
use Rattle.cb_coding.specs.Groups.{codes_of}
use Rattle.cb_coding.specs.Radii.{AreRadii, IsNearestNeed, radius_at}
use Rattle.cb_finding.specs.Matrix.{IsMatrix}
use Rattle.cb_finding.proofs.One.{matrix_is_one}
use Rattle.cb_network.specs.Topology.{Topology}
use Rattle.cb_network.specs.Sound.{problem_limit}
use Rattle.cb_cert.specs.declared.certificate.Certificate.{Certificate}
use Rattle.cb_cert.specs.declared.certificate.Certificate.TheVariants.{Book, Capped, Thin}
use Rattle.cb_cert.specs.Format.{IsCertificate, IsWanted, radii_limit, greatest_radius}
use Rattle.cb_validity.specs.Canonical.{IsCanonicalBook, IsCanonicalCapped}
use Rattle.cb_validity.specs.Codebooks.{AreBookColumns, IsCodebook}
use Rattle.cb_validity.specs.Totals.{HasFewEntries}
use Rattle.cb_certify.specs.declared.codebook.Codebook.TheVariants.{Certified}
use Rattle.cb_certify.specs.Made.{IsBookClaim, IsBookOver, IsCapBookOf, IsCappedFrom, IsChoiceOf, IsMadeOf}
use Rattle.cb_certify.proofs.CappedFormats.{capped_is_of_format}

-- for a distance
pub book_made : (t : Topology) (distance : ℕ) (kept : List ℕ) (c : Certificate) → IsChoiceOf t (Plain distance) kept → IsWanted distance
    → IsBookOver t kept distance c → IsMadeOf t (Plain distance) (Certified c)
book_made t distance kept c choice wanted over = (
  record { columns = over.columns; are_columns = over.columns_are (Plain distance) choice; canonical = over.canonical },
  over.few,
  over.of_format wanted,
)

-- a canonical book is a book
pub canonical_is_book : (t : Topology) (columns : List NodeName) (distance : ℕ) (c : Certificate) → IsCanonicalBook t columns distance c → IsBookClaim c
canonical_is_book t columns distance c canonical = subst IsBookClaim (sym canonical.is) tt

-- the radii for a cap are no greater than that of the greatest cap
least_is_capped : (width : ℕ) (codes : List (List Bool)) (cap i d : ℕ) → IsNearestNeed width codes cap i d → d ≤ cap
least_is_capped width codes cap i d is = elim is.attained [
  | inl alone ↦ let same = alone.1 in omega arith
  | inr (j, other, same) ↦ omega (arith, same)
]

radii_are_low : (width : ℕ) (codes : List (List Bool)) (cap : ℕ) (radii : List ℕ) → IsWanted cap → AreRadii width codes cap radii
    → All (λ r. r ≤ greatest_radius) radii
radii_are_low width codes cap radii wanted are =
    All-from_get_or (λ r. r ≤ greatest_radius) radii 0 (λ i lt.
    let within : i < length codes = let all = are.all in omega arith in
    let (d, near, is) = are.each i within in
    let least = least_is_capped width codes cap i d near in
    let most = wanted.1 in
    let own : radius_at radii i ≡ radius d = is in
    omega (arith, least, most, own))

module _ (t : Topology) (apart : CapBook) (is : IsCapBookOf t apart) where
  -- the columns are those of the choice for the cap
  pub cap_choice : IsChoiceOf t (Cap apart.cap) apart.columns
  cap_choice = record { columns = is.columns; groups = is.groups; matrix = is.matrix; is = is.is.choice }

  radii_over : (all : List NodeName) (groups : List Group) → IsMatrix t all groups → AreRadii (length all) (codes_of groups) apart.cap apart.radii
  radii_over all groups matrix =
      let same = matrix_is_one t is.columns all is.groups groups is.matrix matrix in
      subst (λ (gs : List Group). AreRadii (length all) (codes_of gs) apart.cap apart.radii) same.1
      (subst (λ (cs : List NodeName). AreRadii (length cs) (codes_of is.groups) apart.cap apart.radii) same.0 is.is.radii)

  -- for a cap
  pub cap_book_made : (book c : Certificate) → IsWanted apart.cap → IsBookOver t apart.columns 1 book → IsCappedFrom book apart.cap apart.radii c
      → IsMadeOf t (Cap apart.cap) (Certified c)
  cap_book_made book c wanted over from =
      let canonical = over.canonical in
      let nodes = canonical.nodes in
      let numbers = canonical.numbers in
      let spans = canonical.spans in
      let of_book = subst (IsCanonicalBook t over.columns 1) canonical.is canonical in
      let same : c ≡ Capped apart.cap nodes numbers apart.radii spans =
      subst (λ (b : Certificate). IsCappedFrom b apart.cap apart.radii c) canonical.is from
      in
      let of_format : IsCertificate (Book 1 nodes numbers spans) = subst IsCertificate canonical.is (over.of_format (omega arith, omega arith)) in
      let long = length-map is.groups (λ (g : Group). g.code) in
      let quiet = ap length is.matrix.groups_are.quiet in
      let all = is.is.radii.all in
      let few = is.few in
      let some : 0 < length apart.radii = omega (arith, long, quiet, all) in
      let within : length apart.radii ≤ radii_limit = omega (arith, long, few, all) in
      let low = radii_are_low (length is.columns) (codes_of is.groups) apart.cap apart.radii wanted is.is.radii in
      let columns = over.columns_are (Cap apart.cap) cap_choice in (
        record {
          columns = over.columns;
          are_columns = columns;
          canonical = (
            apart.radii,
            radii_over columns.all columns.groups columns.matrix,
            record { nodes = nodes; numbers = numbers; spans = spans; is = same; book = of_book },
          );
        },
        over.few,
        subst IsCertificate (sym same) (capped_is_of_format 1 apart.cap nodes numbers apart.radii spans of_format wanted some within low),
      )
