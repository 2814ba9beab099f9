-- Each job gives one outcome.
use Rattle.std.proofs.Common.{◌≡◌, ℕ, Bool, List, [], ◌∷◌, length, refl, sym, ap, ◌∙◌, subst, inl, inr, Some, arith}
use Rattle.std.specs.List.{slice_get}
use Rattle.cb_model.specs.declared.node.GroupName.{GroupName}
use Rattle.cb_model.specs.declared.node.GroupName.TheVariants.{Least}
use Rattle.cb_model.specs.declared.node.NodeName.{NodeName}
use Rattle.cb_coding.specs.declared.book.Pair.{Pair}
use Rattle.cb_coding.specs.declared.group.Group.{Group}
use Rattle.cb_coding.specs.Books.{IsChoice}
use Rattle.cb_coding.specs.Distance.{all_columns}
use Rattle.cb_coding.specs.Groups.{codes_of}
use Rattle.cb_coding.specs.Needs.{need_of}
use Rattle.cb_coding.specs.Pairs.{GoodFor, IsClosestPair, IsFirstClose}
use Rattle.cb_coding.proofs.BookLaws.{choice_is_one}
use Rattle.cb_coding.proofs.RadiusLaws.{radii_are_one}
use Rattle.cb_coding.proofs.One.{least_is_one, first_close_is_one}
use Rattle.cb_network.specs.Topology.{Topology}
use Rattle.cb_finding.specs.declared.finding.Finding.{Finding}
use Rattle.cb_finding.specs.Finding.{IsCalled}
use Rattle.cb_finding.proofs.One.{burst_is_one, matrix_is_one, group_name_is_one}
use Rattle.cb_cert.specs.declared.certificate.Certificate.{Certificate}
use Rattle.cb_cert.specs.declared.certificate.Certificate.TheVariants.{Book as BookClaim, Capped as CapClaim, Thin as ThinClaim}
use Rattle.cb_model.specs.declared.wish.Wish.{Wish}
use Rattle.cb_model.specs.declared.wish.Wish.TheVariants.{Plain, Cap}
use Rattle.cb_coding.specs.Used.{AreLeastAndGreatest}
use Rattle.cb_coding.proofs.UsedLaws.{least_and_greatest_are_one}
use Rattle.cb_cert.specs.declared.certificate.Side.{Side}
use Rattle.cb_cert.specs.declared.certificate.Side.TheVariants as side
use Rattle.cb_cert.specs.declared.certificate.Span.{Span}
use Rattle.cb_cert.specs.declared.certificate.Entry.{Entry}
use Rattle.cb_cert.specs.Lines.{text_of}
use Rattle.cb_validity.specs.declared.verdict.Accepted.{Accepted}
use Rattle.cb_validity.specs.declared.verdict.Accepted.TheVariants as accepted
use Rattle.cb_validity.specs.Canonical.{IsCanonicalCapped, IsCanonicalThin}
use Rattle.cb_validity.specs.Codebooks.{HasCodebook, AreBookColumns, IsCanonicalFor, IsCodebook, AreFirstClose, least_of}
use Rattle.cb_validity.specs.Laws.{HavePlaces}
use Rattle.cb_validity.specs.Spans.{StandsFor, BeginsWithRoot}
use Rattle.cb_validity.specs.Verdicts.{IsSideName, CertificateShows}
use Rattle.cb_validity.proofs.Firsts.{made_is_one}
use Rattle.cb_validity.proofs.SpanLaws.{stands_for_one}
use Rattle.cb_validity.proofs.Totals.{few_are_not_many}
use Rattle.cb_validity.proofs.Wholes.{canonical_book_is_one, canonical_capped_is_one, canonical_thin_is_one}
use Rattle.cb_report.specs.declared.fault.Fault.TheVariants as faults
use Rattle.cb_report.specs.CertificateTexts.{accepted_text}
use Rattle.cb_report.specs.Lines.{burst_text}
use Rattle.cb_report.specs.MatrixText.{matrix_text}
use Rattle.cb_report.specs.declared.fits.FoundFits.{FoundFits}
use Rattle.cb_report.specs.FitsText.{fits_text}
use Rattle.cb_outcome.specs.Fits.{IsFoundFor}
use Rattle.cb_outcome.specs.Outcome.{Outcome, done, done_with, refused}
use Rattle.cb_outcome.specs.Jobs.{BurstGives, MatrixGives, WritesCodebook, RefusesWish, WritesThin, CodebookGives, VerifyGives, ListsFits, RefusesGroups, PairsGives}
use Rattle.cb_outcome.proofs.FitsOne.{found_is_one}

pub burst_one : (t : Topology) (nodes : List NodeName) (whole : ℕ) (a b : Outcome) → BurstGives t nodes whole a → BurstGives t nodes whole b → a ≡ b
burst_one t nodes whole a b (f, found, e) (g, found', h) =
    e ∙ (ap (λ (x : Finding). done (burst_text x) whole) (burst_is_one t nodes f g found found') ∙ sym h)

pub matrix_one : (t : Topology) (whole : ℕ) (a b : Outcome) → MatrixGives t whole a → MatrixGives t whole b → a ≡ b
matrix_one t whole a b p q =
    let same = matrix_is_one t p.columns q.columns p.groups q.groups p.matrix q.matrix in
    let over : IsClosestPair (length p.columns) (codes_of p.groups) q.least =
    subst (λ (cs : List NodeName). IsClosestPair (length cs) (codes_of p.groups) q.least) (sym same.0)
    (subst (λ (gs : List Group). IsClosestPair (length q.columns) (codes_of gs) q.least) (sym same.1) q.least_is)
    in
    let least = least_is_one (length p.columns) (codes_of p.groups) p.least q.least p.least_is over in
    p.gives ∙ ((λ i. done (matrix_text (same.0 i) (same.1 i) (least i)) whole) ∙ sym q.gives)

-- ---- the codebook

-- places have one list of names
names_are_one : (all xs ys : List NodeName) (places : List ℕ) → HavePlaces all xs places → HavePlaces all ys places → xs ≡ ys
names_are_one all [] [] [] a b = refl
names_are_one all [] (y ∷ ys) [] a b = absurd b
names_are_one all (x ∷ xs) ys [] a b = absurd a
names_are_one all [] ys (p ∷ ps) a b = absurd a
names_are_one all (x ∷ xs) [] (p ∷ ps) a b = absurd b
names_are_one all (x ∷ xs) (y ∷ ys) (p ∷ ps) a b =
    let one : slice_get all p ≡ Some x = a.0 in
    let other : slice_get all p ≡ Some y = b.0 in
    let here : x ≡ y = cc in
    let rest = names_are_one all xs ys ps a.1 b.1 in
    cc

module _ (t : Topology) (wish : Wish) where
  abbrev IsChoiceOver : List NodeName → List Group → List ℕ → Type 0
  IsChoiceOver columns groups kept = IsChoice (length columns) (codes_of groups) (need_of (length columns) (codes_of groups) wish) kept

  book_columns_are_one : (xs ys : List NodeName) → AreBookColumns t wish xs → AreBookColumns t wish ys → xs ≡ ys
  book_columns_are_one xs ys a b =
      let same = matrix_is_one t a.all b.all a.groups b.groups a.matrix b.matrix in
      let over : IsChoiceOver a.all a.groups b.kept =
      subst (λ (cs : List NodeName). IsChoiceOver cs a.groups b.kept) (sym same.0)
      (subst (λ (gs : List Group). IsChoiceOver b.all gs b.kept) (sym same.1) b.choice)
      in
      let kept = choice_is_one (length a.all) (codes_of a.groups) (need_of (length a.all) (codes_of a.groups) wish) a.kept b.kept a.choice over in
      let named : HavePlaces a.all ys a.kept =
      subst (λ (ks : List ℕ). HavePlaces a.all ys ks) (sym kept) (subst (λ (cs : List NodeName). HavePlaces cs ys b.kept) (sym same.0) b.named)
      in
      names_are_one a.all xs ys a.kept a.named named

canonical_for_one : (t : Topology) (width : ℕ) (codes : List (List Bool)) (columns : List NodeName) (wish : Wish) (c d : Certificate)
    → IsCanonicalFor t width codes columns wish c → IsCanonicalFor t width codes columns wish d → c ≡ d
canonical_for_one t width codes columns (Plain d) a b p q = canonical_book_is_one t columns d a b p q
canonical_for_one t width codes columns (Cap cap) a b (radii, are, p) (others, are', q) =
    let same : others ≡ radii = radii_are_one width codes cap others radii are' are in
    canonical_capped_is_one t columns cap radii a b p (subst (λ (rs : List ℕ). IsCanonicalCapped t columns cap rs b) same q)

codebook_is_one : (t : Topology) (wish : Wish) (c d : Certificate) → IsCodebook t wish c → IsCodebook t wish d → c ≡ d
codebook_is_one t wish c d p q =
    let a = p.are_columns in
    let b = q.are_columns in
    let same = matrix_is_one t a.all b.all a.groups b.groups a.matrix b.matrix in
    let columns = book_columns_are_one t wish p.columns q.columns a b in
    let of_names = subst (λ (cs : List NodeName). IsCanonicalFor t (length b.all) (codes_of b.groups) cs wish d) (sym columns) q.canonical in
    let of_groups = subst (λ (gs : List Group). IsCanonicalFor t (length b.all) (codes_of gs) p.columns wish d) (sym same.1) of_names in
    let over = subst (λ (cs : List NodeName). IsCanonicalFor t (length cs) (codes_of a.groups) p.columns wish d) (sym same.0) of_groups in
    canonical_for_one t (length a.all) (codes_of a.groups) p.columns wish c d p.canonical over

certified_one : (t : Topology) (wish : Wish) (whole : ℕ) (a b : Outcome) → WritesCodebook t wish whole a → WritesCodebook t wish whole b → a ≡ b
certified_one t wish whole a b p q =
    let same = codebook_is_one t wish p.certificate q.certificate p.is q.is in
    p.gives ∙ (ap (λ (c : Certificate). done (text_of c) whole) same ∙ sym q.gives)

-- what has a certificate exists
codebook_exists : (t : Topology) (wish : Wish) (c : Certificate) → IsCodebook t wish c → HasCodebook t wish
codebook_exists t wish c is columns groups matrix =
    let a = is.are_columns in
    let same = matrix_is_one t a.all columns a.groups groups a.matrix matrix in
    subst (λ (gs : List Group). GoodFor (codes_of gs) (all_columns (length columns)) (need_of (length columns) (codes_of gs) wish)) same.1
    (subst (λ (cs : List NodeName). GoodFor (codes_of a.groups) (all_columns (length cs)) (need_of (length cs) (codes_of a.groups) wish)) same.0 a.choice.good)

-- ---- two groups that are too close

least_is : (m n : NodeName) → Least m ≡ Least n → m ≡ n
least_is m n e = cc

pub record IsSameClose (first other : GroupName) (second node : NodeName) (distance far : ℕ) : Type 0 where
  firsts : first ≡ other
  seconds : second ≡ node
  distances : distance ≡ far

close_is_one : (t : Topology) (d : ℕ) (first other : GroupName) (second node : NodeName) (distance far : ℕ) → AreFirstClose t d first second distance
    → AreFirstClose t d other node far → IsSameClose first other second node distance far
close_is_one t d first other second node distance far a b =
    let same = matrix_is_one t a.columns b.columns a.groups b.groups a.matrix b.matrix in
    let over : IsFirstClose (all_columns (length a.columns)) (codes_of a.groups) d b.pair =
    subst (λ (cs : List NodeName). IsFirstClose (all_columns (length cs)) (codes_of a.groups) d b.pair) (sym same.0)
    (subst (λ (gs : List Group). IsFirstClose (all_columns (length b.columns)) (codes_of gs) d b.pair) (sym same.1) b.is_first)
    in
    let pair = first_close_is_one (all_columns (length a.columns)) (codes_of a.groups) d a.pair b.pair a.is_first over in
    let called : IsCalled a.groups a.pair.first other =
    subst (λ (p : Pair). IsCalled a.groups p.first other) (sym pair) (subst (λ (gs : List Group). IsCalled gs b.pair.first other) (sym same.1) b.first_is)
    in
    let named : IsCalled a.groups a.pair.second (Least node) =
    subst (λ (p : Pair). IsCalled a.groups p.second (Least node)) (sym pair)
    (subst (λ (gs : List Group). IsCalled gs b.pair.second (Least node)) (sym same.1) b.second_is)
    in
    record {
      firsts = group_name_is_one a.groups a.pair.first first other a.first_is called;
      seconds = least_is second node (group_name_is_one a.groups a.pair.second (Least second) (Least node) a.second_is named);
      distances = a.distance_is ∙ (ap (λ (p : Pair). p.distance) pair ∙ sym b.distance_is);
    }

thin_one : (t : Topology) (d whole : ℕ) (a b : Outcome) → WritesThin t d whole a → WritesThin t d whole b → a ≡ b
thin_one t d whole a b p q =
    let same = close_is_one t d p.first q.first p.second q.second p.distance q.distance p.close q.close in
    let f = same.firsts in
    let s = same.seconds in
    let x = same.distances in
    let over : IsCanonicalThin t (least_of p.first) p.second d p.distance q.certificate =
    subst (λ (g : GroupName). IsCanonicalThin t (least_of g) p.second d p.distance q.certificate) (sym f)
    (subst (λ (n : NodeName). IsCanonicalThin t (least_of q.first) n d p.distance q.certificate) (sym s)
    (subst (λ (k : ℕ). IsCanonicalThin t (least_of q.first) q.second d k q.certificate) (sym x) q.canonical))
    in
    let c = canonical_thin_is_one t (least_of p.first) p.second d p.distance p.certificate q.certificate p.canonical over in
    p.gives ∙ ((λ i. done_with (text_of (c i)) (faults.Distance d (f i) (Least (s i)) (x i)) whole) ∙ sym q.gives)

refused_wish_one : (t : Topology) (wish : Wish) (whole : ℕ) (a b : Outcome) → RefusesWish t wish whole a → RefusesWish t wish whole b → a ≡ b
refused_wish_one t (Plain d) whole a b p q = thin_one t d whole a b p q
refused_wish_one t (Cap cap) whole a b p q = absurd p

-- where there is a codebook, nothing is refused: no two groups are closer than a distance
exists_or_refused : (t : Topology) (wish : Wish) (whole : ℕ) (outcome : Outcome) → HasCodebook t wish → RefusesWish t wish whole outcome → ⊥
exists_or_refused t (Plain d) whole outcome exists p =
    let close = p.close in
    let first = close.is_first in
    let far = exists close.columns close.groups close.matrix close.pair.first close.pair.second first.is_pair in
    let near = first.close in
    let measured = first.distance in
    omega (arith, far, near, measured)
exists_or_refused t (Cap cap) whole outcome exists p = p

pub codebook_one : (t : Topology) (wish : Wish) (whole : ℕ) (a b : Outcome) → CodebookGives t wish whole a → CodebookGives t wish whole b → a ≡ b
codebook_one t wish whole a b (inl p) (inl q) = certified_one t wish whole a b p q
codebook_one t wish whole a b (inl p) (inr (inl q)) = absurd (few_are_not_many t p.few q.many)
codebook_one t wish whole a b (inl p) (inr (inr q)) = absurd (exists_or_refused t wish whole b (codebook_exists t wish p.certificate p.is) q)
codebook_one t wish whole a b (inr (inl p)) (inl q) = absurd (few_are_not_many t q.few p.many)
codebook_one t wish whole a b (inr (inl p)) (inr (inl q)) = p.gives ∙ sym q.gives
codebook_one t wish whole a b (inr (inl p)) (inr (inr q)) = absurd (exists_or_refused t wish whole b p.exists q)
codebook_one t wish whole a b (inr (inr p)) (inl q) = absurd (exists_or_refused t wish whole a (codebook_exists t wish q.certificate q.is) p)
codebook_one t wish whole a b (inr (inr p)) (inr (inl q)) = absurd (exists_or_refused t wish whole a q.exists p)
codebook_one t wish whole a b (inr (inr p)) (inr (inr q)) = refused_wish_one t wish whole a b p q

-- ---- what a certificate shows

root_is_one : (nodes : List NodeName) (span : Span) (p q : NodeName) → BeginsWithRoot nodes span p → BeginsWithRoot nodes span q → p ≡ q
root_is_one nodes span p q a b =
    let one = a.first in
    let other = b.first in
    let same : b.entry ≡ a.entry = cc in
    stands_for_one nodes a.entry.node p q a.names (subst (λ (e : Entry). StandsFor nodes e.node q) same b.names)

side_name_is_one : (nodes : List NodeName) (s : Side) (x y : GroupName) → IsSideName nodes s x → IsSideName nodes s y → x ≡ y
side_name_is_one nodes side.Quiet x y a b = a ∙ sym b
side_name_is_one nodes (side.Root span) x y (p, begins, e) (q, begins', h) =
    e ∙ (ap (λ (n : NodeName). Least n) (root_is_one nodes span p q begins begins') ∙ sym h)

pub shows_is_one : (t : Topology) (c : Certificate) (a b : Accepted) → CertificateShows t c a → CertificateShows t c b → a ≡ b
shows_is_one t (BookClaim distance nodes numbers spans) (accepted.Book d r g k) (accepted.Book e s h l) (p, a) (q, b) =
    let made = made_is_one t nodes spans a.all b.all a.made b.made a.made_are b.made_are in
    let distances : d ≡ e = p ∙ sym q in
    let radii : r ≡ s = a.radius_is ∙ sym b.radius_is in
    let groups : g ≡ h = a.groups_are ∙ (ap (λ (gs : List Group). length gs) made.1 ∙ sym b.groups_are) in
    let columns : k ≡ l = a.columns_are ∙ sym b.columns_are in
    λ i. accepted.Book (distances i) (radii i) (groups i) (columns i)
shows_is_one t (ThinClaim wanted distance nodes first second) (accepted.Thin w f s x) (accepted.Thin v g u y) (p, fs, ss, px) (q, gs, us, py) =
    let wants : w ≡ v = p ∙ sym q in
    let firsts = side_name_is_one nodes first f g fs gs in
    let seconds = side_name_is_one nodes (side.Root second) s u ss us in
    let far : x ≡ y = px ∙ sym py in
    λ i. accepted.Thin (wants i) (firsts i) (seconds i) (far i)
shows_is_one t (CapClaim cap nodes numbers radii spans) (accepted.Capped n a b g k) (accepted.Capped m d e h l) (p, x) (q, y) =
    let made = made_is_one t nodes spans x.all y.all x.made y.made x.made_are y.made_are in
    let over = subst (λ (gs : List Group). AreLeastAndGreatest (length y.all) (codes_of gs) (Cap cap) d e) (sym made.1) y.radii_are in
    let here = subst (λ (cs : List NodeName). AreLeastAndGreatest (length cs) (codes_of x.made) (Cap cap) d e) (sym made.0) over in
    let both = least_and_greatest_are_one (length x.all) (codes_of x.made) (Cap cap) a b d e x.radii_are here in
    let caps : n ≡ m = p ∙ sym q in
    let groups : g ≡ h = x.groups_are ∙ (ap (λ (gs : List Group). length gs) made.1 ∙ sym y.groups_are) in
    let columns : k ≡ l = x.columns_are ∙ sym y.columns_are in
    λ i. accepted.Capped (caps i) (both.0 i) (both.1 i) (groups i) (columns i)
shows_is_one t (BookClaim distance nodes numbers spans) (accepted.Capped n r s h l) b p q = absurd p
shows_is_one t (BookClaim distance nodes numbers spans) (accepted.Thin w f s x) b p q = absurd p
shows_is_one t (BookClaim distance nodes numbers spans) (accepted.Book d r g k) (accepted.Capped n a s h l) p q = absurd q
shows_is_one t (BookClaim distance nodes numbers spans) (accepted.Book d r g k) (accepted.Thin w f s x) p q = absurd q
shows_is_one t (CapClaim cap nodes numbers radii spans) (accepted.Book d r g k) b p q = absurd p
shows_is_one t (CapClaim cap nodes numbers radii spans) (accepted.Thin w f s x) b p q = absurd p
shows_is_one t (CapClaim cap nodes numbers radii spans) (accepted.Capped n a s h l) (accepted.Book d r g k) p q = absurd q
shows_is_one t (CapClaim cap nodes numbers radii spans) (accepted.Capped n a s h l) (accepted.Thin w f u x) p q = absurd q
shows_is_one t (ThinClaim wanted distance nodes first second) (accepted.Book d r g k) b p q = absurd p
shows_is_one t (ThinClaim wanted distance nodes first second) (accepted.Capped n r s h l) b p q = absurd p
shows_is_one t (ThinClaim wanted distance nodes first second) (accepted.Thin w f s x) (accepted.Book d r g k) p q = absurd q
shows_is_one t (ThinClaim wanted distance nodes first second) (accepted.Thin w f s x) (accepted.Capped n a u h l) p q = absurd q

pub verify_one : (t : Topology) (c : Certificate) (whole : ℕ) (a b : Outcome) → VerifyGives t c whole a → VerifyGives t c whole b → a ≡ b
verify_one t c whole a b (x, shows, e) (y, shows', h) =
    e ∙ (ap (λ (v : Accepted). done (accepted_text v) whole) (shows_is_one t c x y shows shows') ∙ sym h)

-- ---- what fits

fits_one : (t : Topology) (nodes : List NodeName) (whole : ℕ) (a b : Outcome) → ListsFits t nodes whole a → ListsFits t nodes whole b → a ≡ b
fits_one t nodes whole a b p q =
    let same = matrix_is_one t p.columns q.columns p.groups q.groups p.matrix q.matrix in
    let over : IsFoundFor p.columns p.groups nodes q.found =
    subst (λ (cs : List NodeName). IsFoundFor cs p.groups nodes q.found) (sym same.0)
    (subst (λ (gs : List Group). IsFoundFor q.columns gs nodes q.found) (sym same.1) q.is_found)
    in
    p.gives ∙ (ap (λ (found : FoundFits). done (fits_text found) whole) (found_is_one p.columns p.groups nodes p.found q.found p.is_found over) ∙ sym q.gives)

refused_groups_one : (t : Topology) (whole : ℕ) (a b : Outcome) → RefusesGroups t whole a → RefusesGroups t whole b → a ≡ b
refused_groups_one t whole a b p q =
    let same = matrix_is_one t p.columns q.columns p.groups q.groups p.matrix q.matrix in
    p.gives ∙ (ap (λ (gs : List Group). refused (faults.Groups (length gs)) whole) same.1 ∙ sym q.gives)

-- the groups are few or many
few_groups_are_not_many : (t : Topology) (nodes : List NodeName) (whole : ℕ) (a b : Outcome) → ListsFits t nodes whole a → RefusesGroups t whole b → ⊥
few_groups_are_not_many t nodes whole a b p q =
    let same = matrix_is_one t p.columns q.columns p.groups q.groups p.matrix q.matrix in
    let long = ap (λ (gs : List Group). length gs) same.1 in
    let few = p.is_found.few in
    let many = q.many in
    omega (arith, long, few, many)

pub pairs_one : (t : Topology) (nodes : List NodeName) (whole : ℕ) (a b : Outcome) → PairsGives t nodes whole a → PairsGives t nodes whole b → a ≡ b
pairs_one t nodes whole a b (inl p) (inl q) = fits_one t nodes whole a b p q
pairs_one t nodes whole a b (inl p) (inr q) = absurd (few_groups_are_not_many t nodes whole a b p q)
pairs_one t nodes whole a b (inr p) (inl q) = absurd (few_groups_are_not_many t nodes whole b a q p)
pairs_one t nodes whole a b (inr p) (inr q) = refused_groups_one t whole a b p q
