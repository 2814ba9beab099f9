-- A certificate is rejected for one reason.
use Rattle.std.proofs.Common.{◌≡◌, ◌≢◌, ℕ, ◌+◌, List, [], ◌∷◌, ◌++◌, length, map, refl, sym, ap, subst, ◌∙◌, Bool, Some, inl, inr}
use Rattle.std.specs.Prelude.{slice_get}
use Rattle.std.specs.List.{All, AllZip}
use Rattle.std.specs.Ordering.{ordering_reverse}
use Rattle.std.specs.declared.cmp.Ordering.TheVariants.{Less, Equal, Greater}
use Rattle.std.proofs.lemmas.Bool.{cases_order}
use Rattle.std.proofs.lemmas.List.Elements.{All-head, All-tail}
use Rattle.std.proofs.lemmas.Option.{same_Some}
use Rattle.cb_model.specs.declared.node.NodeName.{NodeName}
use Rattle.cb_model.specs.declared.wish.Wish.{Wish}
use Rattle.cb_model.specs.declared.wish.Wish.TheVariants.{Plain, Cap}
use Rattle.cb_model.specs.declared.node.GroupName.{GroupName}
use Rattle.cb_model.specs.NodeOrder.{node_cmp}
use Rattle.cb_model.specs.Order.{Rises}
use Rattle.cb_model.proofs.Rising.{node_cmp_total, node_cmp_exact}
use Rattle.cb_coding.specs.declared.book.Pair.{Pair}
use Rattle.cb_coding.specs.declared.group.Group.{Group}
use Rattle.cb_coding.specs.declared.group.Problem.{Problem}
use Rattle.cb_coding.specs.Groups.{AreGroups, codes_of}
use Rattle.cb_coding.specs.Needs.{need_of}
use Rattle.cb_coding.specs.Pairs.{IsFirstShort}
use Rattle.cb_coding.proofs.One.{groups_are_one, first_short_is_one}
use Rattle.cb_finding.specs.Finding.{IsCalled}
use Rattle.cb_finding.proofs.One.{group_name_is_one}
use Rattle.cb_network.specs.Topology.{Topology}
use Rattle.cb_network.specs.Causes.{Edge}
use Rattle.cb_network.proofs.One.{columns_are_one, problems_are_one, same_truth}
use Rattle.cb_cert.specs.declared.certificate.Span.{Span}
use Rattle.cb_cert.specs.declared.certificate.Side.{Side}
use Rattle.cb_cert.specs.declared.certificate.Side.TheVariants as side
use Rattle.cb_cert.specs.declared.certificate.Certificate.{Certificate}
use Rattle.cb_cert.specs.declared.certificate.Certificate.TheVariants as certificate
use Rattle.cb_validity.specs.declared.verdict.Rejected.{Rejected}
use Rattle.cb_validity.specs.declared.verdict.Rejected.TheVariants as why
use Rattle.cb_validity.specs.Spans.{ListsNode}
use Rattle.cb_validity.specs.Reading.{IsSpanCode, IsSideCode, MakeGroups, ArePlaces, AreSidesApart}
use Rattle.cb_cert.specs.Format.{nodes_of}
use Rattle.cb_validity.specs.Checks.{Check, node_check, column_check, root_check, parent_check, edge_check, new_check, closed_check, no_more_problems, no_more_spans, claim_check, radius_check, AreChecks, book_checks, capped_checks, Passes, IsLeastOutside, AreTooClose, IsOwnRadius, IsFirstBadRadius, TellsClaim, TellsRadii, ReportsCheck, IsFirstFail}
use Rattle.cb_validity.proofs.SpanLaws.{stands_for_one, listed_at_one}
use Rattle.cb_validity.proofs.Canonicals.{one_place}

-- the first item of a list that fails is one
first_is_one : {X : Type 0} (P : X → Type 0) (xs ys : List X) (x y : X) (us vs : List X) → xs ++ x ∷ us ≡ ys ++ y ∷ vs
    → All P xs → ¬ P x → All P ys → ¬ P y → x ≡ y
first_is_one P [] [] x y us vs e pass fails pass' fails' = cc
first_is_one P [] (z ∷ ys) x y us vs e pass fails pass' fails' =
    let same : z ≡ x = cc in
    absurd (fails (subst P same (All-head P z ys pass')))
first_is_one P (z ∷ xs) [] x y us vs e pass fails pass' fails' =
    let same : z ≡ y = cc in
    absurd (fails' (subst P same (All-head P z xs pass)))
first_is_one P (z ∷ xs) (z' ∷ ys) x y us vs e pass fails pass' fails' =
    first_is_one P xs ys x y us vs (cc) (All-tail P z xs pass) fails (All-tail P z' ys pass') fails'

-- a span has one code
code_read_once : (nodes : List NodeName) (span : Span) (columns : List NodeName) (v w : List Bool) → IsSpanCode nodes columns span v
    → IsSpanCode nodes columns span w → v ≡ w
code_read_once nodes span [] [] [] a b = refl
code_read_once nodes span [] [] (y ∷ w) a b = absurd b
code_read_once nodes span [] (x ∷ v) w a b = absurd a
code_read_once nodes span (c ∷ columns) [] w a b = absurd a
code_read_once nodes span (c ∷ columns) (x ∷ v) [] a b = absurd b
code_read_once nodes span (c ∷ columns) (x ∷ v) (y ∷ w) a b =
    let bits = same_truth (ListsNode nodes span c) x y a.0 b.0 in
    let rest = code_read_once nodes span columns v w a.1 b.1 in
    cc

side_read_once : (nodes : List NodeName) (s : Side) (columns : List NodeName) (v w : List Bool) → IsSideCode nodes columns s v
    → IsSideCode nodes columns s w → v ≡ w
side_read_once nodes side.Quiet columns v w a b = a ∙ sym b
side_read_once nodes (side.Root span) columns v w a b = code_read_once nodes span columns v w a b

-- problems with the same names and spans are the same
problems_read_once : (nodes columns : List NodeName) (spans : List Span) (ps qs : List Problem)
    → map (λ (p : Problem). p.name) ps ≡ map (λ (p : Problem). p.name) qs
    → AllZip (λ span (p : Problem). IsSpanCode nodes columns span p.code) spans ps
    → AllZip (λ span (p : Problem). IsSpanCode nodes columns span p.code) spans qs → ps ≡ qs
problems_read_once nodes columns [] [] [] same a b = refl
problems_read_once nodes columns [] [] (q ∷ qs) same a b = absurd b
problems_read_once nodes columns [] (p ∷ ps) qs same a b = absurd a
problems_read_once nodes columns (s ∷ spans) [] qs same a b = absurd a
problems_read_once nodes columns (s ∷ spans) (p ∷ ps) [] same a b = absurd b
problems_read_once nodes columns (s ∷ spans) (p ∷ ps) (q ∷ qs) same a b =
    let name : p.name ≡ q.name = cc in
    let names : map (λ (p : Problem). p.name) ps ≡ map (λ (p : Problem). p.name) qs = cc in
    let code : p.code ≡ q.code = code_read_once nodes s columns p.code q.code a.0 b.0 in
    let here : p ≡ q = λ i. record { name = name i; code = code i } in
    let rest = problems_read_once nodes columns spans ps qs names a.1 b.1 in
    cc

-- spans make one list of groups
pub made_is_one : (t : Topology) (nodes : List NodeName) (spans : List Span) (xs ys : List NodeName) (gs hs : List Group)
    → MakeGroups t nodes spans xs gs → MakeGroups t nodes spans ys hs → (xs ≡ ys) × (gs ≡ hs)
made_is_one t nodes spans xs ys gs hs a b =
    let columns = columns_are_one t xs ys a.columns_are b.columns_are in
    let names = problems_are_one t _ _ a.problems_are b.problems_are in
    let over : AllZip (λ span (p : Problem). IsSpanCode nodes xs span p.code) spans b.problems =
    subst (λ cs. AllZip (λ span (p : Problem). IsSpanCode nodes cs span p.code) spans b.problems) (sym columns) b.codes_are
    in
    let problems = problems_read_once nodes xs spans a.problems b.problems names a.codes_are over in
    let groups : AreGroups (length xs) a.problems hs = subst (λ cs. AreGroups (length cs) a.problems hs) (sym columns)
    (subst (λ ps. AreGroups (length ys) ps hs) (sym problems) b.groups_are)
    in
    (columns, groups_are_one (length xs) a.problems gs hs a.groups_are groups)

-- numbers have one list of places
pub places_found_once : (nodes columns : List NodeName) → Rises node_cmp columns → (numbers ps qs : List ℕ) → ArePlaces nodes columns numbers ps
    → ArePlaces nodes columns numbers qs → ps ≡ qs
places_found_once nodes columns rise [] [] [] a b = refl
places_found_once nodes columns rise [] [] (q ∷ qs) a b = absurd b
places_found_once nodes columns rise [] (p ∷ ps) qs a b = absurd a
places_found_once nodes columns rise (n ∷ numbers) [] qs a b = absurd a
places_found_once nodes columns rise (n ∷ numbers) (p ∷ ps) [] a b = absurd b
places_found_once nodes columns rise (n ∷ numbers) (p ∷ ps) (q ∷ qs) a b =
    let x = a.0 in
    let y = b.0 in
    let same : y.column ≡ x.column = stands_for_one nodes n y.column x.column y.names x.names in
    let here : p ≡ q = one_place columns rise p q x.column x.is (subst (λ m. slice_get columns q ≡ Some m) same y.is) in
    let rest = places_found_once nodes columns rise numbers ps qs a.1 b.1 in
    cc

-- what is far from where, once the columns are known
far_is_one : (t : Topology) (nodes : List NodeName) (first : Side) (second : Span) (m n : ℕ) → AreSidesApart t nodes first second m
    → AreSidesApart t nodes first second n → m ≡ n
far_is_one t nodes first second m n a b =
    let columns = columns_are_one t a.columns b.columns a.columns_are b.columns_are in
    let v : a.v ≡ b.v = side_read_once nodes first a.columns a.v b.v a.first_is (subst (λ cs. IsSideCode nodes cs first b.v) (sym columns) b.first_is) in
    let w : a.w ≡ b.w = code_read_once nodes second a.columns a.w b.w a.second_is (subst (λ cs. IsSpanCode nodes cs second b.w) (sym columns) b.second_is) in
    let ours = a.far_is in
    let theirs = b.far_is in
    cc

-- the first two groups that are too close are one pair
too_close_is_one : (t : Topology) (nodes : List NodeName) (numbers : List ℕ) (spans : List Span) (wish : Wish) (f g s u : GroupName) (m n : ℕ)
    → AreTooClose t nodes numbers spans wish f s m → AreTooClose t nodes numbers spans wish g u n → (f ≡ g) × (s ≡ u) × (m ≡ n)
too_close_is_one t nodes numbers spans wish f g s u m n a b =
    let same = made_is_one t nodes spans a.columns b.columns a.groups b.groups a.made b.made in
    let over : ArePlaces nodes a.columns numbers b.places = subst (λ cs. ArePlaces nodes cs numbers b.places) (sym same.0) b.places_are in
    let places = places_found_once nodes a.columns (a.made).columns_are.rise numbers a.places b.places a.places_are over in
    let is_first : List NodeName → List Group → List ℕ → Type 0 = λ cs gs ps. IsFirstShort ps (codes_of gs) (need_of (length cs) (codes_of gs) wish) b.pair in
    let over_columns = subst (λ cs. is_first cs b.groups b.places) (sym same.0) b.is_first in
    let moved = subst (λ gs. is_first a.columns gs b.places) (sym same.1) over_columns in
    let here = subst (is_first a.columns a.groups) (sym places) moved in
    let pair : a.pair ≡ b.pair = first_short_is_one a.places (codes_of a.groups) (need_of (length a.columns) (codes_of a.groups) wish) a.pair b.pair a.is_first here in
    let first : IsCalled a.groups (a.pair).first g = subst (λ (p : Pair). IsCalled a.groups p.first g) (sym pair)
    (subst (λ gs. IsCalled gs (b.pair).first g) (sym same.1) b.first_is)
    in
    let second : IsCalled a.groups (a.pair).second u = subst (λ (p : Pair). IsCalled a.groups p.second u) (sym pair)
    (subst (λ gs. IsCalled gs (b.pair).second u) (sym same.1) b.second_is)
    in (
      group_name_is_one a.groups (a.pair).first f g a.first_is first,
      group_name_is_one a.groups (a.pair).second s u a.second_is second,
      a.far_is ∙ (ap (λ (p : Pair). p.distance) pair ∙ sym b.far_is),
    )

-- a position has one radius of its own, and so there is one first position that has none
bad_radius_is_one : (t : Topology) (nodes : List NodeName) (spans : List Span) (cap : ℕ) (radii : List ℕ) (m n : ℕ)
    → IsFirstBadRadius t nodes spans cap radii m → IsFirstBadRadius t nodes spans cap radii n → m ≡ n
bad_radius_is_one t nodes spans cap radii m n a b =
    let same = made_is_one t nodes spans a.columns b.columns a.groups b.groups a.made b.made in
    let own : List NodeName → List Group → ℕ → Type 0 = λ cs gs k. IsOwnRadius (length cs) (codes_of gs) cap radii k in
    let there : (k : ℕ) → own a.columns a.groups k → own b.columns b.groups k = λ k is.
    subst (λ gs. own b.columns gs k) same.1 (subst (λ cs. own cs a.groups k) same.0 is)
    in
    let back : (k : ℕ) → own b.columns b.groups k → own a.columns a.groups k = λ k is.
    subst (λ gs. own a.columns gs k) (sym same.1) (subst (λ cs. own cs b.groups k) (sym same.0) is)
    in
    elim (cases_order m n) [
      | inl is ↦ is
      | inr (inl below) ↦ absurd (a.bad (back m (b.before m below)))
      | inr (inr above) ↦ absurd (b.bad (there n (a.before n above)))
    ]

-- nodes of which neither stands before the other are one
not_apart : (m n : NodeName) → node_cmp m n ≢ Less → node_cmp n m ≢ Less → m ≡ n
not_apart m n not_below not_above =
    elim (node_cmp m n) as (λ o. node_cmp m n ≡ o → m ≡ n) [
      | Less ↦ λ is. absurd (not_below is)
      | Equal ↦ λ is. node_cmp_exact m n is
      | Greater ↦ λ is. absurd (not_above (node_cmp_total.antisymm n m ∙ ap ordering_reverse is))
    ] refl

outside_is_one : (t : Topology) (nodes : List NodeName) (span : Span) (place : ℕ) (m n : NodeName) → IsLeastOutside t nodes span place m
    → IsLeastOutside t nodes span place n → m ≡ n
outside_is_one t nodes span place m n a b =
    let same : a.node ≡ b.node = listed_at_one nodes span place a.node b.node a.is b.is in
    let to_n : Edge t a.node n = subst (λ p. Edge t p n) (sym same) b.edge in
    let to_m : Edge t b.node m = subst (λ p. Edge t p m) same a.edge in
    not_apart m n (b.least m to_m a.outside) (a.least n to_n b.outside)

-- two groups are reported that are closer than the wish asks
abbrev ReportsClose : Topology → List NodeName → List ℕ → List Span → Wish → Rejected → Type 0
ReportsClose t nodes columns spans wish reported =
    (f s : GroupName) × (far : ℕ) × (reported ≡ why.TooClose f s far) × AreTooClose t nodes columns spans wish f s far

close_reported_once : (t : Topology) (nodes : List NodeName) (columns : List ℕ) (spans : List Span) (wish : Wish) (a b : Rejected)
    → ReportsClose t nodes columns spans wish a → ReportsClose t nodes columns spans wish b → a ≡ b
close_reported_once t nodes columns spans wish a b x y =
    let same = too_close_is_one t nodes columns spans wish x.0 y.0 x.1 y.1 x.2 y.2 x.4 y.4 in
    let ours = x.3 in
    let theirs = y.3 in
    let f = same.0 in
    let s = same.1 in
    let far = same.2 in
    cc

-- what is reported of the claim of a book
reported_of_book : (t : Topology) (d : ℕ) (nodes : List NodeName) (columns : List ℕ) (spans : List Span) (reported : Rejected)
    → TellsClaim t (certificate.Book d nodes columns spans) reported → ReportsClose t nodes columns spans (Plain d) reported
reported_of_book t d nodes columns spans (why.TooClose f s far) p = (f, s, far, refl, p)
reported_of_book t d nodes columns spans _ p = absurd p

reported_of_capped : (t : Topology) (cap : ℕ) (nodes : List NodeName) (columns radii : List ℕ) (spans : List Span) (reported : Rejected)
    → TellsClaim t (certificate.Capped cap nodes columns radii spans) reported → ReportsClose t nodes columns spans (Cap cap) reported
reported_of_capped t cap nodes columns radii spans (why.TooClose f s far) p = (f, s, far, refl, p)
reported_of_capped t cap nodes columns radii spans _ p = absurd p

-- what is reported of the claim of a thin certificate
reported_of_thin : (t : Topology) (w d : ℕ) (nodes : List NodeName) (first : Side) (second : Span) (reported : Rejected)
    → TellsClaim t (certificate.Thin w d nodes first second) reported → (far : ℕ) × (reported ≡ why.NotThin far) × AreSidesApart t nodes first second far
reported_of_thin t w d nodes first second (why.NotThin far) p = (far, refl, p)
reported_of_thin t w d nodes first second _ p = absurd p

claim_reported_once : (t : Topology) (c : Certificate) (a b : Rejected) → TellsClaim t c a → TellsClaim t c b → a ≡ b
claim_reported_once t (certificate.Book d nodes columns spans) a b p q =
    close_reported_once t nodes columns spans (Plain d) a b (reported_of_book t d nodes columns spans a p) (reported_of_book t d nodes columns spans b q)
claim_reported_once t (certificate.Capped cap nodes columns radii spans) a b p q =
    close_reported_once t nodes columns spans (Cap cap) a b (reported_of_capped t cap nodes columns radii spans a p)
    (reported_of_capped t cap nodes columns radii spans b q)
claim_reported_once t (certificate.Thin w d nodes first second) a b p q =
    let x = reported_of_thin t w d nodes first second a p in
    let y = reported_of_thin t w d nodes first second b q in
    let far = far_is_one t nodes first second x.0 y.0 x.2 y.2 in
    x.1 ∙ (ap why.NotThin far ∙ sym y.1)

radii_reported_once : (t : Topology) (c : Certificate) (a b : Rejected) → TellsRadii t c a → TellsRadii t c b → a ≡ b
radii_reported_once t (certificate.Book d nodes columns spans) a b p q = absurd p
radii_reported_once t (certificate.Capped cap nodes columns radii spans) a b p q =
    let same = bad_radius_is_one t nodes spans cap radii p.0 q.0 p.1 q.1 in
    p.2 ∙ (ap (λ k. why.BadRadius (k + 1)) same ∙ sym q.2)
radii_reported_once t (certificate.Thin w d nodes first second) a b p q = absurd p

tells_one : (t : Topology) (c : Certificate) (check : Check) (a b : Rejected) → ReportsCheck t c check a → ReportsCheck t c check b → a ≡ b
tells_one t c (node_check k) a b p q = p ∙ sym q
tells_one t c (column_check k) a b p q = p ∙ sym q
tells_one t c (root_check s) a b p q = p ∙ sym q
tells_one t c (parent_check s k) a b p q = p ∙ sym q
tells_one t c (edge_check s k) a b p q = p ∙ sym q
tells_one t c (new_check s k) a b p q = p ∙ sym q
tells_one t c (closed_check s k) a b p q =
    let same = outside_is_one t (nodes_of c) s.span k p.0 q.0 p.1 q.1 in
    p.2 ∙ (ap (why.NotClosed (s.before + k + 1)) same ∙ sym q.2)
tells_one t c (no_more_problems problems spans) a b p q =
    let same : p.0 ≡ q.0 = same_Some p.0 q.0 (sym p.1 ∙ q.1) in
    p.2 ∙ (ap why.NoSpan same ∙ sym q.2)
tells_one t c (no_more_spans problems spans) a b p q = p ∙ sym q
tells_one t c claim_check a b p q = claim_reported_once t c a b p q
tells_one t c radius_check a b p q = radii_reported_once t c a b p q

checks_are_one : (t : Topology) (c : Certificate) (xs ys : List Check) → AreChecks t c xs → AreChecks t c ys → xs ≡ ys
checks_are_one t (certificate.Book d nodes columns spans) xs ys a b =
    let same = problems_are_one t a.0 b.0 a.1 b.1 in
    a.2 ∙ (ap (λ ps. book_checks ps nodes columns spans) same ∙ sym b.2)
checks_are_one t (certificate.Capped cap nodes columns radii spans) xs ys a b =
    let same = problems_are_one t a.0 b.0 a.1 b.1 in
    a.2 ∙ (ap (λ ps. capped_checks ps nodes columns spans) same ∙ sym b.2)
checks_are_one t (certificate.Thin w d nodes first second) xs ys a b = a ∙ sym b

pub first_fail_is_one : (t : Topology) (c : Certificate) (a b : Rejected) → IsFirstFail t c a → IsFirstFail t c b → a ≡ b
first_fail_is_one t c a b p q =
    let same = checks_are_one t c p.0 q.0 p.1 q.1 in
    let x = p.2 in
    let y = q.2 in
    let lists : x.before ++ x.check ∷ x.after ≡ y.before ++ y.check ∷ y.after = sym x.are ∙ (same ∙ y.are) in
    let check = first_is_one (Passes t c) x.before y.before x.check y.check x.after y.after lists x.passed x.fails y.passed y.fails in
    tells_one t c x.check a b x.tells (subst (λ k. ReportsCheck t c k b) (sym check) y.tells)
