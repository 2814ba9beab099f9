-- Canonical books are valid where their columns are good.
use Rattle.std.proofs.Common.{◌≡◌, ◌↔◌, ℕ, ◌<◌, List, [], ◌∷◌, length, get_or, refl, sym, subst, Some, inl, inr}
use Rattle.std.specs.Prelude.{slice_get}
use Rattle.std.specs.List.{AllZip, Contains}
use Rattle.std.specs.declared.cmp.Ordering.TheVariants.{Less}
use Rattle.std.proofs.lemmas.Bool.{cases_order}
use Rattle.std.proofs.lemmas.List.Elements.{Contains-get_or}
use Rattle.std.proofs.lemmas.Option.{slice_get_within, get_or_from_slice_get}
use Rattle.cb_model.specs.declared.node.NodeName.{NodeName}
use Rattle.cb_model.specs.declared.wish.Wish.{Wish}
use Rattle.cb_model.specs.declared.wish.Wish.TheVariants.{Plain, Cap}
use Rattle.cb_model.specs.Order.{Rises}
use Rattle.cb_model.specs.NodeOrder.{node_cmp}
use Rattle.cb_model.proofs.Rising.{node_strict, contains_cases, contains_head, contains_tail, nothing_in_empty}
use Rattle.cb_coding.specs.declared.group.Group.{Group}
use Rattle.cb_coding.specs.Groups.{codes_of}
use Rattle.cb_coding.specs.Needs.{capped_need, need_of}
use Rattle.cb_coding.specs.Pairs.{Good, GoodFor}
use Rattle.cb_coding.specs.Radii.{AreRadii}
use Rattle.cb_network.specs.Topology.{Topology}
use Rattle.cb_network.specs.Nodes.{IsNodeOf, IsProblem, IsColumn, AreProblems}
use Rattle.cb_network.specs.Causes.{Edge, Chain}
use Rattle.cb_finding.specs.Matrix.{IsMatrix}
use Rattle.cb_finding.proofs.One.{matrix_is_one}
use Rattle.cb_cert.specs.declared.certificate.Span.{Span}
use Rattle.cb_cert.specs.declared.certificate.Certificate.{Certificate}
use Rattle.cb_cert.specs.declared.certificate.Certificate.TheVariants.{Capped}
use Rattle.cb_validity.specs.Spans.{AreNodes, StandsFor, IsSpanOf}
use Rattle.cb_validity.specs.Reading.{ArePlaces, AreApart, MakeRadii}
use Rattle.cb_validity.specs.Valid.{AreColumnNumbers, AreSpans, IsValidBook, IsValidCapped, IsValid}
use Rattle.cb_validity.specs.Canonical.{IsCanonicalSpan, AreUsed, IsCanonicalBook, IsCanonicalCapped}
use Rattle.cb_validity.specs.Laws.{HavePlaces}
use Rattle.cb_validity.proofs.SpanLaws.{stands_for_one, span_lists_caused}
use Rattle.cb_validity.proofs.Matrices.{spans_make_matrix}

-- what stands in a list is contained
pub contains_from_get : {X : Type 0} (xs : List X) (i : ℕ) (x : X) → slice_get xs i ≡ Some x → Contains xs x
contains_from_get xs i x e = (i, slice_get_within xs i x e, get_or_from_slice_get xs i x x e)

-- in a list in strict order a node has one place
pub one_place : (xs : List NodeName) → Rises node_cmp xs → (i j : ℕ) (x : NodeName) → slice_get xs i ≡ Some x → slice_get xs j ≡ Some x → i ≡ j
one_place xs rise i j x at_i at_j =
    let later : (k l : ℕ) → k < l → slice_get xs k ≡ Some x → slice_get xs l ≡ Some x → ⊥ = λ k l below at_k at_l.
    let within = slice_get_within xs l x at_l in
    let less : node_cmp x x ≡ Less = rw (get_or_from_slice_get xs k x x at_k, get_or_from_slice_get xs l x x at_l) at (rise k l x below within) in
    node_strict x x less less
    in
    elim (cases_order i j) [
      | inl same ↦ same
      | inr (inl below) ↦ absurd (later i j below at_i at_j)
      | inr (inr above) ↦ absurd (later j i above at_j at_i)
    ]

-- problems and columns are nodes
pub problem_is_node : (t : Topology) (n : NodeName) → IsProblem t n → IsNodeOf t n
problem_is_node t n is = (is.event, record { class = is.class; of_class = is.of_class; named = (is.problem.has, is.named) })

pub column_is_node : (t : Topology) (n : NodeName) → IsColumn t n → IsNodeOf t n
column_is_node t n is =
    let s = is.symptom in
    (s.event, record { class = s.class; of_class = s.of_class; named = (s.symptom.has, s.named) })

-- what a node causes is a node
pub chain_ends_at_node : (t : Topology) (p : NodeName) (between : List NodeName) (s : NodeName) → IsNodeOf t p → Chain t p between s → IsNodeOf t s
chain_ends_at_node t p [] s is same = subst (IsNodeOf t) same is
chain_ends_at_node t p (q ∷ rest) s is chain =
    let edge : Edge t p q = chain.0 in
    chain_ends_at_node t q rest s (edge.has.row.effect, edge.effect) chain.1

-- the places of the same columns are the same
places_are_one : (nodes all : List NodeName) → Rises node_cmp all → (numbers : List ℕ) (columns : List NodeName) (places others : List ℕ)
    → AllZip (StandsFor nodes) numbers columns → HavePlaces all columns places → ArePlaces nodes all numbers others → others ≡ places
places_are_one nodes all rise [] [] [] [] names have are = refl
places_are_one nodes all rise [] [] [] (o ∷ others) names have are = absurd are
places_are_one nodes all rise [] [] (p ∷ places) others names have are = absurd have
places_are_one nodes all rise [] (c ∷ columns) places others names have are = absurd names
places_are_one nodes all rise (n ∷ numbers) [] places others names have are = absurd names
places_are_one nodes all rise (n ∷ numbers) (c ∷ columns) [] others names have are = absurd have
places_are_one nodes all rise (n ∷ numbers) (c ∷ columns) (p ∷ places) [] names have are = absurd are
places_are_one nodes all rise (n ∷ numbers) (c ∷ columns) (p ∷ places) (o ∷ others) names have are =
    let at = are.0 in
    let same : at.column ≡ c = stands_for_one nodes n at.column c at.names names.0 in
    let here : o ≡ p = one_place all rise o p c (subst (λ m. slice_get all o ≡ Some m) same at.is) have.0 in
    let rest = places_are_one nodes all rise numbers columns places others names.1 have.1 are.1 in
    cc

-- columns with places have these places by their numbers
places_of_names : (nodes all : List NodeName) (numbers : List ℕ) (columns : List NodeName) (places : List ℕ)
    → AllZip (StandsFor nodes) numbers columns → HavePlaces all columns places → ArePlaces nodes all numbers places
places_of_names nodes all [] [] [] names have = tt
places_of_names nodes all [] [] (p ∷ places) names have = absurd have
places_of_names nodes all [] (c ∷ columns) places names have = absurd names
places_of_names nodes all (n ∷ numbers) [] places names have = absurd names
places_of_names nodes all (n ∷ numbers) (c ∷ columns) [] names have = absurd have
places_of_names nodes all (n ∷ numbers) (c ∷ columns) (p ∷ places) names have =
    (record { column = c; names = names.0; is = have.0 }, places_of_names nodes all numbers columns places names.1 have.1)

-- columns with places are among all columns
placed_are_columns : (all columns : List NodeName) (places : List ℕ) → HavePlaces all columns places → (n : NodeName) → Contains columns n
    → Contains all n
placed_are_columns all [] [] have n in_columns = absurd (nothing_in_empty n in_columns)
placed_are_columns all [] (p ∷ places) have n in_columns = absurd have
placed_are_columns all (c ∷ columns) [] have n in_columns = absurd have
placed_are_columns all (c ∷ columns) (p ∷ places) have n in_columns =
    elim (contains_cases c columns n in_columns) [
      | inl same ↦ subst (Contains all) same (contains_from_get all p c have.0)
      | inr later ↦ placed_are_columns all columns places have.1 n later
    ]

-- a span among those of problems is that of one of them
pub span_of_one : (t : Topology) (nodes : List NodeName) (problems : List NodeName) (spans : List Span)
    → AllZip (IsCanonicalSpan t nodes) problems spans → (span : Span) → Contains spans span
    → (p : NodeName) × Contains problems p × IsSpanOf t nodes p span
span_of_one t nodes [] [] are span in_spans = absurd (nothing_in_empty span in_spans)
span_of_one t nodes [] (s ∷ spans) are span in_spans = absurd are
span_of_one t nodes (p ∷ problems) [] are span in_spans = absurd are
span_of_one t nodes (p ∷ problems) (s ∷ spans) are span in_spans =
    let first : IsCanonicalSpan t nodes p s = are.0 in
    elim (contains_cases s spans span in_spans) [
      | inl same ↦ (p, contains_head p problems, subst (IsSpanOf t nodes p) same first.is)
      | inr later ↦
          let rest = span_of_one t nodes problems spans are.1 span later in
          (rest.0, contains_tail p problems rest.0 rest.1, rest.2)
    ]

-- canonical spans are spans
spans_of_canonical : (t : Topology) (nodes : List NodeName) (problems : List NodeName) (spans : List Span)
    → AllZip (IsCanonicalSpan t nodes) problems spans → AllZip (IsSpanOf t nodes) problems spans
spans_of_canonical t nodes [] [] are = tt
spans_of_canonical t nodes [] (s ∷ spans) are = absurd are
spans_of_canonical t nodes (p ∷ problems) [] are = absurd are
spans_of_canonical t nodes (p ∷ problems) (s ∷ spans) are =
    let first : IsCanonicalSpan t nodes p s = are.0 in
    (first.is, spans_of_canonical t nodes problems spans are.1)

module _ (t : Topology) (all : List NodeName) (groups : List Group) (columns : List NodeName) (places : List ℕ) (wish : Wish)
    (matrix : IsMatrix t all groups) (have : HavePlaces all columns places) (rise : Rises node_cmp columns)
    (nodes : List NodeName) (numbers : List ℕ) (spans : List Span) (problems : List NodeName) (problems_are : AreProblems t problems)
    (spans_are : AllZip (IsCanonicalSpan t nodes) problems spans) (names : AllZip (StandsFor nodes) numbers columns)
    (used : AreUsed nodes columns spans) where
  are_spans : AreSpans t nodes spans
  are_spans = record { problems = problems; problems_are = problems_are; each = spans_of_canonical t nodes problems spans spans_are }

  are_columns : (n : NodeName) → Contains columns n → IsColumn t n
  are_columns n in_columns = matrix.columns_are.each n (placed_are_columns all columns places have n in_columns)

  node_is_live : (n : NodeName) → Contains nodes n → IsNodeOf t n
  node_is_live n in_nodes = elim (used.each n in_nodes) [
    | inl column ↦ column_is_node t n (are_columns n column)
    | inr listed ↦
        let one = span_of_one t nodes problems spans spans_are listed.0 listed.1 in
        let causes = (span_lists_caused t nodes one.0 listed.0 one.2 n).0 listed.2 in
        chain_ends_at_node t one.0 causes.0 n (problem_is_node t one.0 (problems_are.each one.0 one.1)) causes.1
  ]

  abbrev good_for_wish : List NodeName → List Group → List ℕ → Type 0
  good_for_wish cs gs ps = GoodFor (codes_of gs) ps (need_of (length cs) (codes_of gs) wish)

  pub good_of_valid : IsValidBook t wish nodes numbers spans → good_for_wish all groups places
  good_of_valid valid =
      let apart = valid.apart in
      let made = (spans_make_matrix t nodes spans apart.columns apart.groups are_spans).0 apart.made in
      let same = matrix_is_one t apart.columns all apart.groups groups made matrix in
      let over : ArePlaces nodes all numbers apart.places = subst (λ cs. ArePlaces nodes cs numbers apart.places) same.0 apart.places_are in
      let there = places_are_one nodes all matrix.columns_are.rise numbers columns places apart.places names have over in
      let over_all : good_for_wish all apart.groups apart.places = subst (λ cs. good_for_wish cs apart.groups apart.places) same.0 apart.good in
      let good : good_for_wish all groups apart.places = subst (λ gs. good_for_wish all gs apart.places) same.1 over_all in
      subst (good_for_wish all groups) there good

  pub valid_of_good : good_for_wish all groups places → IsValidBook t wish nodes numbers spans
  valid_of_good good =
      let are_nodes : AreNodes t nodes = record {
        rise = used.rise;
        live = λ k d low. node_is_live (get_or nodes k d) (Contains-get_or nodes k d low);
      } in
      let numbers_are : AreColumnNumbers t nodes numbers = record {
        columns = columns;
        names = names;
        each = λ k d low. are_columns (get_or columns k d) (Contains-get_or columns k d low);
        rise = rise;
      } in
      let apart : AreApart t nodes numbers spans wish = record {
        columns = all;
        groups = groups;
        places = places;
        made = (spans_make_matrix t nodes spans all groups are_spans).1 matrix;
        places_are = places_of_names nodes all numbers columns places names have;
        good = good;
      } in
      record { nodes_are = are_nodes; columns_are = numbers_are; spans_are = are_spans; apart = apart }

pub canonical_book_is_valid : (t : Topology) (all : List NodeName) (groups : List Group) (columns : List NodeName) (places : List ℕ) (distance : ℕ)
    (c : Certificate) → IsMatrix t all groups → HavePlaces all columns places → Rises node_cmp columns → IsCanonicalBook t columns distance c
    → IsValid t c ↔ Good (codes_of groups) places distance
canonical_book_is_valid t all groups columns places distance c matrix have rise is =
    let good = good_of_valid t all groups columns places (Plain distance) matrix have rise is.nodes is.numbers is.spans is.problems is.problems_are is.spans_are is.names is.used in
    let valid = valid_of_good t all groups columns places (Plain distance) matrix have rise is.nodes is.numbers is.spans is.problems is.problems_are is.spans_are is.names is.used in
    ((λ v. good (subst (IsValid t) is.is v)), (λ g. subst (IsValid t) (sym is.is) (valid g)))

-- and for a cap, where the radii are those of the groups, too
pub canonical_capped_is_valid : (t : Topology) (all : List NodeName) (groups : List Group) (columns : List NodeName) (places : List ℕ) (cap : ℕ)
    (radii : List ℕ) (c : Certificate) → IsMatrix t all groups → HavePlaces all columns places → Rises node_cmp columns
    → IsCanonicalCapped t columns cap radii c
    → IsValid t c ↔ (GoodFor (codes_of groups) places (capped_need (length all) (codes_of groups) cap) × AreRadii (length all) (codes_of groups) cap radii)
canonical_capped_is_valid t all groups columns places cap radii c matrix have rise canonical =
    let is = canonical.book in
    let same_book = is.is in
    let nodes = is.nodes in
    let spans = is.spans in
    let same : c ≡ Capped cap nodes is.numbers radii spans = let same_capped = canonical.is in cc in
    let good = good_of_valid t all groups columns places (Cap cap) matrix have rise nodes is.numbers spans is.problems is.problems_are is.spans_are is.names is.used in
    let valid = valid_of_good t all groups columns places (Cap cap) matrix have rise nodes is.numbers spans is.problems is.problems_are is.spans_are is.names is.used in
    let are = are_spans t all groups columns places (Cap cap) matrix have rise nodes is.numbers spans is.problems is.problems_are is.spans_are is.names is.used in
    let radii_of : MakeRadii t nodes spans cap radii → AreRadii (length all) (codes_of groups) cap radii = λ make.
    let made = (spans_make_matrix t nodes spans make.columns make.groups are).0 make.made in
    let one = matrix_is_one t make.columns all make.groups groups made matrix in
    subst (λ (gs : List Group). AreRadii (length all) (codes_of gs) cap radii) one.1
    (subst (λ (cs : List NodeName). AreRadii (length cs) (codes_of make.groups) cap radii) one.0 make.are)
    in
    let make_radii : AreRadii (length all) (codes_of groups) cap radii → MakeRadii t nodes spans cap radii = λ radii_are. record {
      columns = all;
      groups = groups;
      made = (spans_make_matrix t nodes spans all groups are).1 matrix;
      are = radii_are;
    } in
    let to : IsValidCapped t cap nodes is.numbers radii spans
    → GoodFor (codes_of groups) places (capped_need (length all) (codes_of groups) cap) × AreRadii (length all) (codes_of groups) cap radii = λ v.
    (good v.book, radii_of v.radii_are)
    in (
      (λ v. to (subst (IsValid t) same v)),
      (λ holds. subst (IsValid t) (sym same) (record { book = valid holds.0; radii_are = make_radii holds.1 })),
    )
