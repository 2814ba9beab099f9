-- Canonical certificates are one, and valid ones decode.
use Rattle.std.proofs.Common.{◌≡◌, ◌↔◌, ℕ, ◌-◌, ◌<◌, ◌≤◌, ◌++◌, List, [], ◌∷◌, length, get_or, refl, sym, ap, subst, ◌∙◌, arith, Bool, IsTrue, Some, None, Option, inl, inr}
use Rattle.std.specs.List.{AllZip, Contains}
use Rattle.std.proofs.lemmas.List.{length-map}
use Rattle.std.proofs.lemmas.List.Elements.{Contains-get_or}
use Rattle.cb_model.specs.declared.node.NodeName.{NodeName}
use Rattle.cb_model.specs.declared.wish.Wish.{Wish}
use Rattle.cb_model.specs.declared.wish.Wish.TheVariants.{Plain, Cap}
use Rattle.cb_model.specs.Order.{Rises}
use Rattle.cb_model.specs.NodeOrder.{node_cmp}
use Rattle.cb_model.proofs.Rising.{node_strict, same_rising, contains_cases, nothing_in_empty}
use Rattle.cb_coding.specs.declared.group.Group.{Group}
use Rattle.cb_coding.specs.declared.book.Answer.{Answer}
use Rattle.cb_coding.specs.Answers.{IsAnswer, from_word, radius}
use Rattle.cb_coding.specs.Distance.{distance, all_columns}
use Rattle.cb_coding.specs.Groups.{codes_of}
use Rattle.cb_coding.specs.Needs.{need_of}
use Rattle.cb_coding.specs.Pairs.{GoodFor}
use Rattle.cb_coding.specs.Radii.{AreRadii, radius_at}
use Rattle.cb_coding.specs.Used.{IsAnswerFor}
use Rattle.cb_coding.proofs.Distances.{coding_theorem}
use Rattle.cb_coding.proofs.GroupLaws.{one_is_good}
use Rattle.cb_coding.proofs.UsedLaws.{alone_in_use}
use Rattle.cb_network.specs.Topology.{Topology}
use Rattle.cb_network.specs.Nodes.{IsNodeOf, IsProblem, AreColumns}
use Rattle.cb_finding.specs.Matrix.{IsCode, IsMatrix}
use Rattle.cb_finding.proofs.Nearest.{coded_are_wide}
use Rattle.cb_finding.proofs.One.{code_is_one, matrix_is_one}
use Rattle.cb_network.proofs.One.{problems_are_one, columns_are_one}
use Rattle.cb_cert.specs.declared.certificate.Span.{Span}
use Rattle.cb_cert.specs.declared.certificate.Side.{Side}
use Rattle.cb_cert.specs.declared.certificate.Side.TheVariants as side
use Rattle.cb_cert.specs.declared.certificate.Certificate.{Certificate}
use Rattle.cb_cert.specs.declared.certificate.Certificate.TheVariants.{Book, Capped}
use Rattle.cb_validity.specs.Spans.{StandsFor, ListsNode, IsSpanOf}
use Rattle.cb_validity.specs.Reading.{IsSpanCode, IsSideCode, ArePlaces}
use Rattle.cb_validity.specs.Valid.{IsSide, IsClose, IsValidBook, IsValidThin, IsValid}
use Rattle.cb_validity.specs.Canonical.{IsCanonicalSpan, AreUsed, IsCanonicalBook, IsCanonicalCapped, IsCanonicalSide, side_spans, IsCanonicalThin}
use Rattle.cb_validity.specs.Laws.{IsSideProblem, IsCodeOfSide}
use Rattle.cb_validity.proofs.SpanLaws.{span_lists_caused}
use Rattle.cb_validity.proofs.Matrices.{spans_make_matrix, code_of_root, code_of_span}
use Rattle.cb_validity.proofs.Canonicals.{contains_from_get, span_of_one, problem_is_node, chain_ends_at_node}
use Rattle.cb_validity.proofs.Firsts.{places_found_once}
use Rattle.cb_validity.proofs.Uniques.{one_number, one_span}

-- the canonical span of one of the problems
span_for : (t : Topology) (nodes : List NodeName) (problems : List NodeName) (spans : List Span) → AllZip (IsCanonicalSpan t nodes) problems spans
    → (p : NodeName) → Contains problems p → (span : Span) × IsCanonicalSpan t nodes p span
span_for t nodes [] [] are p in_problems = absurd (nothing_in_empty p in_problems)
span_for t nodes [] (s ∷ spans) are p in_problems = absurd are
span_for t nodes (q ∷ problems) [] are p in_problems = absurd are
span_for t nodes (q ∷ problems) (s ∷ spans) are p in_problems =
    elim (contains_cases q problems p in_problems) [
      | inl same ↦ (s, subst (λ r. IsCanonicalSpan t nodes r s) same are.0)
      | inr later ↦ span_for t nodes problems spans are.1 p later
    ]

-- the number of one of the columns
number_for : (nodes : List NodeName) (numbers : List ℕ) (columns : List NodeName) → AllZip (StandsFor nodes) numbers columns → (n : NodeName)
    → Contains columns n → (i : ℕ) × StandsFor nodes i n
number_for nodes [] [] are n in_columns = absurd (nothing_in_empty n in_columns)
number_for nodes [] (c ∷ columns) are n in_columns = absurd are
number_for nodes (i ∷ numbers) [] are n in_columns = absurd are
number_for nodes (i ∷ numbers) (c ∷ columns) are n in_columns =
    elim (contains_cases c columns n in_columns) [
      | inl same ↦ (i, subst (StandsFor nodes i) same are.0)
      | inr later ↦ number_for nodes numbers columns are.1 n later
    ]

-- what a span lists is among the nodes
listed_is_among : (nodes : List NodeName) (span : Span) (n : NodeName) → ListsNode nodes span n → Contains nodes n
listed_is_among nodes span n (k, at) = contains_from_get nodes (at.entry.node - 1) n at.names.is

-- columns and problems over nodes
record IsOver (t : Topology) (columns problems nodes : List NodeName) (numbers : List ℕ) (spans : List Span) : Type 0 where
  names : AllZip (StandsFor nodes) numbers columns
  spans_are : AllZip (IsCanonicalSpan t nodes) problems spans

-- the nodes of the one are among those of the other
nodes_within : (t : Topology) (columns problems xs ys : List NodeName) (is js : List ℕ) (us vs : List Span) → IsOver t columns problems xs is us
    → AreUsed xs columns us → IsOver t columns problems ys js vs → (n : NodeName) → Contains xs n → Contains ys n
nodes_within t columns problems xs ys is js us vs a used b n in_xs = elim (used.each n in_xs) [
  | inl column ↦ let i = number_for ys js columns b.names n column in contains_from_get ys (i.0 - 1) n (i.1).is
  | inr listed ↦
      let one = span_of_one t xs problems us a.spans_are listed.0 listed.1 in
      let causes = (span_lists_caused t xs one.0 listed.0 one.2 n).0 listed.2 in
      let other = span_for t ys problems vs b.spans_are one.0 one.1 in
      let canonical = other.1 in
      listed_is_among ys other.0 n ((span_lists_caused t ys one.0 other.0 canonical.is n).1 causes)
]

spans_are_one : (t : Topology) (nodes : List NodeName) → Rises node_cmp nodes → (problems : List NodeName) (xs ys : List Span)
    → AllZip (IsCanonicalSpan t nodes) problems xs → AllZip (IsCanonicalSpan t nodes) problems ys → xs ≡ ys
spans_are_one t nodes rise [] [] [] a b = refl
spans_are_one t nodes rise [] [] (y ∷ ys) a b = absurd b
spans_are_one t nodes rise [] (x ∷ xs) ys a b = absurd a
spans_are_one t nodes rise (p ∷ problems) [] ys a b = absurd a
spans_are_one t nodes rise (p ∷ problems) (x ∷ xs) [] a b = absurd b
spans_are_one t nodes rise (p ∷ problems) (x ∷ xs) (y ∷ ys) a b =
    let here : x ≡ y = one_span t nodes p rise x y a.0 b.0 in
    let rest = spans_are_one t nodes rise problems xs ys a.1 b.1 in
    cc

numbers_are_one : (nodes : List NodeName) → Rises node_cmp nodes → (columns : List NodeName) (is js : List ℕ)
    → AllZip (StandsFor nodes) is columns → AllZip (StandsFor nodes) js columns → is ≡ js
numbers_are_one nodes rise [] [] [] a b = refl
numbers_are_one nodes rise [] [] (j ∷ js) a b = absurd b
numbers_are_one nodes rise [] (i ∷ is) js a b = absurd a
numbers_are_one nodes rise (c ∷ columns) [] js a b = absurd a
numbers_are_one nodes rise (c ∷ columns) (i ∷ is) [] a b = absurd b
numbers_are_one nodes rise (c ∷ columns) (i ∷ is) (j ∷ js) a b =
    let here : i ≡ j = one_number nodes rise i j c a.0 b.0 in
    let rest = numbers_are_one nodes rise columns is js a.1 b.1 in
    cc

pub canonical_book_is_one : (t : Topology) (columns : List NodeName) (distance : ℕ) (a b : Certificate)
    → IsCanonicalBook t columns distance a → IsCanonicalBook t columns distance b → a ≡ b
canonical_book_is_one t columns d a b p q =
    let problems = problems_are_one t p.problems q.problems p.problems_are q.problems_are in
    let ours : IsOver t columns p.problems p.nodes p.numbers p.spans = record { names = p.names; spans_are = p.spans_are } in
    let theirs : IsOver t columns p.problems q.nodes q.numbers q.spans = record {
      names = q.names;
      spans_are = subst (λ ps. AllZip (IsCanonicalSpan t q.nodes) ps q.spans) (sym problems) q.spans_are;
    } in
    let nodes = same_rising node_cmp node_strict p.nodes q.nodes p.used.rise q.used.rise
    (nodes_within t columns p.problems p.nodes q.nodes p.numbers q.numbers p.spans q.spans ours p.used theirs)
    (nodes_within t columns p.problems q.nodes p.nodes q.numbers p.numbers q.spans p.spans theirs q.used ours)
    in
    let here : IsOver t columns p.problems p.nodes q.numbers q.spans = subst (λ ns. IsOver t columns p.problems ns q.numbers q.spans) (sym nodes) theirs in
    let spans = spans_are_one t p.nodes p.used.rise p.problems p.spans q.spans p.spans_are here.spans_are in
    let numbers = numbers_are_one p.nodes p.used.rise columns p.numbers q.numbers p.names here.names in
    let a_is = p.is in
    let b_is = q.is in
    cc

-- and for a cap
pub canonical_capped_is_one : (t : Topology) (columns : List NodeName) (cap : ℕ) (radii : List ℕ) (a b : Certificate)
    → IsCanonicalCapped t columns cap radii a → IsCanonicalCapped t columns cap radii b → a ≡ b
canonical_capped_is_one t columns cap radii a b p q =
    let same = canonical_book_is_one t columns 1 (Book 1 p.nodes p.numbers p.spans) (Book 1 q.nodes q.numbers q.spans) p.book q.book in
    let a_is = p.is in
    let b_is = q.is in
    cc

-- over the columns of a valid book the topology's groups are as far apart as the wish asks
good_of_book : (t : Topology) (wish : Wish) (nodes : List NodeName) (numbers : List ℕ) (spans : List Span) → IsValidBook t wish nodes numbers spans
    → (columns : List NodeName) (groups : List Group) (places : List ℕ) → IsMatrix t columns groups → ArePlaces nodes columns numbers places
    → GoodFor (codes_of groups) places (need_of (length columns) (codes_of groups) wish)
good_of_book t wish nodes numbers spans valid columns groups places matrix are =
    let apart = valid.apart in
    let made = (spans_make_matrix t nodes spans apart.columns apart.groups valid.spans_are).0 apart.made in
    let same = matrix_is_one t apart.columns columns apart.groups groups made matrix in
    let over : ArePlaces nodes columns numbers apart.places = subst (λ cs. ArePlaces nodes cs numbers apart.places) same.0 apart.places_are in
    let there = places_found_once nodes columns matrix.columns_are.rise numbers apart.places places over are in
    let good : List NodeName → List Group → List ℕ → Type 0 = λ cs gs ps. GoodFor (codes_of gs) ps (need_of (length cs) (codes_of gs) wish) in
    subst (good columns groups) there (subst (λ gs. good columns gs apart.places) same.1 (subst (λ cs. good cs apart.groups apart.places) same.0 apart.good))

pub valid_book_decodes : (t : Topology) (distance : ℕ) (nodes : List NodeName) (numbers : List ℕ) (spans : List Span)
    → IsValid t (Book distance nodes numbers spans) → 0 < distance → (columns : List NodeName) (groups : List Group) (places : List ℕ)
    → IsMatrix t columns groups → ArePlaces nodes columns numbers places → (word : List Bool) (i : ℕ) (answer : Answer)
    → i < length groups → from_word places (codes_of groups) word i ≤ radius distance
    → IsAnswer places (codes_of groups) distance word answer → (answer.groups ≡ i ∷ []) × IsTrue answer.sure
valid_book_decodes t d nodes numbers spans valid some columns groups places matrix are word i answer low near is =
    let good = good_of_book t (Plain d) nodes numbers spans valid columns groups places matrix are in
    coding_theorem places (codes_of groups) d word good some i answer (omega (arith, length-map groups (λ (g : Group). g.code))) near is

pub valid_capped_decodes : (t : Topology) (cap : ℕ) (nodes : List NodeName) (numbers radii : List ℕ) (spans : List Span)
    → IsValid t (Capped cap nodes numbers radii spans) → 0 < cap → (columns : List NodeName) (groups : List Group) (places : List ℕ)
    → IsMatrix t columns groups → ArePlaces nodes columns numbers places → (word : List Bool) (i : ℕ) (answer : Answer)
    → i < length groups → from_word places (codes_of groups) word i ≤ radius_at radii i
    → IsAnswerFor (length columns) (codes_of groups) places (Cap cap) word answer → (answer.groups ≡ i ∷ []) × IsTrue answer.sure
valid_capped_decodes t cap nodes numbers radii spans valid some columns groups places matrix are word i answer low near is =
    let width = length columns in
    let book = valid.book in
    let good = good_of_book t (Cap cap) nodes numbers spans book columns groups places matrix are in
    let make = valid.radii_are in
    let made = (spans_make_matrix t nodes spans make.columns make.groups book.spans_are).0 make.made in
    let same = matrix_is_one t make.columns columns make.groups groups made matrix in
    let radii_are : AreRadii width (codes_of groups) cap radii = subst (λ (gs : List Group). AreRadii width (codes_of gs) cap radii) same.1
    (subst (λ (cs : List NodeName). AreRadii (length cs) (codes_of make.groups) cap radii) same.0 make.are)
    in
    let wide = coded_are_wide t columns matrix.problems matrix.problems_are in
    let differ = one_is_good width matrix.problems groups wide matrix.groups_are in
    let within : i < length (codes_of groups) = omega (arith, length-map groups (λ (g : Group). g.code)) in
    alone_in_use width (codes_of groups) places (Cap cap) word good differ some i (radius_at radii i) answer within (radii_are.each i within) near is

-- thin certificates

-- a canonical side is a side
side_of_canonical : (t : Topology) (nodes : List NodeName) (first : Option NodeName) (s : Side) → IsSideProblem t first
    → IsCanonicalSide t nodes first s → IsSide t nodes s
side_of_canonical t nodes None side.Quiet problem is = tt
side_of_canonical t nodes None (side.Root span) problem is = absurd is
side_of_canonical t nodes (Some p) side.Quiet problem is = absurd is
side_of_canonical t nodes (Some p) (side.Root span) problem is = let span_is = is.is in record { root = p; problem = problem; is = span_is }

-- the code that is read off a canonical side is that of its problem
code_of_side : (t : Topology) (nodes columns : List NodeName) (first : Option NodeName) (s : Side) (v u : List Bool) → IsCanonicalSide t nodes first s
    → IsCodeOfSide t columns first v → IsSideCode nodes columns s u → u ≡ v
code_of_side t nodes columns None side.Quiet v u is of_v of_u = of_u ∙ sym of_v
code_of_side t nodes columns None (side.Root span) v u is of_v of_u = absurd is
code_of_side t nodes columns (Some p) side.Quiet v u is of_v of_u = absurd is
code_of_side t nodes columns (Some p) (side.Root span) v u is of_v of_u =
    let span_is : IsSpanOf t nodes p span = is.is in
    code_is_one t columns p u v (code_of_root t nodes p span span_is columns u of_u) of_v

-- it can be read off
side_has_code : (t : Topology) (nodes columns : List NodeName) (first : Option NodeName) (s : Side) (v : List Bool) → IsCanonicalSide t nodes first s
    → IsCodeOfSide t columns first v → IsSideCode nodes columns s v
side_has_code t nodes columns None side.Quiet v is of_v = of_v
side_has_code t nodes columns None (side.Root span) v is of_v = absurd is
side_has_code t nodes columns (Some p) side.Quiet v is of_v = absurd is
side_has_code t nodes columns (Some p) (side.Root span) v is of_v =
    let span_is : IsSpanOf t nodes p span = is.is in
    code_of_span t nodes p span span_is columns v of_v

-- what one of the spans lists is a node
side_lists_nodes : (t : Topology) (nodes : List NodeName) (first : Option NodeName) (second : NodeName) (s : Side) (span : Span)
    → IsSideProblem t first → IsProblem t second → IsCanonicalSide t nodes first s → IsCanonicalSpan t nodes second span
    → (x : Span) → Contains (side_spans s ++ span ∷ []) x → (n : NodeName) → ListsNode nodes x n → IsNodeOf t n
side_lists_nodes t nodes None second side.Quiet span of_first of_second is canonical x in_spans n lists =
    elim (contains_cases span [] x in_spans) [
      | inl same ↦
          let causes = (span_lists_caused t nodes second span canonical.is n).0 (subst (λ y. ListsNode nodes y n) (sym same) lists) in
          chain_ends_at_node t second causes.0 n (problem_is_node t second of_second) causes.1
      | inr none ↦ absurd (nothing_in_empty x none)
    ]
side_lists_nodes t nodes None second (side.Root s) span of_first of_second is canonical x in_spans n lists = absurd is
side_lists_nodes t nodes (Some p) second side.Quiet span of_first of_second is canonical x in_spans n lists = absurd is
side_lists_nodes t nodes (Some p) second (side.Root s) span of_first of_second is canonical x in_spans n lists =
    let span_is : IsSpanOf t nodes p s = is.is in
    elim (contains_cases s (span ∷ []) x in_spans) [
      | inl same ↦
          let causes = (span_lists_caused t nodes p s span_is n).0 (subst (λ y. ListsNode nodes y n) (sym same) lists) in
          chain_ends_at_node t p causes.0 n (problem_is_node t p of_first) causes.1
      | inr later ↦ elim (contains_cases span [] x later) [
        | inl same ↦
            let causes = (span_lists_caused t nodes second span canonical.is n).0 (subst (λ y. ListsNode nodes y n) (sym same) lists) in
            chain_ends_at_node t second causes.0 n (problem_is_node t second of_second) causes.1
        | inr none ↦ absurd (nothing_in_empty x none)
      ]
    ]

pub canonical_thin_is_valid : (t : Topology) (columns : List NodeName) (first : Option NodeName) (second : NodeName) (v w : List Bool)
    (wanted far : ℕ) (c : Certificate) → AreColumns t columns → IsSideProblem t first → IsProblem t second
    → IsCodeOfSide t columns first v → IsCode t columns second w → IsCanonicalThin t first second wanted far c
    → IsValid t c ↔ ((far ≡ distance (all_columns (length columns)) v w) × IsClose wanted far)
canonical_thin_is_valid t columns first second v w wanted far c columns_are of_first of_second of_v of_w is =
    let nodes = is.nodes in
    let s = is.side in
    let span = is.span in
    let canonical = is.span_is in
    let to : IsValidThin t wanted far nodes s span → (far ≡ distance (all_columns (length columns)) v w) × IsClose wanted far = λ valid.
    let at = valid.apart in
    let same = columns_are_one t at.columns columns at.columns_are columns_are in
    let first_read : IsSideCode nodes columns s at.v = subst (λ cs. IsSideCode nodes cs s at.v) same at.first_is in
    let second_read : IsSpanCode nodes columns span at.w = subst (λ cs. IsSpanCode nodes cs span at.w) same at.second_is in
    let first_same = code_of_side t nodes columns first s v at.v is.side_is of_v first_read in
    let second_same : at.w ≡ w = code_is_one t columns second at.w w (code_of_root t nodes second span canonical.is columns at.w second_read) of_w in
    let far_is = at.far_is in
    (cc, valid.close)
    in
    let from : (far ≡ distance (all_columns (length columns)) v w) × IsClose wanted far → IsValidThin t wanted far nodes s span = λ claim.
    let live : (n : NodeName) → Contains nodes n → IsNodeOf t n = λ n in_nodes. elim (is.used.each n in_nodes) [
      | inl column ↦ absurd (nothing_in_empty n column)
      | inr listed ↦ side_lists_nodes t nodes first second s span of_first of_second is.side_is canonical listed.0 listed.1 n listed.2
    ] in
    record {
      nodes_are = record { rise = is.used.rise; live = λ k d low. live (get_or nodes k d) (Contains-get_or nodes k d low) };
      first_is = side_of_canonical t nodes first s of_first is.side_is;
      second_is = record { root = second; problem = of_second; is = canonical.is };
      apart = record {
        columns = columns;
        columns_are = columns_are;
        v = v;
        w = w;
        first_is = side_has_code t nodes columns first s v is.side_is of_v;
        second_is = code_of_span t nodes second span canonical.is columns w of_w;
        far_is = claim.0;
      };
      close = claim.1;
    }
    in
    ((λ valid. to (subst (IsValid t) is.is valid)), (λ claim. subst (IsValid t) (sym is.is) (from claim)))

-- the nodes of one thin certificate are among those of another
thin_within : (t : Topology) (first : Option NodeName) (second : NodeName) (xs ys : List NodeName) (s u : Side) (a b : Span)
    → IsCanonicalSide t xs first s → IsCanonicalSpan t xs second a → AreUsed xs [] (side_spans s ++ a ∷ [])
    → IsCanonicalSide t ys first u → IsCanonicalSpan t ys second b → (n : NodeName) → Contains xs n → Contains ys n
thin_within t None second xs ys (side.Root s) u a b of_s of_a used of_u of_b n in_xs = absurd of_s
thin_within t None second xs ys side.Quiet (side.Root u) a b of_s of_a used of_u of_b n in_xs = absurd of_u
thin_within t None second xs ys side.Quiet side.Quiet a b of_s of_a used of_u of_b n in_xs = elim (used.each n in_xs) [
  | inl column ↦ absurd (nothing_in_empty n column)
  | inr listed ↦ elim (contains_cases a [] listed.0 listed.1) [
    | inl same ↦
        let causes = (span_lists_caused t xs second a of_a.is n).0 (subst (λ x. ListsNode xs x n) (sym same) listed.2) in
        listed_is_among ys b n ((span_lists_caused t ys second b of_b.is n).1 causes)
    | inr none ↦ absurd (nothing_in_empty listed.0 none)
  ]
]
thin_within t (Some p) second xs ys side.Quiet u a b of_s of_a used of_u of_b n in_xs = absurd of_s
thin_within t (Some p) second xs ys (side.Root s) side.Quiet a b of_s of_a used of_u of_b n in_xs = absurd of_u
thin_within t (Some p) second xs ys (side.Root s) (side.Root u) a b of_s of_a used of_u of_b n in_xs =
    let is_s : IsSpanOf t xs p s = of_s.is in
    let is_u : IsSpanOf t ys p u = of_u.is in
    elim (used.each n in_xs) [
      | inl column ↦ absurd (nothing_in_empty n column)
      | inr listed ↦ elim (contains_cases s (a ∷ []) listed.0 listed.1) [
        | inl same ↦
            let causes = (span_lists_caused t xs p s is_s n).0 (subst (λ x. ListsNode xs x n) (sym same) listed.2) in
            listed_is_among ys u n ((span_lists_caused t ys p u is_u n).1 causes)
        | inr later ↦ elim (contains_cases a [] listed.0 later) [
          | inl same ↦
              let causes = (span_lists_caused t xs second a of_a.is n).0 (subst (λ x. ListsNode xs x n) (sym same) listed.2) in
              listed_is_among ys b n ((span_lists_caused t ys second b of_b.is n).1 causes)
          | inr none ↦ absurd (nothing_in_empty listed.0 none)
        ]
      ]
    ]

-- over the same nodes a side is one
side_is_one : (t : Topology) (nodes : List NodeName) → Rises node_cmp nodes → (first : Option NodeName) (s u : Side) → IsCanonicalSide t nodes first s
    → IsCanonicalSide t nodes first u → s ≡ u
side_is_one t nodes rise None side.Quiet side.Quiet a b = refl
side_is_one t nodes rise None side.Quiet (side.Root u) a b = absurd b
side_is_one t nodes rise None (side.Root s) u a b = absurd a
side_is_one t nodes rise (Some p) side.Quiet u a b = absurd a
side_is_one t nodes rise (Some p) (side.Root s) side.Quiet a b = absurd b
side_is_one t nodes rise (Some p) (side.Root s) (side.Root u) a b = ap side.Root (one_span t nodes p rise s u a b)

-- the sides of a thin certificate over nodes
record AreSides (t : Topology) (first : Option NodeName) (second : NodeName) (nodes : List NodeName) (s : Side) (span : Span) : Type 0 where
  side_is : IsCanonicalSide t nodes first s
  span_is : IsCanonicalSpan t nodes second span

pub canonical_thin_is_one : (t : Topology) (first : Option NodeName) (second : NodeName) (wanted far : ℕ) (a b : Certificate)
    → IsCanonicalThin t first second wanted far a → IsCanonicalThin t first second wanted far b → a ≡ b
canonical_thin_is_one t first second wanted far a b p q =
    let nodes = same_rising node_cmp node_strict p.nodes q.nodes p.used.rise q.used.rise
    (thin_within t first second p.nodes q.nodes p.side q.side p.span q.span p.side_is p.span_is p.used q.side_is q.span_is)
    (thin_within t first second q.nodes p.nodes q.side p.side q.span p.span q.side_is q.span_is q.used p.side_is p.span_is)
    in
    let theirs : AreSides t first second q.nodes q.side q.span = record { side_is = q.side_is; span_is = q.span_is } in
    let here : AreSides t first second p.nodes q.side q.span = subst (λ ns. AreSides t first second ns q.side q.span) (sym nodes) theirs in
    let s = side_is_one t p.nodes p.used.rise first p.side q.side p.side_is here.side_is in
    let span = one_span t p.nodes second p.used.rise p.span q.span p.span_is here.span_is in
    let a_is = p.is in
    let b_is = q.is in
    cc
