-- Each word has an answer, and each set of raised nodes a finding.
use Rattle.std.proofs.Common.{◌≡◌, ◌⊎◌, ◌↔◌, ◌+◌, ◌<◌, ◌≤◌, ◌==◌, ℕ, zero, suc, List, [], ◌∷◌, length, map, get_or, refl, ap, subst, ◌∙◌, inl, inr, arith, Bool, Some}
use Rattle.std.specs.List.{Contains, filter, slice_get}
use Rattle.std.specs.List.Sorted.{IsStrictlyIncreasing}
use Rattle.std.proofs.lemmas.Bool.{cases_lt, eq-eqb, eqb-true}
use Rattle.std.proofs.lemmas.List.{length-map, get_or-map}
use Rattle.std.proofs.lemmas.List.FromFn.{length-range_with_len, get_or-range_with_len}
use Rattle.std.proofs.lemmas.List.Kept.{IsStrictlyIncreasing-filter}
use Rattle.cb_model.specs.declared.node.NodeName.{NodeName}
use Rattle.cb_model.specs.declared.wish.Wish.{Wish}
use Rattle.cb_model.specs.declared.wish.Wish.TheVariants.{Plain, Cap}
use Rattle.cb_model.specs.NodeOrder.{node_cmp}
use Rattle.cb_model.specs.Order.{Rises}
use Rattle.cb_model.proofs.Rising.{nothing_in_empty}
use Rattle.cb_coding.specs.declared.book.Answer.{Answer}
use Rattle.cb_coding.specs.declared.book.CapBook.{CapBook}
use Rattle.cb_coding.specs.declared.group.Group.{Group}
use Rattle.cb_coding.specs.declared.group.Problem.{Problem}
use Rattle.cb_coding.specs.Answers.{radius, from_word, IsAnswerWhere, IsAnswer, IsAnswerBy, IsWithinRadius, SomeReach}
use Rattle.cb_coding.specs.Books.{IsCapBook}
use Rattle.cb_coding.specs.Distance.{all_columns}
use Rattle.cb_coding.specs.Groups.{AreGroups, group_of, zeros, codes_of}
use Rattle.cb_coding.specs.Needs.{capped_need}
use Rattle.cb_coding.specs.Pairs.{least_or_one}
use Rattle.cb_coding.specs.Radii.{AreRadii}
use Rattle.cb_coding.specs.Used.{IsRadius, HaveRadii, IsAnswerFor}
use Rattle.cb_coding.proofs.BookLaws.{kept_by_filter, was_in_filtered}
use Rattle.cb_coding.proofs.Distances.{all_columns_rise, in_all_columns, below_from_all_columns}
use Rattle.cb_coding.proofs.RadiusLaws.{cap_is_met, one_radius_for_all}
use Rattle.cb_finding.specs.declared.finding.Finding.{Finding}
use Rattle.cb_finding.specs.Finding.{word_of, unknown_of, named_groups, ReportsRadius, ReportsFirst, IsFindingWhere, IsFinding, IsFindingFor, IsBurst}
use Rattle.cb_network.specs.Regular.{IsRegular}
use Rattle.cb_network.specs.Topology.{Topology}
use Rattle.cb_log.proofs.RadiiExist.{nearest_need}
use Rattle.cb_change.proofs.Closure.{decide_any}
use Rattle.cb_existence.proofs.Choices.{closest_pair_exists, choice_exists}
use Rattle.cb_existence.proofs.Found.{decide_at_most}
use Rattle.cb_existence.proofs.Matrices.{known_bit, matrix_exists}
use Rattle.cb_network.proofs.Decided.{Decision}

-- of the numbers f k below a limit one is least
record IsLeastBelow (f : ℕ → ℕ) (n m : ℕ) : Type 0 where
  attained : (k : ℕ) × (k < n) × (f k ≡ m)
  least : (k : ℕ) → k < n → m ≤ f k

least_below : (f : ℕ → ℕ) (n : ℕ) → (m : ℕ) × IsLeastBelow f (suc n) m
least_below f zero = (
  f 0,
  record {
    attained = (0, omega arith, refl);
    least = λ k lt. let e : f 0 ≡ f k = ap f (let z : 0 ≡ k = omega arith in z) in omega arith;
  },
)
least_below f (suc n) =
    let (m, is) = least_below f n in
    let last : (k : ℕ) → k < suc (suc n) → (k < suc n) ⊎ (suc n ≡ k) = λ k lt. elim (cases_lt k (suc n)) [ inl below ↦ inl below | inr above ↦ inr (omega arith) ] in
    elim (cases_lt (f (suc n)) m) [
      | inl less ↦ (
        f (suc n),
        record {
          attained = (suc n, omega arith, refl);
          least = λ k lt. elim (last k lt) [
            | inl below ↦ let far = is.least k below in omega arith
            | inr same ↦ let e : f (suc n) ≡ f k = ap f same in omega arith
          ];
        },
      )
      | inr more ↦ (
        m,
        record {
          attained = (let lt = is.attained.1 in (is.attained.0, omega arith, is.attained.2));
          least = λ k lt. elim (last k lt) [
            | inl below ↦ is.least k below
            | inr same ↦ let e : f (suc n) ≡ f k = ap f same in omega arith
          ];
        },
      )
    ]

-- each code has a radius

module _ (width : ℕ) (codes : List (List Bool)) (cap : ℕ) where
  radius_by : (i : ℕ) → (i < length codes) ⊎ (length codes ≤ i) → ℕ
  radius_by i (inl lt) = radius (nearest_need width codes cap i lt).0
  radius_by i (inr out) = 0

  is_radius_by : (i : ℕ) (o : (i < length codes) ⊎ (length codes ≤ i)) → i < length codes → IsRadius width codes (Cap cap) i (radius_by i o)
  unfolding radius_by
  is_radius_by i (inl lt) within = (let n = nearest_need width codes cap i lt in (n.0, n.1, refl))
  is_radius_by i (inr out) within = absurd (omega arith)

have_radii : (width : ℕ) (codes : List (List Bool)) (used : Wish) → (radius_of : ℕ → ℕ) × HaveRadii width codes used radius_of
have_radii width codes (Plain d) = (λ i. radius d, λ i lt. refl)
have_radii width codes (Cap cap) =
    (λ i. radius_by width codes cap i (cases_lt i (length codes)), λ i lt. is_radius_by width codes cap i (cases_lt i (length codes)) lt)

-- the answer

module _ (columns : List ℕ) (codes : List (List Bool)) (radius_of : ℕ → ℕ) (word : List Bool) where
  far_is : ℕ → ℕ → Bool
  far_is m i = from_word columns codes word i == m

  -- the codes that are so far from the word
  at_distance : ℕ → List ℕ
  at_distance m = filter (far_is m) (all_columns (length codes))

  at_distance_rise : (m : ℕ) → IsStrictlyIncreasing (at_distance m)
  unfolding at_distance
  at_distance_rise m = IsStrictlyIncreasing-filter (far_is m) (all_columns (length codes))
      (λ k lt. all_columns_rise (length codes) k (k + 1) 0 (omega arith) lt)

  is_at_distance : (m i : ℕ) → Contains (at_distance m) i ↔ ((i < length codes) × (from_word columns codes word i ≡ m))
  unfolding at_distance far_is
  is_at_distance m i = (
    λ has.
        let was = was_in_filtered (far_is m) (all_columns (length codes)) i has in
        (below_from_all_columns (length codes) i was.0, eqb-true (from_word columns codes word i) m was.1),
    λ (lt, e). kept_by_filter (far_is m) (all_columns (length codes)) i (in_all_columns (length codes) i lt) (eq-eqb (from_word columns codes word i) m e),
  )

  decide_reach : (m : ℕ) (groups : List ℕ) → Decision ((i : ℕ) × Contains groups i × (m ≤ radius_of i))
  decide_reach m groups = decide_any (λ i. m ≤ radius_of i) (λ i. decide_at_most m (radius_of i)) groups

  answered : (m : ℕ) → ((i : ℕ) × (i < length codes) × (from_word columns codes word i ≡ m)) → ((i : ℕ) → i < length codes → m ≤ from_word columns codes word i)
      → (answer : Answer) × IsAnswerBy columns codes radius_of word answer
  answered m attained least =
      let sure = known_bit _ (decide_reach m (at_distance m)) in (
        record { distance = m; groups = at_distance m; sure = sure.0 },
        record { attained = attained; least = least; rise = at_distance_rise m; nearest = is_at_distance m; sure = sure.1 },
      )

  pub answer_by_exists : 0 < length codes → (answer : Answer) × IsAnswerBy columns codes radius_of word answer
  answer_by_exists some = by_length (length codes) refl some
    where
      by_length : (n : ℕ) → n ≡ length codes → 0 < n → (answer : Answer) × IsAnswerBy columns codes radius_of word answer
      by_length zero e none = absurd (omega arith)
      by_length (suc n) e more =
          let (m, least) = least_below (from_word columns codes word) n in
          let is : IsLeastBelow (from_word columns codes word) (length codes) m = subst (λ (k : ℕ). IsLeastBelow (from_word columns codes word) k m) e least in
          answered m is.attained is.least

pub answer_exists : (width : ℕ) (codes : List (List Bool)) (columns : List ℕ) (used : Wish) (word : List Bool) → 0 < length codes
    → (answer : Answer) × IsAnswerFor width codes columns used word answer
answer_exists width codes columns used word some =
    let (radius_of, radii) = have_radii width codes used in
    let (answer, is) = answer_by_exists columns codes radius_of word some in
    (answer, record { radius_of = radius_of; radii = radii; answered = is })

-- where all codes have the radius of one distance
pub answer_at_exists : (columns : List ℕ) (codes : List (List Bool)) (d : ℕ) (word : List Bool) → 0 < length codes
    → (answer : Answer) × IsAnswer columns codes d word answer
answer_at_exists columns codes d word some =
    let (answer, is) = answer_by_exists columns codes (λ i. radius d) word some in
    (answer, (one_radius_for_all columns codes d word answer).0 is)

-- the finding

module _ (Reported : Answer → ℕ → Type 0) (Sure : Answer → Type 0) (columns : List NodeName) (groups : List Group) (book_columns : List ℕ)
    (raised : List NodeName) (rise : Rises node_cmp raised) where
  found_by : (answer : Answer) (r : ℕ) → Reported answer r → IsAnswerWhere Sure book_columns (codes_of groups) (word_of columns raised) answer
      → (finding : Finding) × IsFindingWhere Reported Sure columns groups book_columns raised finding
  found_by answer r reported is = (
    record {
      raised = length raised;
      unknown = unknown_of columns raised;
      distance = answer.distance;
      radius = r;
      sure = answer.sure;
      groups = named_groups groups answer.groups;
    },
    record {
      rise = rise;
      raised_are = refl;
      unknown_are = refl;
      answer = answer;
      radius_is = reported;
      answered = is;
      distance_is = refl;
      sure_is = refl;
      groups_are = refl;
    },
  )

first_member : (groups : List ℕ) (i : ℕ) → Contains groups i → (j : ℕ) × (slice_get groups 0 ≡ Some j)
first_member [] i has = absurd (nothing_in_empty i has)
first_member (j ∷ groups) i has = (j, refl)

module _ (columns : List NodeName) (groups : List Group) (book_columns : List ℕ) (raised : List NodeName) (some : 0 < length groups)
    (rise : Rises node_cmp raised) where
  some_code : 0 < length (codes_of groups)
  some_code = let long = length-map groups (λ (g : Group). g.code) in omega arith

  pub finding_exists : (used : Wish) → (finding : Finding) × IsFindingFor columns groups book_columns used raised finding
  finding_exists used =
      let (radius_of, radii) = have_radii (length columns) (codes_of groups) used in
      let (answer, is) = answer_by_exists book_columns (codes_of groups) radius_of (word_of columns raised) some_code in
      let near = is.attained in
      let first = first_member answer.groups near.0 ((is.nearest near.0).1 (near.1, near.2)) in
      let (finding, found) = found_by (ReportsFirst radius_of) (SomeReach radius_of) columns groups book_columns raised rise answer (radius_of first.0) (first.0, first.1, refl) is in
      (finding, record { radius_of = radius_of; radii = radii; found = found })

  pub finding_at_exists : (d : ℕ) → (finding : Finding) × IsFinding columns groups book_columns d raised finding
  finding_at_exists d =
      let (answer, is) = answer_at_exists book_columns (codes_of groups) d (word_of columns raised) some_code in
      found_by (ReportsRadius d) (IsWithinRadius d) columns groups book_columns raised rise answer (radius d) refl is

-- groups have the quiet one
pub some_group : (width : ℕ) (problems : List Problem) (groups : List Group) → AreGroups width problems groups → 0 < length groups
some_group width problems groups are =
    let long : length groups ≡ length (group_of problems (zeros width) ∷ are.others) = ap length are.quiet in
    omega arith

-- over all columns of a topology
pub burst_exists : (t : Topology) (raised : List NodeName) → IsRegular t.model → Rises node_cmp raised → (finding : Finding) × IsBurst t raised finding
burst_exists t raised regular rise =
    let (columns, groups, matrix) = matrix_exists t regular in
    let (least, least_is) = closest_pair_exists (length columns) (codes_of groups) in
    let some = some_group (length columns) matrix.problems groups matrix.groups_are in
    let (finding, found) = finding_at_exists columns groups (all_columns (length columns)) raised some rise (least_or_one least) in
    (finding, record { columns = columns; groups = groups; matrix = matrix; least = least; least_is = least_is; found = found })

-- the codebook for a cap

module _ (width : ℕ) (codes : List (List Bool)) (cap : ℕ) where
  pub radii_exist : (radii : List ℕ) × AreRadii width codes cap radii
  radii_exist =
      let (radius_of, radii) = have_radii width codes (Cap cap) in
      let all = all_columns (length codes) in
      let long = length-range_with_len 0 (length codes) in
      let long_map = length-map all radius_of in (
        map radius_of all,
        record {
          all = omega arith;
          each = λ i lt.
              let is = radii i lt in
              let here : get_or (map radius_of all) i 0 ≡ radius_of (get_or all i 0) = get_or-map radius_of all i 0 0 (omega arith) in
              let at : get_or all i 0 ≡ i = omega (arith, get_or-range_with_len 0 (length codes) i 0 lt) in
              (is.0, is.1, here ∙ (ap radius_of at ∙ is.2));
        },
      )

  pub cap_book_exists : (book : CapBook) × IsCapBook width codes book × (book.cap ≡ cap)
  cap_book_exists =
      let (columns, choice) = choice_exists width codes (capped_need width codes cap) (cap_is_met width codes cap) in
      let (radii, are) = radii_exist in
      (record { columns = columns; cap = cap; radii = radii }, record { choice = choice; radii = are }, refl)
