-- What is written of a codebook is valid.
use Rattle.std.proofs.Common.{◌≡◌, ℕ, ◌<◌, List, [], ◌∷◌, length, get_or, refl, sym, ap, subst, ◌∙◌, arith, Some, zero, suc, inl, inr}
use Rattle.std.specs.Prelude.{slice_get, map}
use Rattle.std.specs.List.{Contains}
use Rattle.std.specs.List.Sorted.{IsStrictlyIncreasing}
use Rattle.std.proofs.lemmas.Option.{slice_get_within, get_or_from_slice_get}
use Rattle.std.proofs.lemmas.List.Kept.{AllPairs-from_increasing}
use Rattle.cb_model.specs.declared.node.NodeName.{NodeName}
use Rattle.cb_model.specs.declared.node.GroupName.{GroupName}
use Rattle.cb_model.specs.declared.node.GroupName.TheVariants.{Quiet, Least}
use Rattle.cb_model.specs.declared.wish.Wish.{Wish}
use Rattle.cb_model.specs.declared.wish.Wish.TheVariants.{Plain, Cap}
use Rattle.cb_model.specs.Order.{Rises}
use Rattle.cb_model.specs.NodeOrder.{node_cmp}
use Rattle.cb_model.proofs.Rising.{contains_cases, contains_head, contains_tail, nothing_in_empty}
use Rattle.cb_coding.specs.declared.group.Group.{Group}
use Rattle.cb_coding.specs.declared.group.Problem.{Problem}
use Rattle.cb_coding.specs.Distance.{code_at}
use Rattle.cb_coding.specs.Groups.{IsGroup, codes_of, zeros, group_of}
use Rattle.cb_coding.specs.Needs.{need_of}
use Rattle.cb_coding.proofs.BookLaws.{choice_is_good}
use Rattle.cb_coding.proofs.GroupLaws.{one_is_good}
use Rattle.cb_coding.proofs.One.{problem_of_member}
use Rattle.cb_network.specs.Topology.{Topology}
use Rattle.cb_network.specs.Nodes.{IsProblem}
use Rattle.cb_finding.specs.Finding.{IsCalled}
use Rattle.cb_finding.specs.Matrix.{IsCode, IsMatrix}
use Rattle.cb_finding.proofs.Nearest.{coded_are_wide}
use Rattle.cb_cert.specs.declared.certificate.Certificate.{Certificate}
use Rattle.cb_validity.specs.Valid.{IsValid}
use Rattle.cb_validity.specs.Laws.{HavePlaces, IsSideProblem, IsCodeOfSide}
use Rattle.cb_validity.specs.Codebooks.{AreBookColumns, IsCodebook, IsShortfall, least_of}
use Rattle.cb_validity.proofs.Canonicals.{canonical_book_is_valid, canonical_capped_is_valid, contains_from_get}
use Rattle.cb_validity.proofs.Passing.{zip_lengths, zip_at}
use Rattle.cb_validity.proofs.Wholes.{canonical_thin_is_valid}

-- what stands at rising places of a list in order is in order
pub places_rise : (all columns : List NodeName) (places : List ℕ) → Rises node_cmp all → HavePlaces all columns places → IsStrictlyIncreasing places
    → Rises node_cmp columns
places_rise all columns places rise have up i j d below within =
    let even = zip_lengths _ columns places have in
    let here = zip_at _ columns places i d 0 have (omega arith) in
    let there = zip_at _ columns places j d 0 have within in
    let less = AllPairs-from_increasing places up i j 0 below (omega arith) in
    let inside = slice_get_within all (get_or places j 0) (get_or columns j d) there in
    rw (get_or_from_slice_get all (get_or places i 0) (get_or columns i d) d here, get_or_from_slice_get all (get_or places j 0) (get_or columns j d) d there)
    at (rise (get_or places i 0) (get_or places j 0) d less inside)

-- the columns of a codebook, in order
pub book_columns_rise : (t : Topology) (wish : Wish) (columns : List NodeName) → AreBookColumns t wish columns → Rises node_cmp columns
book_columns_rise t wish columns a = places_rise a.all columns a.kept a.matrix.columns_are.rise a.named a.choice.rise

pub codebook_is_valid : (t : Topology) (wish : Wish) (c : Certificate) → IsCodebook t wish c → IsValid t c
codebook_is_valid t (Plain d) c is =
    let a = is.are_columns in
    let good = choice_is_good (length a.all) (codes_of a.groups) (need_of (length a.all) (codes_of a.groups) (Plain d)) a.kept a.choice in
    (canonical_book_is_valid t a.all a.groups is.columns a.kept d c a.matrix a.named (book_columns_rise t (Plain d) is.columns a) is.canonical).1 good
codebook_is_valid t (Cap cap) c is =
    let a = is.are_columns in
    let (radii, radii_are, canonical) = is.canonical in
    let good = choice_is_good (length a.all) (codes_of a.groups) (need_of (length a.all) (codes_of a.groups) (Cap cap)) a.kept a.choice in
    (canonical_capped_is_valid t a.all a.groups is.columns a.kept cap radii c a.matrix a.named (book_columns_rise t (Cap cap) is.columns a) canonical).1
    (good, radii_are)

-- ---- two groups that are too close

-- the code of the group at a place
code_is : (groups : List Group) (i : ℕ) (g : Group) → slice_get groups i ≡ Some g → code_at (codes_of groups) i ≡ g.code
code_is [] i g at = cc
code_is (h ∷ groups) zero g at = let same : h ≡ g = cc in ap (λ (x : Group). x.code) same
code_is (h ∷ groups) (suc i) g at = code_is groups i g at

-- what stands after the first item
beyond_first : (h : Group) (others : List Group) (k : ℕ) (g : Group) → 0 < k → slice_get (h ∷ others) k ≡ Some g → Contains others g
beyond_first h others zero g some at = absurd (omega arith)
beyond_first h others (suc k) g some at = contains_from_get others k g at

-- the name of a problem is among the names
member_name : (problems : List Problem) (p : Problem) → Contains problems p → Contains (map (λ (q : Problem). q.name) problems) p.name
member_name [] p has = absurd (nothing_in_empty p has)
member_name (q ∷ qs) p has =
    elim (contains_cases q qs p has) [
      | inl same ↦ subst (λ (r : Problem). Contains (q.name ∷ map (λ (x : Problem). x.name) qs) r.name) same (contains_head q.name (map (λ (x : Problem). x.name) qs))
      | inr later ↦ contains_tail q.name (map (λ (x : Problem). x.name) qs) p.name (member_name qs p later)
    ]

module _ (t : Topology) (columns : List NodeName) (groups : List Group) (matrix : IsMatrix t columns groups) where
  -- the problem that a group is called by, and its code
  pub record CalledBy (i : ℕ) (node : NodeName) : Type 0 where
    pub problem : IsProblem t node
    pub coded : IsCode t columns node (code_at (codes_of groups) i)

  pub group_at : (i : ℕ) (g : Group) → 0 < i → slice_get groups i ≡ Some g → IsGroup matrix.problems g
  group_at i g later at =
      let is = matrix.groups_are in
      is.each g (beyond_first (group_of matrix.problems (zeros (length columns))) is.others i g later
      (subst (λ (gs : List Group). slice_get gs i ≡ Some g) is.quiet at))

  pub called_by : (i : ℕ) (node : NodeName) → IsCalled groups i (Least node) → CalledBy i node
  called_by i node (later, g, at, first) =
      let is = group_at i g later at in
      let member = subst (λ (names : List NodeName). Contains names node) is.members (contains_from_get g.members 0 node first) in
      let (p, among, same, named) = problem_of_member g.code matrix.problems node member in
      let coded = matrix.problems_are in
      let has = member_name matrix.problems p among in
      let (k, low, e) = among in
      record {
        problem = subst (IsProblem t) named (coded.names.each p.name has);
        coded =
            let code = rw e at (coded.codes k p low) in
            subst (λ (n : NodeName). IsCode t columns n (code_at (codes_of groups) i)) named
            (subst (IsCode t columns p.name) (sym (code_is groups i g at ∙ same)) code);
      }

  side_problem : (i : ℕ) (name : GroupName) → IsCalled groups i name → IsSideProblem t (least_of name)
  side_problem i Quiet is = tt
  side_problem i (Least node) is = (called_by i node is).problem

  side_code : (i : ℕ) (name : GroupName) → IsCalled groups i name → IsCodeOfSide t columns (least_of name) (code_at (codes_of groups) i)
  side_code i Quiet is = rw (is, matrix.groups_are.quiet) refl
  side_code i (Least node) is = (called_by i node is).coded

pub shortfall_is_valid : (t : Topology) (wanted : ℕ) (first : GroupName) (second : NodeName) (distance : ℕ) (c : Certificate)
    → IsShortfall t wanted first second distance c → IsValid t c
shortfall_is_valid t wanted first second distance c is =
    let a = is.close in
    let m = a.matrix in
    let pair = a.pair in
    let by = called_by t a.columns a.groups m pair.second second a.second_is in
    let wide = coded_are_wide t a.columns m.problems m.problems_are in
    let one = one_is_good (length a.columns) m.problems a.groups wide m.groups_are pair.first pair.second a.is_first.is_pair in
    let far = a.is_first.distance in
    let close = a.is_first.close in
    let same = a.distance_is in
    (canonical_thin_is_valid t a.columns (least_of first) second (code_at (codes_of a.groups) pair.first) (code_at (codes_of a.groups) pair.second) wanted
    distance c m.columns_are (side_problem t a.columns a.groups m pair.first first a.first_is) by.problem
    (side_code t a.columns a.groups m pair.first first a.first_is) by.coded is.canonical).1
    (same ∙ far, record { some = omega arith; less = omega arith })
