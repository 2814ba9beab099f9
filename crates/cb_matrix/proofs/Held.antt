-- Problems that are added one by one, and the groups that they are in.
use Rattle.std.proofs.Common.{◌≡◌, ℕ, zero, suc, ◌+◌, ◌<◌, List, [], ◌∷◌, ◌++◌, Bool, length, map, take, slice_get, slice_index_or, Some, refl, sym, ap, subst, ◌∙◌, append-nil, arith}
use Rattle.std.specs.List.{All, AllZip}
use Rattle.std.proofs.lemmas.List.{take_all, length_push, length-map, append_assoc}
use Rattle.std.proofs.lemmas.Option.{slice_get_within, slice_get-get_or}
use Rattle.cb_model.proofs.Numbers.{take_more}
use Rattle.cb_coding.specs.declared.group.Problem.{Problem}
use Rattle.cb_coding.specs.Groups.{AreCodedProblems, AreGroups, zeros}
use Rattle.cb_nodes.specs.declared.id.NodeId.{NodeId}
use Rattle.cb_finding.proofs.Nearest.{coded_are_wide}
use Rattle.cb_model.specs.declared.node.NodeName.{NodeName}
use Rattle.cb_topo.specs.Numbered.{Numbered, topology_of, IsNodeNamed, AreNamed}
use Rattle.cb_codes.specs.declared.grouping.Grouping.{Grouping}
use Rattle.cb_codes.specs.Grouped.{group, FitsTogether, HoldsProblems, groups_in}
use Rattle.cb_matrix.specs.Coded.{AddsOne, AddsProblems, AddsCodedProblems, IsProblemAt, AreProblemsAt, AreGroupedAt}
use Rattle.cb_matrix.specs.declared.problems.GroupedProblems.{GroupedProblems}
use Rattle.cb_matrix.specs.Problems.{AreAllGrouped}
use Rattle.cb_matrix.specs.Matrix.{IsMatrixOf}
use Rattle.cb_matrix.specs.Parts.{codes_at, HaveCodePlaces}
use Rattle.cb_matrix.proofs.Rows.{codes_of_problems}
use Rattle.cb_matrix.proofs.Matched.{AreAllCoded, problem_names}
use Rattle.cb_codes.proofs.Grouped.{AreGrouped, quiet_grouped, one_more_grouped, all_grouped}

pub length_zip : {X Y : Type 0} (R : X → Y → Type 0) (xs : List X) (ys : List Y) → AllZip R xs ys → length xs ≡ length ys
length_zip R [] [] zip = refl
length_zip R [] (y ∷ ys) zip = absurd zip
length_zip R (x ∷ xs) [] zip = absurd zip
length_zip R (x ∷ xs) (y ∷ ys) zip = ap suc (length_zip R xs ys zip.1)

-- a prefix that ends with an item
prefix : {X : Type 0} (all xs : List X) (x : X) → take (suc (length xs)) all ≡ xs ++ x ∷ [] → (take (length xs) all ≡ xs) × (slice_get all (length xs) ≡ Some x)
prefix [] [] x e = absurd (cc e)
prefix (a ∷ all) [] x e = (refl, cc e)
prefix [] (y ∷ xs) x e = absurd (cc e)
prefix (a ∷ all) (y ∷ xs) x e =
    let head : a ≡ y = cc e in
    let tail : take (suc (length xs)) all ≡ xs ++ x ∷ [] = cc e in
    let rest = prefix all xs x tail in
    (ap (λ zs. a ∷ zs) rest.0 ∙ ap (λ z. z ∷ xs) head, rest.1)

-- these problems, and their groups, whatever problems come after them
pub record AreHeld (width : ℕ) (problems : List Problem) (grouping : Grouping) : Type 0 where
  pub holds : HoldsProblems problems grouping
  pub groups : (all : List Problem) → AreCodedProblems width all → take (length problems) all ≡ problems → AreGrouped width all (length problems) (groups_in grouping)

module _ (width : ℕ) where
  pub none_held : (grouping : Grouping) → groups_in grouping ≡ group (zeros width) [] ∷ [] → HoldsProblems [] grouping → AreHeld width [] grouping
  none_held grouping quiet none = record {
    holds = none;
    groups = λ all are same. subst (AreGrouped width all 0) (sym quiet) (quiet_grouped width all);
  }

  one_more_held : (before : List Problem) (p : Problem) (old new : Grouping) → AddsOne p old new → AreHeld width before old → AreHeld width (before ++ p ∷ []) new
  one_more_held before p old new adds held =
      let long : length (before ++ p ∷ []) ≡ length before + 1 = length_push before p in
      let next : suc (length before) ≡ length (before ++ p ∷ []) = omega arith in
      record {
        holds = adds.holds before held.holds;
        groups = λ all are same.
            let parts = prefix all before p (ap (λ k. take k all) next ∙ same) in
            subst (λ k. AreGrouped width all k (groups_in new)) (sym long)
            (one_more_grouped width all are (length before) p parts.1 (groups_in old) (groups_in new) (held.groups all are parts.0) adds.added);
      }

  more_held : (before problems : List Problem) (old new : Grouping) → AddsProblems problems old new → AreHeld width before old → AreHeld width (before ++ problems) new
  more_held before [] old new same held = subst (AreHeld width (before ++ [])) same (subst (λ ps. AreHeld width ps old) (sym (append-nil before)) held)
  more_held before (p ∷ problems) old new (next, adds, rest) held =
      subst (λ ps. AreHeld width ps new) (append_assoc before (p ∷ []) problems)
      (more_held (before ++ p ∷ []) problems next new rest (one_more_held before p old next adds held))

  -- each fits beside the others
  pub fits_together : (problems : List Problem) (old new : Grouping) → All (λ (p : Problem). length p.code ≡ width) problems → AddsProblems problems old new
      → FitsTogether width old → FitsTogether width new
  fits_together [] old new wide same sound = subst (FitsTogether width) same sound
  fits_together (p ∷ problems) old new wide (next, adds, rest) sound =
      fits_together problems next new (λ k d lt. wide (suc k) d (omega arith)) rest (subst (λ w. FitsTogether w next) (wide 0 p (omega arith)) adds.sound)

-- one after the other
module _ (n : Numbered) (columns : List NodeId) where
  pub none_added : (grouping : Grouping) → AddsCodedProblems n columns [] grouping grouping
  none_added grouping = record { problems = []; coded = tt; adds = refl }

  both_added : (first second : List Problem) (old mid new : Grouping) → AddsProblems first old mid → AddsProblems second mid new → AddsProblems (first ++ second) old new
  both_added [] second old mid new same rest = subst (λ g. AddsProblems second g new) (sym same) rest
  both_added (p ∷ first) second old mid new (next, adds, more) rest = (next, adds, both_added first second next mid new more rest)

  zip_both : (ids others : List NodeId) (ps qs : List Problem) → AreProblemsAt n columns ids ps → AreProblemsAt n columns others qs → AreProblemsAt n columns (ids ++ others) (ps ++ qs)
  zip_both [] others [] qs zip zip' = zip'
  zip_both [] others (p ∷ ps) qs zip zip' = absurd zip
  zip_both (a ∷ ids) others [] qs zip zip' = absurd zip
  zip_both (a ∷ ids) others (p ∷ ps) qs zip zip' = (zip.0, zip_both ids others ps qs zip.1 zip')

  pub added_both : (ids others : List NodeId) (old mid new : Grouping) → AddsCodedProblems n columns ids old mid → AddsCodedProblems n columns others mid new
      → AddsCodedProblems n columns (ids ++ others) old new
  added_both ids others old mid new one other = record {
    problems = one.problems ++ other.problems;
    coded = zip_both ids others one.problems other.problems one.coded other.coded;
    adds = both_added one.problems other.problems old mid new one.adds other.adds;
  }

  pub one_added : (ids : List NodeId) (i : ℕ) (d : NodeId) (p : Problem) (old mid new : Grouping) → i < length ids → IsProblemAt n columns (slice_index_or ids i d) p → AddsOne p mid new
      → AddsCodedProblems n columns (take i ids) old mid → AddsCodedProblems n columns (take (i + 1) ids) old new
  one_added ids i d p old mid new low is adds before =
      let id = slice_index_or ids i d in
      subst (λ xs. AddsCodedProblems n columns xs old new) (sym (take_more ids i id (slice_get-get_or ids i d low)))
      (added_both (take i ids) (id ∷ []) old mid new before (record { problems = p ∷ []; coded = (is, tt); adds = (new, adds, refl) }))

  wide_problems : (ids : List NodeId) (problems : List Problem) → AreProblemsAt n columns ids problems → All (λ (p : Problem). length p.code ≡ length columns) problems
  wide_problems [] [] zip k d lt = absurd (omega arith)
  wide_problems [] (p ∷ problems) zip k d lt = absurd zip
  wide_problems (a ∷ ids) [] zip k d lt = absurd zip
  wide_problems (a ∷ ids) (p ∷ problems) zip zero d lt = zip.0.coded.width
  wide_problems (a ∷ ids) (p ∷ problems) zip (suc k) d lt = wide_problems ids problems zip.1 k d (omega arith)

  pub added_fit : (ids : List NodeId) (old new : Grouping) → AddsCodedProblems n columns ids old new → FitsTogether (length columns) old → FitsTogether (length columns) new
  added_fit ids old new added sound = fits_together (length columns) added.problems old new (wide_problems ids added.problems added.coded) added.adds sound

  -- added to quiet alone they are all in their groups
  pub all_added : (ids : List NodeId) (quiet grouping : Grouping) → FitsTogether (length columns) quiet → groups_in quiet ≡ group (zeros (length columns)) [] ∷ [] → HoldsProblems [] quiet
      → AddsCodedProblems n columns ids quiet grouping → AreGroupedAt n columns ids grouping
  all_added ids quiet grouping sound alone none added =
      let width = length columns in
      let problems = added.problems in
      let held = more_held width [] problems quiet grouping added.adds (none_held width quiet alone none) in
      let same : take (length problems) problems ≡ problems = take_all (length problems) problems (omega arith) in
      record {
        problems = problems;
        coded = added.coded;
        holds = held.holds;
        sound = added_fit ids quiet grouping added sound;
        groups = λ are. all_grouped width problems (length problems) (omega arith) (groups_in grouping) (held.groups problems are same);
        few = λ are. (let few = (held.groups problems are same).few in omega arith);
      }

-- the problems of these numbers in their groups, by the codes over the columns of these names
pub all_in_groups : (n : Numbered) (columns ids : List NodeId) (names : List NodeName) (grouping : Grouping) (grouped : AreGroupedAt n columns ids grouping)
    → AreNamed n columns names → AreAllCoded (topology_of n) names grouped.problems → AreAllGrouped n columns (record { problems = ids; grouping = grouping })
all_in_groups n columns ids names grouping grouped named coded =
    let size = length_zip (IsNodeNamed n) columns names named in
    let problems = grouped.problems in
    let are : AreCodedProblems (length columns) problems =
    subst (λ width. AreCodedProblems width problems) (sym size) (coded_are_wide (topology_of n) names problems coded.problems_are) in
    record {
      columns = names;
      columns_named = named;
      columns_are = coded.columns_are;
      problems = problems;
      problems_named = problem_names n columns ids problems grouped.coded;
      problems_are = coded.problems_are;
      groups_are = subst (λ width. AreGroups width problems (groups_in grouping)) size (grouped.groups are);
      holds = grouped.holds;
      sound = grouped.sound;
      few_columns = (let few = coded.few_columns in omega (arith, few, size));
      few_problems = coded.few_problems;
      few_groups = grouped.few are;
    }

places_within : (codes : List (List Bool)) (places : List ℕ) (problems : List Problem) → AllZip (λ place (p : Problem). slice_get codes place ≡ Some p.code) places problems
    → All (λ place. place < length codes) places
places_within codes [] problems zip k d lt = absurd (omega arith)
places_within codes (place ∷ places) [] zip k d lt = absurd zip
places_within codes (place ∷ places) (p ∷ problems) zip zero d lt = slice_get_within codes place p.code zip.0
places_within codes (place ∷ places) (p ∷ problems) zip (suc k) d lt = places_within codes places problems zip.1 k d (omega arith)

-- what is grouped has the position of a code for each problem, and makes the topology's matrix
module _ (n : Numbered) (columns : List NodeId) (made : GroupedProblems) (all : AreAllGrouped n columns made) where
  abbrev codes : List (List Bool)
  codes = made.grouping.codes.codes.rows

  pub have_places : HaveCodePlaces made.problems made.grouping
  have_places =
      let size = length_zip (λ place (p : Problem). slice_get codes place ≡ Some p.code) made.grouping.places all.problems all.holds in
      let names = length_zip (IsNodeNamed n) made.problems (map (λ p. p.name) all.problems) all.problems_named ∙ length-map all.problems (λ (p : Problem). p.name) in
      record { all = size ∙ sym names; within = places_within codes made.grouping.places all.problems all.holds }

  pub is_matrix_of : IsMatrixOf n (record { columns = columns; problems = made.problems; codes = codes_at codes made.grouping.places; groups = groups_in made.grouping })
  is_matrix_of = record {
    columns = all.columns;
    columns_named = all.columns_named;
    is = record { problems = all.problems; columns_are = all.columns_are; problems_are = all.problems_are; groups_are = all.groups_are };
    problems_named = all.problems_named;
    codes_are = codes_of_problems codes made.grouping.places all.problems all.holds;
  }
