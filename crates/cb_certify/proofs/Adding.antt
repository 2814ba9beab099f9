-- Problems that are added one by one: the codes of their groups, and the least members of these.
use Rattle.std.proofs.Common.{◌≡◌, ℕ, suc, ◌+◌, ◌≤◌, List, [], ◌∷◌, ◌++◌, Bool, length, take, slice_get, slice_set, Some, refl, sym, ap, subst, ◌∙◌, inl, inr, arith}
use Rattle.std.proofs.lemmas.Bool.{cases_eq}
use Rattle.std.proofs.lemmas.List.{length-map, length-set, length_push, length-take-le, map-append, take_all}
use Rattle.std.proofs.lemmas.Option.{slice_get_within}
use Rattle.cb_model.proofs.Numbers.{take_more, zip_push, slice_get-push_before, slice_get-push_last, slice_get-set_same, slice_get-set_other}
use Rattle.cb_model.proofs.Spread.{map_at, map_there}
use Rattle.cb_coding.specs.declared.group.Problem.{Problem}
use Rattle.cb_coding.specs.declared.group.Group.{Group}
use Rattle.cb_coding.specs.Groups.{AreCodedProblems, AreGroups, codes_of, zeros}
use Rattle.cb_coding.proofs.Pushed.{pushed_cases, map_set_same}
use Rattle.cb_codes.specs.declared.each_once.EachOnce.{EachOnce}
use Rattle.cb_codes.specs.EachOnce.{HaveMarks, IsCodeThere, GoesLast, FindsPlace}
use Rattle.cb_codes.specs.Grouped.{group, AddsProblem}
use Rattle.cb_codes.proofs.Grouped.{AreGrouped, quiet_grouped, one_more_grouped, all_grouped}
use Rattle.cb_matrix.specs.Coded.{IsProblemAt, AreProblemsAt}
use Rattle.cb_matrix.proofs.Held.{length_zip}
use Rattle.cb_nodes.specs.declared.id.NodeId.{NodeId}
use Rattle.cb_topo.specs.Numbered.{Numbered}
use Rattle.cb_certify.specs.Groups.{IsLeastOf, AreLeast, TakesLeast}

-- the codes and the least members of the groups that the problems of the first numbers are in, whatever problems come after them
pub record AreAdded (n : Numbered) (columns ids : List NodeId) (i : ℕ) (codes : List (List Bool)) (least : List NodeId) : Type 0 where
  pub problems : List Problem
  pub coded : AreProblemsAt n columns (take i ids) problems
  pub groups : List Group
  pub grouped : (all : List Problem) → AreCodedProblems (length columns) all → take i all ≡ problems → AreGrouped (length columns) all i groups
  pub rows : codes ≡ codes_of groups
  pub least_are : AreLeast n groups least

abbrev code : Group → List Bool
code g = g.code

-- a prefix that ends with an item
prefix : {X : Type 0} (all xs : List X) (x : X) → take (suc (length xs)) all ≡ xs ++ x ∷ [] → (take (length xs) all ≡ xs) × (slice_get all (length xs) ≡ Some x)
prefix [] [] x e = absurd (cc e)
prefix (a ∷ all) [] x e = (refl, cc e)
prefix [] (y ∷ xs) x e = absurd (cc e)
prefix (a ∷ all) (y ∷ xs) x e =
    let head : a ≡ y = cc e in
    let tail : take (suc (length xs)) all ≡ xs ++ x ∷ [] = cc e in
    let rest = prefix all xs x tail in
    (ap (λ zs. a ∷ zs) rest.0 ∙ ap (λ z. z ∷ xs) head, rest.1)

module _ (n : Numbered) (columns ids : List NodeId) where
  none_least : (width : ℕ) → AreLeast n (group (zeros width) [] ∷ []) []
  none_least width = record { count = omega arith; each = λ k g at. absurd (let low = slice_get_within (group (zeros width) [] ∷ []) (k + 1) g at in omega arith) }

  pub none_added : (codes : List (List Bool)) → codes ≡ zeros (length columns) ∷ [] → AreAdded n columns ids 0 codes []
  none_added codes quiet = record {
    problems = [];
    coded = tt;
    groups = group (zeros (length columns)) [] ∷ [];
    grouped = λ all are same. quiet_grouped (length columns) all;
    rows = quiet;
    least_are = none_least (length columns);
  }

  -- what one problem makes of the groups
  record Adds (id : NodeId) (p : Problem) (codes' : List (List Bool)) (least' : List NodeId) (groups : List Group) : Type 0 where
    new : List Group
    adds : AddsProblem p groups new
    rows' : codes' ≡ codes_of new
    least_now : AreLeast n new least'

  module _ (id : NodeId) (p : Problem) (is : IsProblemAt n columns id p) (codes codes' : List (List Bool)) (least least' : List NodeId) (place : ℕ)
      (takes : TakesLeast place id least least') (groups : List Group) (rows : codes ≡ codes_of groups) (are : AreLeast n groups least) where
    size : length codes ≡ length groups
    size = ap length rows ∙ length-map groups code

    -- where its code is there
    joins_one : IsCodeThere p.code codes codes' place → Adds id p codes' least' groups
    joins_one there =
        let (joined, at, same) = map_at code groups place p.code (subst (λ cs. slice_get cs place ≡ Some p.code) rows there.at) in
        let within = slice_get_within groups place joined at in
        let member : Group = group joined.code (joined.members ++ p.name ∷ []) in
        let count = are.count in
        let kept : least' ≡ least = takes.joins (omega arith) in
        let long = length-set groups place member in
        record {
          new = slice_set groups place member;
          adds = inl (record { place = place; joined = joined; at = at; same = same; new_is = refl });
          rows' = there.same ∙ rows ∙ sym (map_set_same code groups place joined member at refl);
          least_now = subst (AreLeast n (slice_set groups place member)) (sym kept) (record {
            count = omega arith;
            each = λ k g at_g. elim (cases_eq place (k + 1)) [
              | inl here ↦
                  let is_g : member ≡ g = slice_get-set_same groups place member g (subst (λ j. slice_get (slice_set groups place member) j ≡ Some g) (sym here) at_g) in
                  let (first, stands, leads) = are.each k joined (subst (λ j. slice_get groups j ≡ Some joined) here at) in
                  let still : IsLeastOf n member first = record { node = leads.node; named = leads.named; first = slice_get-push_before joined.members 0 p.name leads.node leads.first } in
                  (first, stands, subst (λ (h : Group). IsLeastOf n h first) is_g still)
              | inr other ↦ are.each k g (sym (slice_get-set_other groups place (k + 1) member other) ∙ at_g)
            ];
          });
        }

    -- where it is new
    opens_one : GoesLast p.code codes codes' place → Adds id p codes' least' groups
    opens_one last =
        let opened : Group = group p.code (p.name ∷ []) in
        let count = are.count in
        let at_end = last.last in
        let more : least' ≡ least ++ id ∷ [] = takes.opens (let s = size in omega arith) in
        let long = length_push groups opened in
        let longer = length_push least id in
        record {
          new = groups ++ opened ∷ [];
          adds = inr (record { none = λ k g at same. last.none k (subst (λ cs. slice_get cs k ≡ Some p.code) (sym rows) (code_there k g at same)); new_is = refl });
          rows' = last.new_is ∙ ap (λ cs. cs ++ p.code ∷ []) rows ∙ sym (map-append code groups (opened ∷ []));
          least_now = subst (AreLeast n (groups ++ opened ∷ [])) (sym more) (record {
            count = omega arith;
            each = λ k g at_g. elim (pushed_cases groups opened g (k + 1) at_g) [
              | inl old ↦ let (first, stands, leads) = are.each k g old in (first, slice_get-push_before least k id first stands, leads)
              | inr (on, is_g) ↦
                  let mine : IsLeastOf n opened id = record { node = p.name; named = is.named; first = refl } in
                  (id, slice_get-push_last least k id (omega arith), subst (λ (h : Group). IsLeastOf n h id) is_g mine)
            ];
          });
        }
      where
        code_there : (k : ℕ) (g : Group) → slice_get groups k ≡ Some g → g.code ≡ p.code → slice_get (codes_of groups) k ≡ Some p.code
        code_there k g at same = map_there code groups k g at ∙ ap Some same

    one_added : FindsPlace p.code codes codes' place → Adds id p codes' least' groups
    one_added (inl there) = joins_one there
    one_added (inr last) = opens_one last

  pub one_more_added : (i : ℕ) (id : NodeId) (p : Problem) (codes codes' : List (List Bool)) (least least' : List NodeId) (place : ℕ) → slice_get ids i ≡ Some id
      → IsProblemAt n columns id p → FindsPlace p.code codes codes' place → TakesLeast place id least least' → AreAdded n columns ids i codes least
      → AreAdded n columns ids (i + 1) codes' least'
  one_more_added i id p codes codes' least least' place at is finds takes added =
      let within = slice_get_within ids i id at in
      let size : length added.problems ≡ i =
      sym (length_zip (IsProblemAt n columns) (take i ids) added.problems added.coded) ∙ length-take-le i ids (omega arith)
      in
      let one = one_added id p is codes codes' least least' place takes added.groups added.rows added.least_are finds in
      record {
        problems = added.problems ++ p ∷ [];
        coded = subst (λ prefix. AreProblemsAt n columns prefix (added.problems ++ p ∷ [])) (sym (take_more ids i id at))
            (zip_push (IsProblemAt n columns) (take i ids) added.problems id p added.coded is);
        groups = one.new;
        grouped = λ all are same.
            let next : suc (length added.problems) ≡ i + 1 = omega arith in
            let parts = prefix all added.problems p (ap (λ k. take k all) next ∙ same) in
            one_more_grouped (length columns) all are i p (subst (λ k. slice_get all k ≡ Some p) size parts.1) added.groups one.new
            (added.grouped all are (subst (λ k. take k all ≡ added.problems) size parts.0)) one.adds;
        rows = one.rows';
        least_are = one.least_now;
      }

-- the same, of codes that are looked up by their marks
pub record AreHeldSo (n : Numbered) (columns ids : List NodeId) (i : ℕ) (codes : EachOnce) (least : List NodeId) : Type 0 where
  pub added : AreAdded n columns ids i codes.codes.rows least
  pub wide : codes.codes.width ≡ length columns
  pub marks : HaveMarks codes.codes.rows codes.firsts

module _ (n : Numbered) (columns ids : List NodeId) (i : ℕ) (codes : List (List Bool)) (least : List NodeId) (end : i ≡ length ids) (added : AreAdded n columns ids i codes least) where
  whole : take i ids ≡ ids
  whole = take_all i ids (omega arith)

  -- all problems, each with its number
  pub all_coded_are : AreProblemsAt n columns ids added.problems
  all_coded_are = subst (λ prefix. AreProblemsAt n columns prefix added.problems) whole added.coded

  module _ (are : AreCodedProblems (length columns) added.problems) where
    grouped_are : AreGrouped (length columns) added.problems i added.groups
    grouped_are =
        let count = length_zip (IsProblemAt n columns) ids added.problems all_coded_are in
        added.grouped added.problems are (take_all i added.problems (omega arith))

    pub all_groups_are : AreGroups (length columns) added.problems added.groups
    all_groups_are =
        let count = length_zip (IsProblemAt n columns) ids added.problems all_coded_are in
        all_grouped (length columns) added.problems i (omega arith) added.groups grouped_are

    pub groups_few : length added.groups ≤ length added.problems + 1
    groups_few = let count = length_zip (IsProblemAt n columns) ids added.problems all_coded_are in let few = grouped_are.few in omega arith
