-- From numbers to names, and what that makes of coded problems.
use Rattle.std.proofs.Common.{◌≡◌, ◌↔◌, ℕ, zero, suc, ◌+◌, ◌<◌, ◌≤◌, List, [], ◌∷◌, ◌++◌, Bool, false, Option, length, map, replicate, take, None, Some, slice_get, refl, sym, ap, subst, ◌∙◌, arith}
use Rattle.std.specs.List.{All, AllZip, Contains, slice_index_or}
use Rattle.std.proofs.lemmas.List.{length-map}
use Rattle.std.proofs.lemmas.Option.{slice_get-get_or}
use Rattle.cb_model.proofs.Numbers.{take_more, zip_push}
use Rattle.cb_model.specs.declared.node.NodeName.{NodeName}
use Rattle.cb_model.proofs.Rising.{contains_head, contains_tail}
use Rattle.cb_coding.specs.declared.group.Problem.{Problem}
use Rattle.cb_network.specs.Topology.{Topology}
use Rattle.cb_network.specs.Nodes.{IsColumn, IsProblem, IsSymptomNode, AreColumns, AreProblems}
use Rattle.cb_finding.specs.Matrix.{IsCode, AreCoded}
use Rattle.cb_network.specs.Sound.{Sound, problem_limit, symptom_limit}
use Rattle.cb_nodes.specs.declared.id.NodeId.{NodeId}
use Rattle.cb_successors.specs.Rows.{Has}
use Rattle.cb_successors.specs.Graphs.{LeadsTo}
use Rattle.cb_topo.specs.Numbered.{Numbered, topology_of, IsNodeNamed, IsLiveNode, AreNamed, IsWhole}
use Rattle.cb_graph.specs.Edges.{EdgeAt, number}
use Rattle.cb_graph.proofs.Chains.{named_once, lead_to_caused}
use Rattle.cb_cache.specs.Numbers.{IsProblemNumber}
use Rattle.cb_cache.proofs.Opened.{few_of_rising}
use Rattle.cb_cache.specs.declared.rows.Rows.{Rows}
use Rattle.cb_cache.specs.Rows.{HasReachedRow}
use Rattle.cb_cache.proofs.Owned.{one_row}
use Rattle.cb_matrix.specs.Codes.{IsCodeOf, bits}
use Rattle.cb_matrix.proofs.WordBits.{has_reached}
use Rattle.cb_matrix.specs.declared.coder.Coder.{Coder}
use Rattle.cb_matrix.specs.Coded.{IsCodeFrom, IsCodeOfLast, IsCodeOfRow, IsCoder, AreProblemsAt}

-- a set's code is a search's, where the set is what was found
pub code_from : (n : Numbered) (columns : List NodeId) (id : NodeId) (reached code : List Bool) → ((k : ℕ) → Has reached k ↔ LeadsTo (EdgeAt n) id.0 k)
    → IsCodeOf columns reached code → IsCodeFrom n columns id code
code_from n columns id reached code found coded = record {
  width = coded.width;
  each = λ place node is. (λ has. (found node).0 ((coded.each place node is).0 has), λ leads. (coded.each place node is).1 ((found node).1 leads));
}

-- the code of the row of all that a node leads to
pub code_of_reached : (n : Numbered) (rows : Rows) (columns : List NodeId) (id : NodeId) (code : List Bool) → HasReachedRow n rows id → IsCodeOfRow rows columns id code
    → IsCodeFrom n columns id code
code_of_reached n rows columns id code (words, row, reached) (others, is, coded) =
    let same = one_row rows id others words is row in
    code_from n columns id (bits words) code (has_reached n id.0 words reached) (subst (λ ws. IsCodeOf columns (bits ws) code) same coded)

-- no code is made yet
pub new_coder : (rows : Rows) (columns : List NodeId) (coder : Coder) → coder.none.items ≡ replicate rows.pool.width 0 → coder.last ≡ None
    → coder.code ≡ replicate (length columns) false → IsCoder rows columns coder
new_coder rows columns coder none last code = record {
  none = none;
  code = subst (λ (problem : Option NodeId). IsCodeOfLast rows columns problem coder.code) (sym last) code;
}

-- one more pair, at the place after the first ones
pub zip_more : {X Y : Type 0} (R : X → Y → Type 0) (xs : List X) (ys : List Y) (i : ℕ) (d : X) (y : Y) → i < length xs → AllZip R (take i xs) ys
    → R (slice_index_or xs i d) y → AllZip R (take (i + 1) xs) (ys ++ y ∷ [])
zip_more R xs ys i d y lt zip here =
    subst (λ prefix. AllZip R prefix (ys ++ y ∷ [])) (sym (take_more xs i (slice_index_or xs i d) (slice_get-get_or xs i d lt)))
    (zip_push R (take i xs) ys (slice_index_or xs i d) y zip here)

pub all_live : (n : Numbered) (ids : List NodeId) (names : List NodeName) → AreNamed n ids names → All (IsLiveNode n) ids
all_live n [] names zip k d lt = absurd (omega arith)
all_live n (a ∷ ids) [] zip k d lt = absurd zip
all_live n (a ∷ ids) (x ∷ names) zip zero d lt = (x, zip.0)
all_live n (a ∷ ids) (x ∷ names) zip (suc k) d lt = all_live n ids names zip.1 k d (omega arith)

-- names in one list are those in the other
pub names_are_one : (n : Numbered) (ids : List NodeId) (names others : List NodeName) → AreNamed n ids names → AreNamed n ids others → names ≡ others
names_are_one n [] [] [] zip zip' = refl
names_are_one n [] [] (y ∷ others) zip zip' = absurd zip'
names_are_one n [] (x ∷ names) others zip zip' = absurd zip
names_are_one n (a ∷ ids) [] others zip zip' = absurd zip
names_are_one n (a ∷ ids) (x ∷ names) [] zip zip' = absurd zip'
names_are_one n (a ∷ ids) (x ∷ names) (y ∷ others) zip zip' =
    ap (λ (z : NodeName). z ∷ names) (named_once n a x y zip.0 zip'.0) ∙ ap (λ zs. y ∷ zs) (names_are_one n ids names others zip.1 zip'.1)

-- the names of the problems
pub problem_names : (n : Numbered) (columns ids : List NodeId) (problems : List Problem) → AreProblemsAt n columns ids problems → AreNamed n ids (map (λ p. p.name) problems)
problem_names n columns [] [] zip = tt
problem_names n columns [] (p ∷ problems) zip = absurd zip
problem_names n columns (a ∷ ids) [] zip = absurd zip
problem_names n columns (a ∷ ids) (p ∷ problems) zip = (zip.0.named, problem_names n columns ids problems zip.1)

module _ (n : Numbered) (whole : IsWhole n) (id : NodeId) (name : NodeName) (named : IsNodeNamed n id name) where
  -- a code over numbers is one over names
  code_of_names : (ids : List NodeId) (names : List NodeName) (code : List Bool) → AreNamed n ids names → length code ≡ length ids
      → ((place node : ℕ) → slice_get ids place ≡ Some (number node) → Has code place ↔ LeadsTo (EdgeAt n) id.0 node)
      → IsCode (topology_of n) names name code
  code_of_names [] [] [] zip wide each = tt
  code_of_names [] [] (b ∷ code) zip wide each = absurd (omega arith)
  code_of_names [] (x ∷ names) code zip wide each = absurd zip
  code_of_names (a ∷ ids) [] code zip wide each = absurd zip
  code_of_names (a ∷ ids) (x ∷ names) [] zip wide each = absurd (omega arith)
  code_of_names (a ∷ ids) (x ∷ names) (b ∷ code) zip wide each =
      let here = each 0 a.0 refl in
      let leads = lead_to_caused n whole id.0 a.0 name x named zip.0 in (
        (λ is. leads.0 (here.0 is), λ causes. here.1 (leads.1 causes)),
        code_of_names ids names code zip.1 (omega arith) (λ place node is. each (suc place) node is),
      )

pub all_codes : (n : Numbered) → IsWhole n → (columns : List NodeId) (names : List NodeName) → AreNamed n columns names
    → (ids : List NodeId) (problems : List Problem) → AreProblemsAt n columns ids problems
    → All (λ (p : Problem). IsCode (topology_of n) names p.name p.code) problems
all_codes n whole columns names zip [] [] are k d lt = absurd (omega arith)
all_codes n whole columns names zip [] (p ∷ problems) are k d lt = absurd are
all_codes n whole columns names zip (a ∷ ids) [] are k d lt = absurd are
all_codes n whole columns names zip (a ∷ ids) (p ∷ problems) are zero d lt =
    code_of_names n whole a p.name are.0.named columns names p.code zip are.0.coded.width are.0.coded.each
all_codes n whole columns names zip (a ∷ ids) (p ∷ problems) are (suc k) d lt = all_codes n whole columns names zip ids problems are.1 k d (omega arith)

-- all columns and all problems are there, and they are within their limits
pub record AreAllCoded (t : Topology) (columns : List NodeName) (problems : List Problem) : Type 0 where
  pub columns_are : AreColumns t columns
  pub problems_are : AreCoded t columns problems
  pub few_columns : length columns ≤ symptom_limit
  pub few_problems : length problems ≤ problem_limit

module _ (n : Numbered) (whole : IsWhole n) (sound : Sound (topology_of n)) (columns ids : List NodeId) (coded : List Problem) (names problems : List NodeName)
    (are_columns : AreColumns (topology_of n) names) (named : AreNamed n columns names)
    (are_problems : AreProblems (topology_of n) problems) (problems_named : AreNamed n ids problems) (are_coded : AreProblemsAt n columns ids coded) where
  same_problems : problems ≡ map (λ p. p.name) coded
  same_problems = names_are_one n ids problems (map (λ p. p.name) coded) problems_named (problem_names n columns ids coded are_coded)

  pub all_coded : AreAllCoded (topology_of n) names coded
  all_coded =
      let problems_are = subst (AreProblems (topology_of n)) same_problems are_problems in
      let names_are : length (map (λ p. p.name) coded) ≡ length coded = length-map coded (λ (p : Problem). p.name) in
      record {
        columns_are = are_columns;
        problems_are = record { names = problems_are; codes = all_codes n whole columns names named ids coded are_coded };
        few_columns = few_of_rising (IsSymptomNode (topology_of n)) (IsColumn (topology_of n)) names symptom_limit are_columns.rise
            (λ q. (are_columns.each q, are_columns.all q)) (λ q column. column.symptom) sound.few_symptoms;
        few_problems = subst (λ k. k ≤ problem_limit) names_are
            (few_of_rising (IsProblem (topology_of n)) (IsProblem (topology_of n)) (map (λ p. p.name) coded) problem_limit problems_are.rise
            (λ q. (problems_are.each q, problems_are.all q)) (λ q problem. problem) sound.few_problems);
      }

-- the numbers of problems are numbers of problems
pub all_problem_numbers : (n : Numbered) (ids : List NodeId) (names : List NodeName) → AreNamed n ids names → ((q : NodeName) → Contains names q → IsProblem (topology_of n) q)
    → All (IsProblemNumber n) ids
all_problem_numbers n [] names zip are k d lt = absurd (omega arith)
all_problem_numbers n (a ∷ ids) [] zip are k d lt = absurd zip
all_problem_numbers n (a ∷ ids) (x ∷ names) zip are zero d lt = (x, zip.0, are x (contains_head x names))
all_problem_numbers n (a ∷ ids) (x ∷ names) zip are (suc k) d lt = all_problem_numbers n ids names zip.1 (λ q has. are q (contains_tail x names q has)) k d (omega arith)
