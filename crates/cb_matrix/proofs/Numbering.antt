-- The numbers of all problems, as they are listed.
use Rattle.std.proofs.Common.{List, Some, slice_index_or, sym, ap, subst, ◌∙◌, arith}
use Rattle.std.specs.List.{Contains}
use Rattle.std.proofs.lemmas.Option.{slice_get-get_or}
use Rattle.cb_model.specs.declared.node.NodeName.{NodeName}
use Rattle.cb_network.specs.Nodes.{IsProblem, AreProblems}
use Rattle.cb_network.specs.Sound.{Sound, problem_limit}
use Rattle.cb_nodes.specs.declared.id.NodeId.{NodeId}
use Rattle.cb_topo.specs.Numbered.{Numbered, topology_of, AreNamed, IsWhole}
use Rattle.cb_topo.proofs.Positions.{distinct_of_rising}
use Rattle.cb_cache.specs.Numbers.{AreProblemNumbers}
use Rattle.cb_cache.proofs.Opened.{name_of, number_of, few_of_rising, length_named}

module _ (n : Numbered) (whole : IsWhole n) (sound : Sound (topology_of n)) (ids : List NodeId) (names : List NodeName) (named : AreNamed n ids names)
    (are : AreProblems (topology_of n) names) where
  pub problems_numbered : AreProblemNumbers n ids
  problems_numbered = record {
    once = λ i j d lt low same.
        let x = slice_index_or ids i d in
        let first = slice_get-get_or ids i d (omega arith) in
        let second = slice_get-get_or ids j d low ∙ ap Some (sym same) in
        absurd (let one = distinct_of_rising n ids names are.rise named i j x first second in omega arith);
    each = λ id. (
      λ has. let (name, among, is) = name_of n ids names named id has in (name, is, are.each name among),
      λ (name, is, problem).
          let (other, among, its) = number_of n ids names named name (are.all name problem) in
          subst (Contains ids) (whole.one other id name its is) among,
    );
    few = (
        let few = few_of_rising (IsProblem (topology_of n)) (IsProblem (topology_of n)) names problem_limit are.rise (λ q. (are.each q, are.all q)) (λ q problem. problem) sound.few_problems in
        let long = length_named n ids names named in
        omega arith);
  }
