-- Numbers of problems that are gathered as the numbers rise, and how many they are.
use Rattle.std.proofs.Common.{◌≡◌, ◌≢◌, ◌↔◌, ℕ, suc, ◌+◌, ◌<◌, ◌≤◌, List, [], ◌∷◌, ◌++◌, length, slice_index_or, false, sym, ap, subst, ◌∙◌, inl, inr, arith}
use Rattle.std.specs.FinSet as set
use Rattle.std.specs.List.{Contains}
use Rattle.std.specs.List.Sorted.{IsPermutation}
use Rattle.std.proofs.lemmas.Bool.{cases_Bool, cases_order}
use Rattle.std.proofs.lemmas.List.{length_push}
use Rattle.std.proofs.lemmas.List.Elements.{Contains-get_or, Contains-append_left, Contains-push, Contains-push_cases}
use Rattle.std.proofs.lemmas.List.Quantifiers.{all_pairs_push}
use Rattle.std.proofs.lemmas.List.Sorted.{IsPermutation-sym, Contains-permutation, length_permutation}
use Rattle.cb_model.proofs.Rising.{contains_cases, contains_head, contains_tail, nothing_in_empty, node_cmp_total, node_cmp_exact}
use Rattle.cb_model.specs.declared.node.NodeName.{NodeName}
use Rattle.cb_model.specs.NodeOrder.{node_cmp}
use Rattle.cb_network.specs.Nodes.{IsProblem, IsCount}
use Rattle.cb_network.specs.Sound.{Sound, problem_limit}
use Rattle.cb_network.proofs.Counts.{same_count}
use Rattle.cb_network.proofs.Sets.{in_insert, len_of_part}
use Rattle.cb_nodes.specs.declared.id.NodeId.{NodeId}
use Rattle.cb_topo.specs.Numbered.{Numbered, topology_of, IsNodeNamed, IsLiveNode, IsWhole}
use Rattle.cb_graph.proofs.Chains.{named_once}
use Rattle.cb_cache.specs.Most.{HasAtMost}
use Rattle.cb_cache.specs.Numbers.{IsProblemNumber, AreOnce, AreProblemNumbers}
use Rattle.cb_cache.proofs.Opened.{node_of_problem}
use Rattle.cb_cache.proofs.Permuted.{once_permuted}

-- these are the numbers of problems below k, each once
pub record AreBelow (n : Numbered) (k : ℕ) (ids : List NodeId) : Type 0 where
  pub once : AreOnce ids
  pub each : (id : NodeId) → Contains ids id ↔ (IsProblemNumber n id × (id.0 < k))
  pub few : length ids ≤ k

same_number : (i j : NodeId) → i.0 ≡ j.0 → i ≡ j
same_number i j e = λ k. record { 0 = e k }

pub below_none : (n : Numbered) → AreBelow n 0 []
below_none n = record {
  once = λ i j d lt within. absurd (omega arith);
  each = λ id. (λ has. absurd (nothing_in_empty id has), λ (problem, lt). absurd (omega arith));
  few = omega arith;
}

module _ (n : Numbered) (k : ℕ) (ids : List NodeId) (below : AreBelow n k ids) (id : NodeId) (here : id.0 ≡ k) where
  pub below_past : ¬ IsProblemNumber n id → AreBelow n (k + 1) ids
  below_past none = record {
    once = below.once;
    each = λ other. (
      λ has. let was = (below.each other).0 has in (was.0, (let lt = was.1 in omega arith)),
      λ (problem, lt). elim (cases_order other.0 k) [
        | inl same ↦ absurd (none (subst (IsProblemNumber n) (same_number other id (same ∙ sym here)) problem))
        | inr (inl early) ↦ (below.each other).1 (problem, early)
        | inr (inr late) ↦ absurd (omega arith)
      ],
    );
    few = (let few = below.few in omega arith);
  }

  pub once_more : AreOnce (ids ++ id ∷ [])
  once_more = all_pairs_push (λ a b. a ≢ b) ids id below.once (λ i d lt same.
      let early = ((below.each (slice_index_or ids i d)).0 (Contains-get_or ids i d lt)).1 in
      let number = ap (λ (j : NodeId). j.0) same in
      omega arith)

  pub below_more : IsProblemNumber n id → AreBelow n (k + 1) (ids ++ id ∷ [])
  below_more problem = record {
    once = once_more;
    each = λ other. (
      λ has. elim (Contains-push_cases ids id other has) [
        | inl old ↦ let was = (below.each other).0 old in (was.0, (let lt = was.1 in omega arith))
        | inr same ↦ (subst (IsProblemNumber n) same problem, (let number = ap (λ (j : NodeId). j.0) same in omega arith))
      ],
      λ (is, lt). elim (cases_order other.0 k) [
        | inl same ↦ subst (Contains (ids ++ id ∷ [])) (same_number id other (here ∙ sym same)) (Contains-push ids id)
        | inr (inl early) ↦ Contains-append_left ids (id ∷ []) other ((below.each other).1 (is, early))
        | inr (inr late) ↦ absurd (omega arith)
      ],
    );
    few = (let few = below.few in let long = length_push ids id in omega arith);
  }

-- some of the numbers is that of this name
abbrev IsNamedIn : Numbered → List NodeId → NodeName → Type 0
IsNamedIn n ids name = (id : NodeId) × Contains ids id × IsNodeNamed n id name

once_head : (x : NodeId) (xs : List NodeId) → AreOnce (x ∷ xs) → (y : NodeId) → Contains xs y → x ≢ y
once_head x xs once y (k, lt, is) = subst (λ z. x ≢ z) is (once 0 (suc k) y (omega arith) (omega arith))

once_tail : (x : NodeId) (xs : List NodeId) → AreOnce (x ∷ xs) → AreOnce xs
once_tail x xs once = λ i j d lt within. once (suc i) (suc j) d (omega arith) (omega arith)

module _ (n : Numbered) (whole : IsWhole n) where
  -- as many numbers as names
  pub count_of_once : (ids : List NodeId) → AreOnce ids → ((id : NodeId) → Contains ids id → IsLiveNode n id) → IsCount (IsNamedIn n ids) (length ids)
  count_of_once [] once live = record {
    nodes = set.empty;
    members = λ q. (λ h. let e = set.contains-empty node_cmp q in absurd (cc), λ (id, has, named). absurd (nothing_in_empty id has));
    len = set.len-empty node_cmp;
  }
  count_of_once (a ∷ ids) once live =
      let rest = count_of_once ids (once_tail a ids once) (λ id has. live id (contains_tail a ids id has)) in
      let (name, named) = live a (contains_head a ids) in
      let within = in_insert node_cmp_total node_cmp_exact rest.nodes name in
      let fresh : set.contains rest.nodes name ≡ false = elim (cases_Bool (set.contains rest.nodes name)) [
        | inl has ↦
            let (id, among, its) = (rest.members name).0 has in
            absurd (once_head a ids once id among (whole.one a id name named its))
        | inr off ↦ off
      ] in
      let more : set.len (set.insert rest.nodes name) ≡ set.len rest.nodes + 1 = rw fresh at (set.len-insert node_cmp_total rest.nodes name) in
      let len = rest.len in
      record {
        nodes = set.insert rest.nodes name;
        members = λ q. (
          λ h. elim ((within q).0 h) [
            | inl e ↦ (a, contains_head a ids, subst (IsNodeNamed n a) (sym e) named)
            | inr old ↦ let (id, among, its) = (rest.members q).0 old in (id, contains_tail a ids id among, its)
          ],
          λ (id, has, its). elim (contains_cases a ids id has) [
            | inl same ↦ (within q).1 (inl (named_once n a q name (subst (λ (i : NodeId). IsNodeNamed n i q) (sym same) its) named))
            | inr late ↦ (within q).1 (inr ((rest.members q).1 (id, late, its)))
          ],
        );
        len = omega arith;
      }

  live_of_problem : (id : NodeId) → IsProblemNumber n id → IsLiveNode n id
  live_of_problem id (name, named, problem) = (name, named)

  named_problem : (id : NodeId) (name : NodeName) → IsProblemNumber n id → IsNodeNamed n id name → IsProblem (topology_of n) name
  named_problem id name (own, is, problem) named = subst (IsProblem (topology_of n)) (named_once n id own name is named) problem

  -- numbers of problems are no more than there are problems
  pub once_within : (ids : List NodeId) (most : ℕ) → AreOnce ids → ((id : NodeId) → Contains ids id → IsProblemNumber n id) → Sound (topology_of n)
      → HasAtMost (topology_of n) most → length ids ≤ most
  once_within ids most once each sound bound =
      let all = sound.few_problems.1 in
      let count = count_of_once ids once (λ id has. live_of_problem id (each id has)) in
      let less = len_of_part node_cmp_total node_cmp_exact count.nodes all.nodes (λ q h.
      let (id, has, named) = (count.members q).0 h in
      (all.members q).1 (named_problem id q (each id has) named)) in
      let most_all = bound sound.few_problems.0 all in
      let here = count.len in
      let there = all.len in
      omega arith

  -- all numbers are no more than there are problems
  pub within_most : (ids : List NodeId) (most : ℕ) → AreProblemNumbers n ids → HasAtMost (topology_of n) most → length ids ≤ most
  within_most ids most are bound =
      let count = count_of_once ids are.once (λ id has. live_of_problem id ((are.each id).0 has)) in
      bound (length ids) (same_count (IsNamedIn n ids) (IsProblem (topology_of n)) (λ q. (
        λ (id, has, named). named_problem id q ((are.each id).0 has) named,
        λ problem.
            let (id, named) = whole.named q (node_of_problem (topology_of n) q problem) in
            (id, (are.each id).1 (q, named, problem), named),
      )) (length ids) count)

  -- where a further one follows, it has capacity
  pub next_within : (k : ℕ) (ids : List NodeId) (most : ℕ) (id : NodeId) → AreBelow n k ids → id.0 ≡ k → IsProblemNumber n id → Sound (topology_of n)
      → HasAtMost (topology_of n) most → length ids < most
  next_within k ids most id below here problem sound bound =
      let more = below_more n k ids below id here problem in
      let few = once_within (ids ++ id ∷ []) most more.once (λ other has. ((more.each other).0 has).0) sound bound in
      let long = length_push ids id in
      omega arith

  module _ (k : ℕ) (ids : List NodeId) (below : AreBelow n k ids) (above : (id : NodeId) → IsLiveNode n id → id.0 < k) where
    all_names : (q : NodeName) → IsNamedIn n ids q ↔ IsProblem (topology_of n) q
    all_names q = (
      λ (id, has, named). named_problem id q ((below.each id).0 has).0 named,
      λ problem.
          let (id, named) = whole.named q (node_of_problem (topology_of n) q problem) in
          (id, (below.each id).1 ((q, named, problem), above id (q, named)), named),
    )

    -- as many as were gathered
    pub count_of_all : IsCount (IsProblem (topology_of n)) (length ids)
    count_of_all = same_count (IsNamedIn n ids) (IsProblem (topology_of n)) all_names (length ids)
        (count_of_once ids below.once (λ id has. live_of_problem id ((below.each id).0 has).0))

    pub few_of_all : Sound (topology_of n) → length ids ≤ problem_limit
    few_of_all sound = once_within ids problem_limit below.once (λ id has. ((below.each id).0 has).0) sound (λ count is.
        let all = sound.few_problems.1 in
        let low = sound.few_problems.2 in
        let less = len_of_part node_cmp_total node_cmp_exact is.nodes all.nodes (λ q h. (all.members q).1 ((is.members q).0 h)) in
        let here = is.len in
        let there = all.len in
        omega arith)

    -- the numbers of all problems are there
    pub all_gathered : Sound (topology_of n) → AreProblemNumbers n ids
    all_gathered sound = record {
      once = below.once;
      each = λ id. (
        λ has. ((below.each id).0 has).0,
        λ problem. (below.each id).1 (problem, above id (live_of_problem id problem)),
      );
      few = few_of_all sound;
    }

-- in another order they are the same
pub gathered_permuted : (n : Numbered) (ids order : List NodeId) → IsPermutation ids order → AreProblemNumbers n ids → AreProblemNumbers n order
gathered_permuted n ids order permuted are = record {
  once = once_permuted ids order permuted are.once;
  each = λ id. (
    λ has. (are.each id).0 (Contains-permutation order ids id (IsPermutation-sym ids order permuted) has),
    λ problem. Contains-permutation ids order id permuted ((are.each id).1 problem),
  );
  few = (let long = length_permutation ids order permuted in let few = are.few in omega arith);
}
