-- What a node causes is known, so a topology has a matrix.
use Rattle.std.proofs.Common.{◌≡◌, ◌↔◌, ℕ, List, [], ◌∷◌, map, length, refl, sym, ap, subst, inl, inr, Bool, true, false, IsTrue}
use Rattle.std.specs.FinSet as set
use Rattle.std.specs.List.{All, Contains}
use Rattle.std.proofs.lemmas.List.Elements.{All-nil, All-cons}
use Rattle.cb_model.specs.declared.node.NodeName.{NodeName}
use Rattle.cb_model.specs.NodeOrder.{node_cmp}
use Rattle.cb_model.proofs.Rising.{contains_head, contains_tail}
use Rattle.cb_coding.specs.declared.group.Group.{Group}
use Rattle.cb_coding.specs.declared.group.Problem.{Problem}
use Rattle.cb_network.specs.Causes.{Chain, Causes, Reaches}
use Rattle.cb_network.specs.Nodes.{AreProblems, IsCount}
use Rattle.cb_network.specs.Regular.{IsRegular}
use Rattle.cb_network.specs.Topology.{Topology}
use Rattle.cb_network.proofs.Counts.{count_of_rising}
use Rattle.cb_network.proofs.Decided.{Decision}
use Rattle.cb_change.proofs.Deciding.{decide_causes}
use Rattle.cb_change.proofs.Kept.{ends_at_node, caused_is_node}
use Rattle.cb_finding.specs.Matrix.{IsCode, AreCoded, IsMatrix}
use Rattle.cb_finding.proofs.Nearest.{coded_are_wide}
use Rattle.cb_existence.proofs.Gathered.{nodes_in_order}
use Rattle.cb_existence.proofs.Grouped.{groups_exist}
use Rattle.cb_existence.proofs.Listed.{possible_nodes, is_possible, columns_exist, problems_exist}

-- what is known is a truth value
pub known_bit : (P : Type 0) → Decision P → (b : Bool) × (IsTrue b ↔ P)
known_bit P (inl p) = (true, (λ e. p, λ h. refl))
known_bit P (inr none) = (false, (λ e. absurd (cc), λ p. absurd (none p)))

module _ (t : Topology) (regular : IsRegular t.model) where
  decide_caused : (p s : NodeName) → Decision (Causes t p s)
  decide_caused = decide_causes t regular (possible_nodes t) (is_possible t)

  -- what a node causes is itself or a node
  is_caused : (p : NodeName) (between : List NodeName) (s : NodeName) → Chain t p between s → Contains (p ∷ possible_nodes t) s
  is_caused p [] s same = subst (Contains (p ∷ possible_nodes t)) same (contains_head p (possible_nodes t))
  is_caused p (q ∷ rest) s chain =
      contains_tail p (possible_nodes t) s (is_possible t s (caused_is_node t q rest s chain.1 (ends_at_node t p q chain.0)))

  pub reached_exists : (p : NodeName) → (reached : set.FinSet node_cmp) × Reaches t p reached
  reached_exists p =
      let (nodes, are) = nodes_in_order (Causes t p) (decide_caused p) (p ∷ possible_nodes t) (λ s causes. is_caused p causes.0 s causes.1) in
      let count = count_of_rising (Causes t p) nodes are.rise (λ s. (are.each s, are.all s)) in
      (count.nodes, count.members)

  pub caused_are_counted : (p : NodeName) → (n : ℕ) × IsCount (Causes t p) n
  caused_are_counted p =
      let (reached, is) = reached_exists p in
      (set.len reached, record { nodes = reached; members = is; len = refl })

  pub code_exists : (columns : List NodeName) (p : NodeName) → (code : List Bool) × IsCode t columns p code
  code_exists [] p = ([], tt)
  code_exists (c ∷ columns) p =
      let here = known_bit (Causes t p c) (decide_caused p c) in
      let rest = code_exists columns p in
      (here.0 ∷ rest.0, (here.1, rest.1))

  with_codes : (columns names : List NodeName)
      → (problems : List Problem) × ((map (λ (p : Problem). p.name) problems ≡ names) × All (λ p. IsCode t columns p.name p.code) problems)
  with_codes columns [] = ([], (refl, All-nil (λ (p : Problem). IsCode t columns p.name p.code)))
  with_codes columns (n ∷ names) =
      let code = code_exists columns n in
      let rest = with_codes columns names in
      let p : Problem = record { name = n; code = code.0 } in (
        p ∷ rest.0,
        (ap (λ (ns : List NodeName). n ∷ ns) rest.1.0, All-cons (λ (q : Problem). IsCode t columns q.name q.code) p rest.0 code.1 rest.1.1),
      )

  pub coded_exist : (columns : List NodeName) → (problems : List Problem) × AreCoded t columns problems
  coded_exist columns =
      let names = problems_exist t regular in
      let problems = with_codes columns names.0 in
      (problems.0, record { names = subst (AreProblems t) (sym problems.1.0) names.1; codes = problems.1.1 })

  pub matrix_exists : (columns : List NodeName) × (groups : List Group) × IsMatrix t columns groups
  matrix_exists =
      let columns = columns_exist t regular in
      let problems = coded_exist columns.0 in
      let groups = groups_exist (length columns.0) problems.0 (coded_are_wide t columns.0 problems.0 problems.1) in (
        columns.0,
        groups.0,
        record { problems = problems.0; columns_are = columns.1; problems_are = problems.1; groups_are = groups.1 },
      )
