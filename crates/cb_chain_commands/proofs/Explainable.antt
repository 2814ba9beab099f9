-- The groups of a matrix can be explained.
use Rattle.std.proofs.Common.{◌≡◌, ℕ, zero, suc, List, [], ◌∷◌, ◌++◌, map, length, refl, sym, ap, subst, ◌∙◌, inl, inr, Some}
use Rattle.std.specs.Prelude.{Option, None, slice_index_or}
use Rattle.std.specs.List.{All, Contains, flat_map, slice_get}
use Rattle.std.proofs.lemmas.Bool.{eqb-true, false≢true}
use Rattle.std.proofs.lemmas.List.Elements.{All-cons, All-contains, All-contains_itself, All-nil, All-weaker}
use Rattle.cb_model.specs.declared.node.NodeName.{NodeName}
use Rattle.cb_model.proofs.Numbers.{contains_at}
use Rattle.cb_model.proofs.Rising.{contains_cases, contains_head, contains_tail, nothing_in_empty}
use Rattle.cb_coding.specs.declared.group.Group.{Group}
use Rattle.cb_coding.specs.declared.group.Problem.{Problem}
use Rattle.cb_coding.specs.Groups.{members_of, zeros, group_of}
use Rattle.cb_coding.proofs.One.{problem_of_member}
use Rattle.cb_finding.specs.Finding.{named_group, named_groups}
use Rattle.cb_finding.specs.Matrix.{IsCode, IsMatrix}
use Rattle.cb_network.specs.Causes.{Causes}
use Rattle.cb_network.specs.Nodes.{IsProblem}
use Rattle.cb_network.specs.Topology.{Topology}
use Rattle.cb_chains.specs.Explained.{ExplainsColumns, chains_in}
use Rattle.cb_outcome.specs.Explained.{ExplainsMembers}
use Rattle.cb_chain_commands.specs.Explaining.{CanBeExplained}

-- ---- a group whose members cause no column

module _ (t : Topology) where
  nowhere : (member : NodeName) (columns : List NodeName) → ((column : NodeName) → Contains columns column → ¬ Causes t member column)
      → (found : List (Option (List NodeName))) × ExplainsColumns t columns member found × (chains_in found ≡ [])
  nowhere member [] none = ([], tt, refl)
  nowhere member (c ∷ cs) none =
      let (found, each, empty) = nowhere member cs (λ column has. none column (contains_tail c cs column has)) in
      (None ∷ found, (none c (contains_head c cs), each), empty)

  pub none_explained : (columns members : List NodeName) → ((member column : NodeName) → Contains members member → Contains columns column → ¬ Causes t member column)
      → ExplainsMembers t columns members []
  none_explained columns [] none = record { found = []; each = tt; are = refl }
  none_explained columns (m ∷ ms) none =
      let (found, each, empty) = nowhere m columns (λ column has. none m column (contains_head m ms) has) in
      let rest = none_explained columns ms (λ member column within has. none member column (contains_tail m ms member within) has) in
      record {
        found = found ∷ rest.found;
        each = (each, rest.each);
        are = rest.are ∙ ap (λ (l : List (List NodeName)). l ++ flat_map chains_in rest.found) (sym empty);
      }

-- ---- the groups of a matrix

name_within : (problems : List Problem) (p : Problem) → Contains problems p → Contains (map (λ (q : Problem). q.name) problems) p.name
name_within [] p c = absurd (nothing_in_empty p c)
name_within (q ∷ qs) p c =
    elim (contains_cases q qs p c) [
      | inl same ↦ subst (λ (n : NodeName). Contains (q.name ∷ map (λ (r : Problem). r.name) qs) n) (ap (λ (r : Problem). r.name) same) (contains_head q.name (map (λ (r : Problem). r.name) qs))
      | inr later ↦ contains_tail q.name (map (λ (r : Problem). r.name) qs) p.name (name_within qs p later)
    ]

-- a member of the group at a position is one of a group that is there
member_at : (groups : List Group) (i : ℕ) (member : NodeName) → Contains (slice_index_or (map (λ (g : Group). g.members) groups) i []) member
    → (g : Group) × (slice_get groups i ≡ Some g) × Contains g.members member
member_at [] i member c = absurd (nothing_in_empty member c)
member_at (g ∷ gs) zero member c = (g, refl, c)
member_at (g ∷ gs) (suc i) member c = member_at gs i member c

-- no column is caused where all bits are false
zeros_are_silent : (t : Topology) (problem : NodeName) (columns : List NodeName) (n : ℕ) → IsCode t columns problem (zeros n) → (column : NodeName)
    → Contains columns column → ¬ Causes t problem column
zeros_are_silent t problem [] n code column c causes = nothing_in_empty column c
zeros_are_silent t problem (d ∷ ds) zero code column c causes = absurd code
zeros_are_silent t problem (d ∷ ds) (suc n) code column c causes =
    elim (contains_cases d ds column c) [
      | inl same ↦ false≢true (code.0.1 (subst (Causes t problem) (sym same) causes))
      | inr later ↦ zeros_are_silent t problem ds n code.1 column later causes
    ]

module _ (t : Topology) (columns : List NodeName) (groups : List Group) (matrix : IsMatrix t columns groups) where
  -- a group has exactly the problems of its code
  has_members : (i : ℕ) (g : Group) → slice_get groups i ≡ Some g → g.members ≡ members_of matrix.problems g.code
  has_members i g at =
      let there : Contains groups g = contains_at groups i g at in
      elim (contains_cases (group_of matrix.problems (zeros (length columns))) matrix.groups_are.others g (subst (λ gs. Contains gs g) matrix.groups_are.quiet there)) [
        | inl same ↦ subst (λ (h : Group). h.members ≡ members_of matrix.problems h.code) same refl
        | inr other ↦ (matrix.groups_are.each g other).members
      ]

  -- a member is a problem with the code of its group
  problem_at : (i : ℕ) (g : Group) (member : NodeName) → slice_get groups i ≡ Some g → Contains g.members member
      → (p : Problem) × Contains matrix.problems p × (g.code ≡ p.code) × (p.name ≡ member)
  problem_at i g member at c = problem_of_member g.code matrix.problems member (subst (λ ms. Contains ms member) (has_members i g at) c)

  is_problem : (i : ℕ) (g : Group) (member : NodeName) → slice_get groups i ≡ Some g → Contains g.members member → IsProblem t member
  is_problem i g member at c =
      let (p, has, code, name) = problem_at i g member at c in
      subst (IsProblem t) name (matrix.problems_are.names.each p.name (name_within matrix.problems p has))

  is_silent : (g : Group) (member column : NodeName) → slice_get groups 0 ≡ Some g → Contains g.members member → Contains columns column
      → ¬ Causes t member column
  is_silent g member column at c has =
      let (p, is, code, name) = problem_at 0 g member at c in
      let first : slice_get groups 0 ≡ Some (group_of matrix.problems (zeros (length columns))) = ap (λ (gs : List Group). slice_get gs 0) matrix.groups_are.quiet in
      let same : group_of matrix.problems (zeros (length columns)) ≡ g = cc in
      let zero_code : zeros (length columns) ≡ p.code = ap (λ (h : Group). h.code) same ∙ code in
      let coded : IsCode t columns p.name p.code = All-contains (λ (q : Problem). IsCode t columns q.name q.code) matrix.problems p matrix.problems_are.codes is in
      zeros_are_silent t member columns (length columns)
      (subst (λ (n : NodeName). IsCode t columns n (zeros (length columns))) name (subst (IsCode t columns p.name) (sym zero_code) coded)) column has

  all_of : (P : NodeName → Type 0) (xs : List NodeName) → ((x : NodeName) → Contains xs x → P x) → All P xs
  all_of P xs each = All-weaker (Contains xs) P each xs (All-contains_itself xs)

  explainable : (i : ℕ) → CanBeExplained t columns (named_group groups i)
  explainable i = record {
    problems = all_of (IsProblem t) (slice_index_or (map (λ (g : Group). g.members) groups) i []) (λ member c.
        let (g, at, within) = member_at groups i member c in is_problem i g member at within);
    quiet = λ first member column c has.
        let zero_at : i ≡ 0 = eqb-true i 0 first in
        let (g, at, within) = member_at groups i member c in
        is_silent g member column (subst (λ n. slice_get groups n ≡ Some g) zero_at at) within has;
  }

  pub all_explainable : (places : List ℕ) → All (CanBeExplained t columns) (named_groups groups places)
  all_explainable [] = All-nil (CanBeExplained t columns)
  all_explainable (i ∷ places) = All-cons (CanBeExplained t columns) (named_group groups i) (named_groups groups places) (explainable i) (all_explainable places)
