-- Runs over a list of links, with its first link and without it.
use Rattle.std.proofs.Common.{◌≡◌, ◌⊎◌, ◌↔◌, ◌<◌, ◌≤◌, ◌-◌, ℕ, suc, List, [], ◌∷◌, ◌++◌, IsTrue, nat_eq, length, take, drop, get_or, refl, sym, ap, subst, inl, inr, arith}
use Rattle.std.proofs.lemmas.Bool.{eqb-true, eq-eqb}
use Rattle.std.proofs.Math.Seq.{take-length}
use Rattle.cb_network.specs.Causes.{Run}
use Rattle.cb_test_causes.specs.Plain.{IsLink, IsRun}
use Rattle.cb_network.proofs.Runs.{joined, other_run}
use Rattle.cb_model.proofs.Rising.{contains_cases, contains_head, contains_tail, nothing_in_empty}

-- without a link a run leads nowhere
pub run_of_none : (a b : ℕ) → IsRun [] a b → a ≡ b
run_of_none a b run = elim run.0 as (λ xs. Run (IsLink []) a xs b → a ≡ b) [
  | [] ↦ λ same. same
  | x ∷ xs ↦ λ steps. absurd (nothing_in_empty (a, x) steps.0)
] run.1

module _ (link : ℕ × ℕ) (links : List (ℕ × ℕ)) where
  -- a run that does without the link, or one that comes to its start without it, and one from its end
  abbrev pub Without : ℕ → ℕ → Type 0
  Without a b = IsRun links a b ⊎ (IsRun links a link.0 × IsRun links link.1 b)

  from_end : (b : ℕ) → Without link.1 b → IsRun links link.1 b
  from_end b (inl run) = run
  from_end b (inr (p, q)) = q

  after_step : (a x b : ℕ) → (link ≡ (a, x)) ⊎ IsLink links a x → Without x b → Without a b
  after_step a x b (inl same) rest =
      inr (([], sym (ap (λ l. l.0) same)), from_end b (subst (λ k. Without k b) (sym (ap (λ l. l.1) same)) rest))
  after_step a x b (inr step) (inl run) = inl (x ∷ run.0, (step, run.1))
  after_step a x b (inr step) (inr (p, q)) = inr ((x ∷ p.0, (step, p.1)), q)

  steps_without : (a : ℕ) (xs : List ℕ) (b : ℕ) → Run (IsLink (link ∷ links)) a xs b → Without a b
  steps_without a [] b same = inl ([], same)
  steps_without a (x ∷ xs) b run = after_step a x b (contains_cases link links (a, x) run.0) (steps_without x xs b run.1)

  pub run_without : (a b : ℕ) → IsRun (link ∷ links) a b → Without a b
  run_without a b run = steps_without a run.0 b run.1

  later : (a b : ℕ) → IsRun links a b → IsRun (link ∷ links) a b
  later a b run = (run.0, other_run (IsLink links) (IsLink (link ∷ links)) (λ x y. contains_tail link links (x, y)) a run.0 b run.1)

  pub run_with : (a b : ℕ) → Without a b → IsRun (link ∷ links) a b
  run_with a b (inl run) = later a b run
  run_with a b (inr (p, q)) =
      let to = later a link.0 p in
      let from = later link.1 b q in
      (to.0 ++ link.1 ∷ from.0, joined (IsLink (link ∷ links)) a to.0 link.0 (link.1 ∷ from.0) b to.1 (contains_head link links, from.1))

-- a list that isn't empty is its first link and the others
module _ (links : List (ℕ × ℕ)) (some : 1 ≤ length links) where
  abbrev first : ℕ × ℕ
  first = get_or links 0 (0, 0)

  abbrev others : List (ℕ × ℕ)
  others = take (length links - 1) (drop 1 links)

  is_split : first ∷ others ≡ links
  is_split = elim links as (λ ls. 1 ≤ length ls → get_or ls 0 (0, 0) ∷ take (length ls - 1) (drop 1 ls) ≡ ls) [
    | [] ↦ λ none. absurd (omega arith)
    | l ∷ ls ↦ λ _. ap (λ rest. l ∷ rest) (subst (λ n. take n ls ≡ ls) (omega arith) (take-length ls))
  ] some

  pub split_with : (a b : ℕ) → Without first others a b → IsRun links a b
  split_with a b ways = subst (λ ls. IsRun ls a b) is_split (run_with first others a b ways)

  pub split_without : (a b : ℕ) → IsRun links a b → Without first others a b
  split_without a b run = run_without first others a b (subst (λ ls. IsRun ls a b) (sym is_split) run)

-- without links there is a run where the ends are one site alone
pub run_in_nothing : (links : List (ℕ × ℕ)) → length links < 1 → (a b : ℕ) → IsTrue (nat_eq a b) ↔ IsRun links a b
run_in_nothing [] none a b = (λ is. ([], eqb-true a b is), λ run. eq-eqb a b (run_of_none a b run))
run_in_nothing (l ∷ ls) none a b = absurd (omega arith)
