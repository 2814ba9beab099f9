-- What a search has visited is led to from its root, so that it bounds the steps.
use Rattle.std.proofs.Common.{◌≡◌, inl, inr, ℕ, zero, suc, ◌+◌, ◌-◌, ◌<◌, ◌≤◌, List, [], Bool, false, Some, length, slice_get, replicate, sym, subst, ap, ◌∙◌, arith}
use Rattle.std.proofs.lemmas.Bool.{cases_lt}
use Rattle.std.proofs.lemmas.List.{length-replicate}
use Rattle.std.proofs.lemmas.Option.{same_Some}
use Rattle.cb_successors.specs.Graphs.{LeadsTo}
use Rattle.cb_successors.proofs.Chains.{chain_more}
use Rattle.cb_successors.proofs.Marks.{nothing}
use Rattle.cb_breadth.specs.declared.visit.Visit.{Visit}
use Rattle.cb_breadth.specs.Trees.{CountsReached, visit}
use Rattle.cb_breadth.proofs.Growing.{IsGrown}

-- before anything is visited no step is counted
pub counts_none : (edge : ℕ → ℕ → Type 0) (root count steps : ℕ) → CountsReached edge root count steps steps
counts_none edge root count steps = record {
  row = replicate count false;
  long = length-replicate count false;
  each = λ node has. absurd (nothing count node has);
  few = omega arith;
}

module _ (edge : ℕ → ℕ → Type 0) (root count place : ℕ) (visits : List Visit) (found : List Bool) (grown : IsGrown edge root count place visits found) where
  -- the visit at a place below some number
  led : (bound i : ℕ) (v : Visit) → i < bound → slice_get visits i ≡ Some v → LeadsTo edge root v.node
  led zero i v low is = absurd (omega arith)
  led (suc bound) i v low is = elim (cases_lt 0 i) [
    | inl pos ↦
        let has = grown.edges i v pos is in
        let (some, earlier) = grown.earlier i v pos is in
        let before = led bound (v.parent - 1) has.from (omega arith) has.from_is in
        chain_more edge root before.0 has.from.node v.node before.1 has.leads
    | inr le ↦
        let none : 0 ≡ i = omega arith in
        let same : visit root 0 ≡ v = same_Some (visit root 0) v (sym grown.begins ∙ subst (λ k. slice_get visits k ≡ Some v) (sym none) is) in
        ([], ap (λ (w : Visit). w.node) same)
  ]

  pub counts_grown : (steps new_steps : ℕ) → new_steps ≤ steps + length visits → CountsReached edge root count steps new_steps
  counts_grown steps new_steps few = record {
    row = found;
    long = grown.full_length;
    each = λ node has. (let there = (grown.found_are node).0 has in led (there.place + 1) there.place (visit node there.parent) (omega arith) there.is);
    few = (let e = grown.counted in omega arith);
  }
