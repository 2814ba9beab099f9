-- The nodes of visits are used.
use Rattle.std.proofs.Common.{◌≡◌, ◌↔◌, ◌⊎◌, inl, inr, ℕ, ◌+◌, ◌<◌, ◌≤◌, List, Bool, true, Some, length, slice_get, slice_set, refl, sym, subst, ◌∙◌, arith}
use Rattle.std.proofs.lemmas.Bool.{cases_lt}
use Rattle.std.proofs.lemmas.List.{length-set}
use Rattle.std.proofs.lemmas.Option.{slice_get_within, same_Some}
use Rattle.cb_successors.specs.Rows.{Has}
use Rattle.cb_successors.proofs.Marks.{has_set, set_cases}
use Rattle.cb_breadth.specs.declared.visit.LevelVisit.{LevelVisit}
use Rattle.cb_breadth.proofs.Lists.{has_still}
use Rattle.cb_explain.specs.Levelled.{IsRankVisited}

-- the nodes of the first visits are added
pub record AreUsedTo (visits : List LevelVisit) (to : ℕ) (used0 used : List Bool) : Type 0 where
  pub capacity : length used ≡ length used0
  pub kept : (rank : ℕ) → Has used0 rank → Has used rank
  pub each : (rank : ℕ) → Has used rank → Has used0 rank ⊎ IsRankVisited visits rank
  pub all : (i : ℕ) (v : LevelVisit) → i < to → slice_get visits i ≡ Some v → Has used v.node

pub none_used : (visits : List LevelVisit) (used : List Bool) → AreUsedTo visits 0 used used
none_used visits used = record {
  capacity = refl;
  kept = λ rank has. has;
  each = λ rank has. inl has;
  all = λ i v lt at. absurd (omega arith);
}

module _ (visits : List LevelVisit) (to : ℕ) (used0 used : List Bool) (old : AreUsedTo visits to used0 used) where
  pub one_used : (v : LevelVisit) → slice_get visits to ≡ Some v → v.node < length used → AreUsedTo visits (to + 1) used0 (slice_set used v.node true)
  one_used v here low = record {
    capacity = length-set used v.node true ∙ old.capacity;
    kept = λ r has. has_still used v.node r low (old.kept r has);
    each = λ r has. elim (set_cases used v.node r has) [
      | inl same ↦ inr (record { position = to; visit = v; is = here; of = sym same })
      | inr had ↦ old.each r had
    ];
    all = λ i w lt at. elim (cases_lt i to) [
      | inl before ↦ has_still used v.node w.node low (old.all i w before at)
      | inr le ↦
          let last : to ≡ i = omega arith in
          let same : v ≡ w = same_Some v w (sym here ∙ subst (λ k. slice_get visits k ≡ Some w) (sym last) at) in
          subst (λ (x : LevelVisit). Has (slice_set used v.node true) x.node) same (has_set used v.node low)
    ];
  }

  pub all_used : length visits ≤ to → (rank : ℕ) → Has used rank ↔ (Has used0 rank ⊎ IsRankVisited visits rank)
  all_used end rank = (
    λ has. old.each rank has,
    λ either. elim either [
      | inl had ↦ old.kept rank had
      | inr there ↦
          let within = slice_get_within visits there.position there.visit there.is in
          subst (Has used) there.of (old.all there.position there.visit (omega arith) there.is)
    ],
  )
