-- The positions of visits at the ranks of their nodes.
use Rattle.std.proofs.Common.{◌≡◌, ℕ, ◌+◌, ◌<◌, ◌≤◌, List, Some, length, slice_get, slice_set, sym, ap, subst, ◌∙◌, inl, inr, arith}
use Rattle.std.proofs.lemmas.Bool.{cases_lt}
use Rattle.std.proofs.lemmas.List.{length-set}
use Rattle.std.proofs.lemmas.Option.{same_Some, slice_get_within}
use Rattle.cb_model.proofs.Numbers.{slice_get-set_other, slice_get-set_here}
use Rattle.cb_breadth.specs.declared.visit.LevelVisit.{LevelVisit}
use Rattle.cb_explain.specs.Levelled.{IsRankVisited}
use Rattle.cb_explain.specs.Chained.{HavePositions, AreVisitedOnce}

-- the first visits have their positions
pub record HavePositionsTo (visits : List LevelVisit) (to size : ℕ) (positions : List ℕ) : Type 0 where
  pub size_is : length positions ≡ size
  pub each : (i : ℕ) (v : LevelVisit) → i < to → slice_get visits i ≡ Some v → slice_get positions v.node ≡ Some i

pub none_set : (visits : List LevelVisit) (size : ℕ) (positions : List ℕ) → length positions ≡ size → HavePositionsTo visits 0 size positions
none_set visits size positions same = record { size_is = same; each = λ i v lt at. absurd (omega arith) }

pub one_set : (visits : List LevelVisit) (to size : ℕ) (positions : List ℕ) → HavePositionsTo visits to size positions → AreVisitedOnce visits → (v : LevelVisit)
    → slice_get visits to ≡ Some v → v.node < size → HavePositionsTo visits (to + 1) size (slice_set positions v.node to)
one_set visits to size positions old once v here low = record {
  size_is = length-set positions v.node to ∙ old.size_is;
  each = λ i w lt at. elim (cases_lt i to) [
    | inl before ↦
        let differ : v.node ≡ w.node → ⊥ = λ e. let same = once to i v w here at e in omega arith in
        slice_get-set_other positions v.node w.node to differ ∙ old.each i w before at
    | inr le ↦
        let last : i ≡ to = omega arith in
        let same : v ≡ w = same_Some v w (sym here ∙ subst (λ k. slice_get visits k ≡ Some w) last at) in
        let size_is = old.size_is in
        let fits : v.node < length positions = omega arith in
        let there : slice_get (slice_set positions v.node to) v.node ≡ Some i = slice_get-set_here positions v.node to fits ∙ ap Some (sym last) in
        subst (λ (x : LevelVisit). slice_get (slice_set positions v.node to) x.node ≡ Some i) same there
  ];
}

pub all_set : (visits : List LevelVisit) (to size : ℕ) (positions : List ℕ) → HavePositionsTo visits to size positions → length visits ≤ to → HavePositions visits positions
all_set visits to size positions old end i v at = let low = slice_get_within visits i v at in old.each i v (omega arith) at

-- where the position at a rank isn't that of a visit of it, it isn't visited
pub not_visited : (visits : List LevelVisit) (positions : List ℕ) (rank position : ℕ) → HavePositions visits positions → slice_get positions rank ≡ Some position
    → ((v : LevelVisit) → slice_get visits position ≡ Some v → v.node ≡ rank → ⊥) → ¬ IsRankVisited visits rank
not_visited visits positions rank position have at other visited =
    let there = subst (λ k. slice_get positions k ≡ Some visited.position) visited.of (have visited.position visited.visit visited.is) in
    let same : visited.position ≡ position = same_Some visited.position position (sym there ∙ at) in
    other visited.visit (subst (λ k. slice_get visits k ≡ Some visited.visit) same visited.is) visited.of
