-- Levels are rejected for one reason.
use Rattle.std.proofs.Common.{◌≡◌, ℕ, ◌+◌, List, [], ◌∷◌, ◌++◌, sym, ap, subst, ◌∙◌}
use Rattle.std.specs.List.{All}
use Rattle.std.proofs.lemmas.List.Elements.{All-head, All-tail}
use Rattle.std.proofs.lemmas.Option.{same_Some}
use Rattle.cb_model.specs.declared.node.NodeName.{NodeName}
use Rattle.cb_network.specs.Topology.{Topology}
use Rattle.cb_network.specs.Causes.{Edge}
use Rattle.cb_validity.proofs.Passing.{all_right}
use Rattle.cb_levels.specs.declared.levels.LevelEntry.{LevelEntry}
use Rattle.cb_levels.specs.declared.levels.Levels.{Levels}
use Rattle.cb_levels.specs.declared.verdict.LevelFault.{LevelFault}
use Rattle.cb_levels.specs.declared.verdict.LevelFault.TheVariants.{NotClosed, NotShort}
use Rattle.cb_levels.specs.Listed.{ListsInLevels}
use Rattle.cb_levels.specs.Valid.{AreValidLevels}
use Rattle.cb_levels.specs.Checks.{LevelCheck, node_check, root_check, parent_check, edge_check, new_check, level_check, closed_check, short_check, IsTooFar, PassesCheck, IsLeastSuccessor, ReportsLevelCheck, IsRejectedFor}
use Rattle.cb_levels.proofs.One.{neither_less}
use Rattle.cb_levels.proofs.Lists.{listed_one}
use Rattle.cb_levels.proofs.Checking.{valid_passes_all}

-- the first item of a list that fails is one
first_is_one : {X : Type 0} (P : X → Type 0) (xs ys : List X) (x y : X) (us vs : List X) → xs ++ x ∷ us ≡ ys ++ y ∷ vs
    → All P xs → ¬ P x → All P ys → ¬ P y → x ≡ y
first_is_one P [] [] x y us vs e pass fails pass' fails' = cc
first_is_one P [] (z ∷ ys) x y us vs e pass fails pass' fails' =
    let same : z ≡ x = cc in
    absurd (fails (subst P same (All-head P z ys pass')))
first_is_one P (z ∷ xs) [] x y us vs e pass fails pass' fails' =
    let same : z ≡ y = cc in
    absurd (fails' (subst P same (All-head P z xs pass)))
first_is_one P (z ∷ xs) (z' ∷ ys) x y us vs e pass fails pass' fails' =
    first_is_one P xs ys x y us vs (cc) (All-tail P z xs pass) fails (All-tail P z' ys pass') fails'

-- the least successor is one
least_is_one : (t : Topology) (levels : Levels) (position : ℕ) (P : LevelEntry → NodeName → Type 0) (m n : NodeName) → IsLeastSuccessor t levels position P m
    → IsLeastSuccessor t levels position P n → m ≡ n
least_is_one t levels position P m n a b =
    let here = a.is in
    let there = b.is in
    let entry : a.entry ≡ b.entry = same_Some a.entry b.entry (sym here.is ∙ there.is) in
    let node : a.node ≡ b.node = listed_one levels position a.entry b.entry a.node b.node a.is b.is in
    neither_less m n
    (b.least m (subst (λ p. Edge t p m) node a.edge) (subst (λ e. P e m) entry a.such))
    (a.least n (subst (λ p. Edge t p n) (sym node) b.edge) (subst (λ e. P e n) (sym entry) b.such))

reported_one : (t : Topology) (levels : Levels) (check : LevelCheck) (a b : LevelFault) → ReportsLevelCheck t levels check a → ReportsLevelCheck t levels check b → a ≡ b
reported_one t levels (node_check position) a b p q = p ∙ sym q
reported_one t levels root_check a b p q = p ∙ sym q
reported_one t levels (parent_check position) a b p q = p ∙ sym q
reported_one t levels (edge_check position) a b p q = p ∙ sym q
reported_one t levels (new_check position) a b p q = p ∙ sym q
reported_one t levels (level_check position) a b p q = p ∙ sym q
reported_one t levels (closed_check position) a b p q =
    p.2 ∙ (ap (NotClosed (position + 1)) (least_is_one t levels position (λ entry s. ¬ ListsInLevels levels s) p.0 q.0 p.1 q.1) ∙ sym q.2)
reported_one t levels (short_check position) a b p q =
    p.2 ∙ (ap (NotShort (position + 1)) (least_is_one t levels position (λ entry s. IsTooFar levels entry.level s) p.0 q.0 p.1 q.1) ∙ sym q.2)

pub first_fail_is_one : (t : Topology) (levels : Levels) (a b : LevelFault) → IsRejectedFor t levels a → IsRejectedFor t levels b → a ≡ b
first_fail_is_one t levels a b p q =
    let same = first_is_one (PassesCheck t levels) p.before q.before p.check q.check p.after q.after (sym p.are ∙ q.are) p.passed p.fails q.passed q.fails in
    reported_one t levels p.check a b p.tells (subst (λ check. ReportsLevelCheck t levels check b) (sym same) q.tells)

pub valid_is_not_rejected : (t : Topology) (levels : Levels) (why : LevelFault) → AreValidLevels t levels → ¬ IsRejectedFor t levels why
valid_is_not_rejected t levels why valid fail =
    let all = (valid_passes_all t levels).0 valid in
    let parts = subst (All (PassesCheck t levels)) fail.are all in
    fail.fails (All-head (PassesCheck t levels) fail.check fail.after (all_right (PassesCheck t levels) fail.before (fail.check ∷ fail.after) parts))
