-- The first check of levels that fails, stage by stage.
use Rattle.std.proofs.Common.{◌≡◌, ℕ, zero, suc, ◌+◌, ◌-◌, ◌<◌, ◌≤◌, List, [], ◌∷◌, ◌++◌, length, map, refl, sym, ap, subst, ◌∙◌, Some, arith}
use Rattle.std.specs.Prelude.{slice_get}
use Rattle.std.specs.List.{All, flat_map, range_with_len}
use Rattle.std.proofs.lemmas.List.{append_assoc}
use Rattle.std.proofs.lemmas.List.FromFn.{length-range_with_len, get_or-range_with_len}
use Rattle.std.proofs.lemmas.List.Elements.{All-nil, All-cons, All-append, All-map}
use Rattle.std.proofs.lemmas.Option.{same_Some, slice_get_within, slice_get-get_or}
use Rattle.cb_model.specs.declared.node.NodeName.{NodeName}
use Rattle.cb_network.specs.Topology.{Topology}
use Rattle.cb_validity.specs.Checks.{places}
use Rattle.cb_validity.proofs.Passing.{all_joined, range_of_all}
use Rattle.cb_levels.specs.declared.levels.Levels.{Levels}
use Rattle.cb_levels.specs.declared.verdict.LevelFault.{LevelFault}
use Rattle.cb_levels.specs.declared.verdict.LevelFault.TheVariants.{BadNode, BadRoot}
use Rattle.cb_levels.specs.Valid.{BeginsAtProblem, AreValidLevels}
use Rattle.cb_levels.specs.Checks.{LevelCheck, node_check, root_check, checks_of_entry, checks_of_successors, node_checks, later_checks, closing_checks, PassesCheck, ReportsLevelCheck, FailsFirstOf, IsRejectedFor}
use Rattle.cb_levels.proofs.Checking.{valid_passes_all}
use Rattle.cb_explain.specs.Checking.{AreGoodNodes, IsFirstBadNode}

range_there : (a n i : ℕ) → i < n → slice_get (range_with_len a n) i ≡ Some (a + i)
range_there a n i low =
    let size = length-range_with_len a n in
    slice_get-get_or (range_with_len a n) i 0 (omega arith) ∙ ap Some (get_or-range_with_len a n i 0 low)

range_at : (a n i k : ℕ) → slice_get (range_with_len a n) i ≡ Some k → (i < n) × (k ≡ a + i)
range_at a n i k at =
    let size = length-range_with_len a n in
    let within = slice_get_within (range_with_len a n) i k at in
    let low : i < n = omega arith in
    (low, same_Some k (a + i) (sym at ∙ range_there a n i low))

module _ (t : Topology) (levels : Levels) where
  abbrev P : LevelCheck → Type 0
  P = PassesCheck t levels

  abbrev n : ℕ
  n = length levels.entries

  fails_later : (xs ys : List LevelCheck) (why : LevelFault) → All P xs → FailsFirstOf t levels ys why → FailsFirstOf t levels (xs ++ ys) why
  fails_later xs ys why passed f = record {
    before = xs ++ f.before;
    check = f.check;
    after = f.after;
    are = ap (λ (zs : List LevelCheck). xs ++ zs) f.are ∙ sym (append_assoc xs f.before (f.check ∷ f.after));
    passed = All-append P xs f.before passed f.passed;
    fails = f.fails;
    tells = f.tells;
  }

  fails_already : (xs ys : List LevelCheck) (why : LevelFault) → FailsFirstOf t levels xs why → FailsFirstOf t levels (xs ++ ys) why
  fails_already xs ys why f = record {
    before = f.before;
    check = f.check;
    after = f.after ++ ys;
    are = ap (λ (zs : List LevelCheck). zs ++ ys) f.are ∙ append_assoc f.before (f.check ∷ f.after) ys;
    passed = f.passed;
    fails = f.fails;
    tells = f.tells;
  }

  -- the first of these checks fails
  pub fails_here : (check : LevelCheck) (after : List LevelCheck) (why : LevelFault) → ¬ P check → ReportsLevelCheck t levels check why
      → FailsFirstOf t levels (check ∷ after) why
  fails_here check after why fails tells = record {
    before = [];
    check = check;
    after = after;
    are = refl;
    passed = All-nil P;
    fails = fails;
    tells = tells;
  }

  -- it is passed, and a later one fails
  pub fails_next : (check : LevelCheck) (after : List LevelCheck) (why : LevelFault) → P check → FailsFirstOf t levels after why
      → FailsFirstOf t levels (check ∷ after) why
  fails_next check after why passed f = record {
    before = check ∷ f.before;
    check = f.check;
    after = f.after;
    are = ap (λ (zs : List LevelCheck). check ∷ zs) f.are;
    passed = All-cons P check f.before passed f.passed;
    fails = f.fails;
    tells = f.tells;
  }

  flat_fails : (f : ℕ → List LevelCheck) (xs : List ℕ) (i x : ℕ) → slice_get xs i ≡ Some x
      → ((j y : ℕ) → j < i → slice_get xs j ≡ Some y → All P (f y)) → (why : LevelFault) → FailsFirstOf t levels (f x) why
      → FailsFirstOf t levels (flat_map f xs) why
  flat_fails f [] i x at before why failed = absurd (cc)
  flat_fails f (z ∷ xs) zero x at before why failed =
      fails_already (f z) (flat_map f xs) why (subst (λ y. FailsFirstOf t levels (f y) why) (sym (same_Some z x at)) failed)
  flat_fails f (z ∷ xs) (suc i) x at before why failed =
      fails_later (f z) (flat_map f xs) why (before 0 z (omega arith) refl)
      (flat_fails f xs i x at (λ j y low there. before (suc j) y (omega arith) there) why failed)

  -- the checks of one number fail, those of the numbers before it are passed
  range_fails : (f : ℕ → List LevelCheck) (a m k : ℕ) → a ≤ k → k < a + m → ((j : ℕ) → a ≤ j → j < k → All P (f j)) → (why : LevelFault)
      → FailsFirstOf t levels (f k) why → FailsFirstOf t levels (flat_map f (range_with_len a m)) why
  range_fails f a m k least low before why failed =
      let e : a + (k - a) ≡ k = omega arith in
      flat_fails f (range_with_len a m) (k - a) k (range_there a m (k - a) (omega arith) ∙ ap Some e)
      (λ j y less at.
      let is = range_at a m j y at in
      let here = is.1 in
      before y (omega arith) (omega arith))
      why failed

  map_fails : (f : ℕ → LevelCheck) (xs : List ℕ) (i x : ℕ) → slice_get xs i ≡ Some x → ((j y : ℕ) → j < i → slice_get xs j ≡ Some y → P (f y))
      → (why : LevelFault) → ¬ P (f x) → ReportsLevelCheck t levels (f x) why → FailsFirstOf t levels (map f xs) why
  map_fails f [] i x at before why fails tells = absurd (cc)
  map_fails f (z ∷ xs) zero x at before why fails tells =
      subst (λ y. FailsFirstOf t levels (f y ∷ map f xs) why) (sym (same_Some z x at)) (fails_here (f x) (map f xs) why fails tells)
  map_fails f (z ∷ xs) (suc i) x at before why fails tells =
      fails_next (f z) (map f xs) why (before 0 z (omega arith) refl)
      (map_fails f xs i x at (λ j y low there. before (suc j) y (omega arith) there) why fails tells)

  pub bad_node : (position : ℕ) → IsFirstBadNode t levels.nodes position → IsRejectedFor t levels (BadNode (position + 1))
  bad_node position first =
      let nodes = levels.nodes in
      let zero_more : 0 + position ≡ position = omega arith in
      fails_already (node_checks levels) (root_check ∷ (later_checks levels ++ closing_checks levels)) (BadNode (position + 1))
      (map_fails node_check (places nodes) position position (range_there 0 (length nodes) position first.within ∙ ap Some zero_more)
      (λ j y less at.
      let is = range_at 0 (length nodes) j y at in
      let here = is.1 in
      first.before y (omega arith))
      (BadNode (position + 1)) first.bad refl)

  module _ (good : AreGoodNodes t levels.nodes (length levels.nodes)) where
    nodes_pass : All P (node_checks levels)
    nodes_pass = All-map P node_check (places levels.nodes) (range_of_all (λ i. P (node_check i)) 0 (length levels.nodes) (λ k from low. good k (omega arith)))

    pub bad_root : ((root : NodeName) → ¬ BeginsAtProblem t levels root) → IsRejectedFor t levels (BadRoot 1)
    bad_root none =
        let fails : ¬ P root_check = λ is. none is.0 is.1 in
        fails_later (node_checks levels) (root_check ∷ (later_checks levels ++ closing_checks levels)) (BadRoot 1) nodes_pass
        (fails_here root_check (later_checks levels ++ closing_checks levels) (BadRoot 1) fails refl)

    module _ (root : NodeName) (begins : BeginsAtProblem t levels root) where
      after_root : (why : LevelFault) → FailsFirstOf t levels (later_checks levels ++ closing_checks levels) why → IsRejectedFor t levels why
      after_root why failed =
          let passed : P root_check = (root, begins) in
          fails_later (node_checks levels) (root_check ∷ (later_checks levels ++ closing_checks levels)) why nodes_pass
          (fails_next root_check (later_checks levels ++ closing_checks levels) why passed failed)

      pub entry_fails : (k : ℕ) → 0 < k → k < n → ((j : ℕ) → 0 < j → j < k → All P (checks_of_entry j)) → (why : LevelFault)
          → FailsFirstOf t levels (checks_of_entry k) why → IsRejectedFor t levels why
      entry_fails k later low before why failed =
          after_root why (fails_already (later_checks levels) (closing_checks levels) why
          (range_fails checks_of_entry 1 (n - 1) k (omega arith) (omega arith) (λ j least less. before j (omega arith) less) why failed))

      module _ (entries : (j : ℕ) → 0 < j → j < n → All P (checks_of_entry j)) where
        entries_pass : All P (later_checks levels)
        entries_pass = all_joined P checks_of_entry (range_with_len 1 (n - 1)) (range_of_all (λ k. All P (checks_of_entry k)) 1 (n - 1) (λ k low high. entries k (omega arith) (omega arith)))

        pub successors_fail : (k : ℕ) → k < n → ((j : ℕ) → j < k → All P (checks_of_successors j)) → (why : LevelFault)
            → FailsFirstOf t levels (checks_of_successors k) why → IsRejectedFor t levels why
        successors_fail k low before why failed =
            after_root why (fails_later (later_checks levels) (closing_checks levels) why entries_pass
            (range_fails checks_of_successors 0 n k (omega arith) (omega arith) (λ j least less. before j less) why failed))

        pub all_pass : ((j : ℕ) → j < n → All P (checks_of_successors j)) → AreValidLevels t levels
        all_pass successors =
            let passed : P root_check = (root, begins) in
            let closing = all_joined P checks_of_successors (places levels.entries) (range_of_all (λ k. All P (checks_of_successors k)) 0 n (λ k low high. successors k (omega arith))) in
            (valid_passes_all t levels).1
            (All-append P (node_checks levels) (root_check ∷ (later_checks levels ++ closing_checks levels)) nodes_pass
            (All-cons P root_check (later_checks levels ++ closing_checks levels) passed
            (All-append P (later_checks levels) (closing_checks levels) entries_pass closing)))
