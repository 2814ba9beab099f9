-- Levels are valid exactly where they pass all their checks.
use Rattle.std.proofs.Common.{◌≡◌, ◌↔◌, ℕ, suc, ◌+◌, ◌-◌, ◌<◌, List, [], ◌∷◌, ◌++◌, length, get_or, map, refl, sym, ap, subst, ◌∙◌, arith, Some, inl, inr}
use Rattle.std.specs.Prelude.{slice_get}
use Rattle.std.specs.List.{All, flat_map, range_with_len}
use Rattle.std.specs.declared.cmp.Ordering.TheVariants.{Less}
use Rattle.std.proofs.lemmas.Bool.{cases_order, cases_lt}
use Rattle.std.proofs.lemmas.List.Elements.{All-nil, All-cons, All-head, All-tail, All-append, All-map}
use Rattle.std.proofs.lemmas.Option.{same_Some, slice_get_within, slice_get-get_or, get_or_from_slice_get}
use Rattle.cb_model.specs.declared.node.NodeName.{NodeName}
use Rattle.cb_model.specs.NodeOrder.{node_cmp}
use Rattle.cb_network.specs.Topology.{Topology}
use Rattle.cb_network.specs.Nodes.{IsNodeOf}
use Rattle.cb_validity.specs.Spans.{AreNodes}
use Rattle.cb_validity.specs.Checks.{IsGoodNode, places}
use Rattle.cb_validity.proofs.Passing.{all_left, all_right, all_unmapped, all_split, all_joined, all_of_range, range_of_all, rises_from_next, next_from_rises}
use Rattle.cb_levels.specs.declared.levels.LevelEntry.{LevelEntry}
use Rattle.cb_levels.specs.declared.levels.Levels.{Levels}
use Rattle.cb_levels.specs.Listed.{IsEntryAt}
use Rattle.cb_levels.specs.Valid.{BeginsAtProblem, AreLevelsOf, AreValidLevels}
use Rattle.cb_levels.specs.Checks.{LevelCheck, node_check, root_check, parent_check, edge_check, new_check, level_check, closed_check, short_check, checks_of_entry, checks_of_successors, level_checks, LevelEntryIs, IsParentEarlier, HasEdgeFromParent, IsFirstListed, IsOneAbove, AreLevelsClosedAt, IsShortAt, PassesCheck}

module _ (t : Topology) (levels : Levels) where
  abbrev P : LevelCheck → Type 0
  P = PassesCheck t levels

  abbrev n : ℕ
  n = length levels.entries

  abbrev nodes_part : List LevelCheck
  nodes_part = map node_check (places levels.nodes)

  abbrev entries_part : List LevelCheck
  entries_part = flat_map checks_of_entry (range_with_len 1 (n - 1))

  abbrev successors_part : List LevelCheck
  successors_part = flat_map checks_of_successors (places levels.entries)

  pub nodes_from_checks : All P nodes_part → AreNodes t levels.nodes
  nodes_from_checks all =
      let nodes = levels.nodes in
      let good : (k : ℕ) → k < length nodes → IsGoodNode t nodes k =
      λ k low. all_of_range (λ i. IsGoodNode t nodes i) 0 (length nodes) (all_unmapped P node_check (places nodes) all) k (omega arith) (omega arith)
      in
      record {
        rise = rises_from_next nodes (λ k x y at_k at_next.
            let g = good (suc k) (slice_get_within nodes (suc k) y at_next) in
            let same : g.node ≡ y = same_Some g.node y (sym g.is ∙ at_next) in
            subst (λ m. node_cmp x m ≡ Less) same (g.above k x refl at_k));
        live = λ k d low.
            let g = good k low in
            subst (IsNodeOf t) (sym (get_or_from_slice_get nodes k g.node d g.is)) g.live;
      }

  pub checks_from_nodes : AreNodes t levels.nodes → All P nodes_part
  checks_from_nodes are =
      let nodes = levels.nodes in
      All-map P node_check (places nodes) (range_of_all (λ i. P (node_check i)) 0 (length nodes) (λ k from low.
      let none : NodeName = record { event = []; instance = [] } in
      let is = slice_get-get_or nodes k none (omega arith) in
      let good : IsGoodNode t nodes k = record {
        node = get_or nodes k none;
        is = is;
        live = are.live k none (omega arith);
        above = λ before other next at. next_from_rises nodes are.rise before other (get_or nodes k none) at (subst (λ i. slice_get nodes i ≡ Some (get_or nodes k none)) next is);
      } in
      good))

  levels_from_checks : All P (level_checks levels) → AreValidLevels t levels
  levels_from_checks all =
      let rest = all_right P nodes_part (root_check ∷ (entries_part ++ successors_part)) all in
      let root : (r : NodeName) × BeginsAtProblem t levels r = All-head P root_check (entries_part ++ successors_part) rest in
      let more = All-tail P root_check (entries_part ++ successors_part) rest in
      let entries = all_split P checks_of_entry (range_with_len 1 (n - 1)) (all_left P entries_part successors_part more) in
      let successors = all_split P checks_of_successors (places levels.entries) (all_right P entries_part successors_part more) in
      let each : (k : ℕ) → 0 < k → k < n → All P (checks_of_entry k) =
      λ k low high. all_of_range (λ i. All P (checks_of_entry i)) 1 (n - 1) entries k (omega arith) (omega arith)
      in
      let parent : (k : ℕ) → 0 < k → k < n → LevelEntryIs levels k (IsParentEarlier k) =
      λ k low high. All-head P (parent_check k) (edge_check k ∷ new_check k ∷ level_check k ∷ []) (each k low high)
      in
      let second : (k : ℕ) → 0 < k → k < n → All P (edge_check k ∷ new_check k ∷ level_check k ∷ []) =
      λ k low high. All-tail P (parent_check k) (edge_check k ∷ new_check k ∷ level_check k ∷ []) (each k low high)
      in
      let edge : (k : ℕ) → 0 < k → k < n → LevelEntryIs levels k (HasEdgeFromParent t levels) =
      λ k low high. All-head P (edge_check k) (new_check k ∷ level_check k ∷ []) (second k low high)
      in
      let third : (k : ℕ) → 0 < k → k < n → All P (new_check k ∷ level_check k ∷ []) =
      λ k low high. All-tail P (edge_check k) (new_check k ∷ level_check k ∷ []) (second k low high)
      in
      let new : (k : ℕ) → 0 < k → k < n → IsFirstListed levels k = λ k low high. All-head P (new_check k) (level_check k ∷ []) (third k low high) in
      let level : (k : ℕ) → 0 < k → k < n → LevelEntryIs levels k (IsOneAbove levels) =
      λ k low high. All-head P (level_check k) [] (All-tail P (new_check k) (level_check k ∷ []) (third k low high))
      in
      let both : (k : ℕ) → k < n → All P (checks_of_successors k) =
      λ k high. all_of_range (λ i. All P (checks_of_successors i)) 0 n successors k (omega arith) (omega arith)
      in
      let closed : (k : ℕ) → k < n → AreLevelsClosedAt t levels k = λ k high. All-head P (closed_check k) (short_check k ∷ []) (both k high) in
      let short : (k : ℕ) → k < n → IsShortAt t levels k =
      λ k high. All-head P (short_check k) [] (All-tail P (closed_check k) (short_check k ∷ []) (both k high))
      in
      let twice : (i j : ℕ) (x y : LevelEntry) (m : NodeName) → IsEntryAt levels i x m → IsEntryAt levels j y m → i < j → ⊥ =
      λ i j x y m at_i at_j below. new j (omega arith) (slice_get_within levels.entries j y at_j.is) i x y m below at_i at_j
      in
      let is : AreLevelsOf t root.0 levels = record {
        nodes_are = nodes_from_checks (all_left P nodes_part (root_check ∷ (entries_part ++ successors_part)) all);
        begins = root.1;
        parents = λ k entry low at.
            let high = slice_get_within levels.entries k entry at in
            let p = parent k low high in
            let e = edge k low high in
            let l = level k low high in
            let earlier : IsParentEarlier k entry = subst (λ (x : LevelEntry). IsParentEarlier k x) (same_Some p.0 entry (sym p.1 ∙ at)) p.2 in
            let has : HasEdgeFromParent t levels entry = subst (HasEdgeFromParent t levels) (same_Some e.0 entry (sym e.1 ∙ at)) e.2 in
            let above : IsOneAbove levels entry = subst (IsOneAbove levels) (same_Some l.0 entry (sym l.1 ∙ at)) l.2 in
            let from_is = has.from_is in
            let from : above.0 ≡ has.from = same_Some above.0 has.from (sym above.1 ∙ from_is.is) in
            let one_above : entry.level ≡ has.from.level + 1 = above.2 ∙ ap (λ (x : LevelEntry). x.level + 1) from in
            record {
              from = has.from;
              source = has.source;
              target = has.target;
              counted = earlier.0;
              earlier = earlier.1;
              from_is = has.from_is;
              to_is = has.to_is;
              edge = has.edge;
              level = one_above;
            };
        once = λ i j x y m at_i at_j. elim (cases_order i j) [
          | inl same ↦ same
          | inr (inl below) ↦ absurd (twice i j x y m at_i at_j below)
          | inr (inr above) ↦ absurd (twice j i y x m at_j at_i above)
        ];
        closed = λ k entry p q at e.
            let high = slice_get_within levels.entries k entry at.is in
            let l = closed k high entry p q at e in
            let far = l.1 in
            record {
              position = l.0;
              entry = l.1;
              listed = l.2;
              near = elim (cases_lt (entry.level + 1) far.level) [
                | inl above ↦ absurd (short k high entry p q at e (l.0, l.1, l.2, above))
                | inr within ↦ within
              ];
            };
      } in
      (root.0, is)

  module _ (root : NodeName) (are : AreLevelsOf t root levels) where
    entry_at : (k : ℕ) → k < n → (entry : LevelEntry) × (slice_get levels.entries k ≡ Some entry)
    entry_at k high =
        let none : LevelEntry = record { node = 0; level = 0; parent = 0 } in
        (get_or levels.entries k none, slice_get-get_or levels.entries k none high)

    entry_passes : (k : ℕ) → 0 < k → k < n → All P (checks_of_entry k)
    entry_passes k low high =
        let e = entry_at k high in
        let has = are.parents k e.0 low e.1 in
        let from_is = has.from_is in
        let parent : LevelEntryIs levels k (IsParentEarlier k) = (e.0, e.1, (has.counted, has.earlier)) in
        let with_edge : HasEdgeFromParent t levels e.0 = record {
          from = has.from;
          source = has.source;
          target = has.target;
          from_is = has.from_is;
          to_is = has.to_is;
          edge = has.edge;
        } in
        let edge : LevelEntryIs levels k (HasEdgeFromParent t levels) = (e.0, e.1, with_edge) in
        let new : IsFirstListed levels k = λ before x y m below at_b at_k. let same = are.once before k x y m at_b at_k in omega arith in
        let level : LevelEntryIs levels k (IsOneAbove levels) = (e.0, e.1, (has.from, from_is.is, has.level)) in
        All-cons P (parent_check k) (edge_check k ∷ new_check k ∷ level_check k ∷ []) parent
        (All-cons P (edge_check k) (new_check k ∷ level_check k ∷ []) edge
        (All-cons P (new_check k) (level_check k ∷ []) new (All-cons P (level_check k) [] level (All-nil P))))

    successors_pass : (k : ℕ) → All P (checks_of_successors k)
    successors_pass k =
        let closed : AreLevelsClosedAt t levels k = λ entry p q at e. let near = are.closed k entry p q at e in (near.position, near.entry, near.listed) in
        let short : IsShortAt t levels k = λ entry p q at e far.
        let near = are.closed k entry p q at e in
        let low = near.near in
        let there = near.listed in
        let here = far.2 in
        let high = far.3 in
        let same = are.once near.position far.0 near.entry far.1 q near.listed far.2 in
        let one : near.entry ≡ far.1 = same_Some near.entry far.1 (sym there.is ∙ (ap (slice_get levels.entries) same ∙ here.is)) in
        let level = ap (λ (x : LevelEntry). x.level) one in
        omega arith
        in
        All-cons P (closed_check k) (short_check k ∷ []) closed (All-cons P (short_check k) [] short (All-nil P))

    checks_from_levels : All P (level_checks levels)
    checks_from_levels =
        let root_passes : (r : NodeName) × BeginsAtProblem t levels r = (root, are.begins) in
        let entries = all_joined P checks_of_entry (range_with_len 1 (n - 1)) (range_of_all (λ k. All P (checks_of_entry k)) 1 (n - 1) (λ k low high. entry_passes k (omega arith) (omega arith))) in
        let successors = all_joined P checks_of_successors (places levels.entries) (range_of_all (λ k. All P (checks_of_successors k)) 0 n (λ k low high. successors_pass k)) in
        All-append P nodes_part (root_check ∷ (entries_part ++ successors_part)) (checks_from_nodes are.nodes_are)
        (All-cons P root_check (entries_part ++ successors_part) root_passes (All-append P entries_part successors_part entries successors))

pub valid_passes_all : (t : Topology) (levels : Levels) → AreValidLevels t levels ↔ All (PassesCheck t levels) (level_checks levels)
valid_passes_all t levels = (λ valid. checks_from_levels t levels valid.0 valid.1, levels_from_checks t levels)
