-- Codes, entry by entry.
use Rattle.std.proofs.Common.{◌≡◌, ◌==◌, ◌↔◌, inl, inr, ℕ, ◌+◌, ◌<◌, ◌≤◌, List, [], ◌∷◌, ◌++◌, Bool, true, false, length, replicate, get_or, refl, sym, ap, subst, eqb, ◌∙◌, Some, arith}
use Rattle.std.specs.Prelude.{slice_get, slice_set, slice_index_or}
use Rattle.std.specs.List.{All, Contains, dedup, list_any}
use Rattle.std.specs.List.Sorted.{IsPermutation, IsSorted}
use Rattle.std.specs.Ordering.{nat_cmp}
use Rattle.std.proofs.lemmas.Bool.{cases_eq, cases_lt, eqb-true, eq-eqb}
use Rattle.std.proofs.lemmas.List.{length-set, length-replicate, get_or-set_other}
use Rattle.std.proofs.lemmas.List.Elements.{All-push, Contains-append_left, Contains-push, Contains-push_cases, Contains-get_or}
use Rattle.std.proofs.lemmas.List.Folds.{list_any_at}
use Rattle.std.proofs.lemmas.List.FromFn.{length-map-range_with_len, get_or-map-range_with_len}
use Rattle.std.proofs.lemmas.List.Kept.{Contains-dedup_nat, Contains-from_dedup, AllPairs-from_increasing}
use Rattle.std.proofs.lemmas.List.Sorted.{Contains-permutation, IsPermutation-sym}
use Rattle.std.proofs.lemmas.Map.Keys.{IsStrictlyIncreasing-dedup}
use Rattle.std.proofs.lemmas.Map.Views.{Contains-from_any}
use Rattle.std.proofs.lemmas.Option.{same_Some, slice_get_within}
use Rattle.cb_compact.specs.Compact.{with_ones}
use Rattle.cb_nodes.specs.declared.id.NodeId.{NodeId}
use Rattle.cb_successors.specs.Rows.{Has}
use Rattle.cb_successors.proofs.Marks.{has_set, set_cases, nothing}
use Rattle.cb_graph.specs.Edges.{number}
use Rattle.cb_checker.specs.Codes.{AreColumnsListed, IsCodeOfListed}
use Rattle.cb_checker.specs.Listed.{IsAmongPlaced, AreListed}

-- one of the first placed nodes has this number
abbrev pub IsAmongTo : List NodeId → ℕ → ℕ → Type 0
IsAmongTo placed to k = (place : ℕ) × (place < to) × (slice_get placed place ≡ Some (number k))

-- for each column, whether it is one of the first placed nodes
pub record IsCodeBy (columns placed : List NodeId) (to : ℕ) (code : List Bool) : Type 0 where
  pub width : length code ≡ length columns
  pub each : (place : ℕ) (id : NodeId) → slice_get columns place ≡ Some id → Has code place ↔ IsAmongTo placed to id.0

pub none_coded : (columns placed : List NodeId) → IsCodeBy columns placed 0 (replicate (length columns) false)
none_coded columns placed = record {
  width = length-replicate (length columns) false;
  each = λ place id at. (
    λ has. absurd (nothing (length columns) place has),
    λ among. absurd (let low = among.1 in omega arith),
  );
}

pub still : (row : List Bool) (m k : ℕ) → m < length row → Has row k → Has (slice_set row m true) k
still row m k within has = elim (cases_eq k m) [
  | inl same ↦ subst (Has (slice_set row m true)) (sym same) (has_set row m within)
  | inr other ↦ get_or-set_other row m k true false other ∙ has
]

module _ (placed : List NodeId) (to : ℕ) where
  grown : (k : ℕ) → IsAmongTo placed to k → IsAmongTo placed (to + 1) k
  grown k among = (among.0, (let low = among.1 in omega arith), among.2)

  -- the last one of them is this one
  last_is : (here : NodeId) → slice_get placed to ≡ Some here → (k place : ℕ) → to ≤ place → place < to + 1 → slice_get placed place ≡ Some (number k)
      → here ≡ number k
  last_is here is_here k place high low at =
      let last : place ≡ to = omega arith in
      same_Some here (number k) (sym is_here ∙ subst (λ j. slice_get placed j ≡ Some (number k)) last at)

module _ (columns placed : List NodeId) (to : ℕ) (code : List Bool) (here : NodeId) (old : IsCodeBy columns placed to code)
    (is_here : slice_get placed to ≡ Some here) where
  pub column_coded : (column : ℕ) → slice_get columns column ≡ Some here → ((other : ℕ) → slice_get columns other ≡ Some here → other ≡ column)
      → IsCodeBy columns placed (to + 1) (slice_set code column true)
  column_coded column at_column alone =
      let within : column < length code = (let low = slice_get_within columns column here at_column in let wide = old.width in omega arith) in
      record {
        width = length-set code column true ∙ old.width;
        each = λ place id at. (
          λ has. elim (set_cases code column place has) [
            | inl same ↦
                let one : here ≡ id = same_Some here id (sym at_column ∙ subst (λ k. slice_get columns k ≡ Some id) same at) in
                (to, omega arith, is_here ∙ ap Some one)
            | inr had ↦ grown placed to id.0 ((old.each place id at).0 had)
          ],
          λ among. elim (cases_lt among.0 to) [
            | inl low ↦ still code column place within ((old.each place id at).1 (among.0, low, among.2))
            | inr high ↦
                let one : here ≡ id = last_is placed to here is_here id.0 among.0 high among.1 among.2 in
                let same : place ≡ column = alone place (at ∙ ap Some (sym one)) in
                subst (Has (slice_set code column true)) (sym same) (has_set code column within)
          ],
        );
      }

  pub no_column_coded : ¬ IsAmongPlaced columns here.0 → IsCodeBy columns placed (to + 1) code
  no_column_coded none = record {
    width = old.width;
    each = λ place id at. (
      λ has. grown placed to id.0 ((old.each place id at).0 has),
      λ among. elim (cases_lt among.0 to) [
        | inl low ↦ (old.each place id at).1 (among.0, low, among.2)
        | inr high ↦
            let one : here ≡ id = last_is placed to here is_here id.0 among.0 high among.1 among.2 in
            absurd (none (place, at ∙ ap Some (sym one)))
      ],
    );
  }

-- two truth values, each true where the other is
alike : (a b : Bool) → (a ≡ true → b ≡ true) → (b ≡ true → a ≡ true) → a ≡ b
alike true b to from = sym (to refl)
alike false true to from = from refl
alike false false to from = refl

pub all_coded : (columns placed : List NodeId) (to : ℕ) (listed code : List Bool) → length placed ≤ to → AreListed listed placed → IsCodeBy columns placed to code
    → IsCodeOfListed columns listed code
all_coded columns placed to listed code end each old = record {
  width = old.width;
  each = λ place id at.
      let coded = old.each place id at in
      alike (slice_index_or code place false) (slice_index_or listed id.0 false)
      (λ has. let among = coded.0 has in (each id.0).1 (among.0, among.2))
      (λ has.
      let among = (each id.0).0 has in
      let within = slice_get_within placed among.0 (number id.0) among.1 in
      coded.1 (among.0, omega arith, among.1));
}

-- the positions of the columns among the first placed nodes, in some order
pub record AreListedTo (columns placed : List NodeId) (to : ℕ) (items : List ℕ) : Type 0 where
  pub within : All (λ place. place < length columns) items
  pub each : (place : ℕ) (id : NodeId) → slice_get columns place ≡ Some id → Contains items place ↔ IsAmongTo placed to id.0

pub none_listed : (columns placed : List NodeId) → AreListedTo columns placed 0 []
none_listed columns placed = record {
  within = λ k d lt. absurd (omega arith);
  each = λ place id at. (λ has. absurd (let lt = has.1 in omega arith), λ among. absurd (let low = among.1 in omega arith));
}

module _ (columns placed : List NodeId) (to : ℕ) (items : List ℕ) (here : NodeId) (old : AreListedTo columns placed to items)
    (is_here : slice_get placed to ≡ Some here) where
  pub column_listed : (column : ℕ) → slice_get columns column ≡ Some here → ((other : ℕ) → slice_get columns other ≡ Some here → other ≡ column)
      → AreListedTo columns placed (to + 1) (items ++ column ∷ [])
  column_listed column at_column alone = record {
    within = All-push (λ place. place < length columns) items column old.within (slice_get_within columns column here at_column);
    each = λ place id at. (
      λ has. elim (Contains-push_cases items column place has) [
        | inl had ↦ grown placed to id.0 ((old.each place id at).0 had)
        | inr same ↦
            let one : here ≡ id = same_Some here id (sym at_column ∙ subst (λ k. slice_get columns k ≡ Some id) (sym same) at) in
            (to, omega arith, is_here ∙ ap Some one)
      ],
      λ among. elim (cases_lt among.0 to) [
        | inl low ↦ Contains-append_left items (column ∷ []) place ((old.each place id at).1 (among.0, low, among.2))
        | inr high ↦
            let one : here ≡ id = last_is placed to here is_here id.0 among.0 high among.1 among.2 in
            let same : place ≡ column = alone place (at ∙ ap Some (sym one)) in
            subst (Contains (items ++ column ∷ [])) (sym same) (Contains-push items column)
      ],
    );
  }

  pub no_column_listed : ¬ IsAmongPlaced columns here.0 → AreListedTo columns placed (to + 1) items
  no_column_listed none = record {
    within = old.within;
    each = λ place id at. (
      λ has. grown placed to id.0 ((old.each place id at).0 has),
      λ among. elim (cases_lt among.0 to) [
        | inl low ↦ (old.each place id at).1 (among.0, low, among.2)
        | inr high ↦
            let one : here ≡ id = last_is placed to here is_here id.0 among.0 high among.1 among.2 in
            absurd (none (place, at ∙ ap Some (sym one)))
      ],
    );
  }

-- put in order, each once
pub all_listed : (columns placed : List NodeId) (to : ℕ) (items sorted : List ℕ) → length placed ≤ to → AreListedTo columns placed to items
    → IsPermutation items sorted → IsSorted nat_cmp sorted → AreColumnsListed columns placed (dedup eqb sorted)
all_listed columns placed to items sorted end listed moved ordered =
    let list = dedup eqb sorted in
    let back : (k : ℕ) → Contains list k → Contains items k =
    λ k has. Contains-permutation sorted items k (IsPermutation-sym items sorted moved) (Contains-from_dedup eqb sorted k has) in
    record {
      rising = AllPairs-from_increasing list (IsStrictlyIncreasing-dedup sorted ordered);
      within = λ k d lt.
          let place = get_or list k d in
          let has = back place (Contains-get_or list k d lt) in
          subst (λ place. place < length columns) has.2 (listed.within has.0 place has.1);
      each = λ place id at. (
        λ has. let among = (listed.each place id at).0 (back place has) in (among.0, among.2),
        λ among.
            let within = slice_get_within placed among.0 (number id.0) among.1 in
            Contains-dedup_nat sorted place (Contains-permutation items sorted place moved ((listed.each place id at).1 (among.0, omega arith, among.1))),
      );
    }

-- the row that has its ones at these positions is the code
pub code_at : (columns placed : List NodeId) (positions : List ℕ) (listed : List Bool) → AreListed listed placed → AreColumnsListed columns placed positions
    → IsCodeOfListed columns listed (with_ones positions (length columns))
code_at columns placed positions listed marked are =
    let n = length columns in
    let value : ℕ → Bool = λ k. list_any (λ place. k == place) positions in
    record {
      width = length-map-range_with_len value 0 n;
      each = λ k id column.
          let low : k < n = slice_get_within columns k id column in
          let at : slice_index_or (with_ones positions n) k false ≡ value k = get_or-map-range_with_len value 0 n k k false (omega arith) (omega arith) in
          alike (slice_index_or (with_ones positions n) k false) (slice_index_or listed id.0 false)
          (λ has.
          (marked id.0).1 ((are.each k id column).0 (Contains-from_any (λ x y same. eqb-true x y same) k positions (sym at ∙ has))))
          (λ has.
          let among = (are.each k id column).1 ((marked id.0).0 has) in
          at ∙ list_any_at (λ place. k == place) positions among.0 k among.1 (eq-eqb k (get_or positions among.0 k) (sym among.2)));
    }
