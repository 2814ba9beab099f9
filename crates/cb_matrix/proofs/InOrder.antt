-- The columns of a set of nodes, listed node by node and then put in order.
use Rattle.std.proofs.Common.{◌≡◌, ◌==◌, ◌↔◌, ℕ, ◌<◌, List, [], ◌∷◌, ◌++◌, Bool, false, length, None, Some, slice_index_or, get_or, sym, subst, ◌∙◌, ◌⊎◌, inl, inr, eqb, arith}
use Rattle.std.specs.List.{All, Contains, dedup, list_any}
use Rattle.std.specs.List.Sorted.{IsPermutation, IsSorted}
use Rattle.std.specs.Ordering.{nat_cmp}
use Rattle.std.proofs.lemmas.Bool.{cases_lt, eqb-true, eq-eqb}
use Rattle.std.proofs.lemmas.List.FromFn.{length-map-range_with_len, get_or-map-range_with_len}
use Rattle.std.proofs.lemmas.Map.Views.{Contains-from_any}
use Rattle.std.proofs.lemmas.List.Elements.{All-push, Contains-append_left, Contains-push, Contains-push_cases, Contains-get_or}
use Rattle.std.proofs.lemmas.List.Folds.{list_any_at}
use Rattle.std.proofs.lemmas.List.Kept.{Contains-dedup_nat, Contains-from_dedup, AllPairs-from_increasing}
use Rattle.std.proofs.lemmas.List.Sorted.{Contains-permutation, IsPermutation-sym}
use Rattle.std.proofs.lemmas.Map.Keys.{IsStrictlyIncreasing-dedup}
use Rattle.std.proofs.lemmas.Option.{slice_get_within}
use Rattle.cb_nodes.specs.declared.id.NodeId.{NodeId}
use Rattle.cb_bits.specs.Bits.{difference, HasNoneFrom}
use Rattle.cb_successors.specs.Rows.{Has}
use Rattle.cb_topo.specs.Columns.{IsPositionOf}
use Rattle.cb_graph.specs.Edges.{number}
use Rattle.cb_compact.specs.Compact.{with_ones}
use Rattle.cb_matrix.specs.Codes.{AreColumnsIn, IsCodeWhere}
use Rattle.cb_matrix.proofs.Passed.{Agrees, AddedTo, is_there, joins, passes, then_other}
use Rattle.cb_bits.proofs.NextOnes.{without_at}

-- the positions of columns whose nodes are in the set, in some order
pub record AreListedBy (columns : List NodeId) (Set : ℕ → Type 0) (items : List ℕ) : Type 0 where
  pub within : All (λ place. place < length columns) items
  pub each : Agrees columns (Contains items) Set

module _ (columns : List NodeId) (row last : List Bool) where
  pub none_listed : ((k : ℕ) → ¬ Has last k) → AreListedBy columns (AddedTo row last 0) []
  none_listed none = record {
    within = λ k d lt. absurd (omega arith);
    each = λ k m there. (
      λ has. absurd (let lt = has.1 in omega arith),
      λ is. elim is [ inl had ↦ absurd (none m had) | inr both ↦ absurd (let lt = both.1 in omega arith) ],
    );
  }

module _ (columns : List NodeId) (Old New : ℕ → Type 0) (items : List ℕ) (node : ℕ) (old : AreListedBy columns Old items) where
  pub one_listed : (place : ℕ) → IsPositionOf columns (number node) (Some place) → ((m : ℕ) → New m ↔ (Old m ⊎ (m ≡ node))) → AreListedBy columns New (items ++ place ∷ [])
  one_listed place at more = record {
    within = All-push (λ place. place < length columns) items place old.within (slice_get_within columns place (number node) (is_there columns node place at));
    each = joins columns node place at (Contains items) (Contains (items ++ place ∷ [])) Old New old.each
        (λ k. (
          λ has. elim (Contains-push_cases items place k has) [ inl had ↦ inl had | inr same ↦ inr (sym same) ],
          λ is. elim is [ inl had ↦ Contains-append_left items (place ∷ []) k had | inr same ↦ subst (Contains (items ++ place ∷ [])) (sym same) (Contains-push items place) ],
        )) more;
  }

  pub none_more : IsPositionOf columns (number node) None → ((m : ℕ) → ¬ (m ≡ node) → New m ↔ Old m) → AreListedBy columns New items
  none_more none same = record { within = old.within; each = passes columns (Contains items) Old New node none old.each same }

-- nothing is listed of nothing
pub nothing_listed : (columns : List NodeId) (Set : ℕ → Type 0) → ((k : ℕ) → ¬ Set k) → AreListedBy columns Set []
nothing_listed columns Set none = record {
  within = λ k d lt. absurd (omega arith);
  each = λ k m there. (λ has. absurd (let lt = has.1 in omega arith), λ is. absurd (none m is));
}

-- put in order, each once
pub in_order : (columns : List NodeId) (Set : ℕ → Type 0) (items sorted : List ℕ) → AreListedBy columns Set items → IsPermutation items sorted → IsSorted nat_cmp sorted
    → AreColumnsIn columns Set (dedup eqb sorted)
in_order columns Set items sorted listed moved ordered =
    let list = dedup eqb sorted in
    let back : (k : ℕ) → Contains list k → Contains items k =
    λ k has. Contains-permutation sorted items k (IsPermutation-sym items sorted moved) (Contains-from_dedup eqb sorted k has) in
    record {
      rising = AllPairs-from_increasing list (IsStrictlyIncreasing-dedup sorted ordered);
      within = λ k d lt.
          let place = get_or list k d in
          let has = back place (Contains-get_or list k d lt) in
          subst (λ place. place < length columns) has.2 (listed.within has.0 place has.1);
      each = λ k m there. (
        λ has. (listed.each k m there).0 (back k has),
        λ is. Contains-dedup_nat sorted k (Contains-permutation items sorted k moved ((listed.each k m there).1 is)),
      );
    }

-- a set that is the same
pub as_listed : (columns : List NodeId) (Set Same : ℕ → Type 0) (items : List ℕ) → ((m : ℕ) → Set m ↔ Same m) → AreListedBy columns Set items → AreListedBy columns Same items
as_listed columns Set Same items alike listed = record {
  within = listed.within;
  each = λ k m there. (λ has. (alike m).0 ((listed.each k m there).0 has), λ is. (listed.each k m there).1 ((alike m).1 is));
}

-- the nodes that a row has and the last one lacks, where the last one has none
pub all_listed : (columns : List NodeId) (row last : List Bool) → length row ≡ length last → ((k : ℕ) → ¬ Has last k) → (to : ℕ) → HasNoneFrom (difference row last) to
    → (items sorted : List ℕ) → AreListedBy columns (AddedTo row last to) items → IsPermutation items sorted → IsSorted nat_cmp sorted
    → AreColumnsIn columns (Has row) (dedup eqb sorted)
all_listed columns row last size none to end items sorted listed moved ordered =
    in_order columns (Has row) items sorted (as_listed columns (AddedTo row last to) (Has row) items (λ m. (
      λ is. elim is [ inl had ↦ absurd (none m had) | inr both ↦ both.0 ],
      λ has. elim (cases_lt m to) [
        | inl low ↦ inr (has, low)
        | inr on ↦ inl (then_other _ _ (sym (without_at row last size m) ∙ end m on) has)
      ],
    )) listed) moved ordered

-- the row that has its ones at these positions has each column of which this holds
pub coded_in : (columns : List NodeId) (P : ℕ → Type 0) (positions : List ℕ) → AreColumnsIn columns P positions → IsCodeWhere columns P (with_ones positions (length columns))
coded_in columns P positions are =
    let n = length columns in
    let value : ℕ → Bool = λ k. list_any (λ place. k == place) positions in
    record {
      width = length-map-range_with_len value 0 n;
      each = λ k m there.
          let low : k < n = slice_get_within columns k (number m) there in
          let at : slice_index_or (with_ones positions n) k false ≡ value k = get_or-map-range_with_len value 0 n k k false (omega arith) (omega arith) in (
            λ has. (are.each k m there).0 (Contains-from_any (λ x y same. eqb-true x y same) k positions (sym at ∙ has)),
            λ has.
                let among = (are.each k m there).1 has in
                at ∙ list_any_at (λ place. k == place) positions among.0 k among.1 (eq-eqb k (get_or positions among.0 k) (sym among.2)),
          );
    }
