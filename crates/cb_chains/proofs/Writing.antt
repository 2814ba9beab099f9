-- A chain that is written from its end.
use Rattle.std.proofs.Common.{◌≡◌, ℕ, ◌+◌, ◌<◌, ◌≤◌, List, [], ◌∷◌, ◌++◌, Some, length, drop, slice_get, slice_set, refl, sym, ap, ◌∙◌, arith}
use Rattle.std.proofs.lemmas.List.{append_assoc, append-nil, length-append, length-drop, length-set, length_push, drop_all, drop-set}
use Rattle.std.proofs.lemmas.Option.{slice_get_within}
use Rattle.cb_breadth.specs.declared.visit.Visit.{Visit}
use Rattle.cb_chains.specs.Trees.{ComeAfterParents, chain_at}
use Rattle.cb_chains.proofs.Ways.{chain_next}

-- what is written, after the chain that ends at a position, is the whole chain
pub record IsWrittenTo (visits : List Visit) (end size position start : ℕ) (path : List ℕ) : Type 0 where
  pub capacity : length path ≡ size
  pub low : start ≤ length path
  pub within : position ≤ length visits
  pub whole : chain_at visits position ++ drop start path ≡ chain_at visits end

pub none_written : (visits : List Visit) (end start : ℕ) (path : List ℕ) → end ≤ length visits → start ≡ length path → IsWrittenTo visits end (length path) end start path
none_written visits end start path within begins = record {
  capacity = refl;
  low = omega arith;
  within = within;
  whole = ap (λ (l : List ℕ). chain_at visits end ++ l) (drop_all start path (omega arith)) ∙ append-nil (chain_at visits end);
}

module _ (visits : List Visit) (after : ComeAfterParents visits) (end size position start : ℕ) (path : List ℕ)
    (before : IsWrittenTo visits end size position start path) (fits : length (chain_at visits end) ≤ size)
    (i : ℕ) (one : i + 1 ≡ position) (v : Visit) (at : slice_get visits i ≡ Some v) where
  here : chain_at visits position ≡ chain_at visits v.parent ++ v.node ∷ []
  here = ap (chain_at visits) (sym one) ∙ chain_next visits after i v at

  -- there is a position for the node
  pub some_start : 0 < start
  some_start =
      let some = ap length here in
      let more = length_push (chain_at visits v.parent) v.node in
      let parts = length-append (chain_at visits position) (drop start path) in
      let rest = length-drop start path in
      let whole = ap length before.whole in
      let capacity = before.capacity in
      let low = before.low in
      omega arith

  pub one_written : (start' : ℕ) (path' : List ℕ) → start' + 1 ≡ start → path' ≡ slice_set path start' v.node → IsWrittenTo visits end size v.parent start' path'
  one_written start' path' next is =
      let low = before.low in
      let fresh : drop start' (slice_set path start' v.node) ≡ v.node ∷ drop (start' + 1) path = drop-set path start' v.node (omega arith) in
      let same = ap length is in
      let set = length-set path start' v.node in
      let capacity = before.capacity in
      let parent = after i v at in
      let there = slice_get_within visits i v at in
      record {
        capacity = omega arith;
        low = omega arith;
        within = omega arith;
        whole = ap (λ (l : List ℕ). chain_at visits v.parent ++ drop start' l) is
            ∙ (ap (λ (l : List ℕ). chain_at visits v.parent ++ l) (fresh ∙ ap (λ k. v.node ∷ drop k path) next)
            ∙ (sym (append_assoc (chain_at visits v.parent) (v.node ∷ []) (drop start path))
            ∙ (ap (λ (l : List ℕ). l ++ drop start path) (sym here)
            ∙ before.whole)));
      }

pub all_written : (visits : List Visit) (end size position start : ℕ) (path : List ℕ) → IsWrittenTo visits end size position start path → position ≡ 0
    → drop start path ≡ chain_at visits end
all_written visits end size position start path is done = ap (λ k. chain_at visits k ++ drop start path) (sym done) ∙ is.whole
