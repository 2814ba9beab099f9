-- The nodes of the first visits of a search.
use Rattle.std.proofs.Common.{◌≡◌, ◌↔◌, ◌⊎◌, inl, inr, ℕ, ◌+◌, ◌<◌, List, Some, length, slice_get, sym, subst, ◌∙◌, arith}
use Rattle.std.proofs.lemmas.Bool.{cases_eq}
use Rattle.std.proofs.lemmas.Option.{slice_get_within, same_Some}
use Rattle.cb_breadth.specs.declared.visit.Visit.{Visit}
use Rattle.cb_breadth.specs.Trees.{HasNode, visit}

-- one of the first visits is that of the node of this number
pub record IsSeen (nodes : List ℕ) (visits : List Visit) (to node : ℕ) : Type 0 where
  pub place : ℕ
  pub low : place < to
  pub seen : Visit
  pub is : slice_get visits place ≡ Some seen
  pub at : slice_get nodes seen.node ≡ Some node

module _ (nodes : List ℕ) (visits : List Visit) where
  pub none_seen : (node : ℕ) → ¬ IsSeen nodes visits 0 node
  none_seen node seen = (let low = seen.low in omega arith)

  -- one visit more
  module _ (to : ℕ) (v : Visit) (node : ℕ) (is : slice_get visits to ≡ Some v) (at : slice_get nodes v.node ≡ Some node) where
    pub one_seen : (m : ℕ) → IsSeen nodes visits (to + 1) m ↔ (IsSeen nodes visits to m ⊎ (m ≡ node))
    one_seen m = (
      λ seen. elim (cases_eq seen.place to) [
        | inl same ↦
            let alike : seen.seen ≡ v = same_Some seen.seen v (sym seen.is ∙ subst (λ k. slice_get visits k ≡ Some v) (sym same) is) in
            inr (same_Some m node (sym seen.at ∙ subst (λ (w : Visit). slice_get nodes w.node ≡ Some node) (sym alike) at))
        | inr other ↦ inl (record { place = seen.place; low = (let low = seen.low in omega arith); seen = seen.seen; is = seen.is; at = seen.at })
      ],
      λ either. elim either [
        | inl seen ↦ record { place = seen.place; low = (let low = seen.low in omega arith); seen = seen.seen; is = seen.is; at = seen.at }
        | inr same ↦ record { place = to; low = omega arith; seen = v; is = is; at = subst (λ k. slice_get nodes v.node ≡ Some k) (sym same) at }
      ],
    )

    pub other_seen : (m : ℕ) → ¬ (m ≡ node) → IsSeen nodes visits (to + 1) m ↔ IsSeen nodes visits to m
    other_seen m other = (
      λ seen. elim ((one_seen m).0 seen) [ inl before ↦ before | inr same ↦ absurd (other same) ],
      λ seen. (one_seen m).1 (inl seen),
    )

  pub all_seen : (to : ℕ) → length visits ≡ to → (node : ℕ) → IsSeen nodes visits to node ↔ HasNode nodes visits node
  all_seen to all node = (
    λ seen. record { rank = seen.seen.node; at = seen.at; visited = record { place = seen.place; parent = seen.seen.parent; is = seen.is } },
    λ has. record {
      place = has.visited.place;
      low = (let low = slice_get_within visits has.visited.place (visit has.rank has.visited.parent) has.visited.is in omega arith);
      seen = visit has.rank has.visited.parent;
      is = has.visited.is;
      at = has.at;
    },
  )
