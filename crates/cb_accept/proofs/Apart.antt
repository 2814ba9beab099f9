-- How many things are of one of two kinds, where none is of both.
use Rattle.std.proofs.Common.{◌≡◌, ◌⊎◌, ◌↔◌, ℕ, zero, suc, ◌+◌, ◌-◌, ◌≤◌, List, [], ◌∷◌, refl, sym, ap, subst, ◌∙◌, inl, inr, arith, true, false}
use Rattle.std.specs.FinSet as set
use Rattle.std.specs.Cmp.{IsTotalOrder}
use Rattle.std.specs.List.{list_any}
use Rattle.std.specs.Ordering.{eq_by_cmp}
use Rattle.std.specs.declared.cmp.Ordering.{Ordering}
use Rattle.cb_model.specs.declared.node.NodeName.{NodeName}
use Rattle.cb_model.specs.NodeOrder.{node_cmp}
use Rattle.cb_model.proofs.Rising.{node_cmp_total, node_cmp_exact}
use Rattle.cb_network.specs.Nodes.{IsCount}
use Rattle.cb_network.proofs.Sets.{tied_same, decide_key, or_first, in_insert, in_remove}

module _ {K : Type 0} {R : K → K → Ordering} (total : IsTotalOrder R) (exact : set.IsAntisymmetric R) where
  none_is_empty : (u : set.FinSet R) → set.items u ≡ [] → set.len u ≡ 0
  none_is_empty u none =
      let nothing : (q : K) → set.contains u q ≡ set.contains (set.empty {R = R}) q = λ q.
      set.contains-items u q ∙ (ap (list_any (eq_by_cmp R q)) none ∙ sym (set.contains-empty R q)) in
      ap set.len (set.same_set total exact u set.empty nothing) ∙ set.len-empty R

  first_is_in : (u : set.FinSet R) (k : K) (ks : List K) → set.items u ≡ k ∷ ks → set.contains u k ≡ true
  first_is_in u k ks is =
      set.contains-items u k ∙ (ap (list_any (eq_by_cmp R k)) is ∙ or_first (eq_by_cmp R k k) _ (tied_same total exact k k refl))

  some_in : (u : set.FinSet R) (k : K) → set.contains u k ≡ true → set.len u ≡ 0 → ⊥
  some_in u k in_u none =
      let e = sym in_u ∙ (ap (λ (s : set.FinSet R). set.contains s k) (set.empty_of_len u none) ∙ set.contains-empty R k) in
      cc

  -- the set has the keys of both, and as many as both together
  pub record IsJoined (s u w : set.FinSet R) : Type 0 where
    pub members : (q : K) → (set.contains w q ≡ true) ↔ ((set.contains s q ≡ true) ⊎ (set.contains u q ≡ true))
    pub len : set.len w ≡ set.len s + set.len u

  abbrev AreApart : set.FinSet R → set.FinSet R → Type 0
  AreApart s u = (q : K) → set.contains s q ≡ true → set.contains u q ≡ true → ⊥

  -- a key goes over from the one to the other
  moved : (s u w : set.FinSet R) (k : K) → set.contains u k ≡ true → AreApart s u → IsJoined (set.insert s k) (set.remove u k) w
      → IsJoined s u w
  moved s u w k in_u apart joined =
      let fresh : set.contains s k ≡ false = elim (set.contains s k) as (λ b. set.contains s k ≡ b → set.contains s k ≡ false) [ true ↦ λ in_s. absurd (apart k in_s in_u) | false ↦ λ e. e ] refl in
      let more : set.len (set.insert s k) ≡ set.len s + 1 = rw fresh at (set.len-insert total s k) in
      let less : set.len (set.remove u k) ≡ set.len u - 1 = rw in_u at (set.len-remove total u k) in
      let some = some_in u k in_u in
      let len = joined.len in
      record {
        members = λ q. (
          λ h. elim ((joined.members q).0 h) [
            | inl now ↦ elim ((in_insert total exact s k q).0 now) [
              | inl same ↦ inr (subst (λ (x : K). set.contains u x ≡ true) (sym same) in_u)
              | inr old ↦ inl old
            ]
            | inr rest ↦ inr ((in_remove total exact u k q).0 rest).1
          ],
          λ h. (joined.members q).1 (elim h [
            | inl old ↦ inl ((in_insert total exact s k q).1 (inr old))
            | inr rest ↦ elim (decide_key total exact q k) [
              | inl same ↦ inl ((in_insert total exact s k q).1 (inl same))
              | inr other ↦ inr ((in_remove total exact u k q).1 (other, rest))
            ]
          ]),
        );
        len = omega arith;
      }

  -- both together, where the second has at most n keys
  join : (n : ℕ) (s u : set.FinSet R) → set.len u ≤ n → AreApart s u → (w : set.FinSet R) × IsJoined s u w
  join zero s u few apart =
      let none : set.len u ≡ 0 = omega arith in
      (s, record { members = λ q. (λ h. inl h, λ h. elim h [ inl in_s ↦ in_s | inr in_u ↦ absurd (some_in u q in_u none) ]); len = omega arith })
  join (suc n) s u few apart = elim (set.items u) as (λ ks. set.items u ≡ ks → (w : set.FinSet R) × IsJoined s u w) [
    | [] ↦ λ none. join n s u (let e = none_is_empty u none in omega arith) apart
    | k ∷ ks ↦ λ is.
        let in_u = first_is_in u k ks is in
        let less : set.len (set.remove u k) ≡ set.len u - 1 = rw in_u at (set.len-remove total u k) in
        let some = some_in u k in_u in
        let (w, joined) = join n (set.insert s k) (set.remove u k) (omega arith) (λ q in_s in_rest.
        let rest = (in_remove total exact u k q).0 in_rest in
        elim ((in_insert total exact s k q).0 in_s) [ inl same ↦ rest.0 same | inr old ↦ apart q old rest.1 ]) in
        (w, moved s u w k in_u apart joined)
  ] refl

module _ (P Q : NodeName → Type 0) where
  -- m nodes are such that P and k such that Q, and none is both: so m + k are such that P or Q
  pub count_of_either : (either : NodeName → Type 0) (m k : ℕ) → ((n : NodeName) → either n ↔ (P n ⊎ Q n)) → ((n : NodeName) → P n → Q n → ⊥)
      → IsCount P m → IsCount Q k → IsCount either (m + k)
  count_of_either either m k is apart count_p count_q =
      let (w, joined) = join node_cmp_total node_cmp_exact (set.len count_q.nodes) count_p.nodes count_q.nodes (omega arith)
      (λ q in_p in_q. apart q ((count_p.members q).0 in_p) ((count_q.members q).0 in_q)) in
      let len = joined.len in
      let len_p = count_p.len in
      let len_q = count_q.len in
      record {
        nodes = w;
        members = λ q. (
          λ h. (is q).1 (elim ((joined.members q).0 h) [ inl in_p ↦ inl ((count_p.members q).0 in_p) | inr in_q ↦ inr ((count_q.members q).0 in_q) ]),
          λ e. (joined.members q).1 (elim ((is q).0 e) [ inl p ↦ inl ((count_p.members q).1 p) | inr r ↦ inr ((count_q.members q).1 r) ]),
        );
        len = omega arith;
      }

-- one node alone
pub count_of_one : (k : NodeName) → IsCount (λ n. n ≡ k) 1
count_of_one k =
    let more = set.len-insert node_cmp_total set.empty k in
    let new = set.contains-empty node_cmp k in
    let grown = rw new at more in
    let none = set.len-empty node_cmp in
    record {
      nodes = set.insert set.empty k;
      members = λ n. (
        λ h. elim ((in_insert node_cmp_total node_cmp_exact set.empty k n).0 h) [ inl same ↦ same | inr old ↦ let e = set.contains-empty node_cmp n in absurd (cc) ],
        λ same. (in_insert node_cmp_total node_cmp_exact set.empty k n).1 (inl same),
      );
      len = omega arith;
    }

-- no node at all
pub count_of_none : (P : NodeName → Type 0) → ((n : NodeName) → ¬ P n) → IsCount P 0
count_of_none P none = record {
  nodes = set.empty;
  members = λ n. (λ h. let e = set.contains-empty node_cmp n in absurd (cc), λ p. absurd (none n p));
  len = set.len-empty node_cmp;
}
