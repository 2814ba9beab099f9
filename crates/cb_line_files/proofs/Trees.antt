-- Sets of nodes, as the lists of their keys.
use Rattle.std.proofs.Common.{◌≡◌, List, sym, ◌∙◌, inl, inr, true}
use Rattle.std.specs.BTreeSet.{BTreeSet, Updates}
use Rattle.std.specs.List.Sorted.{IsStrictlySortedBy}
use Rattle.std.specs.Ordering.{eq_by_cmp}
use Rattle.std.proofs.lemmas.Bool.{cases_Bool}
use Rattle.std.proofs.lemmas.Map.Keys.{Less-from_sorted}
use Rattle.std.proofs.lemmas.Map.Views.{btree_set_contains_iff}
use Rattle.cb_model.specs.declared.node.NodeName.{NodeName}
use Rattle.cb_model.specs.Order.{Rises}
use Rattle.cb_model.specs.NodeOrder.{node_cmp}
use Rattle.cb_model.proofs.Rising.{node_cmp_total, node_cmp_exact}
use Rattle.cb_network.proofs.Sets.{tied, tied_same}
use Rattle.cb_line_files.specs.Steps.{AddsNodes}

pub added : (old new : BTreeSet NodeName) (k : NodeName) → Updates node_cmp old new k true → AddsNodes (λ n. n ≡ k) old.keys new.keys
added old new k updates n =
    let before = btree_set_contains_iff node_cmp_total node_cmp_exact old n in
    let after = btree_set_contains_iff node_cmp_total node_cmp_exact new n in
    let is = updates.0 n in
    elim (cases_Bool (eq_by_cmp node_cmp k n)) [
      | inl here ↦
          let now = rw here at is in
          (λ _. inr (sym (tied node_cmp_total node_cmp_exact k n here)), λ _. after.0 now)
      | inr other ↦
          let now = rw other at is in (
            λ c. inl (before.0 (sym now ∙ after.1 c)),
            λ h. elim h [
              | inl c ↦ after.0 (now ∙ before.1 c)
              | inr e ↦ let here = tied_same node_cmp_total node_cmp_exact k n (sym e) in absurd (cc)
            ],
          )
    ]

pub rises_of_sorted : (ks : List NodeName) → IsStrictlySortedBy node_cmp ks → Rises node_cmp ks
rises_of_sorted ks sorted i j d below within = Less-from_sorted node_cmp ks i j d sorted below within
