-- Nodes of a list that are found, and get a parent.
use Rattle.std.proofs.Common.{◌≡◌, ◌⊎◌, inl, inr, ℕ, ◌+◌, ◌<◌, List, [], ◌∷◌, ◌++◌, Bool, true, false, Some, length, slice_get, slice_set, slice_index_or, refl, sym, ap, subst, ◌∙◌, arith}
use Rattle.std.specs.List.{Contains}
use Rattle.std.proofs.lemmas.Bool.{cases_lt}
use Rattle.std.proofs.lemmas.List.{length-set, get_or-set_same, get_or-set_other}
use Rattle.std.proofs.lemmas.List.Elements.{Contains-append_left, Contains-push, Contains-push_cases}
use Rattle.std.proofs.lemmas.Option.{same_Some}
use Rattle.cb_successors.specs.Rows.{Has}
use Rattle.cb_successors.proofs.Marks.{has_set, set_cases}
use Rattle.cb_breadth.specs.Visiting.{IsNew}
use Rattle.cb_breadth.specs.Levels.{MarksNewNodes}
use Rattle.cb_breadth.proofs.Lists.{never_both, has_still}

module _ (parent : ℕ) (next : List ℕ) (found : List Bool) (parents tier : List ℕ) where
  pub marked_none : length parents ≡ length found → MarksNewNodes parent next 0 found parents tier found parents tier
  marked_none capacity = record {
    found_are = λ node. (λ has. inl has, λ either. elim either [ inl has ↦ has | inr new ↦ absurd (let b = new.below in omega arith) ]);
    listed = λ node. (λ has. inl has, λ either. elim either [ inl has ↦ has | inr new ↦ absurd (let b = new.below in omega arith) ]);
    new_parent = λ node new. absurd (let b = new.below in omega arith);
    old_parent = λ node has. refl;
    capacity = refl;
    parents_capacity = capacity;
  }

  module _ (place : ℕ) (found' : List Bool) (parents' tier' : List ℕ) (so_far : MarksNewNodes parent next place found parents tier found' parents' tier')
      (node : ℕ) (at : slice_get next place ≡ Some node) where
    wider : (n : ℕ) → IsNew next place found n → IsNew next (place + 1) found n
    wider n new = record { place = new.place; below = let b = new.below in omega arith; is = new.is; lacks = new.lacks }

    -- what is new up to the next place was so before, or is the node there
    split : (n : ℕ) → IsNew next (place + 1) found n → IsNew next place found n ⊎ (n ≡ node)
    split n new = elim (cases_lt new.place place) [
      | inl early ↦ inl (record { place = new.place; below = early; is = new.is; lacks = new.lacks })
      | inr late ↦
          let same : new.place ≡ place = let b = new.below in omega arith in
          inr (same_Some n node (sym new.is ∙ (ap (slice_get next) same ∙ at)))
    ]

    -- a node that is found already
    pub marked_passed : Has found' node → MarksNewNodes parent next (place + 1) found parents tier found' parents' tier'
    marked_passed has =
        let before : (n : ℕ) → IsNew next (place + 1) found n → IsNew next place found n = λ n new. elim (split n new) [
          | inl early ↦ early
          | inr same ↦ elim ((so_far.found_are n).0 (subst (Has found') (sym same) has)) [
            | inl had ↦ absurd (never_both found n had new.lacks)
            | inr early ↦ early
          ]
        ]
        in
        record {
          found_are = λ n. (
            λ h. elim ((so_far.found_are n).0 h) [ inl had ↦ inl had | inr new ↦ inr (wider n new) ],
            λ either. elim either [ inl had ↦ (so_far.found_are n).1 (inl had) | inr new ↦ (so_far.found_are n).1 (inr (before n new)) ],
          );
          listed = λ n. (
            λ h. elim ((so_far.listed n).0 h) [ inl had ↦ inl had | inr new ↦ inr (wider n new) ],
            λ either. elim either [ inl had ↦ (so_far.listed n).1 (inl had) | inr new ↦ (so_far.listed n).1 (inr (before n new)) ],
          );
          new_parent = λ n new. so_far.new_parent n (before n new);
          old_parent = so_far.old_parent;
          capacity = so_far.capacity;
          parents_capacity = so_far.parents_capacity;
        }

    -- one that is found now
    module _ (lacks : slice_index_or found' node false ≡ false) (fits : node < length found') where
      was_not : slice_index_or found node false ≡ false
      was_not = elim (slice_index_or found node false) as (λ b. slice_index_or found node false ≡ b → b ≡ false) [
        | true ↦ λ had. absurd (never_both found' node ((so_far.found_are node).1 (inl had)) lacks)
        | false ↦ λ none. refl
      ] refl

      here : IsNew next (place + 1) found node
      here = record { place = place; below = omega arith; is = at; lacks = was_not }

      unlike : (n : ℕ) → IsNew next place found n → n ≡ node → ⊥
      unlike n new same = never_both found' node (subst (Has found') same ((so_far.found_are n).1 (inr new))) lacks

      pub marked_found : MarksNewNodes parent next (place + 1) found parents tier (slice_set found' node true) (slice_set parents' node parent) (tier' ++ node ∷ [])
      marked_found =
          let size = so_far.parents_capacity in
          record {
            found_are = λ n. (
              λ h. elim (set_cases found' node n h) [
                | inl same ↦ inr (subst (IsNew next (place + 1) found) (sym same) here)
                | inr had ↦ elim ((so_far.found_are n).0 had) [ inl old ↦ inl old | inr new ↦ inr (wider n new) ]
              ],
              λ either. elim either [
                | inl had ↦ has_still found' node n fits ((so_far.found_are n).1 (inl had))
                | inr new ↦ elim (split n new) [
                  | inl early ↦ has_still found' node n fits ((so_far.found_are n).1 (inr early))
                  | inr same ↦ subst (Has (slice_set found' node true)) (sym same) (has_set found' node fits)
                ]
              ],
            );
            listed = λ n. (
              λ h. elim (Contains-push_cases tier' node n h) [
                | inl had ↦ elim ((so_far.listed n).0 had) [ inl old ↦ inl old | inr new ↦ inr (wider n new) ]
                | inr same ↦ inr (subst (IsNew next (place + 1) found) same here)
              ],
              λ either. elim either [
                | inl had ↦ Contains-append_left tier' (node ∷ []) n ((so_far.listed n).1 (inl had))
                | inr new ↦ elim (split n new) [
                  | inl early ↦ Contains-append_left tier' (node ∷ []) n ((so_far.listed n).1 (inr early))
                  | inr same ↦ subst (Contains (tier' ++ node ∷ [])) (sym same) (Contains-push tier' node)
                ]
              ],
            );
            new_parent = λ n new. elim (split n new) [
              | inl early ↦ get_or-set_other parents' node n parent 0 (λ same. unlike n early same) ∙ so_far.new_parent n early
              | inr same ↦ ap (λ k. slice_index_or (slice_set parents' node parent) k 0) same ∙ get_or-set_same parents' node parent 0 (omega arith)
            ];
            old_parent = λ n has. get_or-set_other parents' node n parent 0 (λ same. never_both found node (subst (Has found) same has) was_not) ∙ so_far.old_parent n has;
            capacity = length-set found' node true ∙ so_far.capacity;
            parents_capacity = let a = length-set found' node true in let b = length-set parents' node parent in omega arith;
          }
