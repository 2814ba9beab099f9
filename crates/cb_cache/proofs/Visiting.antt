-- What a visit of one node meets.
use Rattle.std.proofs.Common.{◌≡◌, ◌↔◌, ◌⊎◌, inl, inr, ℕ, List, [], ◌∷◌, Bool, true, refl, sym, subst, ◌∙◌}
use Rattle.cb_lanes.specs.Words.{bit_of}
use Rattle.cb_pool.specs.declared.slot.Slot.{Slot}
use Rattle.cb_pool.specs.Pool.{Pool, SlotHasRow}
use Rattle.cb_successors.specs.Rows.{Has}
use Rattle.cb_successors.proofs.Chains.{chain_more}
use Rattle.cb_cache.specs.Reached.{IsReached, HoldsReached, AreFollowed, Visits}

-- a slot has one row
pub row_reached : (edge : ℕ → ℕ → Type 0) (i : ℕ) (p : Pool) (slot : Slot) (words : List ℕ) → SlotHasRow p slot words → HoldsReached edge i p slot → IsReached edge i words
row_reached edge i p slot words has (own, there, reached) = subst (IsReached edge i) (there.1 ∙ sym has.1) reached

-- the row of the node is taken over
module _ (edge : ℕ → ℕ → Type 0) (node : ℕ) (joined joined' row : List ℕ) where
  pub joined_followed : (found : List Bool) → IsReached edge node row → ((k : ℕ) → (bit_of joined' k ≡ true) ↔ ((bit_of joined k ≡ true) ⊎ (bit_of row k ≡ true)))
      → AreFollowed edge found joined → AreFollowed edge found joined'
  joined_followed found reached cases followed k next bit e = elim ((cases k).0 bit) [
    | inl old ↦ elim (followed k next old e) [
      | inl has ↦ inl has
      | inr there ↦ inr ((cases next).1 (inl there))
    ]
    | inr new ↦ let leads = (reached k).0 new in inr ((cases next).1 (inr ((reached next).1 (chain_more edge node leads.0 k next leads.1 e))))
  ]

  pub joined_visits : (found : List Bool) → IsReached edge node row → ((k : ℕ) → (bit_of joined' k ≡ true) ↔ ((bit_of joined k ≡ true) ⊎ (bit_of row k ≡ true)))
      → Visits edge node found found joined joined'
  joined_visits found reached cases = record {
    kept = λ k met. elim met [
      | inl has ↦ inl has
      | inr bit ↦ inr ((cases k).1 (inl bit))
    ];
    stays = λ k bit. (cases k).1 (inl bit);
    next = λ k e. inr ((cases k).1 (inr ((reached k).1 (k ∷ [], (e, refl)))));
    led = λ k met. elim met [
      | inl has ↦ inl (inl has)
      | inr bit ↦ elim ((cases k).0 bit) [
        | inl old ↦ inl (inr old)
        | inr new ↦ inr ((reached k).0 new)
      ]
    ];
  }

-- the node's successors are added
pub added_visits : (edge : ℕ → ℕ → Type 0) (node : ℕ) (found found' : List Bool) (joined : List ℕ) → ((k : ℕ) → Has found' k ↔ (Has found k ⊎ edge node k))
    → Visits edge node found found' joined joined
added_visits edge node found found' joined added = record {
  kept = λ k met. elim met [
    | inl has ↦ inl ((added k).1 (inl has))
    | inr bit ↦ inr bit
  ];
  stays = λ k bit. bit;
  next = λ k e. inl ((added k).1 (inr e));
  led = λ k met. elim met [
    | inl has ↦ elim ((added k).0 has) [
      | inl had ↦ inl (inl had)
      | inr e ↦ inr (k ∷ [], (e, refl))
    ]
    | inr bit ↦ inl (inr bit)
  ];
}

pub added_followed : (edge : ℕ → ℕ → Type 0) (node : ℕ) (found found' : List Bool) (joined : List ℕ) → ((k : ℕ) → Has found' k ↔ (Has found k ⊎ edge node k))
    → AreFollowed edge found joined → AreFollowed edge found' joined
added_followed edge node found found' joined added followed k next bit e = elim (followed k next bit e) [
  | inl has ↦ inl ((added next).1 (inl has))
  | inr there ↦ inr there
]

-- a node of the words has its successors met already
pub joined_before : (edge : ℕ → ℕ → Type 0) (node : ℕ) (found : List Bool) (joined : List ℕ) → bit_of joined node ≡ true → AreFollowed edge found joined
    → Visits edge node found found joined joined
joined_before edge node found joined here followed = record {
  kept = λ k met. met;
  stays = λ k bit. bit;
  next = λ k e. followed node k here e;
  led = λ k met. inl met;
}
