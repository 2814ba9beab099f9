-- Nodes of words whose successors are added one node after the other.
use Rattle.std.proofs.Common.{◌≡◌, ◌⊎◌, ◌↔◌, inl, inr, ◌+◌, ◌<◌, ◌≤◌, ℕ, List, Bool, true, false, slice_index_or, sym, subst, arith}
use Rattle.std.proofs.lemmas.Bool.{cases_lt, cases_eq, cases_Bool}
use Rattle.cb_lanes.specs.Words.{bit_of}
use Rattle.cb_bits.specs.Bits.{IsNextOne, HasNoneFrom}
use Rattle.cb_successors.specs.Rows.{Has}
use Rattle.cb_cache.specs.Reached.{CountsOnly}
use Rattle.cb_cache.specs.Extended.{AddsBelow}
use Rattle.cb_cache.proofs.Spreading.{counts_more, counts_weaker}

-- such a node below a place
abbrev pub IsPassed : List Bool → List ℕ → ℕ → ℕ → Type 0
IsPassed nodes words from k = (k < from) × Has nodes k × (bit_of words k ≡ true)

module _ (edge : ℕ → ℕ → Type 0) (nodes : List Bool) (words : List ℕ) where
  pub adds_none : (found : List Bool) → AddsBelow edge nodes words 0 found found
  adds_none found = record { next = λ k j lt has bit e. absurd (omega arith); led = λ j has. inl has }

  module _ (from node : ℕ) (is : IsNextOne nodes from node) where
    -- a node below the next place is one of the earlier ones or this one
    earlier : (k : ℕ) → k < node + 1 → Has nodes k → (k < from) ⊎ (k ≡ node)
    earlier k lt has = elim (cases_lt k from) [
      | inl low ↦ inl low
      | inr high ↦ elim (cases_eq k node) [
        | inl same ↦ inr same
        | inr other ↦ absurd (let e = is.first k high (omega arith) in cc)
      ]
    ]

    pub adds_more : (found0 found found' : List Bool) → AddsBelow edge nodes words from found0 found
        → ((k : ℕ) → Has found' k ↔ (Has found k ⊎ ((bit_of words node ≡ true) × edge node k))) → AddsBelow edge nodes words (node + 1) found0 found'
    adds_more found0 found found' adds added = record {
      next = λ k j lt has bit e. elim (earlier k lt has) [
        | inl low ↦ (added j).1 (inl (adds.next k j low has bit e))
        | inr same ↦ (added j).1 (inr (subst (λ m. bit_of words m ≡ true) same bit, subst (λ m. edge m j) same e))
      ];
      led = λ j has. elim ((added j).0 has) [
        | inl old ↦ adds.led j old
        | inr (on, e) ↦ inr (node, is.is, on, e)
      ];
    }

    further : (k : ℕ) → IsPassed nodes words from k → IsPassed nodes words (node + 1) k
    further k (lt, has, bit) = ((let low = is.on in omega arith), has, bit)

    pub passed_more : (count steps0 steps steps' : ℕ) → CountsOnly (IsPassed nodes words from) count steps0 steps → node < count → steps' ≤ steps + 1
        → (bit_of words node ≡ false → steps' ≡ steps) → CountsOnly (IsPassed nodes words (node + 1)) count steps0 steps'
    passed_more count steps0 steps steps' counts low step free =
        let off : slice_index_or counts.row node false ≡ false = elim (cases_Bool (slice_index_or counts.row node false)) [
          | inl had ↦ absurd (let early = (counts.each node had).0 in let late = is.on in omega arith)
          | inr off ↦ off
        ] in
        elim (cases_Bool (bit_of words node)) [
          | inl on ↦ counts_more _ _ count node steps0 steps steps' counts low off further ((omega arith), is.is, on) step
          | inr none ↦ subst (λ s. CountsOnly (IsPassed nodes words (node + 1)) count steps0 s) (sym (free none)) (counts_weaker _ _ count steps0 steps further counts)
        ]

  -- where no further node is there, all are passed
  pub adds_all : (from count : ℕ) (found0 found : List Bool) → HasNoneFrom nodes from → AddsBelow edge nodes words from found0 found → AddsBelow edge nodes words count found0 found
  adds_all from count found0 found none adds = record {
    next = λ k j lt has bit e. elim (cases_lt k from) [
      | inl low ↦ adds.next k j low has bit e
      | inr high ↦ absurd (let f = none k high in cc)
    ];
    led = adds.led;
  }
