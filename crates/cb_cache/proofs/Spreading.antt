-- A search keeps what is settled, and ends with all that is led to.
use Rattle.std.proofs.Common.{◌≡◌, ◌↔◌, inl, inr, ◌+◌, ◌<◌, ◌≤◌, ℕ, List, [], ◌∷◌, Bool, true, false, length, replicate, slice_index_or, slice_set, refl, sym, subst, ◌∙◌, arith}
use Rattle.std.proofs.lemmas.Bool.{cases_lt, cases_eq, cases_Bool}
use Rattle.std.proofs.lemmas.List.{get_or_past, get_or-set_other, length-set, length-replicate}
use Rattle.cb_lanes.specs.Words.{bit_of}
use Rattle.cb_bits.proofs.Zeros.{zero_bit}
use Rattle.cb_successors.specs.Rows.{Has, IsLeft, HasAllOf, ones}
use Rattle.cb_successors.specs.Graphs.{LeadsTo, EdgeChain}
use Rattle.cb_successors.proofs.Chains.{chains_joined}
use Rattle.cb_successors.proofs.Marks.{ones-set, ones_within, set_cases, has_set, nothing, no_ones}
use Rattle.cb_cache.specs.Reached.{IsMet, AreFollowed, IsLedByMet, Visits, CountsOnly}

-- what a search keeps, which began with this row and these words, after a number of steps
pub record IsSpread (edge : ℕ → ℕ → Type 0) (nodes : ℕ) (begun : List Bool) (words : List ℕ) (found done : List Bool) (joined : List ℕ) (steps0 steps : ℕ) : Type 0 where
  pub len_found : length found ≡ nodes
  pub len_done : length done ≡ nodes
  pub followed : AreFollowed edge found joined
  pub stays : (k : ℕ) → bit_of words k ≡ true → bit_of joined k ≡ true
  pub begins : (k : ℕ) → IsMet begun words k → IsMet found joined k
  pub within : (k : ℕ) → Has done k → IsMet found joined k
  pub next : (k j : ℕ) → Has done k → edge k j → IsMet found joined j
  pub led : (k : ℕ) → IsMet found joined k → IsLedByMet edge begun words k
  pub cost : CountsOnly (λ k. Has done k × ¬ (bit_of words k ≡ true)) nodes steps0 steps

no_bit : (width k : ℕ) (words : List ℕ) → words ≡ replicate width 0 → bit_of words k ≡ true → ⊥
no_bit width k words are bit = let e = zero_bit width k in let f : bit_of (replicate width 0) k ≡ true = subst (λ ws. bit_of ws k ≡ true) are bit in cc

none_done : (nodes k : ℕ) (done : List Bool) → done ≡ replicate nodes false → Has done k → ⊥
none_done nodes k done are has = nothing nodes k (subst (λ row. Has row k) are has)

-- no steps
pub counts_none : (P : ℕ → Type 0) (nodes steps : ℕ) → CountsOnly P nodes steps steps
counts_none P nodes steps = record {
  row = replicate nodes false;
  long = length-replicate nodes false;
  each = λ k has. absurd (nothing nodes k has);
  few = let e = no_ones nodes in omega arith;
}

-- one step more, for a node that wasn't counted
pub counts_more : (P Q : ℕ → Type 0) (nodes node steps0 steps steps' : ℕ) (counts : CountsOnly P nodes steps0 steps) → node < nodes → slice_index_or counts.row node false ≡ false
    → ((k : ℕ) → P k → Q k) → Q node → steps' ≤ steps + 1 → CountsOnly Q nodes steps0 steps'
counts_more P Q nodes node steps0 steps steps' counts lt off more here step = record {
  row = slice_set counts.row node true;
  long = length-set counts.row node true ∙ counts.long;
  each = λ k has. elim (set_cases counts.row node k has) [
    | inl same ↦ subst Q (sym same) here
    | inr had ↦ more k (counts.each k had)
  ];
  few = let e = ones-set counts.row node (let f = counts.long in omega arith) off in let f = counts.few in omega arith;
}

pub counts_weaker : (P Q : ℕ → Type 0) (nodes steps0 steps : ℕ) → ((k : ℕ) → P k → Q k) → CountsOnly P nodes steps0 steps → CountsOnly Q nodes steps0 steps
counts_weaker P Q nodes steps0 steps more counts = record { row = counts.row; long = counts.long; each = λ k has. more k (counts.each k has); few = counts.few }

pub begun_spread : (edge : ℕ → ℕ → Type 0) (nodes : ℕ) (found done : List Bool) (joined : List ℕ) (steps : ℕ) → length found ≡ nodes → done ≡ replicate nodes false
    → AreFollowed edge found joined → IsSpread edge nodes found joined found done joined steps steps
begun_spread edge nodes found done joined steps len_found none followed = record {
  len_found = len_found;
  len_done = subst (λ row. length row ≡ nodes) (sym none) (length-replicate nodes false);
  followed = followed;
  stays = λ k bit. bit;
  begins = λ k met. met;
  within = λ k has. absurd (none_done nodes k done none has);
  next = λ k j has e. absurd (none_done nodes k done none has);
  led = λ k met. (k, met, ([], refl));
  cost = counts_none _ nodes steps;
}

module _ (edge : ℕ → ℕ → Type 0) (nodes : ℕ) (begun : List Bool) (words : List ℕ) (found done : List Bool) (joined : List ℕ) (steps0 steps : ℕ)
    (old : IsSpread edge nodes begun words found done joined steps0 steps) where
  pub left_below : (node : ℕ) → IsLeft found done node → node < nodes
  left_below node left = elim (cases_lt node (length found)) [
    | inl lt ↦ let e = old.len_found in omega arith
    | inr le ↦ absurd (let e = get_or_past found node false le in let f = left.0 in cc)
  ]

  -- a node that isn't done wasn't counted
  uncounted : (node : ℕ) → IsLeft found done node → slice_index_or old.cost.row node false ≡ false
  uncounted node left = elim (cases_Bool (slice_index_or old.cost.row node false)) [
    | inl on ↦ absurd (let e = (old.cost.each node on).0 in let f = left.1 in cc)
    | inr off ↦ off
  ]

  -- a node of the words that were there at first costs nothing
  counted : (node : ℕ) (steps' : ℕ) → IsLeft found done node → steps' ≤ steps + 1 → (bit_of joined node ≡ true → steps' ≡ steps)
      → CountsOnly (λ k. Has (slice_set done node true) k × ¬ (bit_of words k ≡ true)) nodes steps0 steps'
  counted node steps' left step free =
      let low = left_below node left in
      let up : (k : ℕ) → Has done k × ¬ (bit_of words k ≡ true) → Has (slice_set done node true) k × ¬ (bit_of words k ≡ true) =
      λ k (has, out). (
        elim (cases_eq k node) [
          | inl same ↦ subst (λ j. Has (slice_set done node true) j) (sym same) (has_set done node (let e = old.len_done in omega arith))
          | inr other ↦ get_or-set_other done node k true false other ∙ has
        ],
        out,
      ) in
      elim (cases_Bool (bit_of words node)) [
        | inl on ↦ subst (λ s. CountsOnly (λ k. Has (slice_set done node true) k × ¬ (bit_of words k ≡ true)) nodes steps0 s) (sym (free (old.stays node on)))
            (counts_weaker _ _ nodes steps0 steps up old.cost)
        | inr off ↦ counts_more _ _ nodes node steps0 steps steps' old.cost low (uncounted node left) up
            (has_set done node (let e = old.len_done in omega arith), λ on. absurd (cc)) step
      ]

  pub visited : (node : ℕ) (found' : List Bool) (joined' : List ℕ) (steps' : ℕ) → IsLeft found done node → length found' ≡ length found → AreFollowed edge found' joined'
      → Visits edge node found found' joined joined' → steps' ≤ steps + 1 → (bit_of joined node ≡ true → steps' ≡ steps)
      → IsSpread edge nodes begun words found' (slice_set done node true) joined' steps0 steps'
  visited node found' joined' steps' left len_found followed visits step free = record {
    len_found = len_found ∙ old.len_found;
    len_done = length-set done node true ∙ old.len_done;
    followed = followed;
    stays = λ k bit. visits.stays k (old.stays k bit);
    begins = λ k met. visits.kept k (old.begins k met);
    within = λ k has. elim (set_cases done node k has) [
      | inl same ↦ visits.kept k (subst (IsMet found joined) (sym same) (inl left.0))
      | inr had ↦ visits.kept k (old.within k had)
    ];
    next = λ k j has e. elim (set_cases done node k has) [
      | inl same ↦ visits.next j (subst (λ m. edge m j) same e)
      | inr had ↦ visits.kept j (old.next k j had e)
    ];
    led = λ k met. elim (visits.led k met) [
      | inl had ↦ old.led k had
      | inr leads ↦
          let from = old.led node (inl left.0) in
          (from.0, from.1, chains_joined edge from.0 from.2.0 node k from.2.1 leads)
    ];
    cost = counted node steps' left step free;
  }

  -- where nothing is left, what is met has its successors among it
  closed_along : HasAllOf done found → (k : ℕ) (rest : List ℕ) (to : ℕ) → EdgeChain edge k rest to → IsMet found joined k → IsMet found joined to
  closed_along none k [] to same met = subst (IsMet found joined) same met
  closed_along none k (j ∷ rest) to chain (inl has) = closed_along none j rest to chain.1 (old.next k j (none k has) chain.0)
  closed_along none k (j ∷ rest) to chain (inr bit) = closed_along none j rest to chain.1 (old.followed k j bit chain.0)

  pub all_met : HasAllOf done found → (k : ℕ) → IsMet found joined k ↔ IsLedByMet edge begun words k
  all_met none k = (old.led k, λ (from, met, leads). closed_along none from leads.0 k leads.1 (old.begins from met))

-- words of zeros have no successors
pub zeros_followed : (edge : ℕ → ℕ → Type 0) (found : List Bool) (width : ℕ) (joined : List ℕ) → joined ≡ replicate width 0 → AreFollowed edge found joined
zeros_followed edge found width joined zeros = λ k next bit e. absurd (no_bit width k joined zeros bit)

-- where nothing but one node was there, what was led to is what that node leads to
pub from_one : (edge : ℕ → ℕ → Type 0) (nodes from width : ℕ) (row : List Bool) (words : List ℕ) → row ≡ slice_set (replicate nodes false) from true → words ≡ replicate width 0 → from < nodes
    → (k : ℕ) → IsLedByMet edge row words k ↔ LeadsTo edge from k
from_one edge nodes from width row words is zeros low k = (
  λ (start, met, leads). elim met [
    | inl has ↦ elim (set_cases (replicate nodes false) from start (subst (λ r. Has r start) is has)) [
      | inl same ↦ subst (λ m. LeadsTo edge m k) same leads
      | inr had ↦ absurd (nothing nodes start had)
    ]
    | inr bit ↦ absurd (no_bit width start words zeros bit)
  ],
  λ leads. (from, inl (subst (λ r. Has r from) (sym is) (has_set (replicate nodes false) from (let e = length-replicate nodes false in omega arith))), leads),
)

-- what is counted is no more than what is done
pub counts_done : (done : List Bool) (words : List ℕ) (nodes steps new_steps : ℕ) → length done ≡ nodes
    → CountsOnly (λ k. Has done k × ¬ (bit_of words k ≡ true)) nodes steps new_steps → new_steps ≤ steps + ones done
counts_done done words nodes steps new_steps long counts =
    let part = ones_within counts.row done (counts.long ∙ sym long) (λ k has. (counts.each k has).0) in let few = counts.few in omega arith
