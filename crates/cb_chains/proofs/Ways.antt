-- Chains that go on from one another.
use Rattle.std.proofs.Common.{◌≡◌, ℕ, zero, suc, ◌+◌, ◌≤◌, List, [], ◌∷◌, ◌++◌, length, get_or, map, Some, slice_get, refl, ap, ◌∙◌, inl, inr, arith}
use Rattle.std.specs.List.{All}
use Rattle.std.proofs.lemmas.Bool.{cases_lt}
use Rattle.std.proofs.lemmas.List.{get_or_append_left, get_or_past, length_push}
use Rattle.std.proofs.lemmas.List.Elements.{All-nil, All-push, All-head, All-tail, All-map, All-weaker}
use Rattle.std.proofs.lemmas.Option.{slice_get-get_or, get_or_from_slice_get}
use Rattle.cb_breadth.specs.declared.visit.Visit.{Visit}
use Rattle.cb_breadth.specs.Trees.{visit}
use Rattle.cb_chains.specs.Trees.{ComeAfterParents, way_to, chain_at, chains_at}

module _ (visits : List Visit) (after : ComeAfterParents visits) where
  parent_low : (i : ℕ) → (get_or visits i (visit 0 0)).parent ≤ i
  parent_low i = elim (cases_lt i (length visits)) [
    | inl low ↦ after i (get_or visits i (visit 0 0)) (slice_get-get_or visits i (visit 0 0) low)
    | inr past ↦ let none : (get_or visits i (visit 0 0)).parent ≡ 0 = ap (λ (v : Visit). v.parent) (get_or_past visits i (visit 0 0) past) in omega arith
  ]

  -- how many visits a way may have is no matter once they are enough
  way_enough : (n m p : ℕ) → p ≤ n → p ≤ m → way_to n visits p ≡ way_to m visits p
  way_enough zero zero zero a b = refl
  way_enough zero (suc m) zero a b = refl
  way_enough (suc n) zero zero a b = refl
  way_enough (suc n) (suc m) zero a b = refl
  way_enough zero m (suc i) a b = absurd (omega arith)
  way_enough (suc n) zero (suc i) a b = absurd (omega arith)
  way_enough (suc n) (suc m) (suc i) a b =
      let low = parent_low i in
      ap (λ (l : List ℕ). l ++ (get_or visits i (visit 0 0)).node ∷ []) (way_enough n m (get_or visits i (visit 0 0)).parent (omega arith) (omega arith))

  -- the chain that ends at a visit goes on from the one that ends at its parent
  pub chain_next : (i : ℕ) (v : Visit) → slice_get visits i ≡ Some v → chain_at visits (i + 1) ≡ chain_at visits v.parent ++ v.node ∷ []
  chain_next i v at =
      let one : i + 1 ≡ suc i = omega arith in
      let same : get_or visits i (visit 0 0) ≡ v = get_or_from_slice_get visits i v (visit 0 0) at in
      let low = after i v at in
      ap (chain_at visits) one
      ∙ (ap (λ (w : Visit). way_to i visits w.parent ++ w.node ∷ []) same
      ∙ ap (λ (l : List ℕ). l ++ v.node ∷ []) (way_enough i v.parent v.parent low (omega arith)))

  way_more : (more : List Visit) (n p : ℕ) → p ≤ length visits → way_to n (visits ++ more) p ≡ way_to n visits p
  way_more more zero p fits = refl
  way_more more (suc n) zero fits = refl
  way_more more (suc n) (suc i) fits =
      let same : get_or (visits ++ more) i (visit 0 0) ≡ get_or visits i (visit 0 0) = get_or_append_left visits more (visit 0 0) i (omega arith) in
      let low = parent_low i in
      ap (λ (w : Visit). way_to n (visits ++ more) w.parent ++ w.node ∷ []) same
      ∙ ap (λ (l : List ℕ). l ++ (get_or visits i (visit 0 0)).node ∷ []) (way_more more n (get_or visits i (visit 0 0)).parent (omega arith))

  -- further visits change no chain
  pub chain_more : (more : List Visit) (p : ℕ) → p ≤ length visits → chain_at (visits ++ more) p ≡ chain_at visits p
  chain_more more p fits = way_more more p p fits

  -- what holds of the node of each visit holds of the nodes on each chain
  way_all : (P : ℕ → Type 0) → All (λ (v : Visit). P v.node) visits → (n p : ℕ) → p ≤ length visits → All P (way_to n visits p)
  way_all P all zero p fits = All-nil P
  way_all P all (suc n) zero fits = All-nil P
  way_all P all (suc n) (suc i) fits =
      let low = parent_low i in
      All-push P (way_to n visits (get_or visits i (visit 0 0)).parent) (get_or visits i (visit 0 0)).node
      (way_all P all n (get_or visits i (visit 0 0)).parent (omega arith)) (all i (visit 0 0) (omega arith))

  pub chains_all : (P : ℕ → Type 0) → All (λ (v : Visit). P v.node) visits → (ends : List ℕ) → All (λ end. end ≤ length visits) ends → All (All P) (chains_at visits ends)
  chains_all P all ends low =
      All-map (All P) (chain_at visits) ends (All-weaker (λ end. end ≤ length visits) (λ end. All P (chain_at visits end)) (λ end fits. way_all P all end end fits) ends low)

way_short : (visits : List Visit) (n p : ℕ) → length (way_to n visits p) ≤ n
way_short visits zero p = let e : length (way_to zero visits p) ≡ 0 = refl in omega arith
way_short visits (suc n) zero = let e : length (way_to (suc n) visits zero) ≡ 0 = refl in omega arith
way_short visits (suc n) (suc i) =
    let e = length_push (way_to n visits (get_or visits i (visit 0 0)).parent) (get_or visits i (visit 0 0)).node in
    let f = way_short visits n (get_or visits i (visit 0 0)).parent in
    omega arith

-- a chain has at most as many nodes as its end says
pub chain_short : (visits : List Visit) (p : ℕ) → length (chain_at visits p) ≤ p
chain_short visits p = way_short visits p p

pub chains_short : (visits : List Visit) (ends : List ℕ) → All (λ end. end ≤ length visits) ends → All (λ chain. length chain ≤ length visits) (chains_at visits ends)
chains_short visits ends low =
    All-map (λ chain. length chain ≤ length visits) (chain_at visits) ends
    (All-weaker (λ end. end ≤ length visits) (λ end. length (chain_at visits end) ≤ length visits) (λ end fits. let short = chain_short visits end in omega arith) ends low)

-- chains that end at other places may be the same
pub chains_same : (visits kept : List Visit) (place : ℕ → ℕ) (ends : List ℕ) → All (λ end. chain_at kept (place end) ≡ chain_at visits end) ends
    → chains_at kept (map place ends) ≡ chains_at visits ends
chains_same visits kept place [] all = refl
chains_same visits kept place (end ∷ ends) all =
    let here = All-head (λ end. chain_at kept (place end) ≡ chain_at visits end) end ends all in
    let later = chains_same visits kept place ends (All-tail (λ end. chain_at kept (place end) ≡ chain_at visits end) end ends all) in
    λ i. here i ∷ later i
