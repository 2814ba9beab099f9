-- Visits that are kept, one after the other.
use Rattle.std.proofs.Common.{◌≡◌, ℕ, ◌+◌, ◌<◌, ◌≤◌, List, [], ◌∷◌, ◌++◌, Bool, true, false, Some, length, map, get_or, slice_get, slice_index_or, refl, sym, ap, subst, ◌∙◌, inl, inr, arith}
use Rattle.std.specs.List.{All}
use Rattle.std.proofs.lemmas.Bool.{cases_lt}
use Rattle.std.proofs.lemmas.List.{length-map, length_push, get_or_append_left, get_or_push}
use Rattle.std.proofs.lemmas.List.Elements.{All-push, All-map}
use Rattle.cb_model.proofs.Numbers.{slice_get-push_last}
use Rattle.cb_successors.specs.Rows.{Has}
use Rattle.cb_breadth.specs.declared.visit.LevelVisit.{LevelVisit}
use Rattle.cb_breadth.specs.declared.visit.Visit.{Visit}
use Rattle.cb_breadth.specs.Trees.{visit}
use Rattle.cb_breadth.proofs.Lists.{appended, never_both}
use Rattle.cb_chains.specs.Trees.{without_levels, ComeAfterParents, chain_at, chains_at}
use Rattle.cb_chains.specs.Kept.{HasMarkedParents, place_at, KeepsIfMarked, IsKeptAt, KeepsChains}
use Rattle.cb_chains.proofs.Ways.{chain_next, chain_more, chains_same}

-- of the first visits the marked ones are kept
pub record AreKeptTo (visits : List Visit) (marked : List Bool) (to : ℕ) (kept : List Visit) (places : List ℕ) : Type 0 where
  pub parents : ComeAfterParents kept
  pub few : length kept ≤ to
  pub size : length places ≡ to + 1
  pub none : place_at places 0 ≡ 0
  pub each : (position : ℕ) → position ≤ to → Has marked position → IsKeptAt visits kept position (place_at places position)

pub none_kept : (visits : List Visit) (marked : List Bool) → AreKeptTo visits marked 0 [] (0 ∷ [])
none_kept visits marked = record {
  parents = λ i v at. absurd (cc at);
  few = omega arith;
  size = refl;
  none = refl;
  each = λ position low has.
      let zero_at : 0 ≡ position = omega arith in
      subst (λ k. IsKeptAt visits [] k (place_at (0 ∷ []) k)) zero_at (record { within = omega arith; same = refl });
}

module _ (visits : List Visit) (after : ComeAfterParents visits) (marked : List Bool) (closed : HasMarkedParents visits marked) (to : ℕ)
    (kept : List Visit) (places : List ℕ) (before : AreKeptTo visits marked to kept places) where
  place_before : (place position : ℕ) → position ≤ to → place_at (places ++ place ∷ []) position ≡ place_at places position
  place_before place position low = let size = before.size in get_or_append_left places (place ∷ []) 0 position (omega arith)

  -- a visit that isn't marked
  one_left : slice_index_or marked (to + 1) false ≡ false → AreKeptTo visits marked (to + 1) kept (places ++ 0 ∷ [])
  one_left lacks = record {
    parents = before.parents;
    few = let few = before.few in omega arith;
    size = let size = before.size in let more = length_push places 0 in omega arith;
    none = place_before 0 0 (omega arith) ∙ before.none;
    each = λ position low has. elim (cases_lt position (to + 1)) [
      | inl early ↦ subst (IsKeptAt visits kept position) (sym (place_before 0 position (omega arith))) (before.each position (omega arith) has)
      | inr late ↦ let last : position ≡ to + 1 = omega arith in absurd (never_both marked (to + 1) (subst (Has marked) last has) lacks)
    ];
  }

  module _ (v : Visit) (at : slice_get visits to ≡ Some v) (has_it : Has marked (to + 1)) where
    parent_kept : IsKeptAt visits kept v.parent (place_at places v.parent)
    parent_kept = before.each v.parent (after to v at) (closed to v at has_it)

    abbrev new : Visit
    new = visit v.node (place_at places v.parent)

    abbrev longer : List Visit
    longer = kept ++ new ∷ []

    new_parents : ComeAfterParents longer
    new_parents i w is = elim (appended kept new i w is) [
      | inl old ↦ before.parents i w old
      | inr last ↦
          let within = parent_kept.within in
          let place = last.0 in
          let parent : place_at places v.parent ≡ w.parent = ap (λ (x : Visit). x.parent) last.1 in
          omega arith
    ]

    new_chain : chain_at longer (length kept + 1) ≡ chain_at visits (to + 1)
    new_chain =
        chain_next longer new_parents (length kept) new (slice_get-push_last kept (length kept) new refl)
        ∙ (ap (λ (l : List ℕ). l ++ v.node ∷ []) (chain_more kept before.parents (new ∷ []) (place_at places v.parent) parent_kept.within ∙ parent_kept.same)
        ∙ sym (chain_next visits after to v at))

    new_place : place_at (places ++ (length kept + 1) ∷ []) (to + 1) ≡ length kept + 1
    new_place = get_or_push places (length kept + 1) 0 (to + 1) before.size

    old_kept : (position : ℕ) → position ≤ to → Has marked position → IsKeptAt visits longer position (place_at places position)
    old_kept position low has =
        let is = before.each position low has in
        record {
          within = let within = is.within in let more = length_push kept new in omega arith;
          same = chain_more kept before.parents (new ∷ []) (place_at places position) is.within ∙ is.same;
        }

    -- a visit that is marked
    one_more : AreKeptTo visits marked (to + 1) longer (places ++ (length kept + 1) ∷ [])
    one_more = record {
      parents = new_parents;
      few = let few = before.few in let more = length_push kept new in omega arith;
      size = let size = before.size in let more = length_push places (length kept + 1) in omega arith;
      none = place_before (length kept + 1) 0 (omega arith) ∙ before.none;
      each = λ position low has. elim (cases_lt position (to + 1)) [
        | inl early ↦
            subst (IsKeptAt visits longer position) (sym (place_before (length kept + 1) position (omega arith))) (old_kept position (omega arith) has)
        | inr late ↦
            let last : to + 1 ≡ position = omega arith in
            let here : IsKeptAt visits longer (to + 1) (length kept + 1) = record { within = let more = length_push kept new in omega arith; same = new_chain } in
            subst (λ k. IsKeptAt visits longer k (place_at (places ++ (length kept + 1) ∷ []) k)) last
            (subst (IsKeptAt visits longer (to + 1)) (sym new_place) here)
      ];
    }

  pub one_kept : (b : Bool) (v : LevelVisit) (kept' : List Visit) (places' : List ℕ) → slice_get visits to ≡ Some (visit v.node v.parent)
      → b ≡ slice_index_or marked (to + 1) false → KeepsIfMarked b v kept places kept' places' → AreKeptTo visits marked (to + 1) kept' places'
  one_kept false v kept' places' at is keeps =
      subst (λ (ks : List Visit). AreKeptTo visits marked (to + 1) ks places') (sym keeps.0)
      (subst (λ (ps : List ℕ). AreKeptTo visits marked (to + 1) kept ps) (sym keeps.1) (one_left (sym is)))
  one_kept true v kept' places' at is keeps =
      subst (λ (ks : List Visit). AreKeptTo visits marked (to + 1) ks places') (sym keeps.0)
      (subst (λ (ps : List ℕ). AreKeptTo visits marked (to + 1) (kept ++ visit v.node (place_at places v.parent) ∷ []) ps) (sym keeps.1)
      (one_more (visit v.node v.parent) at (sym is)))

pub all_kept : (visits : List Visit) (marked : List Bool) (to : ℕ) (kept : List Visit) (places : List ℕ) → AreKeptTo visits marked to kept places
    → to ≡ length visits → KeepsChains visits marked kept places
all_kept visits marked to kept places is end = record {
  parents = is.parents;
  size = let size = is.size in omega arith;
  each = λ position low has. is.each position (omega arith) has;
}

-- the node of a visit that is kept is below a bound
pub nodes_kept : (bound : ℕ) (b : Bool) (v : LevelVisit) (kept kept' : List Visit) (places places' : List ℕ) → KeepsIfMarked b v kept places kept' places'
    → v.node < bound → All (λ (w : Visit). w.node < bound) kept → All (λ (w : Visit). w.node < bound) kept'
nodes_kept bound false v kept kept' places places' keeps low all = subst (All (λ (w : Visit). w.node < bound)) (sym keeps.0) all
nodes_kept bound true v kept kept' places places' keeps low all =
    subst (All (λ (w : Visit). w.node < bound)) (sym keeps.0) (All-push (λ (w : Visit). w.node < bound) kept (visit v.node (place_at places v.parent)) all low)

-- no more are kept than there were
pub few_kept : (b : Bool) (v : LevelVisit) (kept kept' : List Visit) (places places' : List ℕ) → KeepsIfMarked b v kept places kept' places'
    → length kept' ≤ length kept + 1
few_kept false v kept kept' places places' keeps = let same = ap length keeps.0 in omega arith
few_kept true v kept kept' places places' keeps =
    let same = ap length keeps.0 in
    let more = length_push kept (visit v.node (place_at places v.parent)) in
    omega arith

module _ (visits : List Visit) (marked : List Bool) (kept : List Visit) (places : List ℕ) (is : KeepsChains visits marked kept places) (ends : List ℕ)
    (low : All (λ end. end ≤ length visits) ends) (has : All (Has marked) ends) where
  pub places_within : All (λ end. end < length places) ends
  places_within k d lt = let fits = low k d lt in let size = is.size in omega arith

  pub chains_kept : chains_at kept (map (place_at places) ends) ≡ chains_at visits ends
  chains_kept = chains_same visits kept (place_at places) ends (λ k d lt. (is.each (get_or ends k d) (low k d lt) (has k d lt)).same)

  pub ends_kept : All (λ end. end ≤ length kept) (map (place_at places) ends)
  ends_kept = All-map (λ end. end ≤ length kept) (place_at places) ends (λ k d lt. (is.each (get_or ends k d) (low k d lt) (has k d lt)).within)

-- positions of visits are those of the same visits without their levels
pub ends_fit : (visits : List LevelVisit) (ends : List ℕ) → All (λ end. end ≤ length visits) ends → All (λ end. end ≤ length (without_levels visits)) ends
ends_fit visits ends low k d lt =
    let fits = low k d lt in
    let long = length-map visits (λ (v : LevelVisit). visit v.node v.parent) in
    omega arith
