-- Where nodes are visited, one after the other.
use Rattle.std.proofs.Common.{◌≡◌, ◌≢◌, ℕ, ◌+◌, ◌<◌, ◌≤◌, List, [], ◌∷◌, ◌++◌, length, map, get_or, nat_eq, take, Some, refl, sym, ap, subst, ◌∙◌, arith}
use Rattle.std.specs.Prelude.{Option, None, slice_get, IfSome, IfNone}
use Rattle.std.specs.List.{All, AllPairs, AllZip}
use Rattle.std.proofs.lemmas.Bool.{false_from_ne_true, eqb-true}
use Rattle.std.proofs.lemmas.List.{length-map, get_or-map}
use Rattle.std.proofs.lemmas.List.Elements.{All-cons, All-nil, filter_map-append}
use Rattle.std.proofs.lemmas.Map.Steps.{length-le_from_distinct_below}
use Rattle.std.proofs.lemmas.Map.Keys.{IsDistinct-from_apart}
use Rattle.std.proofs.lemmas.Map.Views.{Contains-from_any}
use Rattle.std.proofs.lemmas.Option.{slice_get_within, slice_get-get_or}
use Rattle.cb_model.proofs.Numbers.{zip_push, take_more}
use Rattle.cb_breadth.specs.Levels.{level_visit}
use Rattle.cb_breadth.specs.declared.visit.LevelVisit.{LevelVisit}
use Rattle.cb_breadth.specs.declared.visit.Order.{Order}
use Rattle.cb_nodes.specs.declared.id.NodeId.{NodeId}
use Rattle.cb_span.specs.Orders.{IsRank}
use Rattle.cb_explain.specs.Levelled.{AreRanksBelow, IsRankVisited}
use Rattle.cb_explain.specs.Chained.{AreVisitedOnce, IsEndOf, IsEndIfVisited, AreEndsOf, ends_in}

-- there are no more visits than ranks
pub few_visits : (visits : List LevelVisit) (bound : ℕ) → AreVisitedOnce visits → AreRanksBelow bound visits → length visits ≤ bound
few_visits visits bound once below =
    let nodes : List ℕ = map (λ (v : LevelVisit). v.node) visits in
    let long : length nodes ≡ length visits = length-map visits (λ (v : LevelVisit). v.node) in
    let at : (k d : ℕ) → k < length visits → get_or nodes k d ≡ (get_or visits k (level_visit d 0 0)).node =
    λ k d low. get_or-map (λ (v : LevelVisit). v.node) visits k (level_visit d 0 0) d low
    in
    let apart : AllPairs (λ one other. one ≢ other) nodes = λ i j d lt within same.
    let e = at i d (omega arith) in
    let f = at j d (omega arith) in
    let none = level_visit d 0 0 in
    let places = once i j (get_or visits i none) (get_or visits j none) (slice_get-get_or visits i none (omega arith)) (slice_get-get_or visits j none (omega arith))
    (sym e ∙ (same ∙ f))
    in
    omega arith
    in
    let distinct = IsDistinct-from_apart nat_eq nodes (λ i j d lt within.
    false_from_ne_true (nat_eq (get_or nodes i d) (get_or nodes j d)) (λ same. apart i j d lt within (eqb-true (get_or nodes i d) (get_or nodes j d) same)))
    in
    let few = length-le_from_distinct_below nodes bound distinct (λ q has.
    let there = Contains-from_any (λ x y is. eqb-true x y is) q nodes has in
    let low = there.1 in
    let e = there.2 in
    let here = at there.0 q (omega arith) in
    let none = level_visit q 0 0 in
    let fits = below there.0 (get_or visits there.0 none) (slice_get-get_or visits there.0 none (omega arith)) in
    omega arith)
    in
    omega arith

module _ (order : Order) (visits : List LevelVisit) where
  pub no_ends : AreEndsOf order visits [] []
  no_ends = record { found = []; each = tt; are = refl }

  -- where a node is visited, by the two facts of a look-up
  ends_at : (id : NodeId) (rank : ℕ) → IsRank order id rank → (found : Option ℕ) → IfSome found (IsEndOf visits rank) → IfNone found (¬ IsRankVisited visits rank)
      → IsEndIfVisited order visits id found
  ends_at id rank ranked None some none = (rank, ranked, none)
  ends_at id rank ranked (Some end) some none = (rank, ranked, some)

  -- one node more
  pub ends_more : (ids : List NodeId) (i : ℕ) (id : NodeId) (rank : ℕ) (found : Option ℕ) (ends ends' : List ℕ) → slice_get ids i ≡ Some id → IsRank order id rank
      → IfSome found (IsEndOf visits rank) → IfNone found (¬ IsRankVisited visits rank) → AreEndsOf order visits (take i ids) ends
      → ends' ≡ ends ++ ends_in (found ∷ []) → AreEndsOf order visits (take (i + 1) ids) ends'
  ends_more ids i id rank found ends ends' at ranked some none before more =
      subst (λ (l : List NodeId). AreEndsOf order visits l ends') (sym (take_more ids i id at))
      (record {
        found = before.found ++ found ∷ [];
        each = zip_push (IsEndIfVisited order visits) (take i ids) before.found id found before.each (ends_at id rank ranked found some none);
        are = more ∙ (ap (λ (l : List ℕ). l ++ ends_in (found ∷ [])) before.are ∙ sym (filter_map-append (λ (end : Option ℕ). end) before.found (found ∷ [])));
      })

  -- each end is a position of a visit
  ends_low : (ids : List NodeId) (found : List (Option ℕ)) → AllZip (IsEndIfVisited order visits) ids found → All (λ end. end ≤ length visits) (ends_in found)
  ends_low [] [] zip = All-nil (λ end. end ≤ length visits)
  ends_low [] (f ∷ found) zip = absurd zip
  ends_low (id ∷ ids) [] zip = absurd zip
  ends_low (id ∷ ids) (None ∷ found) zip = ends_low ids found zip.1
  ends_low (id ∷ ids) (Some end ∷ found) zip =
      let (rank, ranked, is) = zip.0 in
      let within = slice_get_within visits is.position is.visit is.is in
      let end_is = is.end_is in
      All-cons (λ k. k ≤ length visits) end (ends_in found) (omega arith) (ends_low ids found zip.1)

  pub all_ends_low : (ids : List NodeId) (ends : List ℕ) → AreEndsOf order visits ids ends → All (λ end. end ≤ length visits) ends
  all_ends_low ids ends are = subst (All (λ end. end ≤ length visits)) (sym are.are) (ends_low ids are.found are.each)
