-- A tree that grows level by level.
use Rattle.std.proofs.Common.{◌≡◌, ◌≢◌, ◌↔◌, ◌⊎◌, inl, inr, ℕ, zero, suc, ◌+◌, ◌-◌, ◌<◌, ◌≤◌, List, [], ◌∷◌, ◌++◌, Bool, true, false, Some, length, map, get_or, nat_eq, slice_get, slice_set, slice_index_or, replicate, refl, sym, ap, subst, ◌∙◌, arith, length-append}
use Rattle.std.specs.List.{All, AllPairs}
use Rattle.std.proofs.lemmas.Bool.{cases_lt, cases_order}
use Rattle.std.proofs.lemmas.List.{length-set, length-replicate, length-map, get_or-map}
use Rattle.std.proofs.lemmas.Map.Steps.{length-le_from_distinct_below}
use Rattle.std.proofs.lemmas.Map.Keys.{IsDistinct-from_apart}
use Rattle.std.proofs.lemmas.Map.Views.{Contains-from_any}
use Rattle.std.proofs.lemmas.Bool.{false_from_ne_true, eqb-true}
use Rattle.std.proofs.lemmas.Option.{slice_get_within, slice_get-get_or, same_Some}
use Rattle.cb_successors.specs.Rows.{Has}
use Rattle.cb_successors.proofs.Marks.{has_set, set_cases, nothing}
use Rattle.cb_breadth.specs.declared.visit.LevelVisit.{LevelVisit}
use Rattle.cb_breadth.specs.Levels.{IsLevelTree, IsLevelTreePart, CountsVisits, HasEdgeBelow, IsNear, StandsBefore, level_visit, IsFirstFrom, IsNextNode, IsTier, levelled}
use Rattle.cb_breadth.proofs.Lists.{only_item, has_or_lacks, never_both, has_below, kept_prefix}

-- some visit is of the node
pub record IsSeen (visits : List LevelVisit) (node : ℕ) : Type 0 where
  pub place : ℕ
  pub visit : LevelVisit
  pub is : slice_get visits place ≡ Some visit
  pub of : visit.node ≡ node

-- All that edges lead to from the visits before a place is visited; those from there on are of the last level.
pub record IsLevelled (edge : ℕ → ℕ → Type 0) (root capacity from top : ℕ) (visits : List LevelVisit) (found : List Bool) : Type 0 where
  pub begins : slice_get visits 0 ≡ Some (level_visit root 0 0)
  pub earlier : (i : ℕ) (v : LevelVisit) → 0 < i → slice_get visits i ≡ Some v → (0 < v.parent) × (v.parent ≤ i)
  pub edges : (i : ℕ) (v : LevelVisit) → 0 < i → slice_get visits i ≡ Some v → HasEdgeBelow edge visits v
  pub once : (i j : ℕ) (v w : LevelVisit) → slice_get visits i ≡ Some v → slice_get visits j ≡ Some w → v.node ≡ w.node → i ≡ j
  pub settled : (i : ℕ) (v : LevelVisit) (node : ℕ) → i < from → slice_get visits i ≡ Some v → edge v.node node → IsNear visits v.level node
  pub order : (i j : ℕ) (v w : LevelVisit) → i < j → slice_get visits i ≡ Some v → slice_get visits j ≡ Some w → StandsBefore v w
  pub first : (i j : ℕ) (v w : LevelVisit) → 0 < j → slice_get visits i ≡ Some v → slice_get visits j ≡ Some w → v.level + 1 ≡ w.level
      → edge v.node w.node → w.parent ≤ i + 1
  pub found_are : (node : ℕ) → Has found node ↔ IsSeen visits node
  pub below : (i : ℕ) (v : LevelVisit) → i < from → slice_get visits i ≡ Some v → v.level < top
  pub last : (i : ℕ) (v : LevelVisit) → from ≤ i → slice_get visits i ≡ Some v → v.level ≡ top
  pub full_length : length found ≡ capacity
  pub reached : from ≤ length visits
  pub low : top ≤ from

module _ (edge : ℕ → ℕ → Type 0) (root capacity from top : ℕ) (visits : List LevelVisit) (found : List Bool) (is : IsLevelled edge root capacity from top visits found) where
  -- where the last level is empty, the tree is whole
  pub levelled_whole : length visits ≤ from → IsLevelTree edge root visits
  levelled_whole all = record {
    begins = is.begins;
    earlier = is.earlier;
    edges = is.edges;
    once = is.once;
    closed = λ i v node at e. let within = slice_get_within visits i v at in is.settled i v node (omega arith) at e;
    order = is.order;
    first = is.first;
  }

  -- until then it is a part of a tree
  pub levelled_part : IsLevelTreePart edge root visits
  levelled_part = record { begins = is.begins; earlier = is.earlier; edges = is.edges; once = is.once }

  seen_at : (i : ℕ) (v : LevelVisit) → slice_get visits i ≡ Some v → Has found v.node
  seen_at i v at = (is.found_are v.node).1 (record { place = i; visit = v; is = at; of = refl })

  pub node_within : (i : ℕ) (v : LevelVisit) → slice_get visits i ≡ Some v → v.node < capacity
  node_within i v at = let low = has_below found v.node (seen_at i v at) in let same = is.full_length in omega arith

  pub all_within : All (λ v. v.node < capacity) visits
  all_within k d low = node_within k (get_or visits k d) (slice_get-get_or visits k d low)

  -- there are no more visits than nodes
  pub visits_fit : length visits ≤ capacity
  visits_fit =
      let nodes : List ℕ = map (λ (v : LevelVisit). v.node) visits in
      let long : length nodes ≡ length visits = length-map visits (λ (v : LevelVisit). v.node) in
      let at : (k d : ℕ) → k < length visits → get_or nodes k d ≡ (get_or visits k (level_visit d 0 0)).node =
      λ k d low. get_or-map (λ (v : LevelVisit). v.node) visits k (level_visit d 0 0) d low
      in
      let apart : AllPairs (λ one other. one ≢ other) nodes = λ i j d lt within same.
      let e = at i d (omega arith) in
      let f = at j d (omega arith) in
      let none = level_visit d 0 0 in
      let places = is.once i j (get_or visits i none) (get_or visits j none) (slice_get-get_or visits i none (omega arith)) (slice_get-get_or visits j none (omega arith))
      (sym e ∙ (same ∙ f))
      in
      omega arith
      in
      let distinct = IsDistinct-from_apart nat_eq nodes (λ i j d lt within.
      false_from_ne_true (nat_eq (get_or nodes i d) (get_or nodes j d)) (λ same. apart i j d lt within (eqb-true (get_or nodes i d) (get_or nodes j d) same)))
      in
      let few = length-le_from_distinct_below nodes capacity distinct (λ q has.
      let there = Contains-from_any (λ x y is. eqb-true x y is) q nodes has in
      let low = there.1 in
      let e = there.2 in
      let here = at there.0 q (omega arith) in
      let none = level_visit q 0 0 in
      let fits = node_within there.0 (get_or visits there.0 none) (slice_get-get_or visits there.0 none (omega arith)) in
      omega arith)
      in
      omega arith

  -- the next level
  module _ (found' : List Bool) (parents tier : List ℕ) (next : IsTier edge visits from found found' parents tier) (after : List LevelVisit)
      (after_is : after ≡ visits ++ map (levelled (top + 1) parents) tier) (some : from < length visits) where
    -- a visit of the next level
    abbrev IsAdded : ℕ → LevelVisit → Type 0
    IsAdded i v = (length visits ≤ i) × (node : ℕ) × (slice_get tier (i - length visits) ≡ Some node) × (v ≡ levelled (top + 1) parents node)

    from_mapped : (xs : List ℕ) (k : ℕ) (v : LevelVisit) → slice_get (map (levelled (top + 1) parents) xs) k ≡ Some v
        → (node : ℕ) × (slice_get xs k ≡ Some node) × (v ≡ levelled (top + 1) parents node)
    from_mapped [] k v at = absurd (cc)
    from_mapped (x ∷ xs) zero v at = (x, refl, sym (same_Some (levelled (top + 1) parents x) v at))
    from_mapped (x ∷ xs) (suc k) v at = from_mapped xs k v at

    mapped_at : (xs : List ℕ) (k node : ℕ) → slice_get xs k ≡ Some node → slice_get (map (levelled (top + 1) parents) xs) k ≡ Some (levelled (top + 1) parents node)
    mapped_at [] k node at = absurd (cc)
    mapped_at (x ∷ xs) zero node at = ap (λ y. Some (levelled (top + 1) parents y)) (same_Some x node at)
    mapped_at (x ∷ xs) (suc k) node at = mapped_at xs k node at

    beyond : (xs ys : List LevelVisit) (i : ℕ) (v : LevelVisit) → slice_get (xs ++ ys) i ≡ Some v → (slice_get xs i ≡ Some v) ⊎ ((length xs ≤ i) × (slice_get ys (i - length xs) ≡ Some v))
    beyond [] ys i v at = inr (omega arith, let e : i - 0 ≡ i = omega arith in subst (λ k. slice_get ys k ≡ Some v) (sym e) at)
    beyond (x ∷ xs) ys zero v at = inl at
    beyond (x ∷ xs) ys (suc i) v at = elim (beyond xs ys i v at) [
      | inl here ↦ inl here
      | inr there ↦
          let e : i - length xs ≡ suc i - length (x ∷ xs) = let l = there.0 in omega arith in
          inr (let l = there.0 in omega arith, subst (λ k. slice_get ys k ≡ Some v) e there.1)
    ]

    past : (xs ys : List LevelVisit) (k : ℕ) (v : LevelVisit) → slice_get ys k ≡ Some v → slice_get (xs ++ ys) (length xs + k) ≡ Some v
    past [] ys k v at = let e : 0 + k ≡ k = omega arith in subst (λ j. slice_get ys j ≡ Some v) (sym e) at
    past (x ∷ xs) ys k v at = let e : length (x ∷ xs) + k ≡ suc (length xs + k) = omega arith in
        subst (λ j. slice_get (x ∷ (xs ++ ys)) j ≡ Some v) (sym e) (past xs ys k v at)

    split : (i : ℕ) (v : LevelVisit) → slice_get after i ≡ Some v → (slice_get visits i ≡ Some v) ⊎ IsAdded i v
    split i v at = elim (beyond visits (map (levelled (top + 1) parents) tier) i v (ap (λ vs. slice_get vs i) (sym after_is) ∙ at)) [
      | inl old ↦ inl old
      | inr new ↦ let m = from_mapped tier (i - length visits) v new.1 in inr (new.0, m.0, m.1, m.2)
    ]

    kept : (i : ℕ) (v : LevelVisit) → slice_get visits i ≡ Some v → slice_get after i ≡ Some v
    kept i v at = ap (λ vs. slice_get vs i) after_is ∙ kept_prefix visits (map (levelled (top + 1) parents) tier) i v at

    -- what is new is next
    is_next : (i : ℕ) (v : LevelVisit) → IsAdded i v → IsNextNode edge visits from (length visits) found v.node
    is_next i v (far, node, at, same) =
        let node_is : node ≡ v.node = ap (λ (x : LevelVisit). x.node) (sym same) in
        subst (IsNextNode edge visits from (length visits) found) node_is (((next.list).members node).0 (i - length visits, at))

    added_level : (i : ℕ) (v : LevelVisit) → IsAdded i v → v.level ≡ top + 1
    added_level i v (far, node, at, same) = ap (λ (x : LevelVisit). x.level) same

    first_from : (i : ℕ) (v : LevelVisit) → IsAdded i v → IsFirstFrom edge visits from (length visits) v.node v.parent
    first_from i v new =
        let same = new.3 in
        let parent : slice_index_or parents v.node 0 ≡ v.parent =
        ap (λ k. slice_index_or parents k 0) (ap (λ (x : LevelVisit). x.node) same) ∙ ap (λ (x : LevelVisit). x.parent) (sym same)
        in
        subst (IsFirstFrom edge visits from (length visits) v.node) parent ((next.upto).parents_are v.node (is_next i v new))

    unlike : (i j : ℕ) (v w : LevelVisit) → slice_get visits i ≡ Some v → IsAdded j w → v.node ≡ w.node → ⊥
    unlike i j v w old new same = let nx = is_next j w new in never_both found w.node (subst (Has found) same (seen_at i v old)) nx.lacks

    old_level : (i : ℕ) (v : LevelVisit) → slice_get visits i ≡ Some v → v.level ≤ top
    old_level i v at = elim (cases_lt i from) [
      | inl early ↦ let l = is.below i v early at in omega arith
      | inr late ↦ let l = is.last i v late at in omega arith
    ]

    added_rise : (i j : ℕ) (v w : LevelVisit) → i < j → IsAdded i v → IsAdded j w → v.node < w.node
    added_rise i j v w lt (far, m, at_m, v_is) (far', k, at_k, w_is) =
        let below = (next.list).rise (i - length visits) (j - length visits) m k (omega arith) at_m at_k in
        let e = ap (λ (x : LevelVisit). x.node) v_is in
        let f = ap (λ (x : LevelVisit). x.node) w_is in
        omega arith

    -- a node that is next is visited at the next level
    next_seen : (node : ℕ) → IsNextNode edge visits from (length visits) found node → (place : ℕ) × (slice_get after place ≡ Some (levelled (top + 1) parents node))
    next_seen node nx =
        let among = ((next.list).members node).1 nx in (
          length visits + among.0,
          ap (λ vs. slice_get vs (length visits + among.0)) after_is
              ∙ past visits (map (levelled (top + 1) parents) tier) among.0 (levelled (top + 1) parents node) (mapped_at tier among.0 node among.1),
        )

    pub levelled_more : IsLevelled edge root capacity (length visits) (top + 1) after found'
    levelled_more = record {
      begins = kept 0 (level_visit root 0 0) is.begins;
      earlier = λ i v pos a. elim (split i v a) [
        | inl old ↦ is.earlier i v pos old
        | inr new ↦
            let f = first_from i v new in
            let l = f.led in
            let e = f.is in
            let high = l.high in
            let far = new.0 in
            (omega arith, omega arith)
      ];
      edges = λ i v pos a. elim (split i v a) [
        | inl old ↦
            let has = is.edges i v pos old in
            record { from = has.from; from_is = kept (v.parent - 1) has.from has.from_is; leads = has.leads; above = has.above }
        | inr new ↦
            let f = first_from i v new in
            let l = f.led in
            let e = f.is in
            let place : l.place ≡ v.parent - 1 = omega arith in
            let here = is.last l.place l.visit l.low l.is in
            let up = added_level i v new in
            record { from = l.visit; from_is = subst (λ k. slice_get after k ≡ Some l.visit) place (kept l.place l.visit l.is); leads = l.leads; above = omega arith }
      ];
      once = λ i j v w a b same. elim (split i v a) [
        | inl old_i ↦ elim (split j w b) [
          | inl old_j ↦ is.once i j v w old_i old_j same
          | inr new_j ↦ absurd (unlike i j v w old_i new_j same)
        ]
        | inr new_i ↦ elim (split j w b) [
          | inl old_j ↦ absurd (unlike j i w v old_j new_i (sym same))
          | inr new_j ↦ elim (cases_order i j) [
            | inl e ↦ e
            | inr (inl lt) ↦ absurd (let r = added_rise i j v w lt new_i new_j in omega arith)
            | inr (inr gt) ↦ absurd (let r = added_rise j i w v gt new_j new_i in omega arith)
          ]
        ]
      ];
      settled = λ i v node lt a e. elim (split i v a) [
        | inl old ↦ elim (cases_lt i from) [
          | inl early ↦
              let near = is.settled i v node early old e in
              record { place = near.place; visit = near.visit; is = kept near.place near.visit near.is; of = near.of; near = near.near }
          | inr late ↦
              let here = is.last i v late old in
              elim (has_or_lacks found node) [
                | inl had ↦
                    let seen = (is.found_are node).0 had in
                    let l = old_level seen.place seen.visit seen.is in
                    record { place = seen.place; visit = seen.visit; is = kept seen.place seen.visit seen.is; of = seen.of; near = omega arith }
                | inr lacks ↦
                    let nx : IsNextNode edge visits from (length visits) found node = record {
                      lacks = lacks;
                      led = record { place = i; visit = v; low = late; high = lt; is = old; leads = e };
                    } in
                    let seen = next_seen node nx in
                    record { place = seen.0; visit = levelled (top + 1) parents node; is = seen.1; of = refl; near = omega arith }
              ]
        ]
        | inr new ↦ absurd (let far = new.0 in omega arith)
      ];
      order = λ i j v w lt a b. elim (split i v a) [
        | inl old_i ↦ elim (split j w b) [
          | inl old_j ↦ is.order i j v w lt old_i old_j
          | inr new_j ↦ inl (let l = old_level i v old_i in let u = added_level j w new_j in omega arith)
        ]
        | inr new_i ↦ elim (split j w b) [
          | inl old_j ↦ absurd (let within = slice_get_within visits j w old_j in let far = new_i.0 in omega arith)
          | inr new_j ↦ inr (added_level i v new_i ∙ sym (added_level j w new_j), added_rise i j v w lt new_i new_j)
        ]
      ];
      first = λ i j v w pos a b level e. elim (split j w b) [
        | inl old_j ↦ elim (split i v a) [
          | inl old_i ↦ is.first i j v w pos old_i old_j level e
          | inr new_i ↦ absurd (let u = added_level i v new_i in let l = old_level j w old_j in omega arith)
        ]
        | inr new_j ↦ elim (split i v a) [
          | inl old_i ↦ elim (cases_lt i from) [
            | inl early ↦ absurd (let l = is.below i v early old_i in let u = added_level j w new_j in omega arith)
            | inr late ↦
                let f = first_from j w new_j in
                let p = f.is in
                let within = slice_get_within visits i v old_i in
                let most = f.first (record { place = i; visit = v; low = late; high = within; is = old_i; leads = e }) in
                let l = f.led in
                omega arith
          ]
          | inr new_i ↦ absurd (let u = added_level i v new_i in let u' = added_level j w new_j in omega arith)
        ]
      ];
      found_are = λ node. (
        λ has. elim (((next.upto).found_are node).0 has) [
          | inl had ↦
              let seen = (is.found_are node).0 had in
              record { place = seen.place; visit = seen.visit; is = kept seen.place seen.visit seen.is; of = seen.of }
          | inr nx ↦ let seen = next_seen node nx in record { place = seen.0; visit = levelled (top + 1) parents node; is = seen.1; of = refl }
        ],
        λ seen. elim (split seen.place seen.visit seen.is) [
          | inl old ↦ ((next.upto).found_are node).1 (inl ((is.found_are node).1 (record { place = seen.place; visit = seen.visit; is = old; of = seen.of })))
          | inr new ↦
              let nx = is_next seen.place seen.visit new in
              ((next.upto).found_are node).1 (inr (subst (IsNextNode edge visits from (length visits) found) seen.of nx))
        ],
      );
      below = λ i v lt a. elim (split i v a) [
        | inl old ↦ let l = old_level i v old in omega arith
        | inr new ↦ absurd (let far = new.0 in omega arith)
      ];
      last = λ i v le a. elim (split i v a) [
        | inl old ↦ absurd (let within = slice_get_within visits i v old in omega arith)
        | inr new ↦ added_level i v new
      ];
      full_length = (next.upto).capacity ∙ is.full_length;
      reached = let long = ap length after_is ∙ length-append visits (map (levelled (top + 1) parents) tier) in omega arith;
      low = let l = is.low in omega arith;
    }

-- the root alone
module _ (edge : ℕ → ℕ → Type 0) (root capacity : ℕ) (fits : root < capacity) where
  abbrev alone : List LevelVisit
  alone = level_visit root 0 0 ∷ []

  abbrev start : List Bool
  start = slice_set (replicate capacity false) root true

  pub levelled_root : IsLevelled edge root capacity 0 0 (level_visit root 0 0 ∷ []) (slice_set (replicate capacity false) root true)
  levelled_root = record {
    begins = refl;
    earlier = λ i v pos a. absurd (let o = (only_item (level_visit root 0 0) i v a).0 in omega arith);
    edges = λ i v pos a. absurd (let o = (only_item (level_visit root 0 0) i v a).0 in omega arith);
    once = λ i j v w a b same. let o = (only_item (level_visit root 0 0) i v a).0 in let p = (only_item (level_visit root 0 0) j w b).0 in omega arith;
    settled = λ i v node lt a e. absurd (omega arith);
    order = λ i j v w lt a b. absurd (let p = (only_item (level_visit root 0 0) j w b).0 in omega arith);
    first = λ i j v w pos a b level e. absurd (let p = (only_item (level_visit root 0 0) j w b).0 in omega arith);
    found_are = λ node. (
      λ has. elim (set_cases (replicate capacity false) root node has) [
        | inl same ↦ record { place = 0; visit = level_visit root 0 0; is = refl; of = sym same }
        | inr had ↦ absurd (nothing capacity node had)
      ],
      λ seen.
          let is = (only_item (level_visit root 0 0) seen.place seen.visit seen.is).1 in
          let same : root ≡ node = ap (λ (x : LevelVisit). x.node) is ∙ seen.of in
          subst (Has start) same (has_set (replicate capacity false) root (let e = length-replicate capacity false in omega arith)),
    );
    below = λ i v lt a. absurd (omega arith);
    last = λ i v le a. sym (ap (λ (x : LevelVisit). x.level) (only_item (level_visit root 0 0) i v a).1);
    full_length = length-set (replicate capacity false) root true ∙ length-replicate capacity false;
    reached = omega arith;
    low = omega arith;
  }

  -- no step is counted yet
  pub counts_none : (steps : ℕ) → CountsVisits edge root steps steps
  counts_none steps = (alone, levelled_part edge root capacity 0 0 alone start levelled_root, omega arith)
