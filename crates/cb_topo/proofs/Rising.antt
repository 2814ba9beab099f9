-- Nodes whose names rise: one is put in, and those of a kind are picked.
use Rattle.std.proofs.Common.{◌≡◌, ◌≢◌, ◌⊎◌, ℕ, zero, suc, ◌+◌, ◌-◌, ◌<◌, ◌≤◌, List, [], ◌∷◌, ◌++◌, length, take, slice_index_or, refl, sym, ap, subst, ◌∙◌, inl, inr, arith}
use Rattle.std.specs.List.{All, AllPairs, AllWithin, AllZip, Contains, insert}
use Rattle.std.proofs.lemmas.List.{length-take, get_or-take, get_or_default}
use Rattle.std.specs.List.Sorted.{IsPartitionPoint}
use Rattle.std.specs.Ordering.{ordering_reverse}
use Rattle.std.specs.declared.cmp.Ordering.TheVariants.{Less, Equal, Greater}
use Rattle.std.proofs.lemmas.Bool.{cases_order}
use Rattle.std.proofs.lemmas.List.Edits.{length-insert, get_or-insert_below, get_or-insert_at, get_or-insert_above}
use Rattle.std.proofs.lemmas.List.Elements.{All-nil, All-head, All-tail, All-push, All-weaker, Contains-get_or, Contains-push, Contains-push_cases, Contains-append_left}
use Rattle.std.proofs.lemmas.List.Quantifiers.{all_pairs_push}
use Rattle.cb_model.specs.declared.node.NodeName.{NodeName}
use Rattle.cb_model.specs.NodeOrder.{node_cmp}
use Rattle.cb_model.proofs.Rising.{node_cmp_total, node_cmp_exact}
use Rattle.cb_network.specs.Nodes.{AreInOrder}
use Rattle.cb_nodes.specs.declared.id.NodeId.{NodeId}
use Rattle.cb_topo.specs.declared.kind.NodeKind.{NodeKind}
use Rattle.cb_topo.specs.Numbered.{Numbered, topology_of, IsNodeNamed, IsLiveNode, AreNamed, IsWhole}
use Rattle.cb_topo.specs.Ordered.{IsOfKind}
use Rattle.cb_topo.specs.Settled.{IsBefore, AreRisingNodes, IsSettled, PutsIn}
use Rattle.cb_topo.proofs.Naming.{one_name}
use Rattle.cb_topo.proofs.Listing.{of_topology}

-- where an item of a list with one put in comes from
pub placed : {X : Type 0} (xs : List X) (p : ℕ) (y : X) → p ≤ length xs → (k : ℕ) (d : X)
    → ((k < p) × (slice_index_or (insert xs p y) k d ≡ slice_index_or xs k d))
    ⊎ (((k ≡ p) × (slice_index_or (insert xs p y) k d ≡ y))
    ⊎ ((p < k) × (slice_index_or (insert xs p y) k d ≡ slice_index_or xs (k - 1) d)))
placed xs p y within k d = elim (cases_order k p) [
  | inl e ↦ inr (inl (e, ap (λ j. slice_index_or (insert xs p y) j d) e ∙ get_or-insert_at xs p y d within))
  | inr (inl low) ↦ inl (low, get_or-insert_below xs p y d k low within)
  | inr (inr high) ↦
      let back : k ≡ k - 1 + 1 = omega arith in
      inr (inr (high, ap (λ j. slice_index_or (insert xs p y) j d) back ∙ get_or-insert_above xs p y d (k - 1) (omega arith) within))
]

module _ {X : Type 0} (R : X → X → Type 0) (xs : List X) (p : ℕ) (y : X) (within : p ≤ length xs) where
  pub pairs_insert : AllPairs R xs → ((k : ℕ) (d : X) → k < p → R (slice_index_or xs k d) y)
      → ((k : ℕ) (d : X) → p ≤ k → k < length xs → R y (slice_index_or xs k d)) → AllPairs R (insert xs p y)
  pairs_insert pairs low high i j d lt inside =
      let long = length-insert xs p y within in
      elim (placed xs p y within i d) [
        | inl (i_low, i_is) ↦ elim (placed xs p y within j d) [
          | inl (j_low, j_is) ↦ subst (λ a. R a (slice_index_or (insert xs p y) j d)) (sym i_is) (subst (R (slice_index_or xs i d)) (sym j_is) (pairs i j d lt (omega arith)))
          | inr (inl (j_at, j_is)) ↦ subst (λ a. R a (slice_index_or (insert xs p y) j d)) (sym i_is) (subst (R (slice_index_or xs i d)) (sym j_is) (low i d i_low))
          | inr (inr (j_high, j_is)) ↦ subst (λ a. R a (slice_index_or (insert xs p y) j d)) (sym i_is) (subst (R (slice_index_or xs i d)) (sym j_is) (pairs i (j - 1) d (omega arith) (omega arith)))
        ]
        | inr (inl (i_at, i_is)) ↦ elim (placed xs p y within j d) [
          | inl (j_low, j_is) ↦ absurd (omega arith)
          | inr (inl (j_at, j_is)) ↦ absurd (omega arith)
          | inr (inr (j_high, j_is)) ↦ subst (λ a. R a (slice_index_or (insert xs p y) j d)) (sym i_is) (subst (R y) (sym j_is) (high (j - 1) d (omega arith) (omega arith)))
        ]
        | inr (inr (i_high, i_is)) ↦ elim (placed xs p y within j d) [
          | inl (j_low, j_is) ↦ absurd (omega arith)
          | inr (inl (j_at, j_is)) ↦ absurd (omega arith)
          | inr (inr (j_high, j_is)) ↦ subst (λ a. R a (slice_index_or (insert xs p y) j d)) (sym i_is) (subst (R (slice_index_or xs (i - 1) d)) (sym j_is) (pairs (i - 1) (j - 1) d (omega arith) (omega arith)))
        ]
      ]

module _ {X : Type 0} (xs : List X) (p : ℕ) (y : X) (within : p ≤ length xs) where
  pub all_insert : (P : X → Type 0) → All P xs → P y → All P (insert xs p y)
  all_insert P all is k d inside =
      let long = length-insert xs p y within in
      elim (placed xs p y within k d) [
        | inl (low, e) ↦ subst P (sym e) (all k d (omega arith))
        | inr (inl (at, e)) ↦ subst P (sym e) is
        | inr (inr (high, e)) ↦ subst P (sym e) (all (k - 1) d (omega arith))
      ]

  pub insert_has : Contains (insert xs p y) y
  insert_has = let long = length-insert xs p y within in (p, omega arith, get_or-insert_at xs p y y within)

  pub insert_keeps : (x : X) → Contains xs x → Contains (insert xs p y) x
  insert_keeps x (k, lt, e) =
      let long = length-insert xs p y within in
      elim (cases_order k p) [
        | inl at ↦ (k + 1, omega arith, get_or-insert_above xs p y x k (omega arith) within ∙ e)
        | inr (inl low) ↦ (k, omega arith, get_or-insert_below xs p y x k low within ∙ e)
        | inr (inr high) ↦ (k + 1, omega arith, get_or-insert_above xs p y x k (omega arith) within ∙ e)
      ]

  pub insert_only : (x : X) → Contains (insert xs p y) x → Contains xs x ⊎ (x ≡ y)
  insert_only x (k, lt, e) =
      let long = length-insert xs p y within in
      elim (placed xs p y within k x) [
        | inl (low, is) ↦ inl (k, omega arith, sym is ∙ e)
        | inr (inl (at, is)) ↦ inr (sym e ∙ is)
        | inr (inr (high, is)) ↦ inl (k - 1, omega arith, sym is ∙ e)
      ]

module _ (n : Numbered) where
  pub before_trans : (a b c : NodeId) → IsLiveNode n b → IsBefore n a b → IsBefore n b c → IsBefore n a c
  before_trans a b c (y, is) early late x z is_x is_z = node_cmp_total.trans x y z (early x y is_x is) (late y z is is_z)

module _ (n : Numbered) (whole : IsWhole n) where
  -- of two different nodes, one is before the other
  pub before_turned : (a b : NodeId) → a ≢ b → ¬ IsBefore n a b → IsBefore n b a
  before_turned a b differ not y x is_y is_x =
      elim (node_cmp y x) as (λ o. node_cmp y x ≡ o → o ≡ Less) [
        | Less ↦ λ is. refl
        | Equal ↦ λ is. absurd (differ (whole.one a b x is_x (subst (IsNodeNamed n b) (node_cmp_exact y x is) is_y)))
        | Greater ↦ λ is. absurd (not (λ p q is_p is_q.
            let e = one_name n a x p is_x is_p in
            let f = one_name n b y q is_y is_q in
            subst (λ r. node_cmp p r ≡ Less) f (subst (λ r. node_cmp r y ≡ Less) e (node_cmp_total.antisymm x y ∙ ap ordering_reverse is))))
      ] refl

  -- a node that is put where the first of those stands that aren't before it
  pub puts_in : (order : List NodeId) (p : ℕ) (id : NodeId) → AreRisingNodes n order → IsLiveNode n id → ¬ Contains order id → p ≤ length order
      → IsPartitionPoint (λ other. IsBefore n other id) (λ other. ¬ IsBefore n other id) order p → PutsIn n order (insert order p id) id
  puts_in order p id rising live new within point = record {
    rising = record {
      live = all_insert order p id within (IsLiveNode n) rising.live live;
      rise = pairs_insert (IsBefore n) order p id within rising.rise
          (λ k d low. point.0 k d (omega arith) low)
          (λ k d high inside. before_turned (slice_index_or order k d) id (other k d inside) (point.1 k d high inside));
    };
    this = insert_has order p id within;
    kept = insert_keeps order p id within;
    others = insert_only order p id within;
  }
    where
      other : (k : ℕ) (d : NodeId) → k < length order → slice_index_or order k d ≢ id
      other k d inside e = new (subst (Contains order) e (Contains-get_or order k d inside))

zip_length : {X Y : Type 0} (R : X → Y → Type 0) (xs : List X) (ys : List Y) → AllZip R xs ys → length xs ≡ length ys
zip_length R [] [] all = refl
zip_length R [] (y ∷ ys) all = absurd all
zip_length R (x ∷ xs) [] all = absurd all
zip_length R (x ∷ xs) (y ∷ ys) all = ap suc (zip_length R xs ys all.1)

zip_at : {X Y : Type 0} (R : X → Y → Type 0) (xs : List X) (ys : List Y) (i : ℕ) (d : X) (e : Y) → AllZip R xs ys → i < length xs → R (slice_index_or xs i d) (slice_index_or ys i e)
zip_at R [] ys i d e all lt = absurd (omega arith)
zip_at R (x ∷ xs) [] i d e all lt = absurd all
zip_at R (x ∷ xs) (y ∷ ys) zero d e all lt = all.0
zip_at R (x ∷ xs) (y ∷ ys) (suc i) d e all lt = zip_at R xs ys i d e all.1 (omega arith)

number_none : NodeId
number_none = record { 0 = 0 }

-- nodes have names
names_of : (n : Numbered) (ids : List NodeId) → All (IsLiveNode n) ids → (names : List NodeName) × AreNamed n ids names
names_of n [] all = ([], tt)
names_of n (id ∷ ids) all =
    let (x, is) = All-head (IsLiveNode n) id ids all in
    let (names, are) = names_of n ids (All-tail (IsLiveNode n) id ids all) in
    (x ∷ names, (is, are))

-- these are those of the kind among the nodes that were taken
pub record ArePicked (n : Numbered) (kind : NodeKind) (taken nodes : List NodeId) : Type 0 where
  pub rising : AreRisingNodes n nodes
  pub among : All (Contains taken) nodes
  pub each : All (λ id. (x : NodeName) → IsNodeNamed n id x → IsOfKind kind (topology_of n) x) nodes
  pub all : (id : NodeId) (x : NodeName) → Contains taken id → IsNodeNamed n id x → IsOfKind kind (topology_of n) x → Contains nodes id

module _ (n : Numbered) (kind : NodeKind) where
  abbrev Fits : NodeId → Type 0
  Fits id = (x : NodeName) → IsNodeNamed n id x → IsOfKind kind (topology_of n) x

  pub picked_none : ArePicked n kind [] []
  picked_none = record {
    rising = record { live = All-nil (IsLiveNode n); rise = λ i j d lt within. absurd (omega arith) };
    among = All-nil (Contains []);
    each = All-nil Fits;
    all = λ id x (k, lt, e) named is. absurd (omega arith);
  }

  module _ (taken nodes : List NodeId) (are : ArePicked n kind taken nodes) (id : NodeId) where
    still : All (Contains (taken ++ id ∷ [])) nodes
    still = All-weaker (Contains taken) (Contains (taken ++ id ∷ [])) (λ x there. Contains-append_left taken (id ∷ []) x there) nodes are.among

    pub picked_past : ((x : NodeName) → IsNodeNamed n id x → ¬ IsOfKind kind (topology_of n) x) → ArePicked n kind (taken ++ id ∷ []) nodes
    picked_past unfit = record {
      rising = are.rising;
      among = still;
      each = are.each;
      all = λ k x there named is. elim (Contains-push_cases taken id k there) [
        | inl early ↦ are.all k x early named is
        | inr e ↦ absurd (unfit x (subst (λ j. IsNodeNamed n j x) (sym e) named) is)
      ];
    }

    pub picked_more : IsLiveNode n id → Fits id → ((other : NodeId) → Contains taken other → IsBefore n other id) → ArePicked n kind (taken ++ id ∷ []) (nodes ++ id ∷ [])
    picked_more live fits before = record {
      rising = record {
        live = All-push (IsLiveNode n) nodes id are.rising.live live;
        rise = all_pairs_push (IsBefore n) nodes id are.rising.rise (λ k d inside. before (slice_index_or nodes k d) (are.among k d inside));
      };
      among = All-push (Contains (taken ++ id ∷ [])) nodes id still (Contains-push taken id);
      each = All-push Fits nodes id are.each fits;
      all = λ k x there named is. elim (Contains-push_cases taken id k there) [
        | inl early ↦ Contains-append_left nodes (id ∷ []) k (are.all k x early named is)
        | inr e ↦ subst (Contains (nodes ++ id ∷ [])) e (Contains-push nodes id)
      ];
    }

  -- all nodes were taken
  pub picked_all : IsWhole n → (ids nodes : List NodeId) → IsSettled n ids → ArePicked n kind ids nodes
      → (names : List NodeName) × AreInOrder (IsOfKind kind (topology_of n)) names × AreNamed n nodes names
  picked_all whole ids nodes settled are =
      let (names, named) = names_of n nodes are.rising.live in
      let long : length nodes ≡ length names = zip_length (IsNodeNamed n) nodes names named in
      let at : (k : ℕ) (d : NodeId) (e : NodeName) → k < length nodes → IsNodeNamed n (slice_index_or nodes k d) (slice_index_or names k e) = λ k d e lt. zip_at (IsNodeNamed n) nodes names k d e named lt in
      let order : AreInOrder (IsOfKind kind (topology_of n)) names = record {
        rise = λ i j e lt inside.
            are.rising.rise i j number_none lt (omega arith) (slice_index_or names i e) (slice_index_or names j e) (at i number_none e (omega arith)) (at j number_none e (omega arith));
        each = λ x (k, lt, e).
            let inside : k < length nodes = omega arith in
            subst (IsOfKind kind (topology_of n)) e (are.each k number_none inside (slice_index_or names k x) (at k number_none x inside));
        all = λ x is.
            let (id, its) = whole.named x (of_topology kind (topology_of n) x is) in
            let (k, lt, e) = are.all id x (settled.all id (x, its)) its is in
            let here : IsNodeNamed n id (slice_index_or names k x) = subst (λ j. IsNodeNamed n j (slice_index_or names k x)) e (at k id x lt) in
            (k, omega arith, one_name n id (slice_index_or names k x) x here its);
      } in
      (names, order, named)

-- what was taken of nodes that rise is before the next one
pub before_next : {X : Type 0} (R : X → X → Type 0) (xs : List X) (i : ℕ) (d : X) → AllPairs R xs → i < length xs → (x : X) → Contains (take i xs) x → R x (slice_index_or xs i d)
before_next R xs i d pairs within x (k, lt, e) =
    let long = length-take i xs in
    let low : k < i = omega arith in
    subst (R x) (get_or_default xs i x d within) (subst (λ y. R y (slice_index_or xs i x)) (sym (get_or-take i xs k x low) ∙ e) (pairs k i x low within))

-- a search by halves
module _ (n : Numbered) (order : List NodeId) (rising : AreRisingNodes n order) (id : NodeId) (m : ℕ) (zero : NodeId) (within : m < length order) where
  pub low_half : IsBefore n (slice_index_or order m zero) id → AllWithin (λ other. IsBefore n other id) order 0 (m + 1)
  low_half is k d _ lt =
      let here = subst (λ other. IsBefore n other id) (get_or_default order m zero d within) is in
      elim (cases_order k m) [
        | inl e ↦ subst (λ j. IsBefore n (slice_index_or order j d) id) (sym e) here
        | inr (inl low) ↦ before_trans n (slice_index_or order k d) (slice_index_or order m d) id (rising.live m d within) (rising.rise k m d low within) here
        | inr (inr high) ↦ absurd (omega arith)
      ]

  pub high_half : ¬ IsBefore n (slice_index_or order m zero) id → AllWithin (λ other. ¬ IsBefore n other id) order m (length order)
  high_half late k d high inside =
      let here : ¬ IsBefore n (slice_index_or order m d) id = subst (λ other. ¬ IsBefore n other id) (get_or_default order m zero d within) late in
      elim (cases_order k m) [
        | inl e ↦ subst (λ j. ¬ IsBefore n (slice_index_or order j d) id) (sym e) here
        | inr (inl low) ↦ absurd (omega arith)
        | inr (inr above) ↦ λ is. here (before_trans n (slice_index_or order m d) (slice_index_or order k d) id (rising.live k d inside) (rising.rise m k d above inside) is)
      ]
