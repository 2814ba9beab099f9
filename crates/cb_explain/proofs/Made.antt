-- A search by levels, with names instead of ranks, gives canonical levels.
use Rattle.std.proofs.Common.{◌≡◌, ℕ, zero, suc, ◌+◌, ◌-◌, ◌<◌, ◌≤◌, List, [], ◌∷◌, ◌++◌, length, get_or, refl, sym, ap, subst, ◌∙◌, arith, Some, inl, inr}
use Rattle.std.specs.Prelude.{slice_get}
use Rattle.std.specs.List.{AllZip}
use Rattle.std.specs.Ordering.{nat_cmp, on, then_cmp}
use Rattle.std.specs.declared.cmp.Ordering.TheVariants.{Less, Equal}
use Rattle.std.proofs.lemmas.Bool.{cases_order}
use Rattle.std.proofs.lemmas.Bool.Decides.{nat_tests}
use Rattle.std.proofs.lemmas.Option.{same_Some, slice_get-get_or}
use Rattle.cb_model.specs.declared.node.NodeName.{NodeName}
use Rattle.cb_model.specs.NodeOrder.{node_cmp}
use Rattle.cb_model.specs.Order.{Rises}
use Rattle.cb_model.proofs.Rising.{node_strict}
use Rattle.cb_network.specs.Topology.{Topology}
use Rattle.cb_network.specs.Causes.{Edge, Chain}
use Rattle.cb_breadth.specs.declared.visit.LevelVisit.{LevelVisit}
use Rattle.cb_breadth.specs.Levels.{IsLevelTree, IsLevelTreePart, HasEdgeBelow, level_visit}
use Rattle.cb_validity.specs.Spans.{StandsFor}
use Rattle.cb_validity.proofs.SpanLaws.{stands_for_one}
use Rattle.cb_levels.specs.declared.levels.LevelEntry.{LevelEntry}
use Rattle.cb_levels.specs.declared.levels.Levels.{Levels}
use Rattle.cb_levels.specs.Level.{IsLevel, IsPrevious}
use Rattle.cb_levels.specs.Listed.{IsEntryAt}
use Rattle.cb_levels.specs.Canonical.{ListsLevels, entry_cmp, AreCanonicalLevels}
use Rattle.cb_levels.proofs.One.{level_is_one}
use Rattle.cb_levels.proofs.Order.{rises_at}
use Rattle.cb_levels.proofs.Lists.{one_edge_more, more_long}
use Rattle.cb_explain.specs.Made.{IsRankEdge, AreRanks, IsEntryFor, AreLevelsFor, IsNthName, HaveSuccessors}

-- lists that go together
zip_forth : {X Y : Type 0} (R : X → Y → Type 0) (xs : List X) (ys : List Y) → AllZip R xs ys → (i : ℕ) (x : X) → slice_get xs i ≡ Some x
    → (y : Y) × (slice_get ys i ≡ Some y) × R x y
zip_forth R [] ys zip i x at = absurd (cc)
zip_forth R (a ∷ xs) [] zip i x at = absurd zip
zip_forth R (a ∷ xs) (b ∷ ys) zip zero x at = (b, refl, subst (λ z. R z b) (same_Some a x at) zip.0)
zip_forth R (a ∷ xs) (b ∷ ys) zip (suc i) x at = zip_forth R xs ys zip.1 i x at

zip_back : {X Y : Type 0} (R : X → Y → Type 0) (xs : List X) (ys : List Y) → AllZip R xs ys → (i : ℕ) (y : Y) → slice_get ys i ≡ Some y
    → (x : X) × (slice_get xs i ≡ Some x) × R x y
zip_back R xs [] zip i y at = absurd (cc)
zip_back R [] (b ∷ ys) zip i y at = absurd zip
zip_back R (a ∷ xs) (b ∷ ys) zip zero y at = (a, refl, subst (R a) (same_Some b y at) zip.0)
zip_back R (a ∷ xs) (b ∷ ys) zip (suc i) y at = zip_back R xs ys zip.1 i y at

-- what stands before by level and number stands before
nat_below : (a b : ℕ) → a < b → nat_cmp a b ≡ Less
nat_below a b low = grind (arith, nat_tests)

nat_same : (a b : ℕ) → a ≡ b → nat_cmp a b ≡ Equal
nat_same a b same = grind (arith, nat_tests)

by_level : (x y : LevelEntry) → x.level < y.level → entry_cmp x y ≡ Less
by_level x y low = ap (λ o. then_cmp (λ _ _. o) (on (λ (e : LevelEntry). e.node) nat_cmp) x y) (nat_below x.level y.level low)

by_node : (x y : LevelEntry) → x.level ≡ y.level → x.node < y.node → entry_cmp x y ≡ Less
by_node x y same low =
    ap (λ o. then_cmp (λ _ _. o) (on (λ (e : LevelEntry). e.node) nat_cmp) x y) (nat_same x.level y.level same) ∙ nat_below x.node y.node low

-- numbers rise with names
number_below : (nodes : List NodeName) → Rises node_cmp nodes → (i j : ℕ) (m n : NodeName) → StandsFor nodes i m → StandsFor nodes j n → node_cmp m n ≡ Less → i < j
number_below nodes rise i j m n a b less =
    let some = a.counted in
    let some' = b.counted in
    elim (cases_order i j) [
      | inl same ↦
          let one : m ≡ n = stands_for_one nodes i m n a (subst (λ k. StandsFor nodes k n) (sym same) b) in
          absurd (node_strict m n less (subst (λ x. node_cmp x m ≡ Less) one (subst (λ x. node_cmp m x ≡ Less) (sym one) less)))
      | inr (inl below) ↦ below
      | inr (inr above) ↦ absurd (node_strict m n less (rises_at node_cmp nodes rise (j - 1) (i - 1) n m (omega arith) b.is a.is))
    ]

-- a tree is a part of itself
pub part_of : (edge : ℕ → ℕ → Type 0) (root : ℕ) (visits : List LevelVisit) → IsLevelTree edge root visits → IsLevelTreePart edge root visits
part_of edge root visits tree = record { begins = tree.begins; earlier = tree.earlier; edges = tree.edges; once = tree.once }

module _ (t : Topology) (edge : ℕ → ℕ → Type 0) (At : ℕ → NodeName → Type 0) (ranks : AreRanks t edge At) where
  -- a node has one rank
  pub one_rank : (a b : ℕ) (x : NodeName) → At a x → At b x → a ≡ b
  one_rank a b x at_a at_b = elim (cases_order a b) [
    | inl same ↦ same
    | inr (inl below) ↦ let less = ranks.rise a b x x below at_a at_b in absurd (node_strict x x less less)
    | inr (inr above) ↦ let less = ranks.rise b a x x above at_b at_a in absurd (node_strict x x less less)
  ]

  -- a lesser node has a lesser rank
  rank_below : (a b : ℕ) (x y : NodeName) → At a x → At b y → node_cmp x y ≡ Less → a < b
  rank_below a b x y at_a at_b less = elim (cases_order a b) [
    | inl same ↦
        let one : x ≡ y = ranks.one a x y at_a (subst (λ k. At k y) (sym same) at_b) in
        let own : node_cmp x x ≡ Less = subst (λ z. node_cmp x z ≡ Less) (sym one) less in
        absurd (node_strict x x own own)
    | inr (inl below) ↦ below
    | inr (inr above) ↦ absurd (node_strict x y less (ranks.rise b a y x above at_b at_a))
  ]

  module _ (root : ℕ) (p : NodeName) (at_root : At root p) (visits : List LevelVisit) (part : IsLevelTreePart edge root visits) where
    -- a chain of as many edges as its level leads to each visited node
    pub chain_below : (bound position : ℕ) (v : LevelVisit) (n : NodeName) → position < bound → slice_get visits position ≡ Some v → At v.node n
        → (between : List NodeName) × Chain t p between n × (length between ≡ v.level)
    chain_below zero position v n low is at = absurd (omega arith)
    chain_below (suc bound) zero v n low is at =
        let same : level_visit root 0 0 ≡ v = same_Some (level_visit root 0 0) v (sym part.begins ∙ is) in
        let rank : root ≡ v.node = ap (λ (x : LevelVisit). x.node) same in
        let level : 0 ≡ v.level = ap (λ (x : LevelVisit). x.level) same in
        ([], ranks.one v.node p n (subst (λ k. At k p) rank at_root) at, level)
    chain_below (suc bound) (suc k) v n low is at =
        let earlier = part.earlier (suc k) v (omega arith) is in
        let has = part.edges (suc k) v (omega arith) is in
        let leads = ranks.leads has.from.node v.node has.leads in
        let there : leads.to ≡ n = ranks.one v.node leads.to n leads.to_is at in
        let from = chain_below bound (v.parent - 1) has.from leads.from (omega (arith, earlier.0, earlier.1)) has.from_is leads.from_is in
        let to_n : Edge t leads.from n = subst (Edge t leads.from) there leads.edge in
        let long = from.2 in
        let longer = more_long from.0 n in
        let above = has.above in
        (from.0 ++ n ∷ [], one_edge_more t p from.0 leads.from n from.1 to_n, omega arith)

  module _ (root : ℕ) (p : NodeName) (at_root : At root p) (visits : List LevelVisit) (tree : IsLevelTree edge root visits) where
    -- along a chain everything is visited
    along : (q : NodeName) (between : List NodeName) (s : NodeName) (position : ℕ) (v : LevelVisit) → slice_get visits position ≡ Some v → At v.node q → Chain t q between s
        → (k : ℕ) × (w : LevelVisit) × (slice_get visits k ≡ Some w) × At w.node s × (w.level ≤ v.level + length between)
    along q [] s position v is at same = (position, v, is, subst (At v.node) same at, omega arith)
    along q (r ∷ rest) s position v is at chain =
        let led = ranks.led v.node q r at chain.0 in
        let near = tree.closed position v led.rank is led.leads in
        let low = near.near in
        let at_r : At near.visit.node r = subst (λ k. At k r) (sym near.of) led.is in
        let far = along r rest s near.place near.visit near.is at_r chain.1 in
        let within = far.4 in
        (far.0, far.1, far.2, far.3, omega arith)

    pub from_root : (s : NodeName) (between : List NodeName) → Chain t p between s
        → (k : ℕ) × (w : LevelVisit) × (slice_get visits k ≡ Some w) × At w.node s × (w.level ≤ length between)
    from_root s between chain =
        let far = along p between s 0 (level_visit root 0 0) tree.begins at_root chain in
        let within = far.4 in
        (far.0, far.1, far.2, far.3, omega arith)

    -- two visits of a node are one
    same_visit : (i j : ℕ) (v w : LevelVisit) (n : NodeName) → slice_get visits i ≡ Some v → slice_get visits j ≡ Some w → At v.node n → At w.node n → v ≡ w
    same_visit i j v w n is is' at at' =
        let position = tree.once i j v w is is' (one_rank v.node w.node n at at') in
        same_Some v w (sym is ∙ (ap (slice_get visits) position ∙ is'))

    level_at : (position : ℕ) (v : LevelVisit) (n : NodeName) → slice_get visits position ≡ Some v → At v.node n → IsLevel t p n v.level
    level_at position v n is at =
        let chain = chain_below root p at_root visits (part_of edge root visits tree) (suc position) position v n (omega arith) is at in
        record {
          between = chain.0;
          chain = chain.1;
          long = chain.2;
          least = λ others other.
              let far = from_root n others other in
              let within = far.4 in
              let level = ap (λ (x : LevelVisit). x.level) (same_visit position far.0 v far.1 n is far.2 at far.3) in
              omega arith;
        }

    -- the parent's node is the previous one
    pub previous_at : (position : ℕ) (v : LevelVisit) (n : NodeName) → 0 < position → slice_get visits position ≡ Some v → At v.node n → (has : HasEdgeBelow edge visits v)
        → (x : NodeName) → At has.from.node x → Edge t x n → IsPrevious t p n x
    previous_at position v n later is at has x at_x to_n =
        let above = has.above in
        let from = has.from in
        let earlier = tree.earlier position v later is in
        record {
          level = from.level;
          below = level_at (v.parent - 1) from x has.from_is at_x;
          here = subst (IsLevel t p n) above (level_at position v n is at);
          edge = to_n;
          least = λ r level leads less.
              let far = from_root r level.between level.chain in
              let u = far.1 in
              let same = level_is_one t p r u.level from.level (level_at far.0 u r far.2 far.3) level in
              let led = ranks.led u.node r n far.3 leads in
              let rank : led.rank ≡ v.node = one_rank led.rank v.node n led.is at in
              let most = tree.first far.0 position u v later far.2 is (omega arith) (subst (edge u.node) rank led.leads) in
              let low = rank_below u.node from.node r x far.3 at_x less in
              elim (cases_order far.0 (v.parent - 1)) [
                | inl at_parent ↦
                    let one : u ≡ from = same_Some u from (sym far.2 ∙ (ap (slice_get visits) at_parent ∙ has.from_is)) in
                    let e = ap (λ (y : LevelVisit). y.node) one in
                    omega arith
                | inr (inl before) ↦ omega (arith, earlier.0)
                | inr (inr after) ↦ elim (tree.order (v.parent - 1) far.0 from u after has.from_is far.2) [
                  | inl less_level ↦ omega arith
                  | inr both ↦ let e = both.1 in omega arith
                ]
              ];
        }

    module _ (levels : Levels) (are : AreLevelsFor At visits levels) where
      abbrev R : LevelVisit → LevelEntry → Type 0
      R = IsEntryFor At levels.nodes

      entry_of : (i : ℕ) (v : LevelVisit) → slice_get visits i ≡ Some v → (e : LevelEntry) × (slice_get levels.entries i ≡ Some e) × R v e
      entry_of = zip_forth R visits levels.entries are.entries

      visit_of : (i : ℕ) (e : LevelEntry) → slice_get levels.entries i ≡ Some e → (v : LevelVisit) × (slice_get visits i ≡ Some v) × R v e
      visit_of = zip_back R visits levels.entries are.entries

      -- what an entry lists is visited there
      listed_visit : (i : ℕ) (e : LevelEntry) (n : NodeName) → IsEntryAt levels i e n → (v : LevelVisit) × (slice_get visits i ≡ Some v) × At v.node n × (e.level ≡ v.level)
      listed_visit i e n at =
          let v = visit_of i e at.is in
          let r = v.2 in
          let same : r.node ≡ n = stands_for_one levels.nodes e.node r.node n r.names at.names in
          (v.0, v.1, subst (At v.0.node) same r.at, r.level)

      -- what is visited is listed there
      visit_listed : (i : ℕ) (v : LevelVisit) (n : NodeName) → slice_get visits i ≡ Some v → At v.node n → (e : LevelEntry) × IsEntryAt levels i e n × (e.level ≡ v.level) × (e.parent ≡ v.parent)
      visit_listed i v n is at =
          let e = entry_of i v is in
          let r = e.2 in
          let same : r.node ≡ n = ranks.one v.node r.node n r.at at in
          (e.0, record { is = e.1; names = subst (StandsFor levels.nodes e.0.node) same r.names }, r.level, r.parent)

      lists : ListsLevels t p levels
      lists = record {
        caused = λ n. (
          (λ l.
              let v = listed_visit l.0 l.1 n l.2 in
              let chain = chain_below root p at_root visits (part_of edge root visits tree) (suc l.0) l.0 v.0 n (omega arith) v.1 v.2 in
              (chain.0, chain.1)),
          (λ causes.
              let far = from_root n causes.0 causes.1 in
              let e = visit_listed far.0 far.1 n far.2 far.3 in
              (far.0, e.0, e.1)),
        );
        each = λ position e n at.
            let v = listed_visit position e n at in
            subst (IsLevel t p n) (sym v.3) (level_at position v.0 n v.1 v.2);
      }

      before_at : (i j : ℕ) (x y : LevelEntry) → i < j → slice_get levels.entries i ≡ Some x → slice_get levels.entries j ≡ Some y → entry_cmp x y ≡ Less
      before_at i j x y lt at_x at_y =
          let v = visit_of i x at_x in
          let w = visit_of j y at_y in
          let rv = v.2 in
          let rw' = w.2 in
          let lv = rv.level in
          let lw = rw'.level in
          elim (tree.order i j v.0 w.0 lt v.1 w.1) [
            | inl low ↦ by_level x y (omega arith)
            | inr both ↦
                let same = both.0 in
                let less = ranks.rise v.0.node w.0.node rv.node rw'.node both.1 rv.at rw'.at in
                by_node x y (omega arith) (number_below levels.nodes are.rise x.node y.node rv.node rw'.node rv.names rw'.names less)
          ]

      pub canonical : AreCanonicalLevels t p levels
      canonical = record {
        lists = lists;
        order = λ i j d lt within.
            before_at i j (get_or levels.entries i d) (get_or levels.entries j d) lt (slice_get-get_or levels.entries i d (omega arith)) (slice_get-get_or levels.entries j d within);
        first =
            let e = visit_listed 0 (level_visit root 0 0) p tree.begins at_root in
            record { entry = e.0; listed = e.1; alone = e.3 };
        parents = λ position e later at.
            let v = visit_of position e at in
            let r = v.2 in
            let has = tree.edges position v.0 later v.1 in
            let leads = ranks.leads has.from.node v.0.node has.leads in
            let there : leads.to ≡ r.node = ranks.one v.0.node leads.to r.node leads.to_is r.at in
            let to_n : Edge t leads.from r.node = subst (Edge t leads.from) there leads.edge in
            let from = visit_listed (v.0.parent - 1) has.from leads.from has.from_is leads.from_is in
            let earlier = tree.earlier position v.0 later v.1 in
            let parent = r.parent in
            record {
              node = r.node;
              names = r.names;
              previous = leads.from;
              previous_is = previous_at position v.0 r.node later v.1 r.at has leads.from leads.from_is to_n;
              position = v.0.parent - 1;
              from = from.0;
              from_is = from.1;
              parent = omega (arith, earlier.0);
            };
        rise = are.rise;
        used = λ n in_nodes.
            let v = are.used n in_nodes in
            let e = visit_listed v.position v.visit n v.is v.at in
            (v.position, e.0, e.1);
      }

-- the same for any edges between ranks
pub search_is_canonical : (t : Topology) (edge : ℕ → ℕ → Type 0) (At : ℕ → NodeName → Type 0) (root : ℕ) (p : NodeName) (visits : List LevelVisit)
    (levels : Levels) → AreRanks t edge At → At root p → IsLevelTree edge root visits → AreLevelsFor At visits levels → AreCanonicalLevels t p levels
search_is_canonical t edge At root p visits levels ranks at_root tree are = canonical t edge At ranks root p at_root visits tree levels are

places_are_ranks : (t : Topology) (names : List NodeName) → Rises node_cmp names → HaveSuccessors t names → AreRanks t (IsRankEdge t (IsNthName names)) (IsNthName names)
places_are_ranks t names rise closed = record {
  one = λ a x y at at'. same_Some x y (sym at ∙ at');
  rise = λ a b x y below at at'. rises_at node_cmp names rise a b x y below at at';
  leads = λ a b leads. leads;
  led = λ a x y at e.
      let there = closed a x y at e in
      record { rank = there.0; is = there.1; leads = record { from = x; to = y; from_is = at; to_is = there.1; edge = e } };
}

pub level_tree_is_canonical : (t : Topology) (names : List NodeName) (root : ℕ) (p : NodeName) (visits : List LevelVisit) (levels : Levels)
    → Rises node_cmp names → HaveSuccessors t names → IsNthName names root p
    → IsLevelTree (IsRankEdge t (IsNthName names)) root visits → AreLevelsFor (IsNthName names) visits levels → AreCanonicalLevels t p levels
level_tree_is_canonical t names root p visits levels rise closed at_root tree are =
    search_is_canonical t (IsRankEdge t (IsNthName names)) (IsNthName names) root p visits levels (places_are_ranks t names rise closed) at_root tree are
