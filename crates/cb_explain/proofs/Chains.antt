-- The chains in the visits of a search by levels are short chains, and what isn't visited isn't caused.
use Rattle.std.proofs.Common.{◌≡◌, ℕ, zero, suc, ◌+◌, ◌-◌, ◌<◌, ◌≤◌, List, [], ◌∷◌, ◌++◌, true, false, length, get_or, refl, sym, ap, subst, ◌∙◌, inl, inr, arith, Some}
use Rattle.std.specs.Prelude.{slice_get}
use Rattle.std.specs.FinSet as set
use Rattle.std.specs.List.{AllZip}
use Rattle.std.proofs.lemmas.List.{reverse-append}
use Rattle.std.proofs.lemmas.Option.{same_Some, slice_get-get_or}
use Rattle.cb_model.specs.declared.node.NodeName.{NodeName}
use Rattle.cb_model.specs.NodeOrder.{node_cmp}
use Rattle.cb_model.proofs.Numbers.{zip_push}
use Rattle.cb_model.proofs.Spread.{map_at, map_there}
use Rattle.cb_model.proofs.Rising.{node_cmp_total, node_cmp_exact}
use Rattle.cb_network.specs.Topology.{Topology}
use Rattle.cb_network.specs.Causes.{Edge, Causes}
use Rattle.cb_network.specs.Nodes.{IsCount}
use Rattle.cb_network.proofs.Sets.{in_insert, len_of_part}
use Rattle.cb_breadth.specs.declared.visit.LevelVisit.{LevelVisit}
use Rattle.cb_breadth.specs.declared.visit.Visit.{Visit}
use Rattle.cb_breadth.specs.Trees.{visit}
use Rattle.cb_breadth.specs.Levels.{IsLevelTree, IsLevelTreePart, CountsVisits, level_visit}
use Rattle.cb_levels.specs.Level.{IsPrevious, IsShortChain}
use Rattle.cb_chains.specs.Trees.{without_levels, ComeAfterParents, chain_at}
use Rattle.cb_chains.proofs.Ways.{chain_next}
use Rattle.cb_explain.specs.Made.{AreRanks}
use Rattle.cb_explain.specs.Levelled.{IsRankVisited}
use Rattle.cb_explain.proofs.Made.{one_rank, chain_below, from_root, previous_at}

-- the visit at a position is that of the node
record IsVisitAt (At : ℕ → NodeName → Type 0) (visits : List LevelVisit) (position : ℕ) (node : NodeName) : Type 0 where
  visit : LevelVisit
  is : slice_get visits position ≡ Some visit
  at : At visit.node node

grown : (s : set.FinSet node_cmp) (x : NodeName) (k : ℕ) → (set.contains s x ≡ true → ⊥) → set.len s ≡ k → set.len (set.insert s x) ≡ suc k
grown s x k fresh len =
    let added = set.len-insert node_cmp_total s x in
    elim (set.contains s x) as (λ b. set.contains s x ≡ b → set.len (set.insert s x) ≡ suc k) [
      | true ↦ λ e. absurd (fresh e)
      | false ↦ λ e. let now = rw e at added in omega arith
    ] refl

module _ (t : Topology) (edge : ℕ → ℕ → Type 0) (At : ℕ → NodeName → Type 0) (ranks : AreRanks t edge At) (root : ℕ) (p : NodeName) (at_root : At root p)
    (visits : List LevelVisit) (tree : IsLevelTree edge root visits) where
  -- the same visits without their levels
  abbrev plain : List Visit
  plain = without_levels visits

  pub after_parents : ComeAfterParents plain
  after_parents zero w at =
      let m = map_at (λ (v : LevelVisit). visit v.node v.parent) visits 0 w at in
      let same : level_visit root 0 0 ≡ m.0 = same_Some (level_visit root 0 0) m.0 (sym tree.begins ∙ m.1) in
      let none : 0 ≡ m.0.parent = ap (λ (x : LevelVisit). x.parent) same in
      let one : m.0.parent ≡ w.parent = ap (λ (x : Visit). x.parent) m.2 in
      omega arith
  after_parents (suc i) w at =
      let m = map_at (λ (v : LevelVisit). visit v.node v.parent) visits (suc i) w at in
      let one : m.0.parent ≡ w.parent = ap (λ (x : Visit). x.parent) m.2 in
      let early = (tree.earlier (suc i) m.0 (omega arith) m.1).1 in
      omega arith

  next_chain : (i : ℕ) (v : LevelVisit) → slice_get visits i ≡ Some v → chain_at plain (i + 1) ≡ chain_at plain v.parent ++ v.node ∷ []
  next_chain i v at = chain_next plain after_parents i (visit v.node v.parent) (map_there (λ (w : LevelVisit). visit w.node w.parent) visits i v at)

  -- the names of a chain
  abbrev HasShortChain : ℕ → NodeName → Type 0
  HasShortChain end s = (nodes : List NodeName) × AllZip At (chain_at plain end) nodes × IsShortChain t p s nodes

  -- the chain that ends at a visit is the short chain of its node
  pub short_at : (bound i : ℕ) (v : LevelVisit) (s : NodeName) → i < bound → slice_get visits i ≡ Some v → At v.node s → HasShortChain (i + 1) s
  short_at zero i v s low is at = absurd (omega arith)
  short_at (suc bound) zero v s low is at =
      let same : level_visit root 0 0 ≡ v = same_Some (level_visit root 0 0) v (sym tree.begins ∙ is) in
      let none : 0 ≡ v.parent = ap (λ (x : LevelVisit). x.parent) same in
      let first : root ≡ v.node = ap (λ (x : LevelVisit). x.node) same in
      let chain : chain_at plain (0 + 1) ≡ v.node ∷ [] = next_chain 0 v is ∙ ap (λ k. chain_at plain k ++ v.node ∷ []) (sym none) in (
        s ∷ [],
        subst (λ (l : List ℕ). AllZip At l (s ∷ [])) (sym chain) (at, tt),
        record { back = []; lead = ranks.one v.node s p at (subst (λ k. At k p) first at_root); is = refl },
      )
  short_at (suc bound) (suc j) v s low is at =
      let below = tree.edges (suc j) v (omega arith) is in
      let way = ranks.leads below.from.node v.node below.leads in
      let target : way.to ≡ s = ranks.one v.node way.to s way.to_is at in
      let to_s : Edge t way.from s = subst (Edge t way.from) target way.edge in
      let previous : IsPrevious t p s way.from = previous_at t edge At ranks root p at_root visits tree (suc j) v s (omega arith) is at below way.from way.from_is to_s in
      let early = tree.earlier (suc j) v (omega arith) is in
      let (nodes, zip, short) = short_at bound (v.parent - 1) below.from way.from (omega (arith, early.0, early.1)) below.from_is way.from_is in
      let one : v.parent - 1 + 1 ≡ v.parent = omega (arith, early.0) in
      let chain : chain_at plain (v.parent - 1 + 1) ++ v.node ∷ [] ≡ chain_at plain (suc j + 1) = ap (λ k. chain_at plain k ++ v.node ∷ []) one ∙ sym (next_chain (suc j) v is) in (
        nodes ++ s ∷ [],
        subst (λ (l : List ℕ). AllZip At l (nodes ++ s ∷ [])) chain (zip_push At (chain_at plain (v.parent - 1 + 1)) nodes v.node s zip at),
        record {
          back = way.from ∷ short.back;
          lead = (previous, short.lead);
          is = ap (λ (l : List NodeName). l ++ s ∷ []) short.is ∙ sym (reverse-append (s ∷ []) (way.from ∷ short.back));
        },
      )

  -- a node that isn't visited isn't caused
  pub uncaused : (rank : ℕ) (s : NodeName) → At rank s → ¬ IsRankVisited visits rank → ¬ Causes t p s
  uncaused rank s at none causes =
      let far = from_root t edge At ranks root p at_root visits tree s causes.0 causes.1 in
      none (record { position = far.0; visit = far.1; is = far.2; of = one_rank t edge At ranks far.1.node rank s far.3 at })

module _ (t : Topology) (edge : ℕ → ℕ → Type 0) (At : ℕ → NodeName → Type 0) (ranks : AreRanks t edge At) (root : ℕ) (p : NodeName) (at_root : At root p)
    (visits : List LevelVisit) (part : IsLevelTreePart edge root visits) where
  -- visited at one of the first positions
  abbrev VisitedBelow : ℕ → NodeName → Type 0
  VisitedBelow k x = (position : ℕ) × (position < k) × IsVisitAt At visits position x

  visit_at : (k : ℕ) → k < length visits → (x : NodeName) × IsVisitAt At visits k x
  visit_at zero low = (p, record { visit = level_visit root 0 0; is = part.begins; at = at_root })
  visit_at (suc k) low =
      let v = get_or visits (suc k) (level_visit 0 0 0) in
      let at = slice_get-get_or visits (suc k) (level_visit 0 0 0) low in
      let below = part.edges (suc k) v (omega arith) at in
      let way = ranks.leads below.from.node v.node below.leads in
      (way.to, record { visit = v; is = at; at = way.to_is })

  set_below : (k : ℕ) → k ≤ length visits → (s : set.FinSet node_cmp) × ((x : NodeName) → set.contains s x ≡ true → VisitedBelow k x) × (set.len s ≡ k)
  set_below zero low = (set.empty, λ x has. let e = set.contains-empty node_cmp x in absurd (cc), set.len-empty node_cmp)
  set_below (suc k) low =
      let (s, are, len) = set_below k (omega arith) in
      let (x, here) = visit_at k (omega arith) in
      let fresh : set.contains s x ≡ true → ⊥ = λ has.
      let l = are x has in
      let v = l.2 in
      let same = part.once l.0 k v.visit here.visit v.is here.is (one_rank t edge At ranks v.visit.node here.visit.node x v.at here.at) in
      let lt = l.1 in
      omega arith
      in (
        set.insert s x,
        λ y has. elim ((in_insert node_cmp_total node_cmp_exact s x y).0 has) [
          | inl same ↦ (k, omega arith, subst (IsVisitAt At visits k) (sym same) here)
          | inr old ↦ let l = are y old in (l.0, let lt = l.1 in omega arith, l.2)
        ],
        grown s x k fresh len,
      )

  -- at least as many nodes are caused as are visited
  pub visits_few : (count : ℕ) → IsCount (Causes t p) count → length visits ≤ count
  visits_few count all =
      let (s, are, len) = set_below (length visits) (omega arith) in
      let within : (x : NodeName) → set.contains s x ≡ true → set.contains all.nodes x ≡ true = λ x has.
      let l = are x has in
      let v = l.2 in
      let chain = chain_below t edge At ranks root p at_root visits part (suc l.0) l.0 v.visit x (omega arith) v.is v.at in
      (all.members x).1 (chain.0, chain.1)
      in
      let less = len_of_part node_cmp_total node_cmp_exact s all.nodes within in
      let size = all.len in
      omega arith

-- a search counts no more steps than its root causes nodes
pub counts_few : (t : Topology) (edge : ℕ → ℕ → Type 0) (At : ℕ → NodeName → Type 0) → AreRanks t edge At → (root : ℕ) (p : NodeName) → At root p
    → (old new count : ℕ) → CountsVisits edge root old new → IsCount (Causes t p) count → new ≤ old + count
counts_few t edge At ranks root p at_root old new count (visits, part, low) all =
    let few = visits_few t edge At ranks root p at_root visits part count all in
    omega arith
