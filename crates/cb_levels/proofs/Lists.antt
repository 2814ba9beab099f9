-- Valid levels list exactly what their problem causes, each node at its level.
use Rattle.std.proofs.Common.{◌≡◌, ℕ, zero, suc, ◌+◌, ◌-◌, ◌<◌, ◌≤◌, List, [], ◌∷◌, ◌++◌, length, refl, sym, ap, subst, ◌∙◌, arith, length-append}
use Rattle.std.specs.Prelude.{slice_get}
use Rattle.std.proofs.lemmas.Option.{same_Some}
use Rattle.cb_model.specs.declared.node.NodeName.{NodeName}
use Rattle.cb_network.specs.Topology.{Topology}
use Rattle.cb_network.specs.Causes.{Edge, Chain}
use Rattle.cb_validity.specs.Spans.{StandsFor}
use Rattle.cb_validity.proofs.SpanLaws.{stands_for_one}
use Rattle.cb_levels.specs.declared.levels.LevelEntry.{LevelEntry}
use Rattle.cb_levels.specs.declared.levels.Levels.{Levels}
use Rattle.cb_levels.specs.Level.{IsLevel}
use Rattle.cb_levels.specs.Listed.{IsEntryAt}
use Rattle.cb_levels.specs.Valid.{AreLevelsOf}
use Rattle.cb_levels.specs.Canonical.{ListsLevels}

-- a chain with one edge more at its end
pub one_edge_more : (t : Topology) (p : NodeName) (xs : List NodeName) (q s : NodeName) → Chain t p xs q → Edge t q s → Chain t p (xs ++ s ∷ []) s
one_edge_more t p [] q s same edge = (subst (λ n. Edge t n s) (sym same) edge, refl)
one_edge_more t p (x ∷ xs) q s chain edge = (chain.0, one_edge_more t x xs q s chain.1 edge)

pub more_long : (xs : List NodeName) (s : NodeName) → length (xs ++ s ∷ []) ≡ length xs + 1
more_long xs s = length-append xs (s ∷ [])

-- an entry lists one node
pub listed_one : (levels : Levels) (position : ℕ) (x y : LevelEntry) (m n : NodeName) → IsEntryAt levels position x m → IsEntryAt levels position y n → m ≡ n
listed_one levels position x y m n a b =
    let same : x ≡ y = same_Some x y (sym a.is ∙ b.is) in
    let names = b.names in
    stands_for_one levels.nodes x.node m n a.names (subst (λ (e : LevelEntry). StandsFor levels.nodes e.node n) (sym same) names)

module _ (t : Topology) (root : NodeName) (levels : Levels) (are : AreLevelsOf t root levels) where
  -- a chain of as many edges as the level leads to each listed node, by induction on its position
  chain_below : (bound position : ℕ) (entry : LevelEntry) (n : NodeName) → position < bound → IsEntryAt levels position entry n
      → (between : List NodeName) × Chain t root between n × (length between ≡ entry.level)
  chain_below zero position entry n low at = absurd (omega arith)
  chain_below (suc bound) zero entry n low at =
      let first = are.begins in
      let same : first.entry ≡ entry = same_Some first.entry entry (sym (first.first).is ∙ at.is) in
      let level = ap (λ (e : LevelEntry). e.level) same in
      let start = first.level in
      ([], listed_one levels 0 first.entry entry root n first.first at, omega arith)
  chain_below (suc bound) (suc k) entry n low at =
      let has = are.parents (suc k) entry (omega arith) at.is in
      let counted = has.counted in
      let earlier = has.earlier in
      let from = chain_below bound (entry.parent - 1) has.from has.source (omega arith) has.from_is in
      let there : has.target ≡ n = stands_for_one levels.nodes entry.node has.target n has.to_is at.names in
      let edge : Edge t has.source n = subst (Edge t has.source) there has.edge in
      let long = from.2 in
      let longer = more_long from.0 n in
      let level = has.level in
      (from.0 ++ n ∷ [], one_edge_more t root from.0 has.source n from.1 edge, omega arith)

  -- along a chain everything is listed, each node at most one level above the one before
  along : (p : NodeName) (between : List NodeName) (s : NodeName) (position : ℕ) (entry : LevelEntry) → IsEntryAt levels position entry p → Chain t p between s
      → (at : ℕ) × (e : LevelEntry) × IsEntryAt levels at e s × (e.level ≤ entry.level + length between)
  along p [] s position entry here same =
      (position, entry, record { is = here.is; names = subst (λ n. StandsFor levels.nodes entry.node n) same here.names }, omega arith)
  along p (q ∷ rest) s position entry here chain =
      let near = are.closed position entry p q here chain.0 in
      let low = near.near in
      let far = along q rest s near.position near.entry near.listed chain.1 in
      let within = far.3 in
      (far.0, far.1, far.2, omega arith)

  -- no chain has fewer edges than the level
  level_at : (position : ℕ) (entry : LevelEntry) (n : NodeName) → IsEntryAt levels position entry n → IsLevel t root n entry.level
  level_at position entry n at =
      let chain = chain_below (suc position) position entry n (omega arith) at in
      let first = are.begins in
      let start = first.level in
      record {
        between = chain.0;
        chain = chain.1;
        long = chain.2;
        least = λ others other.
            let far = along root others n 0 first.entry first.first other in
            let within = far.3 in
            let there = far.2 in
            let same_position = are.once far.0 position far.1 entry n there at in
            let same : far.1 ≡ entry = same_Some far.1 entry (sym there.is ∙ (ap (slice_get levels.entries) same_position ∙ at.is)) in
            let level = ap (λ (e : LevelEntry). e.level) same in
            omega arith;
      }

  pub lists_levels : ListsLevels t root levels
  lists_levels = record {
    caused = λ n. (
      (λ l. let chain = chain_below (suc l.0) l.0 l.1 n (omega arith) l.2 in (chain.0, chain.1)),
      (λ causes.
          let first = are.begins in
          let far = along root causes.0 n 0 first.entry first.first causes.1 in
          (far.0, far.1, far.2)),
    );
    each = level_at;
  }

pub valid_lists_levels : (t : Topology) (root : NodeName) (levels : Levels) → AreLevelsOf t root levels → ListsLevels t root levels
valid_lists_levels t root levels are = lists_levels t root levels are
