-- Canonical levels are valid.
use Rattle.std.proofs.Common.{◌≡◌, ℕ, ◌+◌, ◌-◌, ◌<◌, [], ◌∷◌, ◌++◌, get_or, subst, arith, Some}
use Rattle.std.specs.Prelude.{slice_get}
use Rattle.std.specs.List.{Contains}
use Rattle.std.proofs.lemmas.List.Elements.{Contains-get_or}
use Rattle.cb_model.specs.declared.node.NodeName.{NodeName}
use Rattle.cb_network.specs.Topology.{Topology}
use Rattle.cb_network.specs.Nodes.{IsNodeOf, IsProblem}
use Rattle.cb_network.specs.Causes.{Edge}
use Rattle.cb_network.proofs.Chains.{causes_further, edge_causes}
use Rattle.cb_validity.proofs.Uniques.{one_number}
use Rattle.cb_validity.proofs.Canonicals.{problem_is_node, chain_ends_at_node}
use Rattle.cb_levels.specs.declared.levels.LevelEntry.{LevelEntry}
use Rattle.cb_levels.specs.declared.levels.Levels.{Levels}
use Rattle.cb_levels.specs.Level.{IsLevel}
use Rattle.cb_levels.specs.Listed.{IsEntryAt}
use Rattle.cb_levels.specs.Valid.{HasParent, IsListedNear, AreLevelsOf}
use Rattle.cb_levels.specs.Canonical.{IsFromPrevious, AreCanonicalLevels}
use Rattle.cb_levels.proofs.One.{level_is_one, own_level}
use Rattle.cb_levels.proofs.Order.{lesser_position, one_entry}
use Rattle.cb_levels.proofs.Lists.{one_edge_more, more_long}

module _ (t : Topology) (p : NodeName) (levels : Levels) (is : AreCanonicalLevels t p levels) where
  level_of : (position : ℕ) (entry : LevelEntry) (n : NodeName) → IsEntryAt levels position entry n → IsLevel t p n entry.level
  level_of = (is.lists).each

  -- the first entry is at level 0
  pub first_level : (is.first).entry.level ≡ 0
  first_level =
      let first = is.first in
      level_is_one t p p first.entry.level 0 (level_of 0 first.entry p first.listed) (own_level t p)

  -- a node stands at one position
  pub listed_once : (i j : ℕ) (x y : LevelEntry) (n : NodeName) → IsEntryAt levels i x n → IsEntryAt levels j y n → i ≡ j
  listed_once i j x y n a b =
      let level = level_is_one t p n x.level y.level (level_of i x n a) (level_of j y n b) in
      let number = one_number levels.nodes is.rise x.node y.node n a.names b.names in
      one_entry levels.entries is.order i j x y a.is b.is level number

  -- the previous node stands earlier, one level below
  pub from_below : (position : ℕ) (entry : LevelEntry) → slice_get levels.entries position ≡ Some entry → (f : IsFromPrevious t p levels entry)
      → (f.position < position) × (entry.level ≡ f.from.level + 1)
  from_below position entry at f =
      let previous = f.previous_is in
      let listed : IsEntryAt levels position entry f.node = record { is = at; names = f.names } in
      let here = level_is_one t p f.node entry.level (previous.level + 1) (level_of position entry f.node listed) previous.here in
      let there = level_is_one t p f.previous f.from.level previous.level (level_of f.position f.from f.previous f.from_is) previous.below in
      let from = f.from_is in
      (lesser_position levels.entries is.order f.position position f.from entry from.is at (omega arith), omega arith)

  parent_of : (position : ℕ) (entry : LevelEntry) → 0 < position → slice_get levels.entries position ≡ Some entry → HasParent t levels position entry
  parent_of position entry later at =
      let f = is.parents position entry later at in
      let below = from_below position entry at f in
      let parent = f.parent in
      let position_is : f.position ≡ entry.parent - 1 = omega arith in
      record {
        from = f.from;
        source = f.previous;
        target = f.node;
        counted = omega arith;
        earlier = omega (arith, below.0);
        from_is = subst (λ k. IsEntryAt levels k f.from f.previous) position_is f.from_is;
        to_is = f.names;
        edge = (f.previous_is).edge;
        level = below.1;
      }

  near_of : (position : ℕ) (entry : LevelEntry) (m n : NodeName) → IsEntryAt levels position entry m → Edge t m n → IsListedNear levels entry.level n
  near_of position entry m n at edge =
      let caused = (is.lists).caused in
      let causes = causes_further t p m n ((caused m).0 (position, entry, at)) (edge_causes t m n edge) in
      let there = (caused n).1 causes in
      let level = level_of position entry m at in
      let far = level_of there.0 there.1 n there.2 in
      let chain = one_edge_more t p level.between m n level.chain edge in
      let least = far.least (level.between ++ n ∷ []) chain in
      let long = more_long level.between n in
      let is_long = level.long in
      record { position = there.0; entry = there.1; listed = there.2; near = omega arith }

  node_is_live : IsProblem t p → (n : NodeName) → Contains levels.nodes n → IsNodeOf t n
  node_is_live problem n in_nodes =
      let causes = ((is.lists).caused n).0 (is.used n in_nodes) in
      chain_ends_at_node t p causes.0 n (problem_is_node t p problem) causes.1

  pub are_levels : IsProblem t p → AreLevelsOf t p levels
  are_levels problem = record {
    nodes_are = record {
      rise = is.rise;
      live = λ k d low. node_is_live problem (get_or levels.nodes k d) (Contains-get_or levels.nodes k d low);
    };
    begins = record {
      entry = (is.first).entry;
      first = (is.first).listed;
      problem = problem;
      level = first_level;
      alone = (is.first).alone;
    };
    parents = parent_of;
    once = listed_once;
    closed = near_of;
  }

pub canonical_is_valid : (t : Topology) (p : NodeName) (levels : Levels) → IsProblem t p → AreCanonicalLevels t p levels → AreLevelsOf t p levels
canonical_is_valid t p levels problem is = are_levels t p levels is problem
