-- The levels that a search by levels gives are canonical.
use Rattle.std.proofs.Common.{◌≡◌, ◌↔◌, ℕ, zero, suc, ◌<◌, List, Bool, length, get_or, refl, sym, ap, subst, ◌∙◌, arith}
use Rattle.std.specs.List.{AllZip}
use Rattle.std.proofs.lemmas.Option.{slice_get_within, same_Some, slice_get-get_or}
use Rattle.cb_successors.specs.Rows.{Has}
use Rattle.cb_model.specs.WellTyped.{WellTyped}
use Rattle.cb_model.specs.declared.node.NodeName.{NodeName}
use Rattle.cb_network.specs.Causes.{Edge}
use Rattle.cb_network.specs.Sound.{Sound}
use Rattle.cb_nodes.specs.declared.id.NodeId.{NodeId}
use Rattle.cb_breadth.specs.declared.visit.LevelVisit.{LevelVisit}
use Rattle.cb_breadth.specs.declared.visit.Order.{Order}
use Rattle.cb_breadth.specs.Levels.{IsLevelTree, level_visit}
use Rattle.cb_breadth.specs.Orders.{Follows}
use Rattle.cb_validity.specs.Spans.{StandsFor}
use Rattle.cb_topo.specs.Numbered.{Numbered, topology_of, IsLiveNode, IsWhole}
use Rattle.cb_graph.specs.Edges.{EdgeAt}
use Rattle.cb_span.specs.declared.numbering.Numbering.{Numbering}
use Rattle.cb_span.specs.Made.{IsProblemId}
use Rattle.cb_span.specs.Numberings.{IsNumbering}
use Rattle.cb_span.specs.Orders.{IsAtRank, IsOrderOf, IsRank}
use Rattle.cb_span.proofs.Ranked.{at_one}
use Rattle.cb_span.proofs.Zips.{zip_each, zip_right, zip_count, place_of}
use Rattle.cb_levels.specs.declared.levels.LevelEntry.{LevelEntry}
use Rattle.cb_levels.specs.declared.levels.Levels.{Levels}
use Rattle.cb_levels.proofs.Canonicals.{canonical_is_valid}
use Rattle.cb_levels.proofs.Fitting.{valid_is_of_format}
use Rattle.cb_levels.proofs.Followable.{valid_can_be_followed}
use Rattle.cb_explain.specs.Made.{IsRankEdge, IsLedFrom, AreRanks, IsEntryFor, AreLevelsFor}
use Rattle.cb_explain.specs.Levelled.{AreLevelsAt, AreRanksBelow, IsRankVisited, IsNumberedEntry}
use Rattle.cb_explain.proofs.Made.{search_is_canonical}

-- visits of a search have ranks
pub ranks_below : (edge : ℕ → ℕ → Type 0) (nodes : List ℕ) (root : ℕ) (visits : List LevelVisit) → IsLevelTree (Follows edge nodes) root visits
    → root < length nodes → AreRanksBelow (length nodes) visits
ranks_below edge nodes root visits tree low zero v at =
    let same : root ≡ v.node = ap (λ (x : LevelVisit). x.node) (same_Some (level_visit root 0 0) v (sym tree.begins ∙ at)) in
    omega arith
ranks_below edge nodes root visits tree low (suc i) v at =
    let leads = (tree.edges (suc i) v (omega arith) at).leads in
    slice_get_within nodes v.node leads.to leads.to_is

module _ (n : Numbered) (order : Order) (ord : IsOrderOf n order) where
  abbrev nodes : List ℕ
  nodes = order.nodes.items

  abbrev At : ℕ → NodeName → Type 0
  At = IsAtRank n order

  -- a rank has a name
  rank_named : (rank : ℕ) → (low : rank < length nodes) → (name : NodeName) × At rank name
  rank_named rank low =
      let at = slice_get-get_or nodes rank 0 low in
      let live = ord.live rank (get_or nodes rank 0) at in
      (live.0, record { node = get_or nodes rank 0; at = at; named = live.1 })

  -- a live node has a rank
  pub live_rank : (id : NodeId) → IsLiveNode n id → (rank : ℕ) × IsRank order id rank
  live_rank id live = let f = ord.all id live in (f.0, record { node_is = f.1; rank_is = (ord.is.ranked f.0 id.0 f.1).1 })

  -- nodes are numbered, and a row has the visited ones
  pub levels_are : (visits : List LevelVisit) (used : List Bool) (made : Numbering) (entries : List LevelEntry) → AreRanksBelow (length nodes) visits
      → ((rank : ℕ) → Has used rank ↔ IsRankVisited visits rank) → IsNumbering n order used made
      → AllZip (IsNumberedEntry made.numbers.items) visits entries
      → AreLevelsFor At visits (record { nodes = made.names; entries = entries })
  levels_are visits used made entries below marked numbering zip = record {
    rise = numbering.rise;
    used = λ node in_nodes.
        let at = place_of made.names node in_nodes in
        let f = numbering.each at.0 node at.1 in
        let visited = (marked f.0).0 f.1 in
        record { position = visited.position; visit = visited.visit; is = visited.is; at = subst (λ k. At k node) (sym visited.of) f.2 };
    entries = zip_each (IsEntryFor At made.names) visits entries (zip_count (IsNumberedEntry made.numbers.items) visits entries zip) (λ i v at.
        let e = zip_right (IsNumberedEntry made.numbers.items) visits entries zip i v at in
        let is = e.2 in
        let name = rank_named v.node (below i v at) in
        let has = (marked v.node).1 (record { position = i; visit = v; is = at; of = refl }) in
        let numbered = numbering.all v.node name.0 has name.1 in
        let same : numbered.number ≡ e.0.node = same_Some numbered.number e.0.node (sym numbered.is ∙ is.node) in
        let entry : IsEntryFor At made.names v e.0 = record {
          node = name.0;
          at = name.1;
          names = subst (λ k. StandsFor made.names k name.0) same numbered.stands;
          level = is.level;
          parent = is.parent;
        } in
        (e.0, e.1, entry));
  }

  module _ (whole : IsWhole n) where
    -- an edge leads to a rank
    led_from : (a : ℕ) (x y : NodeName) → At a x → Edge (topology_of n) x y → IsLedFrom (Follows (EdgeAt n) nodes) At a y
    led_from a x y at edge =
        let there = whole.named y (edge.has.row.effect, edge.effect) in
        let rank = ord.all there.0 (y, there.1) in
        let leads : EdgeAt n at.node there.0.0 = record { from = x; to = y; from_is = at.named; to_is = there.1; edge = edge } in
        record {
          rank = rank.0;
          is = record { node = there.0.0; at = rank.1; named = there.1 };
          leads = record { from = at.node; to = there.0.0; from_is = at.at; to_is = rank.1; leads = leads };
        }

    leads_at : (a b : ℕ) → Follows (EdgeAt n) nodes a b → IsRankEdge (topology_of n) At a b
    leads_at a b next =
        let e = next.leads in
        record {
          from = e.from;
          to = e.to;
          from_is = record { node = next.from; at = next.from_is; named = e.from_is };
          to_is = record { node = next.to; at = next.to_is; named = e.to_is };
          edge = e.edge;
        }

    pub are_ranks : AreRanks (topology_of n) (Follows (EdgeAt n) nodes) At
    are_ranks = record { one = at_one n order; rise = ord.rise; leads = leads_at; led = led_from }

    pub levels_made : (id : NodeId) (rank : ℕ) (visits : List LevelVisit) (levels : Levels) → Sound (topology_of n) → WellTyped (topology_of n).model
        → IsProblemId n id → IsRank order id rank → IsLevelTree (Follows (EdgeAt n) nodes) rank visits → AreLevelsFor At visits levels → AreLevelsAt n id levels
    levels_made id rank visits levels sound typed problem ranked tree are =
        let t = topology_of n in
        let p = problem.name in
        let at_root : At rank p = record { node = id.0; at = ranked.node_is; named = problem.named } in
        let canonical = search_is_canonical t (Follows (EdgeAt n) nodes) At rank p visits levels are_ranks at_root tree are in
        let valid = canonical_is_valid t p levels problem.problem canonical in
        record {
          problem = p;
          named = problem.named;
          canonical = canonical;
          of_format = valid_is_of_format t levels sound typed.names (p, valid);
          followed = valid_can_be_followed t levels (p, valid);
        }
