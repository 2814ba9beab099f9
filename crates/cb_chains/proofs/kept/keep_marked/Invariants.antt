use Rattle.std.proofs.Common.{◌<◌, ℕ}
use Rattle.std.specs.List.{All}
use Rattle.cb_breadth.specs.declared.visit.LevelVisit.{LevelVisit}
use Rattle.cb_breadth.specs.declared.visit.Visit.{Visit}
use Rattle.cb_chains.specs.Trees.{without_levels}
use Rattle.cb_chains.proofs.Keeping.{AreKeptTo}
use Rattle.cb_chains.proofs.kept.keep_marked.Given as goal

abbrev pub invariant-loop-position : goal.invariant-loop-position
invariant-loop-position l =
    AreKeptTo (without_levels l.visits) l.marked l.position l.kept.items l.places.items
    × ((bound : ℕ) → All (λ (v : LevelVisit). v.node < bound) l.visits → All (λ (v : Visit). v.node < bound) l.kept.items)
