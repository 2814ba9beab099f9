use Rattle.std.proofs.Common.{◌≤◌, ℕ, List, length, subst, arith}
use Rattle.std.proofs.lemmas.List.Elements.{All-weaker}
use Rattle.std.specs.List.{All}
use Rattle.cb_chains.specs.Trees.{chains_at}
use Rattle.cb_chains.proofs.Ways.{chains_short}
use Rattle.cb_chains.proofs.tree.ChainTree.node_count.Goals as goal

pub returns : goal.returns
returns c =
    let visits = c.self.inside.visits in
    let short = chains_short visits.items c.self.inside.ends.items c.self.invariant.1 in
    let long = visits.ok.0 in
    subst (All (λ (chain : List ℕ). length chain ≤ c.len.result)) c.self.view_is
    (All-weaker (λ (chain : List ℕ). length chain ≤ length visits.items) (λ (chain : List ℕ). length chain ≤ c.len.result) (λ chain fits. omega arith)
    (chains_at visits.items c.self.inside.ends.items) short)
