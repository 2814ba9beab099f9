use Rattle.std.proofs.Common.{◌≤◌, ℕ, List, length, map, sym, ap, subst, ◌∙◌}
use Rattle.std.specs.List.{All}
use Rattle.cb_successors.specs.Rows.{Has}
use Rattle.cb_breadth.specs.declared.visit.Visit.{Visit}
use Rattle.cb_chains.specs.Trees.{without_levels, chains_at}
use Rattle.cb_chains.specs.Kept.{place_at}
use Rattle.cb_chains.proofs.Ways.{chains_all}
use Rattle.cb_chains.proofs.Keeping.{chains_kept, ends_kept, ends_fit}
use Rattle.cb_chains.proofs.tree.ChainTree.of.Goals as goal

pub invariant_of-result : goal.invariant_of-result
invariant_of-result c =
    let made = c.in_ok-made.made in
    let is = c.in_ok-made.ensures.kept in
    let low = ends_fit c.args.visits.now c.args.ends.now c.requires.ends in
    let ends = c.in_ok-ends.ensures ∙ ap (λ (ps : List ℕ). map (place_at ps) c.args.ends.now) c.deref.ensures.value in (
      is.parents,
      subst (All (λ end. end ≤ length made.visits.items)) (sym ends)
          (ends_kept (without_levels c.args.visits.now) c.in_ok-marked.marked made.visits.items made.places.items is c.args.ends.now low c.in_ok-marked.ensures.ends),
    )

pub returns-clause-chains : goal.returns-clause-chains
returns-clause-chains c =
    let made = c.in_ok-made.made in
    let is = c.in_ok-made.ensures.kept in
    let low = ends_fit c.args.visits.now c.args.ends.now c.requires.ends in
    let ends = c.in_ok-ends.ensures ∙ ap (λ (ps : List ℕ). map (place_at ps) c.args.ends.now) c.deref.ensures.value in
    ap (chains_at made.visits.items) ends
    ∙ chains_kept (without_levels c.args.visits.now) c.in_ok-marked.marked made.visits.items made.places.items is c.args.ends.now low c.in_ok-marked.ensures.ends

pub returns-clause-used : goal.returns-clause-used
returns-clause-used c =
    let made = c.in_ok-made.made in
    let is = c.in_ok-made.ensures.kept in
    let low = ends_fit c.args.visits.now c.args.ends.now c.requires.ends in
    let ends = c.in_ok-ends.ensures ∙ ap (λ (ps : List ℕ). map (place_at ps) c.args.ends.now) c.deref.ensures.value in
    let all = subst (λ (vs : List Visit). All (λ (v : Visit). Has c.use_nodes.new.used v.node) vs) c.deref-2.ensures.value c.use_nodes.ensures.all in
    chains_all made.visits.items is.parents (Has c.use_nodes.new.used) all c.in_ok-ends.ends.items
    (subst (All (λ end. end ≤ length made.visits.items)) (sym ends)
    (ends_kept (without_levels c.args.visits.now) c.in_ok-marked.marked made.visits.items made.places.items is c.args.ends.now low c.in_ok-marked.ensures.ends))
