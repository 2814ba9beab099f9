use Rattle.std.proofs.Common.{◌<◌, ◌≤◌, List, length, sym, ap, subst, ◌∙◌, arith, refl, get_or}
use Rattle.std.specs.List.{All}
use Rattle.std.proofs.lemmas.Option.{slice_get-get_or}
use Rattle.cb_breadth.specs.declared.visit.LevelVisit.{LevelVisit}
use Rattle.cb_chains.specs.Trees.{without_levels, ComeAfterParents, chains_at}
use Rattle.cb_explain.specs.declared.explainer.Explainer.{Explainer}
use Rattle.cb_explain.specs.Chained.{HavePositions, AreEndsOf}
use Rattle.cb_explain.proofs.Ending.{all_ends_low}
use Rattle.cb_explain.proofs.Explaining.{both_ok, ok_anyway, columns_ranked, has_chains, visits_after, visits_below, visits_few}
use Rattle.cb_explain.proofs.explainer.Explainer.chains_to.Goals as goal

pub ends_of-requires-clause-ranked : goal.ends_of-requires-clause-ranked
ends_of-requires-clause-ranked g c =
    let problem = c.requires.problem in
    let has = c.in_ok-visits.ensures.searched problem.name problem.named in
    let (names, named) = c.requires.columns in
    columns_ranked c.args.graph.now c.search.new.self.order has.explainer.order c.args.columns.now names named

pub ends_of-requires-clause-few : goal.ends_of-requires-clause-few
ends_of-requires-clause-few g c =
    let problem = c.requires.problem in
    let has = c.in_ok-visits.ensures.searched problem.name problem.named in
    let few = visits_few c.args.graph.now c.search.new.self problem.name c.in_ok-visits.visits.items has in
    let all = has.explainer.order.few in
    let here = ap length c.deref.ensures.value in
    omega arith

pub ends_of-requires-clause-size : goal.ends_of-requires-clause-size
ends_of-requires-clause-size g c =
    let problem = c.requires.problem in
    let has = c.in_ok-visits.ensures.searched problem.name problem.named in
    let size = has.explainer.size in
    let here = ap length c.deref-2.ensures.value in
    omega arith

pub ends_of-requires-clause-positions : goal.ends_of-requires-clause-positions
ends_of-requires-clause-positions g c =
    let problem = c.requires.problem in
    let has = c.in_ok-visits.ensures.searched problem.name problem.named in
    subst (λ (vs : List LevelVisit). HavePositions vs c.deref-2.result.now) (sym c.deref.ensures.value)
    (subst (HavePositions c.in_ok-visits.visits.items) (sym c.deref-2.ensures.value) has.positions)

pub of-requires-clause-parents : goal.of-requires-clause-parents
of-requires-clause-parents g c =
    let problem = c.requires.problem in
    let has = c.in_ok-visits.ensures.searched problem.name problem.named in
    subst (λ (vs : List LevelVisit). ComeAfterParents (without_levels vs)) (sym c.deref-3.ensures.value)
    (visits_after c.args.graph.now c.search.new.self problem.name c.in_ok-visits.visits.items has)

pub of-requires-clause-few : goal.of-requires-clause-few
of-requires-clause-few g c =
    let problem = c.requires.problem in
    let has = c.in_ok-visits.ensures.searched problem.name problem.named in
    let few = visits_few c.args.graph.now c.search.new.self problem.name c.in_ok-visits.visits.items has in
    let all = has.explainer.order.few in
    let here = ap length c.deref-3.ensures.value in
    omega arith

pub of-requires-clause-ends : goal.of-requires-clause-ends
of-requires-clause-ends g c =
    let visits = c.in_ok-visits.visits.items in
    let are = subst (λ (vs : List LevelVisit). AreEndsOf c.search.new.self.order vs c.args.columns.now c.in_ok-ends.ends.items) c.deref.ensures.value c.in_ok-ends.ensures in
    subst (λ (vs : List LevelVisit). All (λ end. end ≤ length vs) c.deref-4.result.now) (sym c.deref-3.ensures.value)
    (subst (All (λ end. end ≤ length visits)) (sym c.deref-4.ensures.value) (all_ends_low c.search.new.self.order visits c.args.columns.now c.in_ok-ends.ends.items are))

pub of-requires-clause-used : goal.of-requires-clause-used
of-requires-clause-used g c =
    let problem = c.requires.problem in
    let has = c.in_ok-visits.ensures.searched problem.name problem.named in
    let visits = c.in_ok-visits.visits.items in
    let below = visits_below c.args.graph.now c.search.new.self problem.name visits has in
    let marks = has.explainer.marks in
    let all : All (λ (v : LevelVisit). v.node < length c.search.new.self.used) visits = λ k d low.
    let here = below k (get_or visits k d) (slice_get-get_or visits k d low) in
    omega arith
    in
    subst (All (λ (v : LevelVisit). v.node < length c.search.new.self.used)) (sym c.deref-3.ensures.value) all

pub returns-clause-chains : goal.returns-clause-chains
returns-clause-chains g c =
    let n = c.args.graph.now in
    let before = c.search.new.self in
    let visits = c.in_ok-visits.visits.items in
    let ends = c.in_ok-ends.ends.items in
    let are = subst (λ (vs : List LevelVisit). AreEndsOf before.order vs c.args.columns.now ends) c.deref.ensures.value c.in_ok-ends.ensures in
    let after : Explainer = record { order = before.order; searches = before.searches; positions = before.positions; used = c.of.new.used } in
    both_ok c.of.result _ _ _ (λ tree is marked. λ p names is_p named.
    has_chains n before p visits (c.in_ok-visits.ensures.searched p is_p) after refl c.args.columns.now names ends tree named are
    (is ∙ (ap (λ (vs : List LevelVisit). chains_at (without_levels vs) c.deref-4.result.now) c.deref-3.ensures.value
    ∙ ap (chains_at (without_levels visits)) c.deref-4.ensures.value)) marked) c.of.ensures.chains c.of.ensures.used

pub returns-clause-explainer : goal.returns-clause-explainer
returns-clause-explainer g c =
    let problem = c.requires.problem in
    let is = (c.in_ok-visits.ensures.searched problem.name problem.named).explainer in
    ok_anyway c.of.result _ (record {
      order = is.order;
      whole = is.whole;
      searches = is.searches;
      size = is.size;
      marks = c.of.ensures.capacity ∙ is.marks;
    })
