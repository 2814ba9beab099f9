use Rattle.std.proofs.Common.{◌<◌, ◌++◌, ℕ, List, [], ◌∷◌, length, get_or, sym, ap, subst, ◌∙◌, arith}
use Rattle.std.specs.List.{All}
use Rattle.std.proofs.lemmas.List.{length-map}
use Rattle.std.proofs.lemmas.List.Elements.{All-nil}
use Rattle.std.proofs.lemmas.Option.{slice_get-get_or}
use Rattle.cb_model.proofs.Numbers.{all_at}
use Rattle.cb_model.proofs.Spread.{map_there}
use Rattle.cb_breadth.specs.declared.visit.LevelVisit.{LevelVisit}
use Rattle.cb_breadth.specs.declared.visit.Visit.{Visit}
use Rattle.cb_breadth.specs.Levels.{level_visit}
use Rattle.cb_breadth.specs.Trees.{visit}
use Rattle.cb_chains.specs.Trees.{without_levels}
use Rattle.cb_chains.proofs.Keeping.{AreKeptTo, none_kept, one_kept, nodes_kept, all_kept}
use Rattle.cb_chains.proofs.kept.keep_marked.Goals as goal

pub loop-position-init : goal.loop-position-init
loop-position-init c = (
  subst (λ (ks : List Visit). AreKeptTo (without_levels c.args.visits.now) c.args.marked.now 0 ks c.push.new.self.items) (sym c.in_ok-kept.ensures.items)
      (subst (λ (ps : List ℕ). AreKeptTo (without_levels c.args.visits.now) c.args.marked.now 0 [] ps)
      (sym (c.in_ok-push.ensures.items ∙ ap (λ (l : List ℕ). l ++ 0 ∷ []) c.in_ok-places.ensures.items)) (none_kept (without_levels c.args.visits.now) c.args.marked.now)),
  λ bound all. subst (All (λ (v : Visit). v.node < bound)) (sym c.in_ok-kept.ensures.items) (All-nil (λ (v : Visit). v.node < bound)),
)

pub keep_if_marked-requires-clause-parent : goal.keep_if_marked-requires-clause-parent
keep_if_marked-requires-clause-parent c =
    let visits = c.args.visits.now in
    let i = c.loop-position.position in
    let low : i < length visits = omega arith in
    let v = get_or visits i (level_visit 0 0 0) in
    let at = slice_get-get_or visits i (level_visit 0 0 0) low in
    let early = c.requires.parents i (visit v.node v.parent) (map_there (λ (w : LevelVisit). visit w.node w.parent) visits i v at) in
    let size = c.loop-position.invariant.0.size in
    omega arith

pub keep_if_marked-requires-clause-few : goal.keep_if_marked-requires-clause-few
keep_if_marked-requires-clause-few c = let few = c.loop-position.invariant.0.few in let all = c.requires.few in omega arith

pub loop-position-preserved : goal.loop-position-preserved
loop-position-preserved c =
    let visits = c.args.visits.now in
    let i = c.loop-position.position in
    let low : i < length visits = omega arith in
    let v = get_or visits i (level_visit 0 0 0) in
    let at = slice_get-get_or visits i (level_visit 0 0 0) low in
    let there = map_there (λ (w : LevelVisit). visit w.node w.parent) visits i v at in
    let kept = c.loop-position.kept.items in
    let places = c.loop-position.places.items in
    let keeps = c.in_ok-keep_if_marked.ensures in (
      one_kept (without_levels visits) c.requires.parents c.args.marked.now c.requires.marked i kept places c.loop-position.invariant.0 c.get.result v
          c.keep_if_marked.new.kept.items c.keep_if_marked.new.places.items there c.get.ensures keeps,
      λ bound all.
          nodes_kept bound c.get.result v kept c.keep_if_marked.new.kept.items places c.keep_if_marked.new.places.items keeps
          (all_at (λ (w : LevelVisit). w.node < bound) visits i v at all) (c.loop-position.invariant.1 bound all),
    )

pub returns-clause-kept : goal.returns-clause-kept
returns-clause-kept c =
    let long = length-map c.args.visits.now (λ (v : LevelVisit). visit v.node v.parent) in
    all_kept (without_levels c.args.visits.now) c.args.marked.now c.loop-position.position c.loop-position.kept.items c.loop-position.places.items
    c.loop-position.invariant.0 (omega arith)

pub returns-clause-nodes : goal.returns-clause-nodes
returns-clause-nodes c = λ bound all. c.loop-position.invariant.1 bound all
