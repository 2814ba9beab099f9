use Rattle.std.proofs.Common.{ℕ, List, take, get_or, sym, subst, ◌∙◌}
use Rattle.std.proofs.lemmas.Bool.{false≢true}
use Rattle.std.proofs.lemmas.List.{take_more}
use Rattle.cb_breadth.specs.Lists.{IsAmong}
use Rattle.cb_explain.specs.Surveyed.{IsLeastNumber, IsLeastIfSome, IsWrongAt, IsNoHigher}
use Rattle.cb_explain.proofs.Lacking.{least_kept, least_more}
use Rattle.cb_explain.proofs.survey.least.Goals as goal

pub loop-position-preserved-then-not-is_wrong : goal.loop-position-preserved-then-not-is_wrong
loop-position-preserved-then-not-is_wrong c =
    let ranks = c.args.ranks.now in
    let successors = c.args.successors.now in
    let position = c.loop-position.position in
    let P = IsWrongAt c.args.levels.now c.args.listed.now.nodes.items c.args.level c.args.fault in
    subst (λ (xs : List ℕ). IsLeastIfSome (λ k. IsAmong xs k × P k) (IsNoHigher ranks) c.loop-position.least) (sym (take_more successors position 0 c.loop-position-test.true))
    (least_kept ranks P (take position successors) (get_or successors position 0) c.loop-position.least c.loop-position.invariant
    (λ wrong. false≢true (sym c.if-not-is_wrong.true ∙ c.is_wrong.ensures.1 wrong)))

pub loop-position-preserved : goal.loop-position-preserved
loop-position-preserved c =
    let ranks = c.args.ranks.now in
    let successors = c.args.successors.now in
    let position = c.loop-position.position in
    let P = IsWrongAt c.args.levels.now c.args.listed.now.nodes.items c.args.level c.args.fault in
    subst (λ (xs : List ℕ). IsLeastNumber (λ k. IsAmong xs k × P k) (IsNoHigher ranks) c.lower.result) (sym (take_more successors position 0 c.loop-position-test.true))
    (least_more ranks P (take position successors) (get_or successors position 0) c.loop-position.least c.lower.result c.loop-position.invariant
    (c.is_wrong.ensures.0 c.if-not-is_wrong.false) c.lower.ensures)
