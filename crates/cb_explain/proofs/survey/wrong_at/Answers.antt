use Rattle.std.proofs.Common.{◌≡◌, ℕ, sym, subst, ◌∙◌}
use Rattle.std.proofs.lemmas.Option.{same_Some}
use Rattle.cb_breadth.specs.Lists.{IsAmong}
use Rattle.cb_levels.specs.declared.levels.LevelEntry.{LevelEntry}
use Rattle.cb_explain.specs.declared.survey.SuccessorFault.{SuccessorFault}
use Rattle.cb_explain.specs.Surveyed.{IsWrongAt}
use Rattle.cb_explain.proofs.Lacking.{no_wrong}
use Rattle.cb_explain.proofs.survey.wrong_at.Goals as goal

pub returns : goal.returns
returns c = λ entry at.
    let levels = c.args.levels.now in
    let nodes = c.args.listed.now.nodes.items in
    let successors = c.args.successors.now in
    let here = c.at.result.now in
    let same : here ≡ entry = same_Some here entry (sym c.at.ensures ∙ at) in
    subst (λ (e : LevelEntry). (w : SuccessorFault) (k : ℕ) → ¬ (IsAmong successors k × IsWrongAt levels nodes e.level w k)) same
    (no_wrong (IsAmong successors) (IsWrongAt levels nodes here.level) c.in_default.ensures c.in_default-least.ensures)
