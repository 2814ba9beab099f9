use Rattle.cb_file_kinds.proofs.Chain.{err_is}
use Rattle.cb_file_kinds.proofs.Judging.{model_says, type_stops}
use Rattle.cb_file_kinds.proofs.model_file.ModelFileFileKind.judge.Goals as goal

pub returns-in_err-check-clause-stops : goal.returns-in_err-check-clause-stops
returns-in_err-check-clause-stops c =
    rw (err_is _ _ c.from_residual-in_err-check.ensures.1)
    (type_stops c.args._name c.args.text.now c.requires c.in_ok-tree.tree c.in_err-check.field-0.0 c.in_ok-tree.ensures.answer c.in_err-check.ensures.fault)

pub returns-clause-says : goal.returns-clause-says
returns-clause-says c =
    model_says c.args._name c.args.text.now c.requires c.in_ok-tree.tree c.in_ok-check.field-0 c.in_ok-tree.ensures.answer c.in_ok-check.ensures.keeps
    c.in_ok-check.ensures.stands
