use Rattle.cb_topo.specs.Numbered.{topology_of}
use Rattle.cb_levels.proofs.Spelling.{format_is_small}
use Rattle.cb_file_kinds.proofs.Chain.{err_is}
use Rattle.cb_file_kinds.proofs.Levelled.{level_rejection}
use Rattle.cb_file_kinds.proofs.levels_file.checked.Goals as goal

pub check_levels-requires : goal.check_levels-requires
check_levels-requires g c = format_is_small c.args.levels.now c.requires

pub returns-in_err-check_levels-clause-rejected : goal.returns-in_err-check_levels-clause-rejected
returns-in_err-check_levels-clause-rejected g c =
    rw (err_is _ _ c.from_residual.ensures.1)
    (level_rejection (topology_of c.args.graph.now) c.args.levels.now c.in_err-check_levels.field-0.0 c.in_err-check_levels.ensures.why)
