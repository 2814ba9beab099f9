use Rattle.cb_topo.specs.Numbered.{topology_of}
use Rattle.cb_validity.proofs.Formats.{format_is_checkable}
use Rattle.cb_file_kinds.proofs.Certified.{rejection}
use Rattle.cb_file_kinds.proofs.Chain.{err_is}
use Rattle.cb_file_kinds.proofs.certificate_file.checked.Goals as goal

pub check-requires : goal.check-requires
check-requires g c = format_is_checkable c.args.certificate.now c.requires

pub returns-in_err-check-clause-rejected : goal.returns-in_err-check-clause-rejected
returns-in_err-check-clause-rejected g c =
    rw (err_is _ _ c.from_residual.ensures.1)
    (rejection (topology_of c.args.graph.now) c.args.certificate.now c.in_err-check.field-0.0 c.in_err-check.ensures.why)
