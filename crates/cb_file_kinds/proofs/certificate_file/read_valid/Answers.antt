use Rattle.cb_topo.specs.Numbered.{topology_of}
use Rattle.cb_file_kinds.proofs.Certified.{certificate_long, certificate_bad, certificate_refused}
use Rattle.cb_file_kinds.proofs.Chain.{err_is}
use Rattle.cb_file_kinds.proofs.certificate_file.read_valid.Goals as goal

pub returns-in-Some-clause-stops : goal.returns-in-Some-clause-stops
returns-in-Some-clause-stops g c =
    λ wanted. certificate_long wanted c.args.name c.args.text.now c.requires (topology_of c.args.topology) c.in-Some.line c.in-Some.ensures.long

pub shown_by-requires : goal.shown_by-requires
shown_by-requires g c = c.in_ok-certificate.ensures.certificate.is

pub returns-in_err-certificate-clause-stops : goal.returns-in_err-certificate-clause-stops
returns-in_err-certificate-clause-stops g c =
    rw (err_is _ _ c.from_residual.ensures.1)
    (λ wanted. certificate_bad wanted c.args.name c.args.text.now c.requires (topology_of c.args.topology) c.in_default.ensures.short
    c.in_err-certificate.field-0.0 c.in_err-certificate.ensures.fault)

pub returns-in-Ok-clause-valid : goal.returns-in-Ok-clause-valid
returns-in-Ok-clause-valid g c = record {
  lines = c.in_default.ensures.short;
  spelled = c.in_ok-certificate.ensures.certificate;
  shown = c.in-Ok.ensures.shown;
}

pub returns-in-Err-clause-stops : goal.returns-in-Err-clause-stops
returns-in-Err-clause-stops g c =
    λ wanted. certificate_refused wanted c.args.name c.args.text.now c.requires (topology_of c.args.topology) c.in_default.ensures.short
    c.in_ok-certificate.certificate c.in_ok-certificate.ensures.certificate c.in-Err.fault c.in-Err.ensures.rejected
