use Rattle.std.proofs.Common.{refl}
use Rattle.cb_topo.specs.Numbered.{topology_of}
use Rattle.cb_outcome.specs.Roles.{Wanted}
use Rattle.cb_file_kinds.proofs.Certified.{certificate_says}
use Rattle.cb_file_kinds.proofs.Chain.{if_ok_more, if_err_more}
use Rattle.cb_file_kinds.proofs.certificate_file.CertificateFileFileKind.judge.Goals as goal

pub returns-clause-says : goal.returns-clause-says
returns-clause-says g c =
    if_ok_more c.read_valid.result _ _ (λ valid is.
    certificate_says Wanted.any c.args.name c.args.text.now c.requires (topology_of c.args.self.topology) is.lines valid.certificate is.spelled is.shown.valid tt
    _ (refl, is.shown.shows)) c.read_valid.ensures.valid

pub returns-clause-stops : goal.returns-clause-stops
returns-clause-stops g c = if_err_more c.read_valid.result _ _ (λ fault stops. stops Wanted.any) c.read_valid.ensures.stops
