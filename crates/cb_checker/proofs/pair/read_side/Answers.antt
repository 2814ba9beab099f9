use Rattle.std.proofs.Common.{◌≡◌, subst}
use Rattle.cb_cert.specs.declared.certificate.Side.{Side}
use Rattle.cb_cert.specs.declared.certificate.Side.TheVariants.{Root}
use Rattle.cb_checker.specs.Known.{verdict_of}
use Rattle.cb_checker.specs.Pairs.{JudgesSide}
use Rattle.cb_checker.proofs.Siding.{of_span}
use Rattle.cb_checker.proofs.pair.read_side.Goals as goal

pub returns-in-Root-clause-judges : goal.returns-in-Root-clause-judges
returns-in-Root-clause-judges g c =
    let is = c.in-Root.is in
    let same : Root c.in-Root.span ≡ c.args.side.now = cc in
    subst (λ (s : Side). JudgesSide c.args.graph.now c.args.ids.now s (verdict_of c.read_span.result)) same
    (of_span c.args.graph.now c.args.ids.now c.in-Root.span (verdict_of c.read_span.result) c.read_span.ensures.judges)
