use Rattle.std.proofs.Common.{length, arith, ap, ◌++◌, ◌∙◌}
use Rattle.cb_cert.specs.declared.line.CertificateLine.TheVariants as line
use Rattle.cb_cert.specs.Lines.{ended}
use Rattle.cb_cert.proofs.Pieces.{item_step}
use Rattle.cb_cert.proofs.writer.push_radii.Goals as goal

pub loop-radius-preserved : goal.loop-radius-preserved
loop-radius-preserved c =
    item_step line.Radius c.args.radii.now c.args.out.now.items c.loop-radius.out.items _ (line.Radii (length c.args.radii.now)) c.loop-radius.radius-index 0
    (omega arith) c.loop-radius.invariant (c.in_ok-push_counted-2.ensures ∙ ap (λ n. c.loop-radius.out.items ++ ended (line.Radius n)) c.from.ensures)
