use Rattle.std.proofs.Common.{◌≡◌, ◌++◌, ◌∷◌, take, map, length}
use Rattle.std.specs.List.{flat_map}
use Rattle.cb_cert.specs.declared.line.CertificateLine.TheVariants as line
use Rattle.cb_cert.specs.Lines.{ended}
use Rattle.cb_cert.proofs.writer.push_radii.Given as goal

abbrev pub invariant-loop-radius : goal.invariant-loop-radius
invariant-loop-radius l = l.out.items ≡ l.fn.out.items ++ flat_map ended (line.Radii (length l.radii) ∷ map line.Radius (take l.radius-index l.radii))
