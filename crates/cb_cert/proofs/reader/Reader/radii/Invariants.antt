use Rattle.std.proofs.Common.{◌∷◌, ℕ, map}
use Rattle.cb_cert.specs.declared.line.CertificateLine.TheVariants as line
use Rattle.cb_cert.specs.Ahead.{at_radii, at_radius}
use Rattle.cb_cert.specs.Steps.{HasRead}
use Rattle.cb_cert.proofs.Loops.{Looped}
use Rattle.cb_cert.proofs.reader.Reader.radii.Given as goal

abbrev pub invariant-loop : goal.invariant-loop
invariant-loop l =
    (nodes : ℕ) → Looped (λ text before ahead. HasRead text l.fn.self before nodes (at_radii ∷ ahead)) (λ xs. line.Radii l.count ∷ map line.Radius xs) at_radius nodes l.count l.counter l.self l.radii
