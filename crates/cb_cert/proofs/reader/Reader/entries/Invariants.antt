use Rattle.std.proofs.Common.{◌∷◌, ◌++◌, [], map, replicate}
use Rattle.cb_cert.specs.declared.line.CertificateLine.TheVariants as line
use Rattle.cb_cert.specs.Ahead.{at_entry}
use Rattle.cb_cert.specs.Steps.{HasRead}
use Rattle.cb_cert.proofs.Loops.{Looped}
use Rattle.cb_cert.proofs.reader.Reader.entries.Given as goal

abbrev pub invariant-loop : goal.invariant-loop
invariant-loop l =
    Looped (λ text before ahead. HasRead text l.fn.self (before ++ line.Span l.count ∷ []) l.fn.nodes (replicate l.count at_entry ++ ahead)) (λ xs. line.Span l.count ∷ map line.Entry xs) at_entry l.fn.nodes l.count l.counter l.self l.entries
